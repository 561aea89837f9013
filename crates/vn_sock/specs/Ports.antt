-- The sockets of one stack by their ports.
use Rattle.std.specs.Prelude.{◌≡◌, ◌≤◌, ℕ, ◌+◌, Bool, true, ◌==◌, ◌&&◌, ◌||◌, nat_lt, List, [], ◌∷◌, Option, None, Some}
use Rattle.std.specs.List.{list_any, list_all}
use Rattle.vn_sock.specs.declared.port_index.Bound.{Bound}
use Rattle.vn_sock.specs.Names.{moved}

-- the number under which a port stands: 0 where there is none
abbrev pub port_number : Option ℕ → ℕ
port_number None = 0
port_number (Some port) = port + 1

-- whether one comes before another: by port, and then by place
abbrev pub precedes : Bound → Bound → Bool
precedes a b = nat_lt a.port b.port || ((a.port == b.port) && nat_lt a.place b.place)

-- whether each comes before all that follow it
abbrev pub are_ordered : List Bound → Bool
are_ordered [] = true
are_ordered (b ∷ bs) = list_all (precedes b) bs && are_ordered bs

-- whether it stands under that number
abbrev pub is_under : ℕ → Bound → Bool
is_under q b = b.port == q

-- whether it is the socket at that place, under that number
abbrev pub is_bound : ℕ → ℕ → Bound → Bool
is_bound q k b = (b.port == q) && (b.place == k)

-- whether the socket at that place stands under that number
abbrev pub has : ℕ → ℕ → List Bound → Bool
has q k bs = list_any (is_bound q k) bs

-- it has its place once the socket at that one is gone
abbrev pub moved_up : ℕ → Bound → Bound
moved_up gone b = record b { place = moved gone b.place }

-- how the sockets of a stack are kept by their ports
pub record IsKept (bs : List Bound) (len capacity : ℕ) : Type 0 where
  -- by port, and then by place
  pub ordered : are_ordered bs ≡ true
  -- and no more than there is room for
  pub room : len ≤ capacity

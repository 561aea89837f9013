-- How the sockets of one stack are kept.
use Rattle.std.specs.Prelude.{◌≡◌, ℕ, suc, Bool, true, false, ◌==◌, ◌&&◌, not, List, [], ◌∷◌, Option, None, Some, map, slice_get, if◌then◌else◌}
use Rattle.std.specs.Option.{option_map, option_map_or}
use Rattle.std.specs.Str.{bytes_eq}
use Rattle.vn_types.specs.declared.address.Ip4.{Ip4}
use Rattle.vn_rules.specs.declared.socket.SocketOf.{SocketOf}
use Rattle.vn_rules.specs.Orders.{are_distinct}
use Rattle.vn_rules.specs.Sockets.{has_sent}
use Rattle.vn_sock.specs.declared.port_index.Bound.{Bound}
use Rattle.vn_sock.specs.Names.{told}
use Rattle.vn_sock.specs.Ports.{has, port_number}

module _ {N : Type 0} where
  -- no two sockets have one name
  abbrev pub are_named_apart : List (SocketOf N) → Bool
  are_named_apart sockets =
      are_distinct (λ (s : SocketOf N) (t : SocketOf N). bytes_eq s.name t.name) sockets

  -- a socket, after the port that a datagram between these went to was found unreachable
  abbrev pub refused : Ip4 → ℕ → Ip4 → ℕ → SocketOf N → SocketOf N
  refused src sport dst dport s =
      if has_sent src sport dst dport s then record s { refused = true } else s

  -- whether it is the one that sent a datagram between these, and has no error pending
  abbrev pub is_to_refuse : Ip4 → ℕ → Ip4 → ℕ → SocketOf N → Bool
  is_to_refuse src sport dst dport s = has_sent src sport dst dport s && not s.refused

  -- the names of sockets
  abbrev pub names_of : List (SocketOf N) → List (List ℕ)
  names_of sockets = map (λ (s : SocketOf N). s.name) sockets

  -- the numbers under which sockets stand by their ports
  abbrev pub numbers_of : List (SocketOf N) → List ℕ
  numbers_of sockets = map (λ (s : SocketOf N). port_number s.port) sockets

-- the first place at which a test passes
abbrev pub first_place : {X : Type 0} → (X → Bool) → List X → Option ℕ
first_place test [] = None
first_place test (x ∷ xs) = if test x then Some 0 else option_map (λ k. suc k) (first_place test xs)

-- whether that number stands at a place
abbrev pub stands_at : ℕ → ℕ → List ℕ → Bool
stands_at q k numbers = option_map_or (λ n. n == q) (slice_get numbers k) false

-- what is told by name and by port is where the sockets stand
pub record IsIndexed (names : List (List ℕ × ℕ)) (ports : List Bound) (texts : List (List ℕ)) (numbers : List ℕ) : Type 0 where
  -- no name stands twice
  pub apart : are_distinct bytes_eq texts ≡ true
  -- each name tells its place, and no other name tells one
  pub named : (name : List ℕ) → told name names ≡ first_place (bytes_eq name) texts
  -- each place stands under its port's number, and under no other
  pub bound : (q k : ℕ) → has q k ports ≡ stands_at q k numbers

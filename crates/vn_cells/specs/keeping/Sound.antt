-- Who lives, under which names halves stand, and all that every world of a run keeps.
use Rattle.std.specs.Prelude.{◌≡◌, ℕ, Bool, true, false, ◌&&◌, ◌==◌, [], filter, length, Option, Some, None, if◌then◌else◌}
use Rattle.std.specs.List.Sorted.{IsStrictlySortedBy}
use Rattle.std.specs.Map.{keys_of}
use Rattle.std.specs.Option.{is_some, is_none}
use Rattle.vn_types.specs.declared.half.Half.{Half}
use Rattle.vn_cells.specs.declared.world.Children.{Children}
use Rattle.vn_cells.specs.declared.world.Live.{Live}
use Rattle.vn_cells.specs.declared.world.World.{World}
use Rattle.vn_cells.specs.world.Names.{Path, path_cmp, is_host, is_below, parent, key_of}
use Rattle.vn_cells.specs.world.World.{stack_at, pair_at, is_alive}
use Rattle.vn_cells.specs.keeping.Standing.{stands_at, IsStanding}

-- how many living paths are below a path
unfoldable pub living_below : World → Path → ℕ
living_below w p = length (filter (λ q. is_alive w q && is_below q p) (keys_of w.stacks))

-- whether it is the number that is kept
abbrev pub is_number : ℕ → Option Children → Bool
is_number n None = false
is_number n (Some children) = children.living == n

-- host keeps no number of living descendants, and every other living path keeps that number
abbrev pub counts_right : ℕ → Path → Option Live → Bool
counts_right n p None = true
counts_right n p (Some live) =
    if is_host p then is_none live.children else is_number n live.children

-- who lives
pub record IsTree (w : World) : Type 0 where
  -- host lives
  pub host : is_alive w [] ≡ true
  -- and so does the parent of each living path
  pub parents : (p : Path) → is_alive w p ≡ true → is_alive w (parent p) ≡ true
  -- the number of living descendants is their number
  pub counted : (p : Path) → counts_right (living_below w p) p (stack_at w p).live ≡ true
  -- the stacks are in order, and no path stands twice
  pub stacks_ordered : IsStrictlySortedBy path_cmp (keys_of w.stacks)

-- under which names halves stand
pub record IsNamed (w : World) : Type 0 where
  -- a name stands at most once in a stack
  pub once : (p : Path) (g h : Half) → stands_at p g.side (pair_at w (key_of g)) ≡ true
      → stands_at p h.side (pair_at w (key_of h)) ≡ true
      → g.unit ≡ h.unit → g.side ≡ h.side → g.home ≡ h.home
  -- the name of a pair that is homed in a stack stands there for no other half
  pub reserved : (p : Path) (h : Half) → stands_at p h.side (pair_at w (key_of h)) ≡ true
      → is_some (pair_at w (p, h.unit)) ≡ true → h.home ≡ p

-- all three
pub record IsSound (w : World) : Type 0 where
  -- halves and tables
  pub standing : IsStanding w
  -- who lives
  pub tree : IsTree w
  -- the names
  pub names : IsNamed w

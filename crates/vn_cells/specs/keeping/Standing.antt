-- Where halves stand, and what the tables of each stack keep.
use Rattle.std.specs.Prelude.{◌≡◌, ℕ, Bool, true, false, ◌&&◌, count_by, Option, Some, None, if◌then◌else◌}
use Rattle.std.specs.List.Sorted.{IsStrictlySortedBy}
use Rattle.std.specs.Map.{keys_of}
use Rattle.vn_types.specs.declared.half.Half.{Half}
use Rattle.vn_types.specs.declared.interface.Side.{Side}
use Rattle.vn_types.specs.declared.interface.IfOf.TheVariants.{Lo0, Half as OfHalf}
use Rattle.vn_rules.specs.declared.parts.PartsOf.{PartsOf}
use Rattle.vn_rules.specs.Scenes.{is_queue}
use Rattle.vn_rules.specs.Soundness.{is_sound_parts}
use Rattle.vn_cells.specs.declared.world.Live.{Live}
use Rattle.vn_cells.specs.declared.world.Pair.{Pair}
use Rattle.vn_cells.specs.declared.world.World.{World}
use Rattle.vn_cells.specs.world.Names.{Path, Key, If, path_eq, key_cmp, is_under, half_eq, if_eq, key_of}
use Rattle.vn_cells.specs.world.World.{stack_at, pair_at, is_alive, ifs_of, end_of}

-- whether what lives passes a test of its parts
abbrev pub passes : (PartsOf Half → Bool) → Option Live → Bool
passes test None = true
passes test (Some live) = test live.parts

-- ---- where halves stand

-- whether the half of that side stands at the path
abbrev pub stands_at : Path → Side → Option Pair → Bool
stands_at p side None = false
stands_at p side (Some pair) = path_eq (end_of side pair).at p

-- the half of that side stands in a living stack, which is its home or below it
abbrev pub is_placed : World → Key → Side → Option Pair → Bool
is_placed w k side None = true
is_placed w k side (Some pair) =
    is_alive w (end_of side pair).at && is_under (end_of side pair).at k.0

-- once, or not at all
abbrev pub times : Bool → ℕ
times b = if b then 1 else 0

-- how often an interface is to be listed in the stack of a path: lo0 where it lives, a half where
-- it stands there
abbrev pub times_listed : World → Path → If → ℕ
times_listed w p Lo0 = times (is_alive w p)
times_listed w p (OfHalf h) = times (stands_at p h.side (pair_at w (key_of h)))

-- no queue of the pair is too long
abbrev pub has_queues : Option Pair → Bool
has_queues None = true
has_queues (Some pair) = is_queue pair.a.sent && is_queue pair.b.sent

-- ---- what every world of a run keeps of them

-- halves and tables
pub record IsStanding (w : World) : Type 0 where
  -- each half stands in one living stack, its home or one below it
  pub places : (k : Key) (side : Side) → is_placed w k side (pair_at w k) ≡ true
  -- a living stack lists lo0 and exactly the halves that stand there, each once
  pub listed : (p : Path) (on : If)
      → count_by (if_eq on) (ifs_of (stack_at w p)) ≡ times_listed w p on
  -- the tables of each stack agree among themselves, and with the interfaces
  pub tables : (p : Path) → passes (is_sound_parts half_eq) (stack_at w p).live ≡ true
  -- no queue is longer than it can be
  pub queues : (k : Key) → has_queues (pair_at w k) ≡ true
  -- the pairs are in order, and no key stands twice
  pub pairs_ordered : IsStrictlySortedBy key_cmp (keys_of w.pairs)

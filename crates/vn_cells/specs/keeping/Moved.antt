-- What a half that stands elsewhere than before leaves behind: nothing.
use Rattle.std.specs.Prelude.{◌≡◌, ◌≢◌, Bool, true, ◌&&◌, Option, Some, None, not}
use Rattle.std.specs.List.{list_any}
use Rattle.vn_types.specs.declared.half.Half.{Half}
use Rattle.vn_types.specs.declared.interface.IfOf.TheVariants.{Half as OfHalf}
use Rattle.vn_rules.specs.declared.parts.PartsOf.{PartsOf}
use Rattle.vn_rules.specs.Interfaces.{named_ifs, is_among, is_timer_of}
use Rattle.vn_rules.specs.Scenes.{is_empty}
use Rattle.vn_cells.specs.declared.world.Pair.{Pair}
use Rattle.vn_cells.specs.declared.world.World.{World}
use Rattle.vn_cells.specs.world.Names.{Path, half_eq, key_of}
use Rattle.vn_cells.specs.world.World.{stack_at, pair_at, end_of, place}
use Rattle.vn_cells.specs.keeping.Standing.{passes}

-- both queues are empty, and the half is down
abbrev pub is_emptied : Half → Option Pair → Bool
is_emptied h None = true
is_emptied h (Some pair) =
    is_empty pair.a.sent && is_empty pair.b.sent && not (end_of h.side pair).up

-- nothing that the stack keeps names the half, and no timer
abbrev pub forgets : Half → PartsOf Half → Bool
forgets h p =
    not (is_among half_eq (named_ifs p) (OfHalf h))
    && not (list_any (λ e. is_timer_of half_eq h e.1) p.timers.standing)

-- a half that stands elsewhere than before left nothing behind
pub record LeavesNothing (old new : World) : Type 0 where
  -- neither in its pair
  pub emptied : (h : Half) → place h (pair_at new (key_of h)) ≢ place h (pair_at old (key_of h))
      → is_emptied h (pair_at new (key_of h)) ≡ true
  -- nor in any stack
  pub forgotten : (h : Half) (p : Path)
      → place h (pair_at new (key_of h)) ≢ place h (pair_at old (key_of h))
      → passes (forgets h) (stack_at new p).live ≡ true

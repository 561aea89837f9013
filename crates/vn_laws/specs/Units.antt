-- The unit of a pair that is made without one, and how far a pair reaches.
use Rattle.std.specs.Prelude.{◌≡◌, ◌≢◌, ℕ, ◌<◌, true, false, Option, Some, None}
use Rattle.vn_cells.specs.declared.world.World.{World}
use Rattle.vn_cells.specs.world.Names.{Path, Key}
use Rattle.vn_cells.specs.world.World.{stack_at, pair_at}
use Rattle.vn_cells.specs.commands.Taken.{units, is_unit_free}

-- a unit is free, and none below it
pub record IsLowest (w : World) (p : Path) (unit : ℕ) : Type 0 where
  -- a pair can be made with it
  pub bound : unit < units
  -- it is free
  pub free : is_unit_free w p unit ≡ true
  -- none below it is
  pub least : (n : ℕ) → n < unit → is_unit_free w p n ≡ false

-- no unit is free
abbrev pub NoneFree : World → Path → Type 0
NoneFree w p = (n : ℕ) → n < units → is_unit_free w p n ≡ false

-- the lowest unit that is free, or none where none is
abbrev pub IsLowestFree : World → Path → Option ℕ → Type 0
IsLowestFree w p None = NoneFree w p
IsLowestFree w p (Some unit) = IsLowest w p unit

-- nothing changes but a pair and the stacks of two paths
pub record ChangesPair (k : Key) (p q : Path) (old new : World) : Type 0 where
  -- what all cells share is as it was
  pub clock : new.clock ≡ old.clock
  -- every other stack
  pub stacks : (r : Path) → r ≢ p → r ≢ q → stack_at new r ≡ stack_at old r
  -- every other pair
  pub pairs : (j : Key) → j ≢ k → pair_at new j ≡ pair_at old j

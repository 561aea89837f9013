-- A pair of which a half moves: where both halves stand, its name and its queues.
use Rattle.std.proofs.Common.{◌≡◌, ℕ, true, refl}
use Rattle.std.specs.Prelude.{if◌then◌else◌}
use Rattle.vn_types.specs.declared.interface.Side.{Side}
use Rattle.vn_types.specs.declared.interface.Side.TheVariants.{A, B}
use Rattle.vn_types.specs.Interfaces.{side_eq}
use Rattle.vn_epair.specs.Halves.{Pair}
use Rattle.vn_epair.specs.Pairs.{end_of}
use Rattle.vn_rules.specs.Scenes.{is_queue}
use Rattle.vn_vmove.specs.Moves.{placed_at}

-- the half that moves stands where it comes, and the other where it stood
pub placed-stands : (side far : Side) (to : ℕ) (pair : Pair)
    → (end_of side (placed_at far to pair)).at ≡ (if side_eq side far then to else (end_of side pair).at)
placed-stands A A to pair = refl
placed-stands A B to pair = refl
placed-stands B A to pair = refl
placed-stands B B to pair = refl

-- its home and its unit stay
pub placed-name : (P : ℕ → ℕ → Type 0) (side : Side) (to : ℕ) (pair : Pair) → P pair.home pair.unit → P (placed_at side to pair).home (placed_at side to pair).unit
placed-name P A to pair holds = holds
placed-name P B to pair holds = holds

-- no frame of either half waits any more
pub placed-queue : (side far : Side) (to : ℕ) (pair : Pair) → is_queue (end_of side (placed_at far to pair)).sent ≡ true
placed-queue A A to pair = refl
placed-queue A B to pair = refl
placed-queue B A to pair = refl
placed-queue B B to pair = refl

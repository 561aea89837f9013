-- The ends of a pair of which a half moves.
use Rattle.std.proofs.Common.{◌≡◌, Bool, true, false, ◌&&◌, not, Option, Some, None, refl, sym, ap, ◌∙◌}
use Rattle.std.specs.Prelude.{if◌then◌else◌}
use Rattle.std.specs.Option.{option_map}
use Rattle.std.proofs.lemmas.Bool.{and_parts, true≢false}
use Rattle.vn_types.specs.declared.half.Half.{Half}
use Rattle.vn_types.specs.declared.interface.Side.{Side}
use Rattle.vn_types.specs.declared.interface.Side.TheVariants.{A, B}
use Rattle.vn_types.specs.Interfaces.{side_eq}
use Rattle.vn_types.specs.PathOrder.{path_eq-Decides}
use Rattle.vn_types.proofs.InterfaceNames.{side_eq-Decides}
use Rattle.vn_types.proofs.PathNames.{key_eq-Decides}
use Rattle.vn_cells.specs.declared.world.Pair.{Pair}
use Rattle.vn_cells.specs.world.Names.{Path, Key, key_of, half_eq, path_eq, key_eq}
use Rattle.vn_cells.specs.world.World.{end_of, place}
use Rattle.vn_cells.specs.commands.Moves.{placed_at}
use Rattle.vn_cells.specs.keeping.Standing.{stands_at, has_queues}
use Rattle.vn_rules.specs.Scenes.{is_empty}
use Rattle.vn_cells.specs.keeping.Moved.{is_emptied}
use Rattle.vn_laws.proofs.edits.Names.{half_eq-Decides, key_eq-refl, same_half}
use Rattle.vn_laws.proofs.edits.Paths.{path_eq-sym}

-- the pair of a half that moves, and any other
abbrev pub shifted : Half → Path → Key → Pair → Pair
shifted h to k pair = if key_eq k (key_of h) then placed_at h.side to pair else pair

pub placed-own : (side : Side) (to : Path) (pair : Pair) → (end_of side (placed_at side to pair)).at ≡ to
placed-own A to pair = refl
placed-own B to pair = refl

pub placed-other : (side far : Side) (to : Path) (pair : Pair) → side_eq side far ≡ false → (end_of side (placed_at far to pair)).at ≡ (end_of side pair).at
placed-other A A to pair e = cc
placed-other A B to pair e = refl
placed-other B A to pair e = refl
placed-other B B to pair e = cc

pub other_side : (g h : Half) → key_eq (key_of g) (key_of h) ≡ true → half_eq g h ≡ false → side_eq g.side h.side ≡ false
other_side g h k e = by (side_eq g.side h.side) refl
  where
    by : (b : Bool) → side_eq g.side h.side ≡ b → b ≡ false
    by false f = refl
    by true f = absurd (true≢false (sym ((half_eq-Decides g h).1 (same_half g h ((key_eq-Decides (key_of g) (key_of h)).0 k) ((side_eq-Decides g.side h.side).0 f))) ∙ e))

pub place_other : (g h : Half) (to : Path) (o : Option Pair) → half_eq g h ≡ false → place g (option_map (shifted h to (key_of g)) o) ≡ place g o
place_other g h to None e = refl
place_other g h to (Some pair) e = by (key_eq (key_of g) (key_of h)) refl
  where
    by : (b : Bool) → key_eq (key_of g) (key_of h) ≡ b → place g (Some (if b then placed_at h.side to pair else pair)) ≡ place g (Some pair)
    by true k = ap Some (placed-other g.side h.side to pair (other_side g h k e))
    by false k = refl

abbrev at_path : Path → Option Path → Bool
at_path p None = false
at_path p (Some r) = path_eq r p

pub stands_place : (p : Path) (h : Half) (o : Option Pair) → stands_at p h.side o ≡ at_path p (place h o)
stands_place p h None = refl
stands_place p h (Some pair) = refl

pub stands_other : (p : Path) (g h : Half) (to : Path) (o : Option Pair) → half_eq g h ≡ false → stands_at p g.side (option_map (shifted h to (key_of g)) o) ≡ stands_at p g.side o
stands_other p g h to o e = stands_place p g _ ∙ ap (at_path p) (place_other g h to o e) ∙ sym (stands_place p g o)

pub stands_own : (p : Path) (h : Half) (from to : Path) (o : Option Pair) → stands_at from h.side o ≡ true → stands_at p h.side (option_map (shifted h to (key_of h)) o) ≡ path_eq to p
stands_own p h from to None e = cc
stands_own p h from to (Some pair) e =
    ap (λ b. path_eq (end_of h.side (if b then placed_at h.side to pair else pair)).at p) (key_eq-refl (key_of h)) ∙ ap (λ r. path_eq r p) (placed-own h.side to pair)

pub stands_apart : (p from : Path) (side : Side) (o : Option Pair) → stands_at from side o ≡ true → path_eq p from ≡ false → stands_at p side o ≡ false
stands_apart p from side None e f = refl
stands_apart p from side (Some pair) e f = ap (λ r. path_eq r p) ((path_eq-Decides (end_of side pair).at from).0 e) ∙ path_eq-sym from p ∙ f

pub emptied-own : (side : Side) (h : Half) (to : Path) (pair : Pair) → side ≡ h.side → is_emptied h (Some (placed_at side to pair)) ≡ true
emptied-own A h to pair e = ap (λ s. not (end_of s (placed_at A to pair)).up) (sym e)
emptied-own B h to pair e = ap (λ s. not (end_of s (placed_at B to pair)).up) (sym e)

pub emptied-kept : (g : Half) (side : Side) (to : Path) (pair : Pair) → is_emptied g (Some pair) ≡ true → is_emptied g (Some (placed_at side to pair)) ≡ true
emptied-kept g side to pair e = by g.side side (and_parts (is_empty pair.a.sent && is_empty pair.b.sent) _ e).1
  where
    by : (s side : Side) → not (end_of s pair).up ≡ true → (is_empty (placed_at side to pair).a.sent && is_empty (placed_at side to pair).b.sent && not (end_of s (placed_at side to pair)).up) ≡ true
    by A A f = refl
    by A B f = f
    by B A f = f
    by B B f = refl

-- both queues are empty, or as they were
pub queues_shifted : (h : Half) (to : Path) (k : Key) (o : Option Pair) → has_queues o ≡ true → has_queues (option_map (shifted h to k) o) ≡ true
queues_shifted h to k None e = refl
queues_shifted h to k (Some pair) e = pick (key_eq k (key_of h)) h.side
  where
    pick : (b : Bool) (side : Side) → has_queues (Some (if b then placed_at side to pair else pair)) ≡ true
    pick true A = refl
    pick true B = refl
    pick false side = e

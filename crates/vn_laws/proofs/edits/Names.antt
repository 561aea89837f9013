-- The tests on names tell them apart.
use Rattle.std.proofs.Common.{◌∙◌, ◌≡◌, ◌==◌, true, ◌&&◌, refl, ap, arith}
use Rattle.std.specs.Bool.{Decides}
use Rattle.std.specs.Ordering.{is_eq}
use Rattle.std.proofs.lemmas.Bool.Decides.{Decides-eqb, Decides-and, Decides-like}
use Rattle.vn_types.specs.declared.half.Half.{Half}
use Rattle.vn_types.specs.Interfaces.{side_eq}
use Rattle.vn_types.specs.PathOrder.{path_ties, key_ties}
use Rattle.vn_types.proofs.PathNames.{path_eq-Decides, key_eq-Decides}
use Rattle.vn_types.proofs.InterfaceNames.{side_eq-Decides}
use Rattle.vn_cells.specs.world.Names.{Path, Key, path_eq, path_cmp, key_eq, key_cmp, half_eq, key_of}

pub half_eq-Decides : (g h : Half) → Decides (half_eq g h) (g ≡ h)
unfolding half_eq
half_eq-Decides g h =
    Decides-like (half_eq g h) (λ e i. record { home = e.0.0 i; unit = e.0.1 i; side = e.1 i }) (λ e. ((ap (λ (k : Half). k.home) e, ap (λ (k : Half). k.unit) e), ap (λ (k : Half). k.side) e))
    (Decides-and (path_eq g.home h.home && (g.unit == h.unit)) (side_eq g.side h.side)
    (Decides-and (path_eq g.home h.home) (g.unit == h.unit) (path_eq-Decides g.home h.home) (Decides-eqb g.unit h.unit)) (side_eq-Decides g.side h.side))

pub same_path : (p q : Path) → is_eq (path_cmp p q) ≡ true → p ≡ q
same_path p q e = (path_eq-Decides p q).0 (path_ties p q ∙ e)

pub same_key : (a b : Key) → is_eq (key_cmp a b) ≡ true → a ≡ b
same_key a b e = (key_eq-Decides a b).0 (key_ties a b ∙ e)

pub key_eq-refl : (k : Key) → key_eq k k ≡ true
key_eq-refl k = (key_eq-Decides k k).1 refl

pub half_eq-refl : (h : Half) → half_eq h h ≡ true
half_eq-refl h = (half_eq-Decides h h).1 refl

pub half_eq-sym : (g h : Half) → half_eq g h ≡ half_eq h g
half_eq-sym g h = grind (arith, half_eq-Decides g h, half_eq-Decides h g)

-- halves of one pair and one side are one
pub same_half : (g h : Half) → key_of g ≡ key_of h → g.side ≡ h.side → g ≡ h
same_half g h k e = λ i. record { home = (k i).0; unit = (k i).1; side = e i }

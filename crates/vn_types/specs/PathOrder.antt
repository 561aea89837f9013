-- The order of paths is total, and its equality is equality.
use Rattle.std.specs.Prelude.{◌≡◌, Some, refl}
use Rattle.std.proofs.Common.{arith}
use Rattle.std.specs.Bool.{Decides}
use Rattle.std.specs.Str.{bytes_eq}
use Rattle.std.specs.Ordering.{nat_cmp, ordering_then, eq_by_cmp, is_eq}
use Rattle.std.specs.declared.cmp.Ordering.{Ordering}
use Rattle.std.specs.declared.cmp.Ordering.TheVariants.{Less, Equal, Greater}
use Rattle.std.specs.Cmp.{IsTotalOrder, IsEquivalence, IsPartialOrder, then_total, on_total, both_ways, tied_then, Equal-is, po, unsigned_ties}
use Rattle.std.specs.FinMap.{slice_cmp-IsAntisymmetric, nat_cmp-IsAntisymmetric}
use Rattle.std.proofs.lemmas.Slice.Eq.{slice_eq-Decides, bytes_eq-Decides}
use Rattle.std.specs.Cmp.Lexicographic.{lists_total, lists_equiv, nat_list_cmp_total, nat_list_eq_equiv}
use Rattle.vn_types.specs.OctetOrder.{self_equal}
use Rattle.vn_types.specs.Paths.{Path, Key, path_eq, key_eq, key_cmp, joined, path_cmp}

-- the order is total
pub path_total : IsTotalOrder path_cmp
unfolding path_cmp
path_total = then_total (on_total joined nat_list_cmp_total) (lists_total nat_list_cmp_total)

-- equality is an equivalence
pub path_equiv : IsEquivalence path_eq
unfolding path_eq
path_equiv = lists_equiv nat_list_eq_equiv

then_second : (a b : Ordering) → ordering_then a b ≡ Equal → b ≡ Equal
then_second Less b e = cc
then_second Equal b e = e
then_second Greater b e = cc

-- paths that compare as `Equal` are one
pub path_cmp-exact : (p q : Path) → path_cmp p q ≡ Equal → p ≡ q
unfolding path_cmp
path_cmp-exact p q e =
    slice_cmp-IsAntisymmetric (slice_cmp-IsAntisymmetric nat_cmp-IsAntisymmetric) p q (then_second _ _ e)

-- equal paths are one
pub path_eq-Decides : (p q : Path) → Decides (path_eq p q) (p ≡ q)
unfolding path_eq
path_eq-Decides p q = slice_eq-Decides {E = bytes_eq} bytes_eq-Decides p q (path_eq p q) refl

-- equal paths are those that compare as `Equal`
pub path_ties : (p q : Path) → path_eq p q ≡ eq_by_cmp path_cmp p q
path_ties p q = both_ways (path_eq p q) (eq_by_cmp path_cmp p q)
    (λ e. rw ((path_eq-Decides p q).0 e)
    ((Equal-is (path_cmp q q)).1 (self_equal (path_cmp q q) (path_total.antisymm q q))))
    (λ e. rw (path_cmp-exact p q ((Equal-is (path_cmp p q)).0 e)) (path_equiv.refl q))

-- and so it is with pairs
pub key_ties : (a b : Key) → key_eq a b ≡ is_eq (key_cmp a b)
unfolding key_eq key_cmp
key_ties a b =
    grind (arith, tied_then (path_cmp a.0 b.0) (nat_cmp a.1 b.1), path_ties a.0 b.0, unsigned_ties a.1 b.1)

-- the order is one with that equality
pub path_po : IsPartialOrder path_eq (λ p q. Some (path_cmp p q))
path_po = po path_total path_ties

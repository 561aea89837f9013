-- The order of lists of octets is total, and its equality is equality.
use Rattle.std.specs.Prelude.{◌≡◌, ℕ, List, Some}
use Rattle.std.specs.Str.{bytes_eq}
use Rattle.std.specs.Ordering.{nat_cmp, eq_by_cmp, ordering_reverse}
use Rattle.std.specs.declared.cmp.Ordering.{Ordering}
use Rattle.std.specs.declared.cmp.Ordering.TheVariants.{Less, Equal, Greater}
use Rattle.std.specs.Cmp.{IsPartialOrder, both_ways, Equal-is, po}
use Rattle.std.specs.FinMap.{slice_cmp-IsAntisymmetric, nat_cmp-IsAntisymmetric}
use Rattle.std.specs.Cmp.Lexicographic.{slice_cmp, nat_list_cmp_total}
use Rattle.std.proofs.Common.{refl}
use Rattle.std.proofs.lemmas.Slice.Eq.{bytes_eq-Decides}

-- what is its own reverse is `Equal`
pub self_equal : (r : Ordering) → r ≡ ordering_reverse r → r ≡ Equal
self_equal Less e = cc
self_equal Equal e = refl
self_equal Greater e = cc

-- equal lists are those that compare as `Equal`
pub octets_ties : (a b : List ℕ) → bytes_eq a b ≡ eq_by_cmp (slice_cmp nat_cmp) a b
octets_ties a b = both_ways (bytes_eq a b) (eq_by_cmp (slice_cmp nat_cmp) a b)
    (λ e. rw ((bytes_eq-Decides a b).0 e)
    ((Equal-is (slice_cmp nat_cmp b b)).1
    (self_equal (slice_cmp nat_cmp b b) (nat_list_cmp_total.antisymm b b))))
    (λ e. rw (slice_cmp-IsAntisymmetric nat_cmp-IsAntisymmetric a b ((Equal-is (slice_cmp nat_cmp a b)).0 e))
    ((bytes_eq-Decides b b).1 refl))

-- the order is one with that equality
pub octets_po : IsPartialOrder bytes_eq (λ a b. Some (slice_cmp nat_cmp a b))
octets_po = po nat_list_cmp_total octets_ties

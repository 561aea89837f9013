-- What the tests of order mean: the order of prefixes is total, and rising and distinct lists are those of std.
use Rattle.std.proofs.Common.{◌≡◌, Bool, true, false, not, ◌||◌, List, [], ◌∷◌, refl, ap}
use Rattle.std.specs.List.{AllByRecursion, IsDistinct, list_any, list_all}
use Rattle.std.specs.List.Sorted.{IsStrictlySortedBy}
use Rattle.std.specs.Ordering.{is_lt}
use Rattle.std.specs.declared.cmp.Ordering.{Ordering}
use Rattle.std.specs.declared.cmp.Ordering.TheVariants.{Less, Equal, Greater}
use Rattle.std.specs.Cmp.{IsTotalOrder, nat_cmp_total, on_total}
use Rattle.std.proofs.lemmas.Bool.{and_parts, and_from}
use Rattle.std.proofs.lemmas.Cmp.{then_total}
use Rattle.vn_types.specs.declared.address.Prefix.{Prefix}
use Rattle.vn_rules.specs.Orders.{are_rising, are_distinct}
use Rattle.vn_rules.specs.Routes.{prefix_cmp}

pub prefix_cmp_total : IsTotalOrder prefix_cmp
prefix_cmp_total =
    then_total (on_total (λ (p : Prefix). p.net.0) nat_cmp_total) (on_total (λ (p : Prefix). p.len) nat_cmp_total)

module _ {K : Type 0} (cmp : K → K → Ordering) where
  is_Less : (o : Ordering) → is_lt o ≡ true → o ≡ Less
  is_Less Less test = refl
  is_Less Equal test = cc
  is_Less Greater test = cc

  all_after : (k : K) (ks : List K) → list_all (λ q. is_lt (cmp k q)) ks ≡ true → AllByRecursion (λ q. cmp k q ≡ Less) ks
  all_after k [] test = tt
  all_after k (q ∷ ks) test = let parts = and_parts (is_lt (cmp k q)) _ test in (is_Less (cmp k q) parts.0, all_after k ks parts.1)

  all_after-test : (k : K) (ks : List K) → AllByRecursion (λ q. cmp k q ≡ Less) ks → list_all (λ q. is_lt (cmp k q)) ks ≡ true
  all_after-test k [] after = refl
  all_after-test k (q ∷ ks) after = and_from (is_lt (cmp k q)) _ (ap is_lt after.0) (all_after-test k ks after.1)

  pub IsStrictlySortedBy-from_rising : (ks : List K) → are_rising cmp ks ≡ true → IsStrictlySortedBy cmp ks
  unfolding IsStrictlySortedBy
  IsStrictlySortedBy-from_rising [] test = tt
  IsStrictlySortedBy-from_rising (k ∷ ks) test =
      let parts = and_parts _ (are_rising cmp ks) test in (all_after k ks parts.0, IsStrictlySortedBy-from_rising ks parts.1)

  pub rising_from_sorted : (ks : List K) → IsStrictlySortedBy cmp ks → are_rising cmp ks ≡ true
  unfolding IsStrictlySortedBy
  rising_from_sorted [] sorted = refl
  rising_from_sorted (k ∷ ks) sorted = and_from _ (are_rising cmp ks) (all_after-test k ks sorted.0) (rising_from_sorted ks sorted.1)

module _ {X : Type 0} (same : X → X → Bool) where
  none_same : (x : X) (xs : List X) → not (list_any (same x) xs) ≡ true → AllByRecursion (λ y. same x y ≡ false) xs
  none_same x [] test = tt
  none_same x (y ∷ ys) test = by (same x y) refl test (none_same x ys)
    where
      by : (b : Bool) → same x y ≡ b → not (b || list_any (same x) ys) ≡ true
          → (not (list_any (same x) ys) ≡ true → AllByRecursion (λ y. same x y ≡ false) ys) → AllByRecursion (λ y. same x y ≡ false) (y ∷ ys)
      by true is test more = cc
      by false is test more = (is, more test)

  pub IsDistinct-from_test : (xs : List X) → are_distinct same xs ≡ true → IsDistinct same xs
  unfolding IsDistinct
  IsDistinct-from_test [] test = tt
  IsDistinct-from_test (x ∷ xs) test =
      let parts = and_parts _ (are_distinct same xs) test in (none_same x xs parts.0, IsDistinct-from_test xs parts.1)

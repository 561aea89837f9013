-- A stack's timers where one is armed or some are stopped: what is counted, and that they stay in order.
use Rattle.std.proofs.Common.{◌≡◌, ℕ, ◌+◌, ◌<◌, Bool, true, false, cond, not, List, [], ◌∷◌, ◌++◌, refl, sym, ap, ◌∙◌, arith}
use Rattle.std.specs.Prelude.{nat_lt}
use Rattle.std.specs.List.{list_any, list_all, filter, count_by}
use Rattle.std.specs.Ordering.{match_ordering}
use Rattle.std.specs.declared.cmp.Ordering.{Ordering}
use Rattle.std.specs.declared.cmp.Ordering.TheVariants.{Less, Equal, Greater}
use Rattle.std.specs.Map.{keys_of}
use Rattle.std.specs.BTreeMap.{insert_entry}
use Rattle.std.proofs.lemmas.Bool.{both_ways, false_from_ne_true, and_parts, and_from, or_parts, or_from, not-true, not_from_false, ltb-true}
use Rattle.std.proofs.lemmas.Bool.Decides.{nat_tests}
use Rattle.std.proofs.lemmas.List.Folds.{list_all-append}
use Rattle.std.proofs.lemmas.List.Sums.{sum_by-append, sum_by-cons}
use Rattle.vn_types.proofs.EntryLaws.{IsStrictlySortedBy-insert_entry}
use Rattle.vn_rules.specs.declared.timer.TimerOf.{TimerOf}
use Rattle.vn_rules.specs.declared.timer.TimersOf.{TimersOf}
use Rattle.vn_rules.specs.Orders.{are_rising, are_distinct, are_timers}
use Rattle.vn_rules.specs.Timers.{Turn, turn_cmp, Timed}
use Rattle.vn_rules.proofs.Kept.{all_passed, count_filter, rising_kept}
use Rattle.vn_rules.proofs.ListTests.{distinct_filter}
use Rattle.vn_rules.proofs.OrderLaws.{IsStrictlySortedBy-from_rising, rising_from_sorted}
use Rattle.vn_rules.proofs.TimerOrder.{turn_cmp_total}

-- ---- one element more, somewhere

module _ {A : Type 0} where
  pub record Inserted (xs : List A) (e : A) (ys : List A) : Type 0 where
    pub before : List A
    pub after : List A
    pub was : xs ≡ before ++ after
    pub is : ys ≡ before ++ e ∷ after

  module _ (xs : List A) (e : A) (ys : List A) (more : Inserted xs e ys) where
    pub count_inserted : (q : A → Bool) → count_by q ys ≡ count_by q xs + cond (q e) 1 0
    count_inserted q =
        let f : A → ℕ = λ x. cond (q x) 1 0 in
        let old : count_by q xs ≡ count_by q more.before + count_by q more.after = ap (count_by q) more.was ∙ sum_by-append f more.before more.after in
        let new : count_by q ys ≡ count_by q more.before + count_by q (e ∷ more.after) = ap (count_by q) more.is ∙ sum_by-append f more.before (e ∷ more.after) in
        let one : count_by q (e ∷ more.after) ≡ cond {A = ℕ} (q e) 1 0 + count_by q more.after = sum_by-cons f e more.after in
        omega arith

    pub all_inserted : (q : A → Bool) → list_all q xs ≡ true → q e ≡ true → list_all q ys ≡ true
    all_inserted q all here =
        let parts = and_parts (list_all q more.before) (list_all q more.after) (sym (ap (list_all q) more.was ∙ list_all-append q more.before more.after) ∙ all) in
        ap (list_all q) more.is ∙ list_all-append q more.before (e ∷ more.after) ∙ and_from _ _ parts.0 (and_from (q e) _ here parts.1)

    pub distinct_inserted : (same : A → A → Bool) → are_distinct same xs ≡ true → list_any (same e) xs ≡ false → list_any (λ x. same x e) xs ≡ false → are_distinct same ys ≡ true
    distinct_inserted same apart left right =
        ap (are_distinct same) more.is
        ∙ by more.before (sym (ap (are_distinct same) more.was) ∙ apart) (sym (ap (list_any (same e)) more.was) ∙ left) (sym (ap (list_any (λ x. same x e)) more.was) ∙ right)
      where
        none : (x : A) (b : List A) → list_any (same x) (b ++ more.after) ≡ false → same x e ≡ false → list_any (same x) (b ++ e ∷ more.after) ≡ false
        none x [] clear fails = or_from (same x e) _ fails clear
        none x (y ∷ b) clear fails = let parts = or_parts (same x y) _ clear in or_from (same x y) _ parts.0 (none x b parts.1 fails)

        by : (b : List A) → are_distinct same (b ++ more.after) ≡ true → list_any (same e) (b ++ more.after) ≡ false → list_any (λ x. same x e) (b ++ more.after) ≡ false → are_distinct same (b ++ e ∷ more.after) ≡ true
        by [] apart left right = and_from _ _ (not_from_false _ left) apart
        by (x ∷ b) apart left right =
            let parts = and_parts (not (list_any (same x) (b ++ more.after))) _ apart in
            let l = or_parts (same e x) _ left in
            let r = or_parts (same x e) _ right in
            and_from _ _ (not_from_false _ (none x b (not-true _ parts.0) r.0)) (by b parts.1 l.1 r.1)

-- ---- what is counted where some are taken away

-- nothing is counted where all pass a test that rules it out
pub zero_from_all : {A : Type 0} (p q : A → Bool) → ((x : A) → p x ≡ true → q x ≡ false) → (xs : List A) → list_all p xs ≡ true → count_by q xs ≡ 0
zero_from_all p q out [] all = refl
zero_from_all p q out (x ∷ xs) all =
    let parts = and_parts (p x) _ all in
    let fails : q x ≡ false = out x parts.0 in
    let here : cond {A = ℕ} (q x) 1 0 ≡ 0 = rw fails refl in
    let rest : count_by q xs ≡ 0 = zero_from_all p q out xs parts.1 in
    let whole : count_by q (x ∷ xs) ≡ cond {A = ℕ} (q x) 1 0 + count_by q xs = sum_by-cons (λ z. cond (q z) 1 0) x xs in
    omega arith

module _ {A : Type 0} (keep q : A → Bool) where
  pub count_filter_all : ((x : A) → q x ≡ true → keep x ≡ true) → (xs : List A) → count_by q (filter keep xs) ≡ count_by q xs
  count_filter_all kept xs = count_filter q keep xs (λ x _ goes. false_from_ne_true (q x) (λ is. both_ways (keep x) goes (kept x is)))

  pub count_filter_none : ((x : A) → q x ≡ true → keep x ≡ false) → (xs : List A) → count_by q (filter keep xs) ≡ 0
  count_filter_none gone xs = zero_from_all keep q (λ x stays. false_from_ne_true (q x) (λ is. both_ways (keep x) (gone x is) stays)) (filter keep xs) (all_passed keep xs)

-- ---- timers

unequal : (x m y n : ℕ) → turn_cmp (x, m) (y, n) ≡ Equal → n < m → ⊥
unequal x m y n same less = grind (arith, nat_tests)

module _ {N : Type 0} where
  -- a timer with a greater arm number than all others takes no place of theirs
  pub insert_entry-Inserted : (at : Turn) (what : TimerOf N) (es : List (Timed N)) → list_all (λ e. nat_lt e.0.1 at.1) es ≡ true → Inserted es (at, what) (insert_entry turn_cmp es at what)
  insert_entry-Inserted at what [] below = record { before = []; after = []; was = refl; is = refl }
  insert_entry-Inserted at what (e ∷ es) below =
      let parts = and_parts (nat_lt e.0.1 at.1) _ below in by (turn_cmp at e.0) refl (ltb-true _ _ parts.0) (insert_entry-Inserted at what es parts.1)
    where
      by : (o : Ordering) → turn_cmp at e.0 ≡ o → e.0.1 < at.1 → Inserted es (at, what) (insert_entry turn_cmp es at what)
          → Inserted (e ∷ es) (at, what) (match_ordering o ((at, what) ∷ e ∷ es) ((e.0, what) ∷ es) (e ∷ insert_entry turn_cmp es at what))
      by Less is lower more = record { before = []; after = e ∷ es; was = refl; is = refl }
      by Equal is lower more = absurd (unequal at.0 at.1 e.0.0 e.0.1 is lower)
      by Greater is lower more = record { before = e ∷ more.before; after = more.after; was = ap (λ xs. e ∷ xs) more.was; is = ap (λ xs. e ∷ xs) more.is }

  pub rising-inserted : (at : Turn) (what : TimerOf N) (es : List (Timed N)) → are_rising turn_cmp (keys_of es) ≡ true → are_rising turn_cmp (keys_of (insert_entry turn_cmp es at what)) ≡ true
  rising-inserted at what es rising =
      rising_from_sorted turn_cmp _ (IsStrictlySortedBy-insert_entry turn_cmp turn_cmp_total at what es (IsStrictlySortedBy-from_rising turn_cmp (keys_of es) rising))

  -- timers of which some are stopped stay in order
  pub are_timers-kept : (keep : Timed N → Bool) (t : TimersOf N) → are_timers t ≡ true → are_timers (record t { standing = filter keep t.standing }) ≡ true
  unfolding are_timers
  are_timers-kept keep t right =
      let parts = and_parts (are_rising turn_cmp (keys_of t.standing)) _ right in
      and_from _ _ (rising_kept turn_cmp keep t.standing parts.0) (distinct_filter keep _ t.standing parts.1)

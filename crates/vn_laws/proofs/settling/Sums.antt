-- Sums over lists of which one element, or some, weigh something else than before.
use Rattle.std.proofs.Common.{◌≡◌, ℕ, ◌+◌, ◌≤◌, Bool, true, false, cond, List, [], ◌∷◌, find, count_by, Some, refl, sym, ap, subst, ◌∙◌, arith}
use Rattle.std.specs.BTreeMap.{is_at}
use Rattle.std.specs.List.{AllByRecursion}
use Rattle.std.specs.List.Sorted.{IsStrictlySortedBy}
use Rattle.std.specs.Map.{lookup, keys_of}
use Rattle.std.specs.Ordering.{is_eq}
use Rattle.std.specs.declared.cmp.Ordering.{Ordering}
use Rattle.std.specs.declared.cmp.Ordering.TheVariants.{Less}
use Rattle.std.proofs.lemmas.Bool.{false_from_ne_true}
use Rattle.vn_types.proofs.Options.{none_some, some_same}
use Rattle.vn_packets.proofs.Counting.{count-cons, none-cons, one-cons}
use Rattle.vn_packets.proofs.SceneWeight.{all_weigh, weigh-cons}

module _ {A : Type 0} where
  pub all-same : (v w : A → ℕ) → ((x : A) → v x ≡ w x) → (xs : List A) → all_weigh v xs ≡ all_weigh w xs
  all-same v w same xs i = all_weigh (λ x. same x i) xs

  pub all-zero : (xs : List A) → all_weigh (λ (x : A). 0) xs ≡ 0
  all-zero [] = refl
  all-zero (x ∷ xs) = omega (arith, weigh-cons (λ (y : A). 0) x xs, all-zero xs)

  pub all-both : (v w : A → ℕ) (xs : List A) → all_weigh (λ x. v x + w x) xs ≡ all_weigh v xs + all_weigh w xs
  all-both v w [] = refl
  all-both v w (x ∷ xs) = omega (arith, weigh-cons (λ x. v x + w x) x xs, weigh-cons v x xs, weigh-cons w x xs, all-both v w xs)

  pub all-less : (v w : A → ℕ) → ((x : A) → v x ≤ w x) → (xs : List A) → all_weigh v xs ≤ all_weigh w xs
  all-less v w less [] = omega arith
  all-less v w less (x ∷ xs) = omega (arith, weigh-cons v x xs, weigh-cons w x xs, less x, all-less v w less xs)

  module _ (t : A → Bool) where
    -- what is found weighs no more than all
    pub found-weighs : (w : A → ℕ) (xs : List A) (x : A) → find t xs ≡ Some x → w x ≤ all_weigh w xs
    found-weighs w [] x found = absurd (none_some x found)
    found-weighs w (y ∷ xs) x found = let all = by (t y) found (found-weighs w xs x) in omega (arith, all, weigh-cons w y xs)
      where
        by : (b : Bool) → cond b (Some y) (find t xs) ≡ Some x → (find t xs ≡ Some x → w x ≤ all_weigh w xs) → w x ≤ w y + all_weigh w xs
        by true found more = let same = ap w (some_same y x found) in omega (arith, same)
        by false found more = let rest = more found in omega (arith, rest)

    module _ (v w : A → ℕ) (same : (x : A) → t x ≡ false → v x ≡ w x) where
      none-changed : (xs : List A) → count_by t xs ≡ 0 → all_weigh v xs ≡ all_weigh w xs
      none-changed [] none = refl
      none-changed (y ∷ xs) none =
          let parts = none-cons t y xs none in
          let here = same y parts.0 in
          let others = none-changed xs parts.1 in
          omega (arith, here, others, weigh-cons v y xs, weigh-cons w y xs)

      -- the one that passes weighs something else
      pub one-changed : (xs : List A) → count_by t xs ≤ 1 → (x : A) → find t xs ≡ Some x → all_weigh v xs + w x ≡ all_weigh w xs + v x
      one-changed [] one x found = absurd (none_some x found)
      one-changed (y ∷ xs) one x found =
          let parts = one-cons t y xs one in
          let all = by (t y) refl found (λ is. none-changed xs (parts.1 is)) (one-changed xs parts.0 x) in omega (arith, all, weigh-cons v y xs, weigh-cons w y xs)
        where
          by : (b : Bool) → t y ≡ b → cond b (Some y) (find t xs) ≡ Some x → (b ≡ true → all_weigh v xs ≡ all_weigh w xs)
              → (find t xs ≡ Some x → all_weigh v xs + w x ≡ all_weigh w xs + v x) → v y + all_weigh v xs + w x ≡ w y + all_weigh w xs + v x
          by true is found none more =
              let others = none refl in
              let vs = ap v (some_same y x found) in
              let ws = ap w (some_same y x found) in
              omega (arith, others, vs, ws)
          by false is found none more = let here = same y is in let others = more found in omega (arith, here, others)

    -- one passes, or none, and the others weigh nothing
    pub one-weighs : (w : A → ℕ) (c : ℕ) → ((x : A) → t x ≡ true → w x ≤ c) → ((x : A) → t x ≡ false → w x ≡ 0) → (xs : List A) → count_by t xs ≤ 1 → all_weigh w xs ≤ c
    one-weighs w c most nothing [] one = omega arith
    one-weighs w c most nothing (y ∷ xs) one =
        let parts = one-cons t y xs one in
        let all = by (t y) refl (one-weighs w c most nothing xs parts.0) (λ is. none-changed w (λ x. 0) nothing xs (parts.1 is) ∙ all-zero xs) in
        omega (arith, all, weigh-cons w y xs)
      where
        by : (b : Bool) → t y ≡ b → all_weigh w xs ≤ c → (b ≡ true → all_weigh w xs ≡ 0) → w y + all_weigh w xs ≤ c
        by true is more none = let here = most y is in let others = none refl in omega (arith, here, others)
        by false is more none = let here = nothing y is in omega (arith, here, more)

-- ---- entries under their keys

module _ {K V : Type 0} where
  -- what is looked up is an entry
  pub looked-found : (q : K → Bool) (es : List (K × V)) (v : V) → lookup q es ≡ Some v → (k : K) × (find (λ (e : K × V). q e.0) es ≡ Some (k, v)) × (q k ≡ true)
  looked-found q [] v found = absurd (none_some v found)
  looked-found q (e ∷ es) v found = by (q e.0) refl found (looked-found q es v)
    where
      by : (b : Bool) → q e.0 ≡ b → cond b (Some e.1) (lookup q es) ≡ Some v → (lookup q es ≡ Some v → (k : K) × (find (λ (e : K × V). q e.0) es ≡ Some (k, v)) × (q k ≡ true))
          → (k : K) × (cond b (Some e) (find (λ (e : K × V). q e.0) es) ≡ Some (k, v)) × (q k ≡ true)
      by true is found more = (e.0, (λ i. Some (e.0, some_same e.1 v found i)), is)
      by false is found more = more found

  module _ (cmp : K → K → Ordering) (exact : (a b : K) → is_eq (cmp a b) ≡ true → a ≡ b) (itself : (a : K) → cmp a a ≡ Less → ⊥) where
    after-apart : (k : K) (a : K) (es : List (K × V)) → is_eq (cmp k a) ≡ true → AllByRecursion (λ q. cmp a q ≡ Less) (keys_of es) → count_by (λ (e : K × V). is_at (cmp k) e.0) es ≡ 0
    after-apart k a [] at less = refl
    after-apart k a (e ∷ es) at less =
        let fails : is_at (cmp k) e.0 ≡ false = false_from_ne_true (is_at (cmp k) e.0) (λ is. itself a (subst (λ b. cmp a b ≡ Less) (sym (exact k e.0 is) ∙ exact k a at) less.0)) in
        let here : cond {A = ℕ} (is_at (cmp k) e.0) 1 0 ≡ 0 = ap (λ b. cond {A = ℕ} b 1 0) fails in
        omega (arith, here, count-cons (λ (x : K × V). is_at (cmp k) x.0) e es, after-apart k a es at less.1)

    -- where keys are in order one entry is at a key, or none
    pub one-at : (k : K) (es : List (K × V)) → IsStrictlySortedBy cmp (keys_of es) → count_by (λ (e : K × V). is_at (cmp k) e.0) es ≤ 1
    unfolding IsStrictlySortedBy
    one-at k [] sorted = omega arith
    one-at k (e ∷ es) sorted =
        let most = by (is_at (cmp k) e.0) refl (one-at k es sorted.1) in omega (arith, most, count-cons (λ (x : K × V). is_at (cmp k) x.0) e es)
      where
        by : (b : Bool) → is_at (cmp k) e.0 ≡ b → count_by (λ (x : K × V). is_at (cmp k) x.0) es ≤ 1 → cond {A = ℕ} b 1 0 + count_by (λ (x : K × V). is_at (cmp k) x.0) es ≤ 1
        by true at more = let none = after-apart k e.0 es at sorted.0 in omega (arith, none)
        by false at more = omega (arith, more)

-- How many stacks have a datagram queued.
use Rattle.std.proofs.Common.{◌≡◌, ℕ, suc, ◌+◌, ◌<◌, ◌≤◌, Bool, true, false, cond, ◌==◌, count_by, List, [], ◌∷◌, Option, Some, None, length, get_or, refl, sym, ap, ap₂, ◌∙◌, arith, ⊎_elim}
use Rattle.std.specs.List.{find}
use Rattle.std.proofs.lemmas.Bool.{cases_lt, eq-eqb, eqb-true, false≢true}
use Rattle.std.proofs.lemmas.List.{get_or_past}
use Rattle.std.proofs.lemmas.List.Sums.{sum_by-cons, get_or-le-sum_by}
use Rattle.vn_types.specs.PerStack.{ChangesOnly}
use Rattle.vn_loop.specs.Queues.{Queue, of, is_busy}

abbrev weight : Option Queue → ℕ
weight row = cond (is_busy row) 1 0

-- tables in which the same stacks are busy have as many
pub busy-same : (xs ys : List (Option Queue)) → ((q : ℕ) → is_busy (get_or ys q None) ≡ is_busy (get_or xs q None))
    → count_by is_busy ys ≡ count_by is_busy xs
busy-same [] [] same = refl
busy-same [] (y ∷ ys) same = sum_by-cons weight y ys ∙ ap₂ (λ b n. cond b 1 0 + n) (same 0) (busy-same [] ys (λ q. same (suc q)))
busy-same (x ∷ xs) [] same = ap₂ (λ b n. cond b 1 0 + n) (same 0) (busy-same xs [] (λ q. same (suc q))) ∙ sym (sum_by-cons weight x xs)
busy-same (x ∷ xs) (y ∷ ys) same =
    sum_by-cons weight y ys ∙ ap₂ (λ b n. cond b 1 0 + n) (same 0) (busy-same xs ys (λ q. same (suc q))) ∙ sym (sum_by-cons weight x xs)

-- nor does the number change where a stack that is not busy is given a queue without datagrams
pub busy-new : (sid : ℕ) (xs ys : List (Option Queue)) → ChangesOnly sid (of xs) (of ys) → is_busy (of xs sid) ≡ false → is_busy (of ys sid) ≡ false
    → count_by is_busy ys ≡ count_by is_busy xs
busy-new sid xs ys changes was is = busy-same xs ys (λ q. by q (q == sid) refl)
  where
    by : (q : ℕ) (b : Bool) → (q == sid) ≡ b → is_busy (of ys q) ≡ is_busy (of xs q)
    by q true same = ap (λ n. is_busy (of ys n)) (eqb-true q sid same) ∙ is ∙ sym was ∙ ap (λ n. is_busy (of xs n)) (sym (eqb-true q sid same))
    by q false other = ap is_busy (changes.others q (λ same. absurd (false≢true (sym other ∙ ap (λ n. n == sid) same ∙ eq-eqb sid sid refl))))

-- where no stack is counted, none is busy
pub none-busy : (xs : List (Option Queue)) → count_by is_busy xs ≡ 0 → (q : ℕ) → is_busy (get_or xs q None) ≡ false
none-busy xs none q = ⊎_elim within past (cases_lt q (length xs))
  where
    idle : (b : Bool) → cond b 1 0 ≤ 0 → b ≡ false
    idle true le = absurd (omega arith)
    idle false le = refl

    within : q < length xs → is_busy (get_or xs q None) ≡ false
    within here = idle (is_busy (get_or xs q None)) (omega (arith, get_or-le-sum_by weight xs q None here))

    past : length xs ≤ q → is_busy (get_or xs q None) ≡ false
    past there = ap is_busy (get_or_past xs q None there)

-- nothing is found where no test holds
pub find-none : {X : Type 0} (test : X → Bool) (xs : List X) → ((x : X) → test x ≡ false) → find test xs ≡ None
find-none test [] none = refl
find-none test (x ∷ xs) none = ap (λ b. cond b (Some x) (find test xs)) (none x) ∙ find-none test xs none

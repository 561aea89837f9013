-- The entries of a map of timers.
use Rattle.std.proofs.Common.{◌≡◌, ℕ, ◌+◌, ◌<◌, ◌≤◌, Bool, false, ◌==◌, List, [], ◌∷◌, Option, Some, None, refl, sym, ap, ◌∙◌, arith}
use Rattle.std.specs.List.{All, AllByRecursion, list_any, filter, slice_get}
use Rattle.std.specs.Option.{IfSome, option_map}
use Rattle.std.specs.Ordering.{is_gt}
use Rattle.std.specs.Map.{keys_of, remove_entry}
use Rattle.std.specs.BTreeMap.{insert_entry, is_at}
use Rattle.std.specs.BTreeMap.Range.{IsLeBy, IsLtBy}
use Rattle.std.proofs.lemmas.Bool.{ne_eqb}
use Rattle.std.proofs.lemmas.List.Elements.{All-from_recursion, recursion_from_All, All-weaker, All-tail, All-rest, All-filter}
use Rattle.vn_types.proofs.EntryLaws.{all-insert_entry}
use Rattle.vn_rules.specs.declared.timer.TimerOf.{TimerOf}
use Rattle.vn_rules.specs.declared.timer.TimersOf.{TimersOf}
use Rattle.vn_rules.specs.Timers.{Turn, turn_cmp, Timed, earliest, is_due, next_due, due, after_due, without_timed, soonest}
use Rattle.vn_rules.proofs.TimerOrder.{NoneBefore, earliest-first, next_due-first, next_due-none, without-first}

module _ {N : Type 0} where
  -- ---- arm numbers

  no_number : (n : ℕ) (es : List (Timed N)) → AllByRecursion (λ (e : Timed N). e.0.1 < n) es → list_any (λ (e : Timed N). e.0.1 == n) es ≡ false
  no_number n [] below = refl
  no_number n (e ∷ es) below = rw (ne_eqb e.0.1 n (λ same. omega (arith, below.0, same))) (no_number n es below.1)

  -- the next number is that of no entry
  pub number-unused : (n : ℕ) (es : List (Timed N)) → All (λ (e : Timed N). e.0.1 < n) es → list_any (λ (e : Timed N). e.0.1 == n) es ≡ false
  number-unused n es below = no_number n es (recursion_from_All _ es below)

  -- after an entry with the next number was inserted
  pub numbered-insert_entry : (deadline n : ℕ) (what : TimerOf N) (es : List (Timed N)) → All (λ (e : Timed N). e.0.1 < n) es → All (λ (e : Timed N). e.0.1 < n + 1) (insert_entry turn_cmp es (deadline, n) what)
  numbered-insert_entry deadline n what es below =
      All-from_recursion _ _ (all-insert_entry turn_cmp (λ at. at.1 < n + 1) (deadline, n) what es (omega arith)
      (recursion_from_All _ es (All-weaker (λ (e : Timed N). e.0.1 < n) (λ (e : Timed N). e.0.1 < n + 1) (λ e less. omega arith) es below)))

  -- after entries were taken out
  pub numbered-filter : (n : ℕ) (keeps : Timed N → Bool) (es kept : List (Timed N)) → kept ≡ filter keeps es → All (λ (e : Timed N). e.0.1 < n) es → All (λ (e : Timed N). e.0.1 < n) kept
  numbered-filter n keeps es kept is below = rw is (All-filter keeps (λ (e : Timed N). e.0.1 < n) es below)

  pub numbered-rest : (n : ℕ) (e : Timed N) (es rest : List (Timed N)) → es ≡ e ∷ rest → All (λ (e : Timed N). e.0.1 < n) es → All (λ (e : Timed N). e.0.1 < n) rest
  numbered-rest n e es rest is below = All-rest (λ (e : Timed N). e.0.1 < n) e rest es is below

  -- ---- the first entry

  entries_from : (P : Turn → Type 0) (es : List (Timed N)) → All P (keys_of es) → All (λ (e : Timed N). P e.0) es
  entries_from P es all = All-from_recursion _ es (by es (recursion_from_All _ _ all))
    where
      by : (es : List (Timed N)) → AllByRecursion P (keys_of es) → AllByRecursion (λ (e : Timed N). P e.0) es
      by [] all = tt
      by (e ∷ es) all = (all.0, by es all.1)

  earliest-at_first : (es : List (Timed N)) (e : Timed N) → slice_get es 0 ≡ Some e → All (IsLeBy turn_cmp e.0) (keys_of es) → earliest es ≡ Some e
  earliest-at_first [] e first least = cc
  earliest-at_first (f ∷ fs) e first least =
      let same : f ≡ e = cc in
      let from : NoneBefore f.0 fs = rw same (entries_from (IsLeBy turn_cmp e.0) fs (All-tail (IsLeBy turn_cmp e.0) f.0 (keys_of fs) least)) in
      earliest-first f fs from ∙ ap Some same

  -- the first entry's deadline is the least
  pub soonest-at_first : (t : TimersOf N) (es : List (Timed N)) (e : Timed N) → es ≡ t.standing → slice_get es 0 ≡ Some e → All (IsLeBy turn_cmp e.0) (keys_of es) → Some e.0.0 ≡ soonest t
  soonest-at_first t es e is first least = sym (ap (option_map (λ (f : Timed N). f.0.0)) (earliest-at_first es e first least)) ∙ ap (λ fs. option_map (λ (f : Timed N). f.0.0) (earliest fs)) is

  -- where no deadline has come, nothing is taken
  pub nothing-due : (now : ℕ) (t : TimersOf N) (o : Option ℕ) → o ≡ soonest t → IfSome o (λ d. now < d) → (due now t ≡ None) × (after_due now t ≡ t)
  nothing-due now t o is later =
      let none = next_due-none now t (rw (← is) later) in
      (ap (option_map (λ (e : Timed N). e.1)) none, ap (λ o. without_timed o t) none)

  -- where the first entry's deadline has come, it is taken
  pub first-due : (now d : ℕ) (t : TimersOf N) (e : Timed N) (es all : List (Timed N)) → all ≡ t.standing → all ≡ e ∷ es → All (IsLtBy turn_cmp e.0) (keys_of es) → Some d ≡ soonest t → d ≤ now → (due now t ≡ Some e.1) × (after_due now t ≡ record t { standing = es })
  first-due now d t e es all entries first above soon le = (ap (option_map (λ (f : Timed N). f.1)) next, ap (λ o. without_timed o t) next ∙ (λ i. record { armed = t.armed; standing = out i }))
    where
      is : t.standing ≡ e ∷ es
      is = sym entries ∙ first

      from : NoneBefore e.0 es
      from = All-weaker (λ (f : Timed N). IsLtBy turn_cmp e.0 f.0) (λ (f : Timed N). is_gt (turn_cmp e.0 f.0) ≡ false) (λ f less. ap is_gt less) es (entries_from (IsLtBy turn_cmp e.0) es above)

      deadline : soonest t ≡ Some e.0.0
      deadline = ap (λ fs. option_map (λ (f : Timed N). f.0.0) (earliest fs)) is ∙ ap (option_map (λ (f : Timed N). f.0.0)) (earliest-first e es from)

      come : e.0.0 ≤ now
      come = let same : d ≡ e.0.0 = cc (soon, deadline) in omega arith

      next : next_due now t ≡ Some e
      next = ap (λ fs. earliest (filter (is_due now) fs)) is ∙ next_due-first now e es from come

      out : remove_entry (is_at (turn_cmp e.0)) t.standing ≡ es
      out = ap (remove_entry (is_at (turn_cmp e.0))) is ∙ without-first e es

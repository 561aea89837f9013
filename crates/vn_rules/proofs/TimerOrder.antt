-- The earliest of a stack's timers, and the least deadline of several stacks: what the definitions mean.
use Rattle.std.proofs.Common.{◌≡◌, ℕ, zero, suc, ◌<◌, ◌≤◌, ◌⊎◌, inl, inr, Bool, true, false, cond, List, [], ◌∷◌, length, Option, Some, None, min, refl, sym, ap, ◌∙◌, ⊎_elim, arith}
use Rattle.std.specs.List.{All, Any, Contains, AllByRecursion, filter, slice_index_or}
use Rattle.std.specs.Option.{MatchOption, IfSome, IfNone, option_map}
use Rattle.std.specs.Ordering.{is_lt, is_gt, ordering_reverse}
use Rattle.std.specs.declared.cmp.Ordering.{Ordering}
use Rattle.std.specs.declared.cmp.Ordering.TheVariants.{Less, Equal, Greater}
use Rattle.std.specs.Cmp.{IsTotalOrder, nat_cmp_total, on_total, tied_itself}
use Rattle.std.specs.Map.{remove_entry}
use Rattle.std.specs.BTreeMap.{is_at}
use Rattle.std.proofs.lemmas.Cmp.{then_total}
use Rattle.std.proofs.lemmas.Bool.{leb-true, leb-false, lt-leb, le-leb, false≢true, false_from_ne_true, cases_lt}
use Rattle.std.proofs.lemmas.Bool.Decides.{nat_tests}
use Rattle.std.proofs.lemmas.List.Elements.{All-from_recursion, recursion_from_All, All-nil, All-cons, All-weaker, All-contains, All-filter, All-contains_itself, filter_passes, Contains-append_left, Contains-append_right}
use Rattle.vn_rules.specs.declared.timer.TimersOf.{TimersOf}
use Rattle.vn_rules.specs.Timers.{Turn, turn_cmp, IsNotAfter, Timed, earlier, earliest, is_due, next_due, due, soonest, lesser, least, no_timers, IsFirstDue}

-- ---- the order of turns

pub turn_cmp_total : IsTotalOrder turn_cmp
turn_cmp_total = then_total (on_total (λ (a : Turn). a.0) nat_cmp_total) (on_total (λ (a : Turn). a.1) nat_cmp_total)

IsNotAfter-from_lt : (a b : Turn) → is_lt (turn_cmp a b) ≡ true → IsNotAfter a b
IsNotAfter-from_lt a b less = by a.0 a.1 b.0 b.1 less
  where
    by : (x m y n : ℕ) → is_lt (turn_cmp (x, m) (y, n)) ≡ true → IsNotAfter (x, m) (y, n)
    by x m y n less = grind (arith, nat_tests)

IsNotAfter-from_not_lt : (a b : Turn) → is_lt (turn_cmp b a) ≡ false → IsNotAfter a b
IsNotAfter-from_not_lt a b not_less = by a.0 a.1 b.0 b.1 not_less
  where
    by : (x m y n : ℕ) → is_lt (turn_cmp (y, n) (x, m)) ≡ false → IsNotAfter (x, m) (y, n)
    by x m y n not_less = grind (arith, nat_tests)

IsNotAfter-trans : (a b c : Turn) → IsNotAfter a b → IsNotAfter b c → IsNotAfter a c
IsNotAfter-trans a b c (inl p) (inl q) = inl (omega arith)
IsNotAfter-trans a b c (inl p) (inr q) = inl (omega arith)
IsNotAfter-trans a b c (inr p) (inl q) = inl (omega arith)
IsNotAfter-trans a b c (inr p) (inr q) = inr (omega arith, omega arith)

IsNotAfter-itself : (a : Turn) → IsNotAfter a a
IsNotAfter-itself a = inr (refl, omega arith)

-- ---- what holds of each element that a test keeps, where the list is read by recursion

module _ {X : Type 0} (p : X → Bool) (P : X → Type 0) where
  pub unfiltered : (xs : List X) → AllByRecursion P (filter p xs) → AllByRecursion (λ x. p x ≡ true → P x) xs
  unfiltered [] all = tt
  unfiltered (x ∷ xs) all = by (p x) refl all (unfiltered xs)
    where
      by : (b : Bool) → p x ≡ b → AllByRecursion P (cond b (x ∷ filter p xs) (filter p xs)) → (AllByRecursion P (filter p xs) → AllByRecursion (λ x. p x ≡ true → P x) xs) → (p x ≡ true → P x) × AllByRecursion (λ x. p x ≡ true → P x) xs
      by true passes all more = (λ _. all.0, more all.1)
      by false fails all more = (λ passes. absurd (false≢true (sym fails ∙ passes)), more all)

-- the first of a list is in it
pub Contains-first : {X : Type 0} (x : X) (xs : List X) → Contains (x ∷ xs) x
Contains-first x xs = Contains-append_left (x ∷ []) xs x (0, omega arith, refl)

pub none_kept : {X : Type 0} (p : X → Bool) (xs : List X) → AllByRecursion (λ x. p x ≡ false) xs → filter p xs ≡ []
none_kept p [] none = refl
none_kept p (x ∷ xs) none = rw none.0 (none_kept p xs none.1)

-- ---- the earliest of a list

module _ {N : Type 0} where
  -- e is in the list, and nothing of the list is before it
  record IsEarliest (es : List (Timed N)) (e : Timed N) : Type 0 where
    stands : Contains es e
    is_first : All (λ (f : Timed N). IsNotAfter e.0 f.0) es

  earliest-is : (es : List (Timed N)) → MatchOption (earliest es) (es ≡ []) (IsEarliest es)
  earliest-is [] = refl
  earliest-is (e ∷ es) = by (earliest es) (earliest-is es)
    where
      by_test : (f : Timed N) → IsEarliest es f → (b : Bool) → is_lt (turn_cmp f.0 e.0) ≡ b → IsEarliest (e ∷ es) (cond b f e)
      by_test f is true less = record {
        stands = Contains-append_right (e ∷ []) es f is.stands;
        is_first = All-cons (λ (g : Timed N). IsNotAfter f.0 g.0) e es (IsNotAfter-from_lt f.0 e.0 less) is.is_first;
      }
      by_test f is false not_less = record {
        stands = Contains-first e es;
        is_first = All-cons (λ (g : Timed N). IsNotAfter e.0 g.0) e es (IsNotAfter-itself e.0)
            (All-weaker (λ (g : Timed N). IsNotAfter f.0 g.0) (λ (g : Timed N). IsNotAfter e.0 g.0) (λ g. IsNotAfter-trans e.0 f.0 g.0 (IsNotAfter-from_not_lt e.0 f.0 not_less)) es is.is_first);
      }

      by : (o : Option (Timed N)) → MatchOption o (es ≡ []) (IsEarliest es) → IsEarliest (e ∷ es) (earlier e o)
      by None none = record {
        stands = Contains-first e es;
        is_first = All-cons (λ (g : Timed N). IsNotAfter e.0 g.0) e es (IsNotAfter-itself e.0) (rw none (All-nil (λ (g : Timed N). IsNotAfter e.0 g.0)));
      }
      by (Some f) is = by_test f is (is_lt (turn_cmp f.0 e.0)) refl

  -- ---- what is due

  pub due-first : (now : ℕ) (t : TimersOf N) → IfSome (due now t) (IsFirstDue now t)
  due-first now t = by (next_due now t) (earliest-is (filter (is_due now) t.standing))
    where
      by : (o : Option (Timed N)) → MatchOption o (filter (is_due now) t.standing ≡ []) (IsEarliest (filter (is_due now) t.standing)) → IfSome (option_map (λ (e : Timed N). e.1) o) (IsFirstDue now t)
      by None none = tt
      by (Some e) is = record {
        at = e.0;
        stands = All-contains (Contains t.standing) _ e (All-filter (is_due now) (Contains t.standing) t.standing (All-contains_itself t.standing)) is.stands;
        has_come = leb-true e.0.0 now (All-contains (λ (f : Timed N). is_due now f ≡ true) _ e (filter_passes (is_due now) t.standing) is.stands);
        is_first = All-weaker (λ (f : Timed N). is_due now f ≡ true → IsNotAfter e.0 f.0) (λ (f : Timed N). f.0.0 ≤ now → IsNotAfter e.0 f.0) (λ f first le. first (le-leb f.0.0 now le)) t.standing
            (All-from_recursion _ t.standing (unfiltered (is_due now) (λ (f : Timed N). IsNotAfter e.0 f.0) t.standing (recursion_from_All _ _ is.is_first)));
      }

  pub due-none : (now : ℕ) (t : TimersOf N) → IfNone (due now t) (All (λ (e : Timed N). now < e.0.0) t.standing)
  due-none now t = by (next_due now t) (earliest-is (filter (is_due now) t.standing))
    where
      by : (o : Option (Timed N)) → MatchOption o (filter (is_due now) t.standing ≡ []) (IsEarliest (filter (is_due now) t.standing)) → IfNone (option_map (λ (e : Timed N). e.1) o) (All (λ (e : Timed N). now < e.0.0) t.standing)
      by (Some e) is = tt
      by None none = All-weaker (λ (f : Timed N). is_due now f ≡ true → ⊥) (λ (f : Timed N). now < f.0.0) (λ f late. leb-false f.0.0 now (false_from_ne_true (is_due now f) late)) t.standing
          (All-from_recursion _ t.standing (unfiltered (is_due now) (λ _. ⊥) t.standing (rw none tt)))

  -- ---- a list that begins with its earliest

  -- none of the list is before a
  abbrev pub NoneBefore : Turn → List (Timed N) → Type 0
  NoneBefore a es = All (λ (e : Timed N). is_gt (turn_cmp a e.0) ≡ false) es

  earliest-from : (a : Turn) (es : List (Timed N)) → AllByRecursion (λ (e : Timed N). is_gt (turn_cmp a e.0) ≡ false) es → IfSome (earliest es) (λ e. is_gt (turn_cmp a e.0) ≡ false)
  earliest-from a [] from = tt
  earliest-from a (e ∷ es) from = by (earliest es) (earliest-from a es from.1)
    where
      by_test : (f : Timed N) → is_gt (turn_cmp a f.0) ≡ false → (b : Bool) → is_gt (turn_cmp a (cond b f e).0) ≡ false
      by_test f not_after true = not_after
      by_test f not_after false = from.0

      by : (o : Option (Timed N)) → IfSome o (λ f. is_gt (turn_cmp a f.0) ≡ false) → is_gt (turn_cmp a (earlier e o).0) ≡ false
      by None more = from.0
      by (Some f) more = by_test f more (is_lt (turn_cmp f.0 e.0))

  pub earliest-first : (e : Timed N) (es : List (Timed N)) → NoneBefore e.0 es → earliest (e ∷ es) ≡ Some e
  earliest-first e es from = ap Some (by (earliest es) (earliest-from e.0 es (recursion_from_All _ es from)))
    where
      turned : (o : Ordering) → is_gt o ≡ false → is_lt (ordering_reverse o) ≡ false
      turned Less not_greater = refl
      turned Equal not_greater = refl
      turned Greater not_greater = not_greater

      by : (o : Option (Timed N)) → IfSome o (λ f. is_gt (turn_cmp e.0 f.0) ≡ false) → earlier e o ≡ e
      by None more = refl
      by (Some f) more = rw (ap is_lt (turn_cmp_total.antisymm f.0 e.0) ∙ turned (turn_cmp e.0 f.0) more) refl

  -- the first is next, where it is due
  pub next_due-first : (now : ℕ) (e : Timed N) (es : List (Timed N)) → NoneBefore e.0 es → e.0.0 ≤ now → earliest (filter (is_due now) (e ∷ es)) ≡ Some e
  next_due-first now e es from le = rw (le-leb e.0.0 now le) (earliest-first e (filter (is_due now) es) (All-filter (is_due now) (λ (f : Timed N). is_gt (turn_cmp e.0 f.0) ≡ false) es from))

  pub without-first : (e : Timed N) (es : List (Timed N)) → remove_entry (is_at (turn_cmp e.0)) (e ∷ es) ≡ es
  without-first e es = rw (tied_itself turn_cmp_total e.0) refl

  -- ---- the least deadline, of a stack and of several

  -- no timer stands, or the number is a standing timer's deadline and no deadline is less
  record IsSoonest (es : List (Timed N)) (d : ℕ) : Type 0 where
    met : Any (λ (e : Timed N). e.0.0 ≡ d) es
    bound : All (λ (e : Timed N). d ≤ e.0.0) es

  soonest-is : (t : TimersOf N) → MatchOption (soonest t) (t.standing ≡ []) (IsSoonest t.standing)
  soonest-is t = by (earliest t.standing) (earliest-is t.standing)
    where
      le : (a b : Turn) → IsNotAfter a b → a.0 ≤ b.0
      le a b (inl less) = omega arith
      le a b (inr same) = omega arith

      by : (o : Option (Timed N)) → MatchOption o (t.standing ≡ []) (IsEarliest t.standing) → MatchOption (option_map (λ (e : Timed N). e.0.0) o) (t.standing ≡ []) (IsSoonest t.standing)
      by None none = none
      by (Some e) is = record {
        met = (is.stands.0, e, is.stands.1, is.stands.2, refl);
        bound = All-weaker (λ (f : Timed N). IsNotAfter e.0 f.0) (λ (f : Timed N). e.0.0 ≤ f.0.0) (λ f. le e.0 f.0) t.standing is.is_first;
      }

  -- before the least deadline nothing is due
  pub next_due-none : (now : ℕ) (t : TimersOf N) → IfSome (soonest t) (λ d. now < d) → next_due now t ≡ None
  next_due-none now t later = by (soonest t) (soonest-is t) later
    where
      late : (d : ℕ) → now < d → IsSoonest t.standing d → All (λ (e : Timed N). is_due now e ≡ false) t.standing
      late d less is = All-weaker (λ (e : Timed N). d ≤ e.0.0) (λ (e : Timed N). is_due now e ≡ false) (λ e le. lt-leb e.0.0 now (omega arith)) t.standing is.bound

      by : (o : Option ℕ) → MatchOption o (t.standing ≡ []) (IsSoonest t.standing) → IfSome o (λ d. now < d) → next_due now t ≡ None
      by None none later = rw none refl
      by (Some d) is later = rw (none_kept (is_due now) t.standing (recursion_from_All _ _ (late d later is))) refl

  -- what a list of stacks has at a number
  abbrev pub stack_at : List (TimersOf N) → ℕ → TimersOf N
  stack_at ts q = slice_index_or ts q no_timers

  -- the number is the deadline of a timer of some stack, and no deadline of any stack is less
  pub record IsLeast (ts : List (TimersOf N)) (d : ℕ) : Type 0 where
    pub met : (q : ℕ) × Any (λ (e : Timed N). e.0.0 ≡ d) (stack_at ts q).standing
    pub bound : (q : ℕ) → All (λ (e : Timed N). d ≤ e.0.0) (stack_at ts q).standing

  pub least-is : (ts : List (TimersOf N)) → MatchOption (least ts) ((q : ℕ) → (stack_at ts q).standing ≡ []) (IsLeast ts)
  least-is [] = λ q. refl
  least-is (t ∷ ts) = by (soonest t) (least ts) (soonest-is t) (least-is ts)
    where
      at_least : (d c : ℕ) (es : List (Timed N)) → d ≤ c → All (λ (e : Timed N). c ≤ e.0.0) es → All (λ (e : Timed N). d ≤ e.0.0) es
      at_least d c es le all = All-weaker (λ (e : Timed N). c ≤ e.0.0) (λ (e : Timed N). d ≤ e.0.0) (λ e more. omega arith) es all

      empty : (d : ℕ) (es : List (Timed N)) → es ≡ [] → All (λ (e : Timed N). d ≤ e.0.0) es
      empty d es none = rw none (All-nil (λ (e : Timed N). d ≤ e.0.0))

      none_at : t.standing ≡ [] → ((q : ℕ) → (stack_at ts q).standing ≡ []) → (q : ℕ) → (stack_at (t ∷ ts) q).standing ≡ []
      none_at here there zero = here
      none_at here there (suc q) = there q

      bound_at : (d : ℕ) → All (λ (e : Timed N). d ≤ e.0.0) t.standing → ((q : ℕ) → All (λ (e : Timed N). d ≤ e.0.0) (stack_at ts q).standing) → (q : ℕ) → All (λ (e : Timed N). d ≤ e.0.0) (stack_at (t ∷ ts) q).standing
      bound_at d here there zero = here
      bound_at d here there (suc q) = there q

      met_later : (d : ℕ) → (q : ℕ) × Any (λ (e : Timed N). e.0.0 ≡ d) (stack_at ts q).standing → (q : ℕ) × Any (λ (e : Timed N). e.0.0 ≡ d) (stack_at (t ∷ ts) q).standing
      met_later d m = (suc m.0, m.1)

      both : (c d : ℕ) → IsSoonest t.standing c → IsLeast ts d → IsLeast (t ∷ ts) (min c d)
      both c d here there = ⊎_elim
          (λ (less : c < d). let same : min c d ≡ c = omega arith in rw same (record { met = (zero, here.met); bound = bound_at c here.bound (λ q. at_least c d _ (omega arith) (there.bound q)) }))
          (λ (le : d ≤ c). let same : min c d ≡ d = omega arith in rw same (record { met = met_later d there.met; bound = bound_at d (at_least d c _ le here.bound) there.bound }))
          (cases_lt c d)

      by : (o p : Option ℕ) → MatchOption o (t.standing ≡ []) (IsSoonest t.standing) → MatchOption p ((q : ℕ) → (stack_at ts q).standing ≡ []) (IsLeast ts) → MatchOption (lesser o p) ((q : ℕ) → (stack_at (t ∷ ts) q).standing ≡ []) (IsLeast (t ∷ ts))
      by None None here there = none_at here there
      by None (Some d) here there = record { met = met_later d there.met; bound = bound_at d (empty d t.standing here) there.bound }
      by (Some c) None here there = record { met = (zero, here.met); bound = bound_at c here.bound (λ q. empty c _ (there q)) }
      by (Some c) (Some d) here there = both c d here there

  pub least-met : (ts : List (TimersOf N)) → IfSome (least ts) (λ d. (q : ℕ) × Any (λ (e : Timed N). e.0.0 ≡ d) (stack_at ts q).standing)
  least-met ts = by (least ts) (least-is ts)
    where
      by : (o : Option ℕ) → MatchOption o ((q : ℕ) → (stack_at ts q).standing ≡ []) (IsLeast ts) → IfSome o (λ d. (q : ℕ) × Any (λ (e : Timed N). e.0.0 ≡ d) (stack_at ts q).standing)
      by None none = tt
      by (Some d) is = is.met

  pub least-bound : (ts : List (TimersOf N)) → IfSome (least ts) (λ d. (q : ℕ) → All (λ (e : Timed N). d ≤ e.0.0) (stack_at ts q).standing)
  least-bound ts = by (least ts) (least-is ts)
    where
      by : (o : Option ℕ) → MatchOption o ((q : ℕ) → (stack_at ts q).standing ≡ []) (IsLeast ts) → IfSome o (λ d. (q : ℕ) → All (λ (e : Timed N). d ≤ e.0.0) (stack_at ts q).standing)
      by None none = tt
      by (Some d) is = is.bound

  pub least-none : (ts : List (TimersOf N)) → IfNone (least ts) ((q : ℕ) → (stack_at ts q).standing ≡ [])
  least-none ts = by (least ts) (least-is ts)
    where
      by : (o : Option ℕ) → MatchOption o ((q : ℕ) → (stack_at ts q).standing ≡ []) (IsLeast ts) → IfNone o ((q : ℕ) → (stack_at ts q).standing ≡ [])
      by None none = none
      by (Some d) is = tt

  -- each stack of the second list that has timers is one of the first
  pub record Covers (ps qs : List (TimersOf N)) : Type 0 where
    pub found : (q : ℕ) → ((stack_at qs q).standing ≡ []) ⊎ ((p : ℕ) × (stack_at ps p ≡ stack_at qs q))

  met_bound : (c d : ℕ) (es : List (Timed N)) → Any (λ (e : Timed N). e.0.0 ≡ d) es → All (λ (e : Timed N). c ≤ e.0.0) es → c ≤ d
  met_bound c d es met all =
      let le : c ≤ met.1.0.0 = All-contains (λ (e : Timed N). c ≤ e.0.0) es met.1 all (met.0, met.2, met.3) in
      let same : met.1.0.0 ≡ d = met.4 in
      omega arith

  none_met : (d : ℕ) (es : List (Timed N)) → es ≡ [] → Any (λ (e : Timed N). e.0.0 ≡ d) es → ⊥
  none_met d es none met = let in' : met.0 < length es = met.2 in let zero : length es ≡ 0 = ap length none in absurd (omega arith)

  no_less : (ps qs : List (TimersOf N)) → Covers ps qs → (c d : ℕ) → ((p : ℕ) → All (λ (e : Timed N). c ≤ e.0.0) (stack_at ps p).standing) → IsLeast qs d → c ≤ d
  no_less ps qs covers c d bound least = ⊎_elim
      (λ (none : (stack_at qs least.met.0).standing ≡ []). absurd (none_met d _ none least.met.1))
      (λ (found : (p : ℕ) × (stack_at ps p ≡ stack_at qs least.met.0)). met_bound c d _ least.met.1 (rw (← ap (λ (t : TimersOf N). t.standing) found.1) (bound found.0)))
      (covers.found least.met.0)

  not_none : (ps qs : List (TimersOf N)) → Covers ps qs → (d : ℕ) → ((p : ℕ) → (stack_at ps p).standing ≡ []) → IsLeast qs d → ⊥
  not_none ps qs covers d none least = ⊎_elim
      (λ (none' : (stack_at qs least.met.0).standing ≡ []). none_met d _ none' least.met.1)
      (λ (found : (p : ℕ) × (stack_at ps p ≡ stack_at qs least.met.0)). none_met d _ (sym (ap (λ (t : TimersOf N). t.standing) found.1) ∙ none found.0) least.met.1)
      (covers.found least.met.0)

  -- lists of stacks with the same timers have one least deadline
  pub least-same : (ts us : List (TimersOf N)) → Covers ts us → Covers us ts → least ts ≡ least us
  least-same ts us forth back = by (least ts) (least us) (least-is ts) (least-is us)
    where
      by : (o p : Option ℕ) → MatchOption o ((q : ℕ) → (stack_at ts q).standing ≡ []) (IsLeast ts) → MatchOption p ((q : ℕ) → (stack_at us q).standing ≡ []) (IsLeast us) → o ≡ p
      by None None first second = refl
      by None (Some d) first second = absurd (not_none ts us forth d first second)
      by (Some c) None first second = absurd (not_none us ts back c second first)
      by (Some c) (Some d) first second =
          let le : c ≤ d = no_less ts us forth c d first.bound second in
          let ge : d ≤ c = no_less us ts back d c second.bound first in
          let same : c ≡ d = omega arith in ap Some same

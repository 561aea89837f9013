-- The first awaited ping that passes a test comes to its end: it is the one with its arm number, and its timer is that of the number.
use Rattle.std.proofs.Common.{◌≡◌, ℕ, Bool, true, false, cond, not, ◌&&◌, ◌||◌, ◌==◌, List, [], ◌∷◌, Some, refl, sym, ap, ◌∙◌}
use Rattle.std.specs.List.{list_any, filter, find}
use Rattle.std.proofs.lemmas.Bool.{and_parts, and_from, or_right, both_ways, not-true, false_from_ne_true, false≢true, eqb-true, eq-eqb}
use Rattle.vn_types.proofs.Options.{none_some, some_same}
use Rattle.vn_rules.specs.declared.ping.PingOf.{PingOf}
use Rattle.vn_rules.specs.declared.parts.PartsOf.{PartsOf}
use Rattle.vn_rules.specs.Orders.{are_distinct}
use Rattle.vn_rules.specs.Pings.{is_timed_by, without_first, after_first, without_pings, without_ping}
use Rattle.vn_rules.specs.Soundness.{has_distinct_arms}
use Rattle.vn_rules.specs.Timers.{Timed, without_timer}
use Rattle.vn_rules.proofs.Kept.{any_weaker}
use Rattle.vn_rules.proofs.ListTests.{all_kept}

module _ {N : Type 0} (test : PingOf N → Bool) (g : PingOf N) where
  abbrev apart : PingOf N → Bool
  apart x = not (is_timed_by g.arm x)

  flip : (m n : ℕ) → (m == n) ≡ (n == m)
  flip m n = by (m == n) (n == m) refl refl
    where
      by : (b c : Bool) → (m == n) ≡ b → (n == m) ≡ c → b ≡ c
      by true true e f = refl
      by false false e f = refl
      by true false e f = sym (eq-eqb n m (sym (eqb-true m n e))) ∙ f
      by false true e f = sym e ∙ eq-eqb m n (sym (eqb-true n m f))

  -- what is found is in the list
  found_in : (gs : List (PingOf N)) → find test gs ≡ Some g → list_any (is_timed_by g.arm) gs ≡ true
  found_in [] found = absurd (none_some g found)
  found_in (x ∷ gs) found = by (test x) found (found_in gs)
    where
      here : x ≡ g → (x.arm == g.arm) || list_any (is_timed_by g.arm) gs ≡ true
      here same = ap (λ b. b || list_any (is_timed_by g.arm) gs) (eq-eqb x.arm g.arm (ap (λ (y : PingOf N). y.arm) same))

      by : (b : Bool) → cond b (Some x) (find test gs) ≡ Some g → (find test gs ≡ Some g → list_any (is_timed_by g.arm) gs ≡ true) → (x.arm == g.arm) || list_any (is_timed_by g.arm) gs ≡ true
      by true found more = here (some_same x g found)
      by false found more = or_right (x.arm == g.arm) (list_any (is_timed_by g.arm) gs) (more found)

  without_first-one : (gs : List (PingOf N)) → are_distinct (λ (a : PingOf N) (b : PingOf N). a.arm == b.arm) gs ≡ true → find test gs ≡ Some g → without_first test gs ≡ filter apart gs
  without_first-one [] distinct found = refl
  without_first-one (x ∷ gs) distinct found = by (test x) found (without_first-one gs parts.1)
    where
      parts : (not (list_any (λ (b : PingOf N). x.arm == b.arm) gs) ≡ true) × (are_distinct (λ (a : PingOf N) (b : PingOf N). a.arm == b.arm) gs ≡ true)
      parts = and_parts _ _ distinct

      others : x ≡ g → list_any (is_timed_by g.arm) gs ≡ false
      others same = (λ i. list_any (λ (b : PingOf N). flip b.arm ((sym same i).arm) i) gs) ∙ not-true _ parts.0

      first : x ≡ g → gs ≡ cond (apart x) (x ∷ filter apart gs) (filter apart gs)
      first same = sym (all_kept (is_timed_by g.arm) gs (others same)) ∙ sym (ap (λ b. cond (not b) (x ∷ filter apart gs) (filter apart gs)) (eq-eqb x.arm g.arm (ap (λ (y : PingOf N). y.arm) same)))

      later : find test gs ≡ Some g → (x.arm == g.arm) ≡ false
      later found = false_from_ne_true _ (λ is. both_ways (list_any (λ (b : PingOf N). x.arm == b.arm) gs) (not-true _ parts.0)
          (any_weaker (is_timed_by g.arm) (λ (b : PingOf N). x.arm == b.arm) gs (λ b at. eq-eqb x.arm b.arm (eqb-true x.arm g.arm is ∙ sym (eqb-true b.arm g.arm at))) (found_in gs found)))

      by : (b : Bool) → cond b (Some x) (find test gs) ≡ Some g → (find test gs ≡ Some g → without_first test gs ≡ filter apart gs)
          → cond b gs (x ∷ without_first test gs) ≡ cond (apart x) (x ∷ filter apart gs) (filter apart gs)
      by true found more = first (some_same x g found)
      by false found more = ap (λ rest. x ∷ rest) (more found) ∙ sym (ap (λ b. cond (not b) (x ∷ filter apart gs) (filter apart gs)) (later found))

  module _ (p : PartsOf N) (found : find test p.pings.awaited ≡ Some g) where
    -- the first that passes is the one with its arm number
    pub after_first-ended : has_distinct_arms p.pings.awaited ≡ true → after_first test p.pings ≡ (without_ping g p).pings
    unfolding without_pings has_distinct_arms
    after_first-ended distinct i = record p.pings { awaited = without_first-one p.pings.awaited distinct found i }

    armed : (n : ℕ) (gs : List (PingOf N)) → list_any (is_timed_by g.arm) gs ≡ true → list_any (λ (x : PingOf N). is_timed_by g.arm x && (n == x.arm)) gs ≡ (n == g.arm)
    armed n gs any = by (n == g.arm) refl
      where
        yes : (n == g.arm) ≡ true → (x : PingOf N) → is_timed_by g.arm x ≡ true → (is_timed_by g.arm x && (n == x.arm)) ≡ true
        yes is x at = and_from _ _ at (eq-eqb n x.arm (eqb-true n g.arm is ∙ sym (eqb-true x.arm g.arm at)))

        no : (n == g.arm) ≡ false → list_any (λ (x : PingOf N). is_timed_by g.arm x && (n == x.arm)) gs ≡ true → ⊥
        no is found = none gs found
          where
            none : (xs : List (PingOf N)) → list_any (λ (x : PingOf N). is_timed_by g.arm x && (n == x.arm)) xs ≡ true → ⊥
            none [] found = false≢true found
            none (x ∷ xs) found = at (is_timed_by g.arm x && (n == x.arm)) refl found (none xs)
              where
                at : (b : Bool) → (is_timed_by g.arm x && (n == x.arm)) ≡ b → b || list_any (λ (x : PingOf N). is_timed_by g.arm x && (n == x.arm)) xs ≡ true
                    → (list_any (λ (x : PingOf N). is_timed_by g.arm x && (n == x.arm)) xs ≡ true → ⊥) → ⊥
                at true both found more = let parts = and_parts (is_timed_by g.arm x) (n == x.arm) both in
                    both_ways (n == g.arm) is (eq-eqb n g.arm (eqb-true n x.arm parts.1 ∙ eqb-true x.arm g.arm parts.0))
                at false neither found more = more found

        by : (b : Bool) → (n == g.arm) ≡ b → list_any (λ (x : PingOf N). is_timed_by g.arm x && (n == x.arm)) gs ≡ b
        by true is = any_weaker (is_timed_by g.arm) (λ (x : PingOf N). is_timed_by g.arm x && (n == x.arm)) gs (yes is) any
        by false is = false_from_ne_true _ (no is)

    -- and its timer is the one with that number
    pub without_timer-ended : (without_ping g p).timers ≡ without_timer g.arm p.timers
    unfolding without_pings
    without_timer-ended i = record p.timers { standing = filter (λ (e : Timed N). not (armed e.0.1 p.pings.awaited (found_in p.pings.awaited found) i)) p.timers.standing }

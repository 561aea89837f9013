-- The timers that stand are those whose numbers are told, as timers are stopped and armed.
use Rattle.std.proofs.Common.{◌≡◌, ℕ, ◌<◌, ◌+◌, Bool, true, false, cond, not, ◌==◌, List, [], ◌∷◌, Option, Some, None, IfSome, refl, sym, ap, ap₂, subst, ◌∙◌, arith}
use Rattle.std.specs.Bool.{Decides}
use Rattle.std.specs.List.{All, AllByRecursion, list_any, filter, find}
use Rattle.std.specs.Ordering.{match_ordering}
use Rattle.std.specs.declared.cmp.Ordering.{Ordering}
use Rattle.std.specs.declared.cmp.Ordering.TheVariants.{Less, Equal, Greater}
use Rattle.std.specs.BTreeMap.{insert_entry}
use Rattle.std.proofs.lemmas.Bool.{and_parts, and_from, or_parts, or_from, not-true, not_from_false, both_ways, false_from_ne_true, eq-eqb, eqb-true}
use Rattle.std.proofs.lemmas.Bool.Decides.{nat_tests}
use Rattle.std.proofs.lemmas.List.Folds.{list_any_none}
use Rattle.std.proofs.lemmas.List.Elements.{All-from_recursion, recursion_from_All, All-filter, All-weaker, filter_passes}
use Rattle.vn_types.specs.declared.address.Ip4.{Ip4}
use Rattle.vn_rules.specs.declared.timer.TimerOf.{TimerOf}
use Rattle.vn_rules.specs.declared.timer.TimerOf.TheVariants.{Arp, Ping}
use Rattle.vn_rules.specs.declared.timer.TimersOf.{TimersOf}
use Rattle.vn_rules.specs.Arp.{is_timer_where, is_place, without_timers_where, without_timer_at}
use Rattle.vn_rules.specs.Orders.{are_distinct}
use Rattle.vn_rules.specs.Timers.{Turn, turn_cmp, Timed, after_arm, has_timer}
use Rattle.vn_rules.proofs.ArpPlaces.{place_from_test, test_from_place}
use Rattle.vn_rules.proofs.ListTests.{distinct_filter}
use Rattle.vn_arp.specs.Kept.{is_numbered, without_numbered, Tells}

-- ---- lists

module _ {A : Type 0} where
  -- what two facts say of each element
  pub all_by_both : (P Q R : A → Type 0) → ((x : A) → P x → Q x → R x) → (xs : List A) → AllByRecursion P xs → AllByRecursion Q xs → AllByRecursion R xs
  all_by_both P Q R then [] ps qs = ps
  all_by_both P Q R then (x ∷ xs) ps qs = (then x ps.0 qs.0, all_by_both P Q R then xs ps.1 qs.1)

  pub weaker : (P Q : A → Type 0) → ((x : A) → P x → Q x) → (xs : List A) → AllByRecursion P xs → AllByRecursion Q xs
  weaker P Q then [] ps = tt
  weaker P Q then (x ∷ xs) ps = (then x ps.0, weaker P Q then xs ps.1)

  pub all_from_none : (p : A → Bool) (xs : List A) → list_any p xs ≡ false → AllByRecursion (λ x. p x ≡ false) xs
  all_from_none p [] none = tt
  all_from_none p (x ∷ xs) none = let parts = or_parts (p x) _ none in (parts.0, all_from_none p xs parts.1)

  -- tests that agree on each element keep the same ones
  pub filter_alike : (p q : A → Bool) (xs : List A) → AllByRecursion (λ x. p x ≡ q x) xs → filter p xs ≡ filter q xs
  filter_alike p q [] alike = refl
  filter_alike p q (x ∷ xs) alike = ap₂ (λ (b : Bool) ys. cond b (x ∷ ys) ys) alike.0 (filter_alike p q xs alike.1)

  -- and find the same one
  pub find_alike : (p q : A → Bool) (xs : List A) → AllByRecursion (λ x. p x ≡ q x) xs → find p xs ≡ find q xs
  find_alike p q [] alike = refl
  find_alike p q (x ∷ xs) alike = ap₂ (λ (b : Bool) o. cond b (Some x) o) alike.0 (find_alike p q xs alike.1)

-- ---- a timer more

pub same_arm : (x m y n : ℕ) → turn_cmp (x, m) (y, n) ≡ Equal → n ≡ m
same_arm x m y n same = grind (arith, nat_tests)

pub given_later : (armed : ℕ) (o : Option ℕ) → IfSome o (λ arm. arm < armed) → IfSome o (λ arm. arm < armed + 1)
given_later armed None below = tt
given_later armed (Some arm) below = omega arith

module _ {N : Type 0} where
  -- what holds of each timer and of a new one with a number of its own
  pub all_inserted : (P : Timed N → Type 0) (at : Turn) (what : TimerOf N) (es : List (Timed N)) → list_any (λ (e : Timed N). e.0.1 == at.1) es ≡ false
      → AllByRecursion P es → P (at, what) → AllByRecursion P (insert_entry turn_cmp es at what)
  all_inserted P at what [] unused all here = (here, tt)
  all_inserted P at what (e ∷ es) unused all here =
      let parts = or_parts (e.0.1 == at.1) _ unused in by (turn_cmp at e.0) refl parts.0 (all_inserted P at what es parts.1 all.1 here)
    where
      by : (o : Ordering) → turn_cmp at e.0 ≡ o → (e.0.1 == at.1) ≡ false → AllByRecursion P (insert_entry turn_cmp es at what)
          → AllByRecursion P (match_ordering o ((at, what) ∷ e ∷ es) ((e.0, what) ∷ es) (e ∷ insert_entry turn_cmp es at what))
      by Less is other more = (here, all)
      by Equal is other more = absurd (both_ways _ other (eq-eqb e.0.1 at.1 (same_arm at.0 at.1 e.0.0 e.0.1 is)))
      by Greater is other more = (all.0, more)

  -- whether two timers have one number
  abbrev pub one_number : Timed N → Timed N → Bool
  one_number e f = e.0.1 == f.0.1

  -- the test reads the same from both sides
  other_number : (n : ℕ) (es : List (Timed N)) → AllByRecursion (λ (e : Timed N). (e.0.1 == n) ≡ false) es → list_any (λ (e : Timed N). n == e.0.1) es ≡ false
  other_number n [] others = refl
  other_number n (e ∷ es) others =
      or_from (n == e.0.1) _ (false_from_ne_true _ (λ same. both_ways _ others.0 (eq-eqb e.0.1 n (sym (eqb-true n e.0.1 same))))) (other_number n es others.1)

  -- a new one with a number of its own is apart from the others
  pub apart_inserted : (at : Turn) (what : TimerOf N) (es : List (Timed N)) → list_any (λ (e : Timed N). e.0.1 == at.1) es ≡ false
      → are_distinct one_number es ≡ true → are_distinct one_number (insert_entry turn_cmp es at what) ≡ true
  apart_inserted at what [] unused apart = refl
  apart_inserted at what (e ∷ es) unused apart =
      let test = or_parts (e.0.1 == at.1) _ unused in
      let parts = and_parts (not (list_any (one_number e) es)) _ apart in
      by (turn_cmp at e.0) refl test.0
      (all_inserted (λ (f : Timed N). one_number e f ≡ false) at what es test.1 (all_from_none (one_number e) es (not-true _ parts.0)) test.0)
      (apart_inserted at what es test.1 parts.1)
    where
      by : (o : Ordering) → turn_cmp at e.0 ≡ o → (e.0.1 == at.1) ≡ false → AllByRecursion (λ (f : Timed N). one_number e f ≡ false) (insert_entry turn_cmp es at what)
          → are_distinct one_number (insert_entry turn_cmp es at what) ≡ true
          → are_distinct one_number (match_ordering o ((at, what) ∷ e ∷ es) ((e.0, what) ∷ es) (e ∷ insert_entry turn_cmp es at what)) ≡ true
      by Less is other alone more =
          and_from _ _ (not_from_false _ (other_number at.1 (e ∷ es) (all_from_none (λ (f : Timed N). f.0.1 == at.1) (e ∷ es) unused))) apart
      by Equal is other alone more = absurd (both_ways _ other (eq-eqb e.0.1 at.1 (same_arm at.0 at.1 e.0.0 e.0.1 is)))
      by Greater is other alone more = and_from _ _ (not_from_false _ (list_any_none (one_number e) _ (All-from_recursion _ _ alone))) more

  -- a number that was given before is not the next one
  pub unnumbered : (armed : ℕ) (o : Option ℕ) → IfSome o (λ arm. arm < armed) → (e : Timed N) → e.0.1 ≡ armed → is_numbered o e ≡ false
  unnumbered armed None below e is = refl
  unnumbered armed (Some arm) below e is = false_from_ne_true _ (λ equal. let one : e.0.1 ≡ arm = eqb-true e.0.1 arm equal in absurd (omega arith))

  -- where no number is kept, no timer is stopped
  pub none-stopped : (t : TimersOf N) → t ≡ without_numbered None t
  none-stopped t = λ i. record { armed = t.armed; standing = sym (by t.standing) i }
    where
      by : (es : List (Timed N)) → filter (λ (e : Timed N). not (is_numbered None e)) es ≡ es
      by [] = refl
      by (e ∷ es) = ap (λ rest. e ∷ rest) (by es)

module _ {N : Type 0} (same : N → N → Bool) (decides : (g h : N) → Decides (same g h) (g ≡ h)) where
  -- ---- two places

  -- the test of a place reads the same from both sides
  pub place_turned : (half : N) (ip : Ip4) (own : N) (at : Ip4) → is_place same own at half ip ≡ is_place same half ip own at
  place_turned half ip own at = by (is_place same own at half ip) (is_place same half ip own at) refl refl
    where
      turned : (g : N) (a : Ip4) (h : N) (b : Ip4) → is_place same g a h b ≡ true → is_place same h b g a ≡ true
      turned g a h b is =
          let there = place_from_test same decides g a h b is in
          test_from_place same decides h b g a (record { halves = sym there.halves; addresses = sym there.addresses })

      by : (b c : Bool) → is_place same own at half ip ≡ b → is_place same half ip own at ≡ c → b ≡ c
      by true true is so = refl
      by false false is so = refl
      by true false is so = absurd (both_ways _ so (turned own at half ip is))
      by false true is so = absurd (both_ways _ is (turned half ip own at so))

  -- a place is itself
  pub place_itself : (half : N) (ip : Ip4) → is_place same half ip half ip ≡ true
  place_itself half ip = test_from_place same decides half ip half ip (record { halves = refl; addresses = refl })

  -- the timers of one place are those of the other
  timers_there : (half : N) (ip : Ip4) (own : N) (at : Ip4) → is_place same half ip own at ≡ true → (what : TimerOf N)
      → is_timer_where (is_place same own at) what ≡ is_timer_where (is_place same half ip) what
  timers_there half ip own at is what =
      let there = place_from_test same decides half ip own at is in
      λ i. is_timer_where (is_place same (there.halves i) (there.addresses i)) what

  module _ (arms : N → Ip4 → Option ℕ) (t : TimersOf N) (known : Tells same arms t) where
    -- the same numbers, told another way
    pub told-alike : (others : N → Ip4 → Option ℕ) → ((own : N) (at : Ip4) → others own at ≡ arms own at) → Tells same others t
    told-alike others alike = record {
      tells = λ own at. subst (λ arm. All (λ (e : Timed N). is_timer_where (is_place same own at) e.1 ≡ is_numbered arm e) t.standing) (sym (alike own at)) (known.tells own at);
      given = λ own at. subst (λ arm. IfSome arm (λ arm. arm < t.armed)) (sym (alike own at)) (known.given own at);
      apart = known.apart;
    }

    -- where timers go whose numbers nobody keeps
    pub told-fewer : (keep : Timed N → Bool) → Tells same arms (record t { standing = filter keep t.standing })
    told-fewer keep = record {
      tells = λ own at. All-filter keep (λ (e : Timed N). is_timer_where (is_place same own at) e.1 ≡ is_numbered (arms own at) e) t.standing (known.tells own at);
      given = known.given;
      apart = distinct_filter keep one_number t.standing known.apart;
    }

    -- where no number is told, no timer stands
    pub none_there : (half : N) (ip : Ip4) → arms half ip ≡ None → All (λ (e : Timed N). is_timer_where (is_place same half ip) e.1 ≡ false) t.standing
    none_there half ip none = subst (λ arm. All (λ (e : Timed N). is_timer_where (is_place same half ip) e.1 ≡ is_numbered arm e) t.standing) none (known.tells half ip)

    -- to stop the timer of the number is to stop the timer there
    pub stopped-there : (half : N) (ip : Ip4) → without_numbered (arms half ip) t ≡ without_timer_at same half ip t
    stopped-there half ip = λ i. record {
      armed = t.armed;
      standing = filter_alike (λ (e : Timed N). not (is_numbered (arms half ip) e)) (λ (e : Timed N). not (is_timer_where (is_place same half ip) e.1)) t.standing
          (recursion_from_All (λ (e : Timed N). not (is_numbered (arms half ip) e) ≡ not (is_timer_where (is_place same half ip) e.1)) t.standing
          (All-weaker (λ (e : Timed N). is_timer_where (is_place same half ip) e.1 ≡ is_numbered (arms half ip) e) (λ (e : Timed N). not (is_numbered (arms half ip) e) ≡ not (is_timer_where (is_place same half ip) e.1)) (λ e is. ap not (sym is)) t.standing (known.tells half ip))) i;
    }

    -- the timers of some places go, and their numbers
    pub told-without : (gone : N → Ip4 → Bool) (others : N → Ip4 → Option ℕ) → ((own : N) (at : Ip4) → others own at ≡ cond (gone own at) None (arms own at))
        → Tells same others (without_timers_where gone t)
    told-without gone others left = stopped-where (λ (e : Timed N). not (is_timer_where gone e.1)) none_left
      where
        gone_there : (own : N) (at : Ip4) (what : TimerOf N) → is_timer_where (is_place same own at) what ≡ true → is_timer_where gone what ≡ gone own at
        gone_there own at (Arp g a) is = let there = place_from_test same decides own at g a is in λ i. gone (there.halves i) (there.addresses i)
        gone_there own at (Ping id arm) is = cc

        none_left : (own : N) (at : Ip4) → gone own at ≡ true → (e : Timed N) → not (is_timer_where gone e.1) ≡ true → is_timer_where (is_place same own at) e.1 ≡ false
        none_left own at goes e stays = false_from_ne_true _ (λ is. both_ways _ (ap not (gone_there own at e.1 is ∙ goes)) stays)

        -- whichever are kept, if none is kept of a place that goes
        stopped-where : (keep : Timed N → Bool) → ((own : N) (at : Ip4) → gone own at ≡ true → (e : Timed N) → keep e ≡ true → is_timer_where (is_place same own at) e.1 ≡ false)
            → Tells same others (record t { standing = filter keep t.standing })
        stopped-where keep none_left = record {
          tells = λ own at. All-from_recursion _ _ (at_place own at (gone own at) refl);
          given = λ own at. below own at (gone own at) (left own at);
          apart = distinct_filter keep one_number t.standing known.apart;
        }
          where
            at_place : (own : N) (at : Ip4) (b : Bool) → gone own at ≡ b → AllByRecursion (λ (e : Timed N). is_timer_where (is_place same own at) e.1 ≡ is_numbered (others own at) e) (filter keep t.standing)
            at_place own at true is =
                let none : others own at ≡ None = left own at ∙ ap (λ b. cond b None (arms own at)) is in
                subst (λ arm. AllByRecursion (λ (e : Timed N). is_timer_where (is_place same own at) e.1 ≡ is_numbered arm e) (filter keep t.standing)) (sym none)
                (recursion_from_All (λ (e : Timed N). is_timer_where (is_place same own at) e.1 ≡ false) _
                (All-weaker (λ (e : Timed N). keep e ≡ true) (λ (e : Timed N). is_timer_where (is_place same own at) e.1 ≡ false) (none_left own at is) _ (filter_passes keep t.standing)))
            at_place own at false is =
                let here : others own at ≡ arms own at = left own at ∙ ap (λ b. cond b None (arms own at)) is in
                subst (λ arm. AllByRecursion (λ (e : Timed N). is_timer_where (is_place same own at) e.1 ≡ is_numbered arm e) (filter keep t.standing)) (sym here)
                (recursion_from_All (λ (e : Timed N). is_timer_where (is_place same own at) e.1 ≡ is_numbered (arms own at) e) _
                (All-filter keep (λ (e : Timed N). is_timer_where (is_place same own at) e.1 ≡ is_numbered (arms own at) e) t.standing (known.tells own at)))

            below : (own : N) (at : Ip4) (b : Bool) → others own at ≡ cond b None (arms own at) → IfSome (others own at) (λ arm. arm < t.armed)
            below own at true is = subst (λ arm. IfSome arm (λ arm. arm < t.armed)) (sym is) tt
            below own at false is = subst (λ arm. IfSome arm (λ arm. arm < t.armed)) (sym is) (known.given own at)

    -- a timer is armed where none stands, and its number is told
    pub told-armed : (half : N) (ip : Ip4) (deadline : ℕ) (others : N → Ip4 → Option ℕ)
        → All (λ (e : Timed N). is_timer_where (is_place same half ip) e.1 ≡ false) t.standing → has_timer t.armed t ≡ false
        → ((own : N) (at : Ip4) → others own at ≡ cond (is_place same half ip own at) (Some t.armed) (arms own at))
        → Tells same others (after_arm deadline (Arp half ip) t)
    told-armed half ip deadline others none unused told = record {
      tells = λ own at. All-from_recursion _ _ (at_place own at (is_place same half ip own at) refl);
      given = λ own at. below own at (is_place same half ip own at) (told own at);
      apart = apart_inserted (deadline, t.armed) (Arp half ip) t.standing unused known.apart;
    }
      where
        IsTold : N → Ip4 → Option ℕ → Timed N → Type 0
        IsTold own at arm e = is_timer_where (is_place same own at) e.1 ≡ is_numbered arm e

        old : (own : N) (at : Ip4) (b : Bool) → is_place same half ip own at ≡ b → AllByRecursion (IsTold own at (cond b (Some t.armed) (arms own at))) t.standing
        old own at true is =
            all_by_both (λ (e : Timed N). is_timer_where (is_place same half ip) e.1 ≡ false) (λ (e : Timed N). (e.0.1 == t.armed) ≡ false) (IsTold own at (Some t.armed))
            (λ e apart other. timers_there half ip own at is e.1 ∙ apart ∙ sym other) t.standing
            (recursion_from_All (λ (e : Timed N). is_timer_where (is_place same half ip) e.1 ≡ false) t.standing none) (all_from_none (λ (e : Timed N). e.0.1 == t.armed) t.standing unused)
        old own at false is = recursion_from_All (IsTold own at (arms own at)) t.standing (known.tells own at)

        new : (own : N) (at : Ip4) (b : Bool) → is_place same half ip own at ≡ b → IsTold own at (cond b (Some t.armed) (arms own at)) ((deadline, t.armed), Arp half ip)
        new own at true is = place_turned half ip own at ∙ is ∙ sym (eq-eqb t.armed t.armed refl)
        new own at false is = place_turned half ip own at ∙ is ∙ sym (unnumbered t.armed (arms own at) (known.given own at) ((deadline, t.armed), Arp half ip) refl)

        at_place : (own : N) (at : Ip4) (b : Bool) → is_place same half ip own at ≡ b
            → AllByRecursion (IsTold own at (others own at)) (insert_entry turn_cmp t.standing (deadline, t.armed) (Arp half ip))
        at_place own at b is =
            let here : others own at ≡ cond b (Some t.armed) (arms own at) = told own at ∙ ap (λ b. cond b (Some t.armed) (arms own at)) is in
            subst (λ arm. AllByRecursion (IsTold own at arm) (insert_entry turn_cmp t.standing (deadline, t.armed) (Arp half ip))) (sym here)
            (all_inserted (IsTold own at (cond b (Some t.armed) (arms own at))) (deadline, t.armed) (Arp half ip) t.standing unused (old own at b is) (new own at b is))

        below : (own : N) (at : Ip4) (b : Bool) → others own at ≡ cond b (Some t.armed) (arms own at) → IfSome (others own at) (λ arm. arm < t.armed + 1)
        below own at true is = let next : t.armed < t.armed + 1 = omega arith in subst (λ arm. IfSome arm (λ arm. arm < t.armed + 1)) (sym is) next
        below own at false is = subst (λ arm. IfSome arm (λ arm. arm < t.armed + 1)) (sym is) (given_later t.armed (arms own at) (known.given own at))

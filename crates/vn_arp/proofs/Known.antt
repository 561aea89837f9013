-- What callers know of the entries' timers: at the start, and whatever else is done to the wheel.
use Rattle.std.proofs.Common.{◌≡◌, ℕ, Bool, true, false, cond, not, ◌==◌, ◌||◌, List, [], ◌∷◌, Option, Some, None, IfSome, refl, sym, ap, subst, ◌∙◌}
use Rattle.std.specs.Prelude.{IsSome}
use Rattle.std.specs.List.{All, AllByRecursion, list_any, filter, find}
use Rattle.std.specs.Option.{option_map, option_and_then}
use Rattle.std.specs.Ordering.{is_lt, is_eq}
use Rattle.std.specs.declared.cmp.Ordering.{Ordering}
use Rattle.std.specs.declared.cmp.Ordering.TheVariants.{Less, Equal, Greater}
use Rattle.std.specs.Map.{remove_entry}
use Rattle.std.specs.BTreeMap.{is_at}
use Rattle.std.specs.Cmp.{tied_itself}
use Rattle.std.proofs.lemmas.Bool.{and_parts, and_from, not-true, not_from_false, both_ways, false_from_ne_true, eq-eqb, eqb-true}
use Rattle.std.proofs.lemmas.List.{map-id}
use Rattle.std.proofs.lemmas.Map.Views.{All-map-remove_entry}
use Rattle.std.proofs.lemmas.List.Elements.{All-from_recursion, recursion_from_All, All-filter}
use Rattle.std.proofs.lemmas.List.Folds.{list_any_none}
use Rattle.vn_types.specs.declared.address.Ip4.{Ip4}
use Rattle.vn_types.specs.declared.interface.HalfId.{HalfId}
use Rattle.vn_types.specs.Interfaces.{half_id_eq}
use Rattle.vn_types.proofs.InterfaceNames.{half_id_eq-Decides}
use Rattle.vn_rules.specs.declared.timer.TimerOf.TheVariants.{Arp, Ping}
use Rattle.vn_rules.specs.declared.timer.TimersOf.{TimersOf}
use Rattle.vn_rules.specs.Arp.{entry_of, is_place, is_timer_where, timer_at}
use Rattle.vn_rules.specs.Orders.{are_distinct}
use Rattle.vn_rules.specs.Timers.{Turn, turn_cmp, Timed, no_timers, after_arm, has_timer, earlier, earliest, is_due, next_due, due, after_due, without_timed}
use Rattle.vn_rules.proofs.ListTests.{none_weaker}
use Rattle.vn_rules.proofs.TimerOrder.{turn_cmp_total}
use Rattle.vn_arp.specs.Kept.{KnowsArms, arm_of, entries_of, is_kept_at, is_numbered}
use Rattle.vn_arp.proofs.Edits.{Kept}
use Rattle.vn_arp.proofs.Numbers.{all_by_both, all_from_none, all_inserted, apart_inserted, given_later, one_number, place_itself, same_arm, told-fewer, unnumbered}
use Rattle.vn_arp.proofs.Rows.{entry_of-kept}

module _ {N : Type 0} where
  -- ---- the timer that is taken

  -- what holds of each timer holds of the first of those that are due
  all_earliest : (P : Timed N → Type 0) (es : List (Timed N)) → AllByRecursion P es → IfSome (earliest es) P
  all_earliest P [] all = tt
  all_earliest P (e ∷ es) all = by (earliest es) (all_earliest P es all.1)
    where
      by_test : (f : Timed N) → P f → (b : Bool) → P (cond b f e)
      by_test f here true = here
      by_test f here false = all.0

      by : (o : Option (Timed N)) → IfSome o P → P (earlier e o)
      by None here = all.0
      by (Some f) here = by_test f here (is_lt (turn_cmp f.0 e.0))

  all_taken : (P : Timed N → Type 0) (now : ℕ) (t : TimersOf N) → All P t.standing → (e : Timed N) → next_due now t ≡ Some e → P e
  all_taken P now t all e is = subst (λ o. IfSome o P) is (all_earliest P _ (recursion_from_All P _ (All-filter (is_due now) P t.standing all)))

  -- whether it has the turn of the one that is taken
  abbrev has_turn : Timed N → Timed N → Bool
  has_turn e f = is_at (turn_cmp e.0) f.0

  turn_number : (e f : Timed N) → has_turn e f ≡ true → f.0.1 ≡ e.0.1
  turn_number e f is = by (turn_cmp e.0 f.0) refl is
    where
      by : (o : Ordering) → turn_cmp e.0 f.0 ≡ o → is_eq o ≡ true → f.0.1 ≡ e.0.1
      by Less is here = cc
      by Equal is here = same_arm e.0.0 e.0.1 f.0.0 f.0.1 is
      by Greater is here = cc

  -- it is one of those that stand
  taken_stands : (now : ℕ) (t : TimersOf N) (e : Timed N) → next_due now t ≡ Some e → list_any (has_turn e) t.standing ≡ true
  taken_stands now t e is = by (list_any (has_turn e) t.standing) refl
    where
      itself : has_turn e e ≡ true
      itself = rw (tied_itself turn_cmp_total e.0) refl

      by : (b : Bool) → list_any (has_turn e) t.standing ≡ b → b ≡ true
      by true some = refl
      by false none =
          absurd (both_ways (has_turn e e) (all_taken (λ (f : Timed N). has_turn e f ≡ false) now t (All-from_recursion _ _ (all_from_none (has_turn e) t.standing none)) e is) itself)

  -- ---- those that are left

  all_left : (P : Timed N → Type 0) (test : Turn → Bool) (es : List (Timed N)) → All P es → All P (remove_entry test es)
  all_left P test es all = subst (All P) (map-id (remove_entry test es)) (All-map-remove_entry test (λ e. e) P es (subst (All P) (sym (map-id es)) all))

  apart_left : (test : Turn → Bool) (es : List (Timed N)) → are_distinct one_number es ≡ true → are_distinct one_number (remove_entry test es) ≡ true
  apart_left test [] apart = refl
  apart_left test (e ∷ es) apart = let parts = and_parts (not (list_any (one_number e) es)) _ apart in by (test e.0) parts.1 (not-true _ parts.0) (apart_left test es parts.1)
    where
      by : (b : Bool) → are_distinct one_number es ≡ true → list_any (one_number e) es ≡ false → are_distinct one_number (remove_entry test es) ≡ true
          → are_distinct one_number (cond b es (e ∷ remove_entry test es)) ≡ true
      by true apart alone rest = apart
      by false apart alone rest =
          and_from _ _ (not_from_false _ (list_any_none (one_number e) _ (all_left (λ (f : Timed N). one_number e f ≡ false) test es (All-from_recursion _ _ (all_from_none (one_number e) es alone))))) rest

  -- none of them has its number
  number_gone : (e : Timed N) (es : List (Timed N)) → are_distinct one_number es ≡ true → list_any (has_turn e) es ≡ true
      → AllByRecursion (λ (f : Timed N). (f.0.1 == e.0.1) ≡ false) (remove_entry (is_at (turn_cmp e.0)) es)
  number_gone e [] apart some = tt
  number_gone e (x ∷ es) apart some =
      let parts = and_parts (not (list_any (one_number x) es)) _ apart in by (has_turn e x) refl (not-true _ parts.0) some (number_gone e es parts.1)
    where
      HasOther : Timed N → Type 0
      HasOther f = (f.0.1 == e.0.1) ≡ false

      apart_from : (f : Timed N) → x.0.1 ≡ e.0.1 → one_number x f ≡ false → HasOther f
      apart_from f is alone = false_from_ne_true _ (λ same. both_ways _ alone (eq-eqb x.0.1 f.0.1 (is ∙ sym (eqb-true f.0.1 e.0.1 same))))

      by : (b : Bool) → has_turn e x ≡ b → list_any (one_number x) es ≡ false → (b || list_any (has_turn e) es) ≡ true
          → (list_any (has_turn e) es ≡ true → AllByRecursion HasOther (remove_entry (is_at (turn_cmp e.0)) es))
          → AllByRecursion HasOther (cond b es (x ∷ remove_entry (is_at (turn_cmp e.0)) es))
      by true is alone some more =
          let each = all_from_none (one_number x) es alone in
          all_by_both (λ f. one_number x f ≡ false) (λ f. one_number x f ≡ false) HasOther (λ f one _. apart_from f (turn_number e x is) one) es each each
      by false is alone some more =
          (false_from_ne_true _ (λ same. both_ways _ (none_weaker (has_turn e) (one_number x) (λ f here. eq-eqb x.0.1 f.0.1 (eqb-true x.0.1 e.0.1 same ∙ sym (turn_number e f here))) es alone) some), more some)

  none_found : (p : Timed N → Bool) (es : List (Timed N)) → AllByRecursion (λ e. p e ≡ false) es → find p es ≡ None
  none_found p [] fails = refl
  none_found p (e ∷ es) fails = rw fails.0 (none_found p es fails.1)

-- ---- what is kept of entries, and the wheel

-- a stack in which nothing is kept and no timer was armed
pub knows-new : (rows : List Kept) (t : TimersOf HalfId) → rows ≡ [] → t ≡ no_timers → KnowsArms half_id_eq rows t
knows-new rows t none still =
    subst (λ (x : List Kept × TimersOf HalfId). KnowsArms half_id_eq x.0 x.1) (λ i. (sym none i, sym still i))
    (record { tells = λ half ip. All-from_recursion _ [] tt; given = λ half ip. tt; apart = refl })

module _ (rows : List Kept) (t : TimersOf HalfId) (known : KnowsArms half_id_eq rows t) where
  abbrev told : HalfId → Ip4 → Option ℕ
  told half ip = arm_of half_id_eq half ip rows

  abbrev IsTold : HalfId → Ip4 → Timed HalfId → Type 0
  IsTold half ip e = is_timer_where (is_place half_id_eq half ip) e.1 ≡ is_numbered (told half ip) e

  -- whichever timers are stopped
  pub knows-fewer : (keep : Timed HalfId → Bool) → KnowsArms half_id_eq rows (record t { standing = filter keep t.standing })
  knows-fewer keep = told-fewer half_id_eq half_id_eq-Decides told t known keep

  -- the timer of a ping is armed
  pub knows-pinged : (deadline id arm : ℕ) → has_timer t.armed t ≡ false → KnowsArms half_id_eq rows (after_arm deadline (Ping id arm) t)
  knows-pinged deadline id arm unused = record {
    tells = λ half ip.
        All-from_recursion _ _
        (all_inserted (IsTold half ip) (deadline, t.armed) (Ping id t.armed) t.standing unused (recursion_from_All (IsTold half ip) t.standing (known.tells half ip))
        (sym (unnumbered t.armed (told half ip) (known.given half ip) ((deadline, t.armed), Ping id t.armed) refl)));
    given = λ half ip. given_later t.armed (told half ip) (known.given half ip);
    apart = apart_inserted (deadline, t.armed) (Ping id t.armed) t.standing unused known.apart;
  }

  module _ (now : ℕ) where
    -- the next timer is taken, of whatever kind
    pub knows-due : KnowsArms half_id_eq rows (after_due now t)
    knows-due = by (next_due now t)
      where
        by : (o : Option (Timed HalfId)) → KnowsArms half_id_eq rows (without_timed o t)
        by None = known
        by (Some e) = record {
          tells = λ half ip. all_left (IsTold half ip) (is_at (turn_cmp e.0)) t.standing (known.tells half ip);
          given = known.given;
          apart = apart_left (is_at (turn_cmp e.0)) t.standing known.apart;
        }

    -- it is an entry's
    module _ (half : HalfId) (ip : Ip4) (is : due now t ≡ Some (Arp half ip)) where
      numbered : (e : Timed HalfId) → next_due now t ≡ Some e → is_numbered (told half ip) e ≡ true
      numbered e taken =
          let what : e.1 ≡ Arp half ip = cc (ap (option_map (λ (e : Timed HalfId). e.1)) taken, is) in
          sym (all_taken (IsTold half ip) now t (known.tells half ip) e taken) ∙ ap (is_timer_where (is_place half_id_eq half ip)) what
          ∙ place_itself half_id_eq half_id_eq-Decides half ip

      number : (e : Timed HalfId) → next_due now t ≡ Some e → told half ip ≡ Some e.0.1
      number e taken = by (told half ip) (numbered e taken)
        where
          by : (o : Option ℕ) → is_numbered o e ≡ true → o ≡ Some e.0.1
          by None is = cc
          by (Some arm) is = ap Some (sym (eqb-true e.0.1 arm is))

      -- the entry is there
      pub due-there : IsSome (entry_of half_id_eq half ip (entries_of rows))
      due-there = by (next_due now t) refl
        where
          found : (e : Timed HalfId) → next_due now t ≡ Some e → (o : Option Kept) → find (is_kept_at half_id_eq half ip) rows ≡ o → IsSome (option_map (λ (k : Kept). k.entry) o)
          found e taken None absent = cc (number e taken, ap (option_and_then (λ (k : Kept). k.arm)) absent)
          found e taken (Some k) there = refl

          by : (o : Option (Timed HalfId)) → next_due now t ≡ o → IsSome (entry_of half_id_eq half ip (entries_of rows))
          by None none = cc (ap (option_map (λ (e : Timed HalfId). e.1)) none, is)
          by (Some e) taken =
              subst (λ o. IsSome o) (sym (entry_of-kept half_id_eq half_id_eq-Decides half ip rows)) (found e taken (find (is_kept_at half_id_eq half ip) rows) refl)

      -- and has no timer any more
      pub due-taken : timer_at half_id_eq half ip (after_due now t) ≡ None
      due-taken = by (next_due now t) refl
        where
          fails : (e : Timed HalfId) → next_due now t ≡ Some e → (f : Timed HalfId) → IsTold half ip f → (f.0.1 == e.0.1) ≡ false → is_timer_where (is_place half_id_eq half ip) f.1 ≡ false
          fails e taken f is other = is ∙ ap (λ o. is_numbered o f) (number e taken) ∙ other

          by : (o : Option (Timed HalfId)) → next_due now t ≡ o → timer_at half_id_eq half ip (without_timed o t) ≡ None
          by None none = cc (ap (option_map (λ (e : Timed HalfId). e.1)) none, is)
          by (Some e) taken =
              none_found (λ (f : Timed HalfId). is_timer_where (is_place half_id_eq half ip) f.1) _
              (all_by_both (IsTold half ip) (λ (f : Timed HalfId). (f.0.1 == e.0.1) ≡ false) (λ (f : Timed HalfId). is_timer_where (is_place half_id_eq half ip) f.1 ≡ false) (fails e taken) _
              (recursion_from_All (IsTold half ip) _ (all_left (IsTold half ip) (is_at (turn_cmp e.0)) t.standing (known.tells half ip)))
              (number_gone e t.standing known.apart (taken_stands now t e taken)))

-- The timer that is taken out since it is due: it is the one of its ARP entry, or goes with its ping.
use Rattle.std.proofs.Common.{◌≡◌, ℕ, ◌+◌, Bool, true, false, cond, not, ◌&&◌, ◌||◌, ◌==◌, List, [], ◌∷◌, Option, Some, None, Contains, refl, sym, ap, subst, ◌∙◌, arith}
use Rattle.std.specs.Bool.{Decides}
use Rattle.std.specs.BTreeMap.{is_at}
use Rattle.std.specs.Cmp.{Equal-is, tied_itself}
use Rattle.std.specs.List.{list_any, list_all, count_by, filter}
use Rattle.std.specs.Map.{lookup, keys_of, remove_entry}
use Rattle.std.specs.Option.{IfSome}
use Rattle.std.specs.Ordering.{nat_cmp, is_lt}
use Rattle.std.proofs.lemmas.Bool.{and_parts, and_from, or_left, or_right, both_ways, false≢true, eqb-true, eq-eqb}
use Rattle.std.proofs.lemmas.Cmp.{eq_by_cmp_equiv}
use Rattle.std.proofs.lemmas.List.Elements.{All-contains, All-weaker, All-filter, All-contains_itself, Contains-append_right}
use Rattle.std.proofs.lemmas.List.Folds.{list_any-from_Any}
use Rattle.std.proofs.lemmas.List.Sums.{AllPass-from_list_all, list_all-from_AllPass}
use Rattle.std.proofs.lemmas.Map.Keys.{IsDistinct-from_sorted}
use Rattle.std.proofs.lemmas.Map.Lookups.{exact_pairs, exact_unsigned}
use Rattle.std.proofs.lemmas.Map.Views.{lookup-from_Contains}
use Rattle.vn_types.proofs.Options.{some_same}
use Rattle.vn_types.specs.declared.address.Ip4.{Ip4}
use Rattle.vn_rules.specs.declared.arp.ArpEntryOf.{ArpEntryOf}
use Rattle.vn_rules.specs.declared.arp.ArpState.{ArpState}
use Rattle.vn_rules.specs.declared.arp.ArpState.TheVariants.{Incomplete, Learnt, Static, Down}
use Rattle.vn_rules.specs.declared.parts.PartsOf.{PartsOf}
use Rattle.vn_rules.specs.declared.ping.PingOf.{PingOf}
use Rattle.vn_rules.specs.declared.timer.TimerOf.TheVariants.{Arp, Ping}
use Rattle.vn_rules.specs.declared.timer.TimersOf.{TimersOf}
use Rattle.vn_rules.specs.Arp.{entry_of, is_entry_at, is_place, is_timer_where}
use Rattle.vn_rules.specs.Orders.{are_rising, are_timers}
use Rattle.vn_rules.specs.Pings.{is_timer_for, is_timed_by, is_armed_by, timed_by, without_pings, without_ping}
use Rattle.vn_rules.specs.Resolution.{untimed}
use Rattle.vn_rules.specs.Scenes.{SceneOf}
use Rattle.vn_rules.specs.Soundness.{has_owner, owns_timers, times_arp, timers_wanted, is_sound_parts, is_sound_but}
use Rattle.vn_rules.specs.Timers.{Turn, Timed, turn_cmp, earlier, earliest, is_due, next_due, without_timed}
use Rattle.vn_rules.proofs.ArpFacts.{at_place, timers-there, no_timer-absent, has_own}
use Rattle.vn_rules.proofs.ArpTimed.{untimed-sound}
use Rattle.vn_rules.proofs.Kept.{any_weaker}
use Rattle.vn_rules.proofs.ListTests.{absent-none, all_kept, find_all, find_passes}
use Rattle.vn_rules.proofs.OrderLaws.{IsStrictlySortedBy-from_rising}
use Rattle.vn_rules.proofs.PingRemoval.{without_pings-sound}
use Rattle.vn_rules.proofs.TimerOrder.{turn_cmp_total, Contains-first}
use Rattle.vn_packets.specs.Drops.{on_parts}
use Rattle.vn_packets.proofs.Counting.{count-cons, none_of_count}
use Rattle.vn_packets.proofs.SceneSound.{sound_facts}

-- ---- lists

module _ {K V : Type 0} (k : K → Bool) (t : K × V → Bool) where
  -- what is at the key passes the test
  abbrev pub goes_with : K × V → Bool
  goes_with x = not (k x.0) || t x

  any_so : (es : List (K × V)) → list_all goes_with es ≡ true → list_any (λ x. k x.0) es ≡ true → list_any t es ≡ true
  any_so [] all any = any
  any_so (x ∷ es) all any = let parts = and_parts (goes_with x) _ all in by (k x.0) parts.0 any (any_so es parts.1)
    where
      by : (b : Bool) → not b || t x ≡ true → b || list_any (λ x. k x.0) es ≡ true → (list_any (λ x. k x.0) es ≡ true → list_any t es ≡ true) → t x || list_any t es ≡ true
      by true here any more = or_left (t x) _ here
      by false here any more = or_right (t x) _ (more any)

  -- the one that passes the test is taken out with its key
  pub removed_one : (es : List (K × V)) → list_all goes_with es ≡ true → list_any (λ x. k x.0) es ≡ true → count_by t es ≡ 1 → remove_entry k es ≡ filter (λ x. not (t x)) es
  removed_one [] all any one = absurd (false≢true any)
  removed_one (x ∷ es) all any one =
      let parts = and_parts (goes_with x) _ all in
      by (k x.0) (t x) parts.0 any (sym (count-cons t x es) ∙ one) (removed_one es parts.1) (any_so es parts.1)
    where
      none_left : 1 + count_by t es ≡ 1 → count_by t es ≡ 0
      none_left one = omega arith

      one_left : 0 + count_by t es ≡ 1 → count_by t es ≡ 1
      one_left one = omega arith

      by : (b c : Bool) → not b || c ≡ true → b || list_any (λ x. k x.0) es ≡ true → cond {A = ℕ} c 1 0 + count_by t es ≡ 1
          → (list_any (λ x. k x.0) es ≡ true → count_by t es ≡ 1 → remove_entry k es ≡ filter (λ x. not (t x)) es)
          → (list_any (λ x. k x.0) es ≡ true → list_any t es ≡ true)
          → cond b es (x ∷ remove_entry k es) ≡ cond (not c) (x ∷ filter (λ x. not (t x)) es) (filter (λ x. not (t x)) es)
      by true true here any one more so = sym (all_kept t es (none_of_count t es (none_left one)))
      by true false here any one more so = absurd (false≢true here)
      by false true here any one more so = absurd (both_ways (list_any t es) (none_of_count t es (none_left one)) (so any))
      by false false here any one more so = ap (λ ys. x ∷ ys) (more any (one_left one))

module _ {K V : Type 0} (k : K → Bool) (f : K × V → Bool) where
  -- what a filter drops may be taken out before
  pub removed_before : (es : List (K × V)) → list_all (λ x. not (k x.0) || not (f x)) es ≡ true → filter f (remove_entry k es) ≡ filter f es
  removed_before [] all = refl
  removed_before (x ∷ es) all = let parts = and_parts (not (k x.0) || not (f x)) _ all in by (k x.0) (f x) refl parts.0 (removed_before es parts.1)
    where
      by : (b c : Bool) → f x ≡ c → not b || not c ≡ true → filter f (remove_entry k es) ≡ filter f es → filter f (cond b es (x ∷ remove_entry k es)) ≡ cond c (x ∷ filter f es) (filter f es)
      by true true is here more = absurd (false≢true here)
      by true false is here more = refl
      by false c is here more = ap (λ d. cond d (x ∷ filter f (remove_entry k es)) (filter f (remove_entry k es))) is ∙ ap (λ ys. cond c (x ∷ ys) ys) more

-- ---- timers

-- a scene without the timer that was due, if one was
abbrev pub without_due : {N : Type 0} → Option (Timed N) → SceneOf N → SceneOf N
without_due o s = on_parts (λ p. record p { timers = without_timed o p.timers }) s

turn-exact : (a b : Turn) → is_at (turn_cmp a) b ≡ true → a ≡ b
turn-exact a b at = exact_pairs nat_cmp nat_cmp exact_unsigned exact_unsigned a b ((Equal-is (turn_cmp a b)).0 at)

turn-itself : (a : Turn) → is_at (turn_cmp a) a ≡ true
turn-itself a = (Equal-is (turn_cmp a a)).1 (tied_itself turn_cmp_total a)

module _ {N : Type 0} where
  earliest-stands : (es : List (Timed N)) → IfSome (earliest es) (Contains es)
  earliest-stands [] = tt
  earliest-stands (e ∷ es) = by (earliest es) (earliest-stands es)
    where
      test : (f : Timed N) → Contains es f → (b : Bool) → Contains (e ∷ es) (cond b f e)
      test f stands true = Contains-append_right (e ∷ []) es f stands
      test f stands false = Contains-first e es

      by : (o : Option (Timed N)) → IfSome o (Contains es) → Contains (e ∷ es) (earlier e o)
      by None stands = Contains-first e es
      by (Some f) stands = test f stands (is_lt (turn_cmp f.0 e.0))

  -- the timer that is due stands
  pub due-stands : (now : ℕ) (t : TimersOf N) (e : Timed N) → next_due now t ≡ Some e → Contains t.standing e
  due-stands now t e is = by (earliest (filter (is_due now) t.standing)) (earliest-stands (filter (is_due now) t.standing)) is
    where
      by : (o : Option (Timed N)) → IfSome o (Contains (filter (is_due now) t.standing)) → o ≡ Some e → Contains t.standing e
      by None stands is = absurd (cc)
      by (Some f) stands is =
          subst (Contains t.standing) (some_same f e is) (All-contains (Contains t.standing) (filter (is_due now) t.standing) f (All-filter (is_due now) (Contains t.standing) t.standing (All-contains_itself t.standing)) stands)

  -- and each timer of its turn is that timer
  module _ (t : TimersOf N) (right : are_timers t ≡ true) (e : Timed N) (stands : Contains t.standing e) where
    found : (f : Timed N) → Contains t.standing f → lookup (is_at (turn_cmp f.0)) t.standing ≡ Some f.1
    unfolding are_timers
    found f here =
        lookup-from_Contains (eq_by_cmp_equiv turn_cmp_total) f.0 f.1 t.standing
        (IsDistinct-from_sorted turn_cmp (keys_of t.standing) (IsStrictlySortedBy-from_rising turn_cmp (keys_of t.standing) (and_parts (are_rising turn_cmp (keys_of t.standing)) _ right).0)) here

    pub one_turn : (f : Timed N) → Contains t.standing f → is_at (turn_cmp e.0) f.0 ≡ true → e ≡ f
    one_turn f here at = λ i. (turn i, some_same e.1 f.1 two i)
      where
        turn : e.0 ≡ f.0
        turn = turn-exact e.0 f.0 at

        two : Some e.1 ≡ Some f.1
        two = sym (found e stands) ∙ ap (λ a. lookup (is_at (turn_cmp a)) t.standing) turn ∙ found f here

    -- what it passes, each timer of its turn passes
    pub turn-passes : (test : Timed N → Bool) → test e ≡ true → list_all (λ f. not (is_at (turn_cmp e.0) f.0) || test f) t.standing ≡ true
    turn-passes test passes =
        list_all-from_AllPass (λ f. not (is_at (turn_cmp e.0) f.0) || test f) t.standing
        (All-weaker (Contains t.standing) (λ f. not (is_at (turn_cmp e.0) f.0) || test f ≡ true) each t.standing (All-contains_itself t.standing))
      where
        each : (f : Timed N) → Contains t.standing f → not (is_at (turn_cmp e.0) f.0) || test f ≡ true
        each f here = by (is_at (turn_cmp e.0) f.0) refl
          where
            by : (b : Bool) → is_at (turn_cmp e.0) f.0 ≡ b → not b || test f ≡ true
            by true at = sym (ap test (one_turn f here at)) ∙ passes
            by false at = refl

    pub turn-stands : (test : Timed N → Bool) → test e ≡ true → list_any test t.standing ≡ true
    turn-stands test passes = list_any-from_Any test t.standing (stands.0, e, stands.1, stands.2, passes)

-- ---- in a sound stack

module _ {N : Type 0} (same : N → N → Bool) (decides : (a b : N) → Decides (same a b) (a ≡ b)) (p : PartsOf N) (sound : is_sound_parts same p ≡ true) (e : Timed N) (stands : Contains p.timers.standing e) where
  owned : has_owner same p e ≡ true
  unfolding owns_timers
  owned = All-contains (λ f. has_owner same p f ≡ true) p.timers.standing e (AllPass-from_list_all (has_owner same p) p.timers.standing (sound_facts same p sound).owned) stands

  -- the stack without the timer
  abbrev pub taken : PartsOf N
  taken = record p { timers = without_timed (Some e) p.timers }

  -- an entry's timer is the one of its place
  module _ (h : N) (ip : Ip4) (is : e.1 ≡ Arp h ip) where
    here : at_place same decides h ip e ≡ true
    here = ap (is_timer_where (is_place same h ip)) is ∙ and_from _ _ ((decides h h).1 refl) (eq-eqb ip.0 ip.0 refl)

    some : list_any (at_place same decides h ip) p.timers.standing ≡ true
    some = turn-stands p.timers (sound_facts same p sound).timers e stands (at_place same decides h ip) here

    one : count_by (at_place same decides h ip) p.timers.standing ≡ 1
    unfolding times_arp
    one = by (entry_of same h ip p.arp) refl
      where
        not_none : count_by (at_place same decides h ip) p.timers.standing ≡ 0 → ⊥
        not_none zero = both_ways (list_any (at_place same decides h ip) p.timers.standing) (none_of_count (at_place same decides h ip) p.timers.standing zero) some

        wanted : (state : ArpState) → count_by (at_place same decides h ip) p.timers.standing ≡ timers_wanted same state → count_by (at_place same decides h ip) p.timers.standing ≡ 1
        wanted Incomplete count = count
        wanted Learnt count = count
        wanted Static count = absurd (not_none count)
        wanted Down count = count

        by : (o : Option (ArpEntryOf N)) → entry_of same h ip p.arp ≡ o → count_by (at_place same decides h ip) p.timers.standing ≡ 1
        by None none = absurd (not_none (no_timer-absent same decides h ip p (absent-none (is_entry_at same h ip) p.arp none) (sound_facts same p sound).owned))
        by (Some a) found =
            let there = find_passes (is_entry_at same h ip) p.arp a found in
            wanted a.state (sym (λ i. count_by (λ t. timers-there same decides h ip a there t i) p.timers.standing)
            ∙ eqb-true _ _ (find_all (is_entry_at same h ip) (has_own same decides h ip p) p.arp a found (sound_facts same p sound).arp_timed))

    pub taken-untimed : taken ≡ untimed same h ip p
    taken-untimed i = record p {
      timers = record p.timers {
        standing = removed_one (is_at (turn_cmp e.0)) (at_place same decides h ip) p.timers.standing
            (turn-passes p.timers (sound_facts same p sound).timers e stands (at_place same decides h ip) here)
            (turn-stands p.timers (sound_facts same p sound).timers e stands (λ f. is_at (turn_cmp e.0) f.0) (turn-itself e.0)) one i;
      };
    }

    pub taken-sound : is_sound_but same h ip taken ≡ true
    taken-sound = ap (is_sound_but same h ip) taken-untimed ∙ untimed-sound same decides h ip p sound

  -- a ping's timer goes with it
  module _ (id arm : ℕ) (is : e.1 ≡ Ping id arm) where
    awaited : list_any (λ g. is_timer_for g (e.0, Ping id arm)) p.pings.awaited ≡ true
    awaited = sym (ap (λ w. has_owner same p (e.0, w)) is) ∙ owned

    number : (g : PingOf N) → is_timer_for g (e.0, Ping id arm) ≡ true → ((e.0.1 == g.arm) ≡ true) × (arm ≡ g.arm)
    number g for = let two = and_parts ((e.0.1 == g.arm) && (arm == g.arm)) (id == g.id) for in let one = and_parts (e.0.1 == g.arm) (arm == g.arm) two.0 in (one.0, eqb-true arm g.arm one.1)

    -- there is one with its number
    pub timed-some : timed_by arm p.pings ≡ None → ⊥
    timed-some none =
        both_ways (list_any (is_timed_by arm) p.pings.awaited) (absent-none (is_timed_by arm) p.pings.awaited none)
        (any_weaker (λ g. is_timer_for g (e.0, Ping id arm)) (is_timed_by arm) p.pings.awaited (λ g for. eq-eqb g.arm arm (sym (number g for).1)) awaited)

    module _ (ping : PingOf N) (found : timed_by arm p.pings ≡ Some ping) where
      armed : is_armed_by (is_timed_by ping.arm) p.pings.awaited e ≡ true
      armed =
          any_weaker (λ g. is_timer_for g (e.0, Ping id arm)) (λ g. is_timed_by ping.arm g && (e.0.1 == g.arm)) p.pings.awaited
          (λ g for. and_from _ _ (eq-eqb g.arm ping.arm (sym (number g for).1 ∙ sym (eqb-true ping.arm arm (find_passes (is_timed_by arm) p.pings.awaited ping found)))) (number g for).0) awaited

      stays : Timed N → Bool
      stays f = not (is_armed_by (is_timed_by ping.arm) p.pings.awaited f)

      taken-gone : without_ping ping taken ≡ without_ping ping p
      unfolding without_pings stays
      taken-gone i = record (without_ping ping p) {
        timers = record p.timers {
          standing = removed_before (is_at (turn_cmp e.0)) stays p.timers.standing
              (turn-passes p.timers (sound_facts same p sound).timers e stands (λ f. not (stays f)) (ap (λ b. not (not b)) armed)) i;
        };
      }

      pub timed_out-sound : is_sound_parts same (without_ping ping taken) ≡ true
      timed_out-sound = ap (is_sound_parts same) taken-gone ∙ without_pings-sound same (is_timed_by ping.arm) p sound

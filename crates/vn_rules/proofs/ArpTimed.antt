-- An entry that is put in its place with its timer, or without one, leaves a stack sound.
use Rattle.std.proofs.Common.{◌≡◌, ℕ, add-zero, ◌+◌, Bool, true, false, cond, not, ◌==◌, List, [], ◌∷◌, Some, refl, sym, ap, ap₂, ◌∙◌, arith}
use Rattle.std.specs.Bool.{Decides}
use Rattle.std.specs.Prelude.{nat_lt}
use Rattle.std.specs.List.{list_any, list_all, filter, count_by}
use Rattle.std.specs.BTreeMap.{insert_entry}
use Rattle.std.specs.Map.{keys_of}
use Rattle.std.proofs.lemmas.Bool.{and_parts, and_from, or_parts, ltb-true, lt-ltb, ne_eqb}
use Rattle.vn_types.specs.declared.address.Ip4.{Ip4}
use Rattle.vn_types.specs.declared.interface.IfOf.TheVariants.{Half}
use Rattle.vn_rules.specs.declared.arp.ArpEntryOf.{ArpEntryOf}
use Rattle.vn_rules.specs.declared.ping.PingOf.{PingOf}
use Rattle.vn_rules.specs.declared.timer.TimerOf.TheVariants.{Arp, Ping}
use Rattle.vn_rules.specs.declared.timer.TimersOf.{TimersOf}
use Rattle.vn_rules.specs.declared.parts.PartsOf.{PartsOf}
use Rattle.vn_rules.specs.Arp.{is_entry_at, entry_of, is_timer_at}
use Rattle.vn_rules.specs.Interfaces.{is_among}
use Rattle.vn_rules.specs.Orders.{are_rising, is_right_in, are_timers}
use Rattle.vn_rules.specs.Pings.{is_timer_for}
use Rattle.vn_rules.specs.Resolution.{untimed}
use Rattle.vn_rules.specs.Routes.{covers}
use Rattle.vn_rules.specs.Soundness.{sends_locally, times_pings, gave_arms, has_owner, owns_timers, timers_wanted, times_arp, times_arp_but, covers_arp, is_sound_parts, is_sound_but}
use Rattle.vn_rules.specs.Timers.{turn_cmp, Timed, after_arm}
use Rattle.vn_rules.proofs.ArpFacts.{at_place, timers-there, timers-apart, new-there, new-apart, has_but, has_own, own-apart, no_timer, with_put, owner-put, put_sound}
use Rattle.vn_rules.proofs.ArpPlaces.{all_put, any_put_here}
use Rattle.vn_rules.proofs.Kept.{none_from_all}
use Rattle.vn_rules.proofs.ListTests.{all_weaker, all_filter, find_passes, find_all}
use Rattle.vn_rules.proofs.Named.{own_names}
use Rattle.vn_rules.proofs.SoundEdits.{timing-sound}
use Rattle.vn_rules.proofs.SoundFacts.{SoundFacts, facts_from_sound}
use Rattle.vn_rules.proofs.TimerEdits.{are_timers-kept, Inserted, count_inserted, all_inserted, distinct_inserted, count_filter_all, count_filter_none, insert_entry-Inserted, rising-inserted}

pub all_apart : {A : Type 0} (p a q : A → Bool) → ((x : A) → p x ≡ true → a x ≡ false → q x ≡ true) → (xs : List A) → list_any a xs ≡ false → list_all p xs ≡ true → list_all q xs ≡ true
all_apart p a q out [] none all = refl
all_apart p a q out (x ∷ xs) none all =
    let parts = and_parts (p x) _ all in let two = or_parts (a x) _ none in and_from _ _ (out x parts.0 two.0) (all_apart p a q out xs two.1 parts.1)

module _ {N : Type 0} (same : N → N → Bool) (decides : (g h : N) → Decides (same g h) (g ≡ h)) (half : N) (ip : Ip4) (p : PartsOf N) where
  -- ---- the timer of the place is taken out

  pub untimed-sound : is_sound_parts same p ≡ true → is_sound_but same half ip (untimed same half ip p) ≡ true
  unfolding sends_locally owns_timers times_pings times_arp times_arp_but covers_arp gave_arms
  untimed-sound sound =
      let f = facts_from_sound same (times_arp same) p sound in
      let n = own_names same (times_arp same) p f in
      timing-sound same p (untimed same half ip p) (times_arp same) (times_arp_but same half ip) f
      (record { addresses = n.addresses; routes = n.routes; arp = n.arp; pings = n.pings; grams = n.grams })
      f.sources
      (all_filter keep (has_owner same p) p.timers.standing f.owned)
      (all_weaker (λ (ping : PingOf N). count_by (is_timer_for ping) p.timers.standing == 1) _ (λ ping is. ap (λ n. n == 1) (count_filter_all keep (is_timer_for ping) (pinged ping) p.timers.standing) ∙ is) p.pings.awaited f.pings_timed)
      f.entries_apart
      (all_weaker (has_own same decides half ip p) _ (λ e is. timed (is_entry_at same half ip e) e refl is) p.arp f.arp_timed)
      f.arp_covered
      (all_filter keep _ p.timers.standing f.arms_given)
      f.arms_apart f.arp (are_timers-kept keep p.timers f.timers) f.pings
    where
      keep : Timed N → Bool
      keep t = not (at_place same decides half ip t)

      pinged : (ping : PingOf N) (t : Timed N) → is_timer_for ping t ≡ true → keep t ≡ true
      pinged ping (turn, Arp own at) is = absurd (cc)
      pinged ping (turn, Ping id arm) is = refl

      timed : (b : Bool) (e : ArpEntryOf N) → is_entry_at same half ip e ≡ b → has_own same decides half ip p e ≡ true → (count_by (is_timer_at same e) (filter keep p.timers.standing) == cond b 0 (timers_wanted same e.state)) ≡ true
      timed true e is holds = ap (λ n. n == 0) (count_filter_none keep (is_timer_at same e) (λ t mine. ap not (sym (timers-there same decides half ip e is t) ∙ mine)) p.timers.standing)
      timed false e is holds = ap (λ n. n == timers_wanted same e.state) (count_filter_all keep (is_timer_at same e) (λ t mine. ap not (timers-apart same decides half ip e is t mine)) p.timers.standing) ∙ holds

  -- ---- an entry is put there with a timer

  module _ (sound : is_sound_but same half ip p ≡ true) (t : ArpEntryOf N) (there : is_entry_at same half ip t ≡ true) (right : is_right_in t.state t ≡ true)
      (among : is_among same p.interfaces (Half half) ≡ true) (covered : covers same (Half half) ip p.routes ≡ true) where
    f : SoundFacts same (times_arp_but same half ip) p
    f = facts_from_sound same (times_arp_but same half ip) p sound

    pub timed-sound : timers_wanted same t.state ≡ 1 → (deadline : ℕ) → is_sound_parts same (with_put same decides half ip p t (after_arm deadline (Arp half ip) p.timers)) ≡ true
    unfolding owns_timers times_pings times_arp times_arp_but gave_arms are_timers
    timed-sound wanted deadline =
        put_sound same decides half ip p t (after_arm deadline (Arp half ip) p.timers) (times_arp_but same half ip) f there right among covered
        (all_inserted _ _ _ more (has_owner same after) (all_weaker (has_owner same p) (has_owner same after) (owner-put same decides half ip p t ts there) p.timers.standing f.owned)
        (any_put_here same decides half ip t (λ e. is_timer_at same e new) (timers-there same decides half ip t there new ∙ new-there same decides half ip (deadline, p.timers.armed)) p.arp))
        (all_weaker (λ (ping : PingOf N). count_by (is_timer_for ping) p.timers.standing == 1) _ (λ ping is. ap (λ n. n == 1) (count_inserted _ _ _ more (is_timer_for ping) ∙ add-zero _) ∙ is) p.pings.awaited f.pings_timed)
        (all_put same decides half ip t (has_but same decides half ip p) _ others here p.arp f.arp_timed)
        (all_inserted _ _ _ more (λ (e : Timed N). nat_lt e.0.1 (p.timers.armed + 1)) (all_weaker (λ (e : Timed N). nat_lt e.0.1 p.timers.armed) _ (λ e is. let less = ltb-true _ _ is in lt-ltb _ _ (omega arith)) p.timers.standing f.arms_given) (lt-ltb p.timers.armed (p.timers.armed + 1) (omega arith)))
        (let two = and_parts (are_rising turn_cmp (keys_of p.timers.standing)) _ f.timers in
        and_from _ _ (rising-inserted (deadline, p.timers.armed) (Arp half ip) p.timers.standing two.0)
        (distinct_inserted _ _ _ more _ two.1
        (none_from_all _ (λ (e : Timed N). nat_lt e.0.1 p.timers.armed) p.timers.standing (λ e is. let less = ltb-true _ _ is in ne_eqb p.timers.armed e.0.1 (λ eq. omega arith)) f.arms_given)
        (none_from_all _ (λ (e : Timed N). nat_lt e.0.1 p.timers.armed) p.timers.standing (λ e is. let less = ltb-true _ _ is in ne_eqb e.0.1 p.timers.armed (λ eq. omega arith)) f.arms_given)))
      where
        new : Timed N
        new = ((deadline, p.timers.armed), Arp half ip)

        ts : TimersOf N
        ts = after_arm deadline (Arp half ip) p.timers

        after : PartsOf N
        after = with_put same decides half ip p t (after_arm deadline (Arp half ip) p.timers)

        more : Inserted p.timers.standing new (insert_entry turn_cmp p.timers.standing (deadline, p.timers.armed) (Arp half ip))
        more = insert_entry-Inserted (deadline, p.timers.armed) (Arp half ip) p.timers.standing f.arms_given

        count : (e : ArpEntryOf N) → count_by (is_timer_at same e) (insert_entry turn_cmp p.timers.standing (deadline, p.timers.armed) (Arp half ip)) ≡ count_by (is_timer_at same e) p.timers.standing + cond (is_timer_at same e new) 1 0
        count e = count_inserted _ _ _ more (is_timer_at same e)

        others : (e : ArpEntryOf N) → has_but same decides half ip p e ≡ true → is_entry_at same half ip e ≡ false
            → (count_by (is_timer_at same e) (insert_entry turn_cmp p.timers.standing (deadline, p.timers.armed) (Arp half ip)) == timers_wanted same e.state) ≡ true
        others e holds apart =
            ap (λ n. n == timers_wanted same e.state) (count e ∙ ap (λ b. count_by (is_timer_at same e) p.timers.standing + cond b 1 0) (new-apart same decides half ip e apart (deadline, p.timers.armed)) ∙ add-zero _)
            ∙ sym (own-apart same decides half ip p e apart)
            ∙ holds

        here : (count_by (is_timer_at same t) (insert_entry turn_cmp p.timers.standing (deadline, p.timers.armed) (Arp half ip)) == timers_wanted same t.state) ≡ true
        here =
            ap₂ ◌==◌
            (count t ∙ ap₂ (λ n b. n + cond b 1 0) ((λ i. count_by (λ u. timers-there same decides half ip t there u i) p.timers.standing) ∙ no_timer same decides half ip p sound)
            (timers-there same decides half ip t there new ∙ new-there same decides half ip (deadline, p.timers.armed)))
            wanted

    -- or without one
    pub untimed_put-sound : timers_wanted same t.state ≡ 0 → is_sound_parts same (with_put same decides half ip p t p.timers) ≡ true
    unfolding owns_timers times_pings times_arp times_arp_but gave_arms
    untimed_put-sound wanted =
        put_sound same decides half ip p t p.timers (times_arp_but same half ip) f there right among covered
        (all_weaker (has_owner same p) _ (owner-put same decides half ip p t p.timers there) p.timers.standing f.owned)
        f.pings_timed
        (all_put same decides half ip t (has_but same decides half ip p) (has_own same decides half ip p) (λ e holds apart. sym (own-apart same decides half ip p e apart) ∙ holds) here p.arp f.arp_timed)
        f.arms_given f.timers
      where
        here : has_own same decides half ip p t ≡ true
        here = ap₂ ◌==◌ ((λ i. count_by (λ u. timers-there same decides half ip t there u i) p.timers.standing) ∙ no_timer same decides half ip p sound) wanted

  -- ---- an entry that keeps its timer

  pub kept_put-sound : is_sound_parts same p ≡ true → (e t : ArpEntryOf N) → entry_of same half ip p.arp ≡ Some e → is_entry_at same half ip t ≡ true → t.state ≡ e.state → is_right_in t.state t ≡ true
      → is_among same p.interfaces (Half half) ≡ true → covers same (Half half) ip p.routes ≡ true → is_sound_parts same (with_put same decides half ip p t p.timers) ≡ true
  unfolding owns_timers times_pings times_arp gave_arms
  kept_put-sound sound e t found there state right among covered =
      let f = facts_from_sound same (times_arp same) p sound in
      put_sound same decides half ip p t p.timers (times_arp same) f there right among covered
      (all_weaker (has_owner same p) _ (owner-put same decides half ip p t p.timers there) p.timers.standing f.owned)
      f.pings_timed
      (all_put same decides half ip t (has_own same decides half ip p) (has_own same decides half ip p) (λ d holds apart. holds) (here f.arp_timed) p.arp f.arp_timed)
      f.arms_given f.timers
    where
      here : list_all (has_own same decides half ip p) p.arp ≡ true → has_own same decides half ip p t ≡ true
      here timed =
          (λ i. count_by (λ u. (timers-there same decides half ip t there u ∙ sym (timers-there same decides half ip e (find_passes (is_entry_at same half ip) p.arp e found) u)) i) p.timers.standing == timers_wanted same (state i))
          ∙ find_all (is_entry_at same half ip) (has_own same decides half ip p) p.arp e found timed

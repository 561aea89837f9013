-- A ping is awaited with a timer of its own: the parts stay sound.
use Rattle.std.proofs.Common.{◌≡◌, ℕ, add-zero, ◌+◌, ◌<◌, ◌%◌, ◌^◌, Bool, true, false, cond, ◌&&◌, ◌==◌, nat_lt, [], ◌∷◌, refl, sym, ap, ◌∙◌, arith}
use Rattle.std.specs.List.{list_all, count_by}
use Rattle.std.specs.Map.{keys_of}
use Rattle.std.proofs.lemmas.Bool.{and_parts, and_from, and_left, or_left, or_right, false≢true, eqb-true, eq-eqb, ltb-true, lt-ltb}
use Rattle.std.proofs.lemmas.Bool.Decides.{nat_tests}
use Rattle.std.proofs.lemmas.List.Folds.{list_any-append}
use Rattle.vn_types.specs.declared.address.Ip4.{Ip4}
use Rattle.vn_types.specs.declared.interface.IfOf.{IfOf}
use Rattle.vn_rules.specs.declared.ping.PingOf.{PingOf}
use Rattle.vn_rules.specs.declared.timer.TimerOf.TheVariants.{Arp, Ping}
use Rattle.vn_rules.specs.declared.parts.PartsOf.{PartsOf}
use Rattle.vn_rules.specs.Addresses.{local}
use Rattle.vn_rules.specs.Arp.{is_timer_at}
use Rattle.vn_rules.specs.Interfaces.{is_among}
use Rattle.vn_rules.specs.Orders.{are_timers, are_pings, has_16_bits, are_rising, are_distinct}
use Rattle.vn_rules.specs.Pings.{reply_time, is_timer_for, next_ping, awaiting}
use Rattle.vn_rules.specs.Soundness.{sends_locally, has_owner, owns_timers, times_pings, times_arp, timers_wanted, covers_arp, gave_arms, has_distinct_arms, is_sound_parts}
use Rattle.vn_rules.specs.Timers.{Timed, turn_cmp}
use Rattle.vn_rules.proofs.Kept.{from_any, any_from_count, none_from_all}
use Rattle.vn_rules.proofs.ListTests.{all_weaker, all_both, all_push, distinct_push}
use Rattle.vn_rules.proofs.Named.{own_names}
use Rattle.vn_rules.proofs.SoundEdits.{timing-sound}
use Rattle.vn_rules.proofs.SoundFacts.{SoundFacts, facts_from_sound}
use Rattle.vn_rules.proofs.TimerEdits.{Inserted, count_inserted, all_inserted, distinct_inserted, zero_from_all, insert_entry-Inserted, rising-inserted}

-- a number below another is not it, either way round
below_apart : (m n : ℕ) → nat_lt m n ≡ true → (m == n) ≡ false
below_apart m n less = grind (arith, nat_tests)

below_turned : (m n : ℕ) → nat_lt m n ≡ true → (n == m) ≡ false
below_turned m n less = grind (arith, nat_tests)

below_next : (m n : ℕ) → nat_lt m n ≡ true → nat_lt m (n + 1) ≡ true
below_next m n less = lt-ltb m (n + 1) (let l : m < n = ltb-true m n less in omega arith)

next_below : (n : ℕ) → nat_lt n (n + 1) ≡ true
next_below n = lt-ltb n (n + 1) (omega arith)

module _ {N : Type 0} (same : N → N → Bool) (now : ℕ) (src dst : Ip4) (out : IfOf N) (p : PartsOf N) where
  abbrev ping : PingOf N
  ping = next_ping src dst out p

  abbrev more : PartsOf N
  more = awaiting now src dst out p

  abbrev timer : Timed N
  timer = ((now + reply_time, p.timers.armed), Ping p.pings.next p.timers.armed)

  module _ (s : SoundFacts same (times_arp same) p) where
    inserted : Inserted p.timers.standing timer more.timers.standing
    unfolding awaiting gave_arms
    inserted = insert_entry-Inserted (now + reply_time, p.timers.armed) (Ping p.pings.next p.timers.armed) p.timers.standing s.arms_given

    -- each awaited ping has an arm number that was given before
    arms_below : list_all (λ (g : PingOf N). nat_lt g.arm p.timers.armed) p.pings.awaited ≡ true
    unfolding times_pings gave_arms
    arms_below = all_weaker (λ g. count_by (is_timer_for g) p.timers.standing == 1) (λ (g : PingOf N). nat_lt g.arm p.timers.armed) by p.pings.awaited s.pings_timed
      where
        at : (g : PingOf N) (e : Timed N) → is_timer_for g e ≡ true → nat_lt e.0.1 p.timers.armed ≡ true → nat_lt g.arm p.timers.armed ≡ true
        at g (turn, Arp half ip) is less = absurd (false≢true is)
        at g (turn, Ping id arm) is less = ap (λ n. nat_lt n p.timers.armed) (sym (eqb-true turn.1 g.arm (and_parts (turn.1 == g.arm) (arm == g.arm) (and_parts ((turn.1 == g.arm) && (arm == g.arm)) (id == g.id) is).0).0)) ∙ less

        by : (g : PingOf N) → (count_by (is_timer_for g) p.timers.standing == 1) ≡ true → nat_lt g.arm p.timers.armed ≡ true
        by g one = from_any (is_timer_for g) (λ (e : Timed N). nat_lt e.0.1 p.timers.armed) (nat_lt g.arm p.timers.armed) p.timers.standing (at g) (any_from_count (is_timer_for g) p.timers.standing (eqb-true (count_by (is_timer_for g) p.timers.standing) 1 one)) s.arms_given

    mine : is_timer_for ping timer ≡ true
    mine = and_from _ _ (and_from _ _ (eq-eqb p.timers.armed p.timers.armed refl) (eq-eqb p.timers.armed p.timers.armed refl)) (eq-eqb p.pings.next p.pings.next refl)

    owned : owns_timers same more ≡ true
    unfolding owns_timers awaiting
    owned = all_inserted p.timers.standing timer more.timers.standing inserted (has_owner same more) (all_weaker (has_owner same p) (has_owner same more) by p.timers.standing s.owned)
        (list_any-append (λ g. is_timer_for g timer) p.pings.awaited (ping ∷ []) ∙ or_right _ _ (or_left _ _ mine))
      where
        by : (e : Timed N) → has_owner same p e ≡ true → has_owner same more e ≡ true
        by (at, Arp half ip) owner = owner
        by (at, Ping id arm) owner = list_any-append (λ g. is_timer_for g (at, Ping id arm)) p.pings.awaited (ping ∷ []) ∙ or_left _ _ owner

    counted : (q : Timed N → Bool) (b : Bool) → q timer ≡ b → count_by q more.timers.standing ≡ count_by q p.timers.standing + cond b 1 0
    counted q b is = count_inserted p.timers.standing timer more.timers.standing inserted q ∙ ap (λ c. count_by q p.timers.standing + cond c 1 0) is

    pings_timed : times_pings more ≡ true
    unfolding times_pings awaiting gave_arms
    pings_timed = all_push (λ g. count_by (is_timer_for g) more.timers.standing == 1) ping p.pings.awaited
        (all_weaker (λ g. (count_by (is_timer_for g) p.timers.standing == 1) && nat_lt g.arm p.timers.armed) (λ g. count_by (is_timer_for g) more.timers.standing == 1) old p.pings.awaited
        (all_both (λ g. count_by (is_timer_for g) p.timers.standing == 1) (λ (g : PingOf N). nat_lt g.arm p.timers.armed) p.pings.awaited s.pings_timed arms_below))
        (ap (λ n. n == 1) (counted (is_timer_for ping) true mine ∙ ap (λ n. n + 1) (zero_from_all (λ (e : Timed N). nat_lt e.0.1 p.timers.armed) (is_timer_for ping) other p.timers.standing s.arms_given)))
      where
        apart : (g : PingOf N) → nat_lt g.arm p.timers.armed ≡ true → is_timer_for g timer ≡ false
        apart g less = and_left _ _ (and_left _ _ (below_turned g.arm p.timers.armed less))

        old : (g : PingOf N) → ((count_by (is_timer_for g) p.timers.standing == 1) && nat_lt g.arm p.timers.armed) ≡ true → (count_by (is_timer_for g) more.timers.standing == 1) ≡ true
        old g is =
            let parts = and_parts (count_by (is_timer_for g) p.timers.standing == 1) (nat_lt g.arm p.timers.armed) is in
            ap (λ n. n == 1) (counted (is_timer_for g) false (apart g parts.1) ∙ add-zero (count_by (is_timer_for g) p.timers.standing)) ∙ parts.0

        other : (e : Timed N) → nat_lt e.0.1 p.timers.armed ≡ true → is_timer_for ping e ≡ false
        other (at, Arp half ip) less = refl
        other (at, Ping id arm) less = and_left _ _ (and_left _ _ (below_apart at.1 p.timers.armed less))

    arp_timed : times_arp same more ≡ true
    unfolding times_arp awaiting
    arp_timed = all_weaker (λ a. count_by (is_timer_at same a) p.timers.standing == timers_wanted same a.state) (λ a. count_by (is_timer_at same a) more.timers.standing == timers_wanted same a.state)
        (λ a right. ap (λ n. n == timers_wanted same a.state) (counted (is_timer_at same a) false refl ∙ add-zero (count_by (is_timer_at same a) p.timers.standing)) ∙ right) p.arp s.arp_timed

    arms_given : gave_arms more ≡ true
    unfolding gave_arms awaiting
    arms_given = all_inserted p.timers.standing timer more.timers.standing inserted (λ e. nat_lt e.0.1 (p.timers.armed + 1))
        (all_weaker (λ (e : Timed N). nat_lt e.0.1 p.timers.armed) (λ (e : Timed N). nat_lt e.0.1 (p.timers.armed + 1)) (λ e. below_next e.0.1 p.timers.armed) p.timers.standing s.arms_given)
        (next_below p.timers.armed)

    arms_apart : has_distinct_arms more.pings.awaited ≡ true
    unfolding has_distinct_arms awaiting
    arms_apart = distinct_push (λ (g : PingOf N) (h : PingOf N). g.arm == h.arm) ping p.pings.awaited s.arms_apart
        (none_from_all (λ (g : PingOf N). g.arm == p.timers.armed) (λ (g : PingOf N). nat_lt g.arm p.timers.armed) p.pings.awaited (λ g. below_apart g.arm p.timers.armed) arms_below)

    timers : are_timers more.timers ≡ true
    unfolding are_timers awaiting gave_arms
    timers =
        let t = and_parts (are_rising turn_cmp (keys_of p.timers.standing)) (are_distinct (λ (e : Timed N) (f : Timed N). e.0.1 == f.0.1) p.timers.standing) s.timers in
        and_from _ _ (rising-inserted (now + reply_time, p.timers.armed) (Ping p.pings.next p.timers.armed) p.timers.standing t.0)
        (distinct_inserted p.timers.standing timer more.timers.standing inserted (λ (e : Timed N) (f : Timed N). e.0.1 == f.0.1) t.1
        (none_from_all (λ (e : Timed N). p.timers.armed == e.0.1) (λ (e : Timed N). nat_lt e.0.1 p.timers.armed) p.timers.standing (λ e. below_turned e.0.1 p.timers.armed) s.arms_given)
        (none_from_all (λ (e : Timed N). e.0.1 == p.timers.armed) (λ (e : Timed N). nat_lt e.0.1 p.timers.armed) p.timers.standing (λ e. below_apart e.0.1 p.timers.armed) s.arms_given))

    pings : are_pings more.pings ≡ true
    unfolding are_pings awaiting
    pings =
        let g = and_parts (has_16_bits p.pings.next) (list_all (λ (g : PingOf N). has_16_bits g.id) p.pings.awaited) s.pings in
        and_from _ _ (wraps (p.pings.next + 1)) (all_push (λ (g : PingOf N). has_16_bits g.id) ping p.pings.awaited g.1 g.0)
      where
        wraps : (n : ℕ) → has_16_bits (n % 2 ^ 16) ≡ true
        wraps n = lt-ltb (n % 2 ^ 16) (2 ^ 16) (omega arith)

    awaiting-kept : is_among same p.interfaces out ≡ true → local src p.addresses ≡ true → is_sound_parts same more ≡ true
    unfolding awaiting sends_locally covers_arp
    awaiting-kept own here =
        let n = own_names same (times_arp same) p s in
        timing-sound same p more (times_arp same) (times_arp same) s
        (record { addresses = n.addresses; routes = n.routes; arp = n.arp; pings = all_push (λ (g : PingOf N). is_among same p.interfaces g.out) ping p.pings.awaited n.pings own; grams = n.grams })
        (all_push (λ (g : PingOf N). local g.src p.addresses) ping p.pings.awaited s.sources here)
        owned pings_timed s.entries_apart arp_timed s.arp_covered arms_given arms_apart s.arp timers pings

  -- the interface stands there, and the source is an address of the stack
  pub awaiting-sound : is_among same p.interfaces out ≡ true → local src p.addresses ≡ true → is_sound_parts same p ≡ true → is_sound_parts same (awaiting now src dst out p) ≡ true
  awaiting-sound own here sound = awaiting-kept (facts_from_sound same (times_arp same) p sound) own here

-- Each turn of a sleep after which others come adds an event, since a timer fires in it; so a sleep ends.
use Rattle.std.proofs.Common.{◌≡◌, ℕ, zero, suc, ◌+◌, ◌-◌, ◌<◌, ◌≤◌, Bool, true, false, cond, List, [], ◌∷◌, ◌++◌, length, find, Option, Some, None, is_some, max, refl, sym, ap, subst, ◌∙◌, append_assoc, length-append, arith}
use Rattle.std.specs.Prelude.{nat_lt, nat_le}
use Rattle.std.specs.Option.{option_map}
use Rattle.std.proofs.lemmas.Bool.{ltb-true, ltb-false, leb-true, false≢true}
use Rattle.vn_types.proofs.Options.{none_some, some_same}
use Rattle.vn_types.specs.declared.half.Half.{Half}
use Rattle.vn_cells.specs.declared.event.Event.{Event}
use Rattle.vn_cells.specs.declared.event.Event.TheVariants as event
use Rattle.vn_cells.specs.declared.event.TheConstants.{EVENTS_MAX}
use Rattle.vn_cells.specs.declared.world.Stack.{Stack}
use Rattle.vn_cells.specs.declared.world.World.{World}
use Rattle.vn_cells.specs.machine.Deliveries.{first_looped, first_reached, next_delivery, deliveries, past_most_events, settle_events}
use Rattle.vn_cells.specs.machine.Queues.{has_due}
use Rattle.vn_cells.specs.machine.Step.{run_from, step}
use Rattle.vn_cells.specs.machine.Timing.{next_deadline, first_due, tick_to, fire_due, by_time, naps, sleep_events}
use Rattle.vn_cells.specs.sets.Changed.{is_common}
use Rattle.vn_cells.specs.world.Names.{Path}
use Rattle.vn_cells.specs.world.World.{later}
use Rattle.vn_laws.specs.Sleep.{turn_events, IsTurn, IsSlept}
use Rattle.vn_laws.proofs.Steps.{clock-step}
use Rattle.vn_laws.proofs.schedules.Due.{due-somewhere}
use Rattle.vn_laws.proofs.schedules.Settled.{settled}
use Rattle.vn_laws.proofs.versions.Snapshots.{run-append}

-- ---- deliveries take no time

delivery-clock : (w : World) (e : Event) → next_delivery w ≡ Some e → (step w e).clock ≡ w.clock
unfolding next_delivery is_common
delivery-clock w e is = by (first_looped w) (first_reached w.pairs) is
  where
    by : (o : Option Path) (r : Option Half) → (elim o as (λ _. Option Event) [ Some p ↦ Some (event.LoopDeliver p) | None ↦ option_map event.Deliver r ]) ≡ Some e → (step w e).clock ≡ w.clock
    by (Some p) r is = subst (λ d. (step w d).clock ≡ w.clock) (some_same (event.LoopDeliver p) e is) (clock-step w (event.LoopDeliver p) refl)
    by None (Some h) is = subst (λ d. (step w d).clock ≡ w.clock) (some_same (event.Deliver h) e is) (clock-step w (event.Deliver h) refl)
    by None None is = absurd (none_some e is)

calm-clock : (most : ℕ) (w : World) → (run_from w (deliveries most w)).clock ≡ w.clock
unfolding deliveries run_from
calm-clock zero w = refl
calm-clock (suc most) w = by (next_delivery w) refl (λ e. calm-clock most (step w e))
  where
    by : (o : Option Event) → next_delivery w ≡ o → ((e : Event) → (run_from (step w e) (deliveries most (step w e))).clock ≡ (step w e).clock)
        → (run_from w (elim o as (λ _. List Event) [ None ↦ [] | Some e ↦ e ∷ deliveries most (step w e) ])).clock ≡ w.clock
    by None is more = refl
    by (Some e) is more = more e ∙ delivery-clock w e is

-- ---- the clock moves on

module _ (time : ℕ) (w : World) where
  tick-clock : (run_from w (tick_to time w)).clock ≡ max w.clock time
  unfolding run_from step later
  tick-clock = by (nat_lt w.clock time) refl
    where
      by : (b : Bool) → nat_lt w.clock time ≡ b → (run_from w (cond b (event.Tick (time - w.clock) ∷ []) [])).clock ≡ max w.clock time
      by true less = let before = ltb-true w.clock time less in omega (arith, before)
      by false less = let past = ltb-false w.clock time less in omega (arith, past)

  -- and nothing else changes
  tick-same : {A : Type 0} (of : World → A) → ((n : ℕ) → of (later n w) ≡ of w) → of (run_from w (tick_to time w)) ≡ of w
  unfolding run_from step
  tick-same of same = by (nat_lt w.clock time)
    where
      by : (b : Bool) → of (run_from w (cond b (event.Tick (time - w.clock) ∷ []) [])) ≡ of w
      by true = same (time - w.clock)
      by false = refl

  tick-deadline : next_deadline (run_from w (tick_to time w)) ≡ next_deadline w
  unfolding next_deadline later
  tick-deadline = tick-same next_deadline (λ n. refl)

  tick-delivery : next_delivery (run_from w (tick_to time w)) ≡ next_delivery w
  unfolding next_delivery first_looped later
  tick-delivery = tick-same next_delivery (λ n. refl)

-- ---- a timer fires

fires : (w : World) (d : ℕ) → next_deadline w ≡ Some d → d ≤ w.clock → length (fire_due w) ≡ 1
unfolding next_deadline first_due
fires w d is come = by (find (λ (s : Path × Stack). has_due w.clock s.1.live) w.stacks) (due-somewhere w.clock d come w.stacks is)
  where
    by : (o : Option (Path × Stack)) → is_some o ≡ true
        → length (elim (option_map (λ (s : Path × Stack). s.0) o) as (λ _. List Event) [ Some p ↦ event.Fire p ∷ [] | None ↦ [] ]) ≡ 1
    by (Some s) waits = refl
    by None waits = absurd (false≢true waits)

fire-clock : (w : World) → (run_from w (fire_due w)).clock ≡ w.clock
unfolding run_from is_common
fire-clock w = by (first_due w)
  where
    by : (o : Option Path) → (run_from w (elim o as (λ _. List Event) [ Some p ↦ event.Fire p ∷ [] | None ↦ [] ])).clock ≡ w.clock
    by (Some p) = clock-step w (event.Fire p) refl
    by None = refl

-- ---- a turn

by-time : (end d : ℕ) (o : Option ℕ) → by_time end o ≡ Some d → (o ≡ Some d) × (d ≤ end)
by-time end d None is = absurd (none_some d is)
by-time end d (Some x) is = by (nat_le x end) refl is
  where
    by : (b : Bool) → nat_le x end ≡ b → cond {A = Option ℕ} b (Some x) None ≡ Some d → (Some x ≡ Some d) × (d ≤ end)
    by true le is = (is, leb-true d end (subst (λ y. nat_le y end ≡ true) (some_same x d is) le))
    by false le is = absurd (none_some d is)

module _ (w : World) where
  abbrev calm : World
  calm = run_from w (settle_events w)

  abbrev come : ℕ → World
  come d = run_from calm (tick_to d calm)

  turn-run : (d : ℕ) → run_from w (turn_events d w) ≡ run_from (come d) (fire_due (come d))
  unfolding turn_events
  turn-run d =
      run-append w (settle_events w ++ tick_to d calm) (fire_due (come d)) ∙ ap (λ v. run_from v (fire_due (come d))) (run-append w (settle_events w) (tick_to d calm))

  turn-clock : (d : ℕ) → (run_from w (turn_events d w)).clock ≡ max w.clock d
  turn-clock d =
      ap (λ (v : World). v.clock) (turn-run d) ∙ fire-clock (come d) ∙ tick-clock d calm ∙ ap (λ n. max n d) (calm-clock past_most_events w)

  turn-adds : (d : ℕ) → next_deadline calm ≡ Some d → 1 ≤ length (turn_events d w)
  unfolding turn_events
  turn-adds d is =
      let clock = tick-clock d calm in
      let fire = fires (come d) d (tick-deadline d calm ∙ is) (omega (arith, clock)) in
      let whole = length-append (settle_events w ++ tick_to d calm) (fire_due (come d)) in
      omega (arith, fire, whole)

  goes-on : (more end d : ℕ) → settle_events w ++ (tick_to d calm ++ fire_due (come d) ++ naps more end (run_from (come d) (fire_due (come d))))
      ≡ turn_events d w ++ naps more end (run_from w (turn_events d w))
  unfolding turn_events
  goes-on more end d =
      let rest = naps more end (run_from (come d) (fire_due (come d))) in
      sym (append_assoc (settle_events w) (tick_to d calm ++ fire_due (come d)) rest)
      ∙ ap (λ events. events ++ rest) (sym (append_assoc (settle_events w) (tick_to d calm) (fire_due (come d))))
      ∙ ap (λ v. turn_events d w ++ naps more end v) (sym (turn-run d))

pub each-turn : (more end : ℕ) (w : World) → IsTurn more end w (by_time end (next_deadline (run_from w (settle_events w))))
unfolding naps
each-turn more end w = by (by_time end (next_deadline (calm w))) refl
  where
    by : (o : Option ℕ) → by_time end (next_deadline (calm w)) ≡ o → IsTurn more end w o
    by None is = ap (λ o. settle_events w ++ (elim o as (λ _. List Event) [ None ↦ tick_to end (calm w) | Some d ↦ tick_to d (calm w) ++ fire_due (come w d) ++ naps more end (run_from (come w d) (fire_due (come w d))) ])) is
    by (Some d) is = (
      ap (λ o. settle_events w ++ (elim o as (λ _. List Event) [ None ↦ tick_to end (calm w) | Some d ↦ tick_to d (calm w) ++ fire_due (come w d) ++ naps more end (run_from (come w d) (fire_due (come w d))) ])) is
          ∙ goes-on w more end d,
      turn-adds w d (by-time end d (next_deadline (calm w)) is).0,
    )

-- ---- the end

ended : (end : ℕ) (w : World) → w.clock ≤ end → by_time end (next_deadline (run_from w (settle_events w))) ≡ None → length (settle_events w) ≤ EVENTS_MAX
    → IsSlept end (run_from w (settle_events w ++ tick_to end (run_from w (settle_events w))))
ended end w le none few =
    let v = run_from w (settle_events w) in
    let before = calm-clock past_most_events w in
    let after = tick-clock end v in
    subst (IsSlept end) (sym (run-append w (settle_events w) (tick_to end v)))
    (record { settled = tick-delivery end v ∙ settled w few; fired = ap (by_time end) (tick-deadline end v) ∙ none; clock = omega (arith, le, before, after) })

slept-by : (most end : ℕ) (w : World) → w.clock ≤ end → length (naps most end w) < most → length (naps most end w) ≤ EVENTS_MAX
    → IsSlept end (run_from w (naps most end w))
slept-by zero end w le less few = absurd (omega (arith, less))
slept-by (suc more) end w le less few = by (by_time end (next_deadline (run_from w (settle_events w)))) refl (each-turn more end w) (slept-by more end)
  where
    by : (o : Option ℕ) → by_time end (next_deadline (run_from w (settle_events w))) ≡ o → IsTurn more end w o
        → ((v : World) → v.clock ≤ end → length (naps more end v) < more → length (naps more end v) ≤ EVENTS_MAX → IsSlept end (run_from v (naps more end v)))
        → IsSlept end (run_from w (naps (suc more) end w))
    by None is last rest =
        let whole = ap length last ∙ length-append (settle_events w) (tick_to end (run_from w (settle_events w))) in
        subst (λ events. IsSlept end (run_from w events)) (sym last) (ended end w le is (omega (arith, whole, few)))
    by (Some d) is (goes, adds) rest =
        let v = run_from w (turn_events d w) in
        let whole = ap length goes ∙ length-append (turn_events d w) (naps more end v) in
        let clock = turn-clock w d in
        let within = (by-time end d (next_deadline (run_from w (settle_events w))) is).1 in
        subst (λ events. IsSlept end (run_from w events)) (sym goes)
        (subst (IsSlept end) (sym (run-append w (turn_events d w) (naps more end v)))
        (rest v (omega (arith, clock, within, le)) (omega (arith, whole, adds, less)) (omega (arith, whole, adds, few))))

pub slept : (w : World) (n : ℕ) → length (sleep_events n w) ≤ EVENTS_MAX → IsSlept (w.clock + n) (run_from w (sleep_events n w))
slept w n few = slept-by (EVENTS_MAX + 1) (w.clock + n) w (omega arith) (omega (arith, few)) few

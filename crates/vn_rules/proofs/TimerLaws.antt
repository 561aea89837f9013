-- Timers under other names of halves: what is armed, stopped and due goes through a renaming.
use Rattle.std.proofs.Common.{◌≡◌, ℕ, ◌+◌, Bool, not, ◌==◌, List, [], ◌∷◌, map, Option, Some, None, refl, ap, ap₂, ◌∙◌}
use Rattle.std.specs.List.{filter}
use Rattle.std.specs.Option.{option_map}
use Rattle.std.specs.Ordering.{is_lt}
use Rattle.std.specs.BTreeMap.{insert_entry, is_at}
use Rattle.vn_types.proofs.ListMaps.{filter_map_same, any_map_same}
use Rattle.vn_rules.specs.declared.timer.TimerOf.{TimerOf}
use Rattle.vn_rules.specs.declared.timer.TimerOf.TheVariants.{Arp, Ping}
use Rattle.vn_rules.specs.declared.timer.TimersOf.{TimersOf}
use Rattle.vn_rules.specs.Interfaces.{is_timer_of}
use Rattle.vn_rules.specs.Renamed.{as_timer, as_timed, as_timers}
use Rattle.vn_rules.specs.Timers.{turn_cmp, Timed, no_timers, with_arm, after_arm, has_timer, without_timer, earlier, earliest, is_due, next_due, due, without_timed, after_due, soonest, lesser, least, times_without}
use Rattle.vn_rules.proofs.EntryMaps.{insert_entry-mapped, remove_entry-mapped}
use Rattle.vn_rules.proofs.Renaming.{cond-renamed, is_timer_of-renamed}

module _ {N M : Type 0} (r : N → M) where
  pub no_timers-renamed : as_timers r no_timers ≡ no_timers
  no_timers-renamed = refl

  with_arm-renamed : (number : ℕ) (what : TimerOf N) → with_arm number (as_timer r what) ≡ as_timer r (with_arm number what)
  with_arm-renamed number (Arp half ip) = refl
  with_arm-renamed number (Ping id arm) = refl

  pub after_arm-renamed : (deadline : ℕ) (what : TimerOf N) (t : TimersOf N) → after_arm deadline (as_timer r what) (as_timers r t) ≡ as_timers r (after_arm deadline what t)
  after_arm-renamed deadline what t i = record {
    armed = t.armed + 1;
    standing = (ap (insert_entry turn_cmp (map (as_timed r) t.standing) (deadline, t.armed)) (with_arm-renamed t.armed what) ∙ insert_entry-mapped (as_timer r) turn_cmp t.standing (deadline, t.armed) (with_arm t.armed what)) i;
  }

  pub has_timer-renamed : (arm : ℕ) (t : TimersOf N) → has_timer arm (as_timers r t) ≡ has_timer arm t
  has_timer-renamed arm t = any_map_same (as_timed r) (λ (e : Timed N). e.0.1 == arm) (λ (e : Timed M). e.0.1 == arm) (λ e. refl) t.standing

  pub without_timer-renamed : (arm : ℕ) (t : TimersOf N) → without_timer arm (as_timers r t) ≡ as_timers r (without_timer arm t)
  without_timer-renamed arm t i = record {
    armed = t.armed;
    standing = filter_map_same (as_timed r) (λ (e : Timed N). not (e.0.1 == arm)) (λ (e : Timed M). not (e.0.1 == arm)) (λ e. refl) t.standing i;
  }

  -- ---- what is due

  earliest-renamed : (es : List (Timed N)) → earliest (map (as_timed r) es) ≡ option_map (as_timed r) (earliest es)
  earliest-renamed [] = refl
  earliest-renamed (e ∷ es) = ap Some (ap (earlier (as_timed r e)) (earliest-renamed es) ∙ by (earliest es))
    where
      by : (o : Option (Timed N)) → earlier (as_timed r e) (option_map (as_timed r) o) ≡ as_timed r (earlier e o)
      by None = refl
      by (Some f) = cond-renamed (as_timed r) f e (is_lt (turn_cmp f.0 e.0))

  next_due-renamed : (now : ℕ) (t : TimersOf N) → next_due now (as_timers r t) ≡ option_map (as_timed r) (next_due now t)
  next_due-renamed now t = ap earliest (filter_map_same (as_timed r) (is_due now) (is_due now) (λ e. refl) t.standing) ∙ earliest-renamed (filter (is_due now) t.standing)

  pub due-renamed : (now : ℕ) (t : TimersOf N) → due now (as_timers r t) ≡ option_map (as_timer r) (due now t)
  due-renamed now t = ap (option_map (λ (e : Timed M). e.1)) (next_due-renamed now t) ∙ by (next_due now t)
    where
      by : (o : Option (Timed N)) → option_map (λ (e : Timed M). e.1) (option_map (as_timed r) o) ≡ option_map (as_timer r) (option_map (λ (e : Timed N). e.1) o)
      by None = refl
      by (Some e) = refl

  pub after_due-renamed : (now : ℕ) (t : TimersOf N) → after_due now (as_timers r t) ≡ as_timers r (after_due now t)
  after_due-renamed now t = ap (λ o. without_timed o (as_timers r t)) (next_due-renamed now t) ∙ by (next_due now t)
    where
      by : (o : Option (Timed N)) → without_timed (option_map (as_timed r) o) (as_timers r t) ≡ as_timers r (without_timed o t)
      by None = refl
      by (Some e) = λ i. record { armed = t.armed; standing = remove_entry-mapped (as_timer r) (is_at (turn_cmp e.0)) t.standing i }

  -- ---- deadlines

  pub soonest-renamed : (t : TimersOf N) → soonest (as_timers r t) ≡ soonest t
  soonest-renamed t = ap (option_map (λ (e : Timed M). e.0.0)) (earliest-renamed t.standing) ∙ by (earliest t.standing)
    where
      by : (o : Option (Timed N)) → option_map (λ (e : Timed M). e.0.0) (option_map (as_timed r) o) ≡ option_map (λ (e : Timed N). e.0.0) o
      by None = refl
      by (Some e) = refl

  pub least-renamed : (ts : List (TimersOf N)) → least (map (as_timers r) ts) ≡ least ts
  least-renamed [] = refl
  least-renamed (t ∷ ts) = ap₂ lesser (soonest-renamed t) (least-renamed ts)

-- ---- the timers of a half, where the renaming keeps the test on names

module _ {N M : Type 0} (r : N → M) (at_n : N → N → Bool) (at_m : M → M → Bool) (faithful : (a b : N) → at_m (r a) (r b) ≡ at_n a b) where
  pub times_without-renamed : (half : N) (t : TimersOf N) → times_without at_m (r half) (as_timers r t) ≡ as_timers r (times_without at_n half t)
  times_without-renamed half t i = record {
    armed = t.armed;
    standing = filter_map_same (as_timed r) (λ (e : Timed N). not (is_timer_of at_n half e.1)) (λ (e : Timed M). not (is_timer_of at_m (r half) e.1)) (λ e. ap not (is_timer_of-renamed r at_n at_m faithful half e.1)) t.standing i;
  }

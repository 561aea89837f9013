-- A timer that is due, under other names of halves.
use Rattle.std.proofs.Common.{◌≡◌, ℕ, Bool, Option, Some, None, refl, ap, ap₂, ◌∙◌}
use Rattle.std.specs.Option.{option_map}
use Rattle.vn_rules.specs.declared.parts.PartsOf.{PartsOf}
use Rattle.vn_rules.specs.declared.ping.PingOf.{PingOf}
use Rattle.vn_rules.specs.declared.timer.TimerOf.{TimerOf}
use Rattle.vn_rules.specs.declared.timer.TimerOf.TheVariants.{Arp, Ping}
use Rattle.vn_rules.specs.Pings.{timed_by, without_ping}
use Rattle.vn_rules.specs.Renamed.{as_ping, as_timer, renamed}
use Rattle.vn_rules.specs.Rules.{Common}
use Rattle.vn_rules.specs.Scenes.{SceneOf, renamed_scene}
use Rattle.vn_rules.specs.Timers.{due, after_due}
use Rattle.vn_rules.proofs.PingLaws.{timed_by-renamed, without_ping-renamed}
use Rattle.vn_rules.proofs.TimerLaws.{due-renamed, after_due-renamed}
use Rattle.vn_packets.specs.Drops.{on_parts}
use Rattle.vn_packets.specs.Fired.{timed_out, fired_for, fired}
use Rattle.vn_packets.specs.Renamed.{as_fired}
use Rattle.vn_packets.proofs.DropLaws.{on_parts-renamed}
use Rattle.vn_packets.proofs.ArpPacketLaws.{arp_turned-renamed}

module _ {N M : Type 0} (r : N → M) (at_n : N → N → Bool) (at_m : M → M → Bool) (faithful : (a b : N) → at_m (r a) (r b) ≡ at_n a b) where
  timed_out-renamed : (o : Option (PingOf N)) (s : SceneOf N) → timed_out (option_map (as_ping r) o) (renamed_scene r s) ≡ as_fired r (timed_out o s)
  timed_out-renamed None s = refl
  timed_out-renamed (Some ping) s = λ i. record {
    left = on_parts-renamed r (without_ping ping) (without_ping (as_ping r ping)) s (without_ping-renamed r ping s.parts) i;
    timeout = Some (as_ping r ping);
  }

  timed-so : (arm : ℕ) (s : SceneOf N) → timed_by arm (renamed_scene r s).parts.pings ≡ option_map (as_ping r) (timed_by arm s.parts.pings)
  unfolding renamed_scene renamed
  timed-so arm s = timed_by-renamed r arm s.parts.pings

  fired_for-renamed : (common : Common) (o : Option (TimerOf N)) (s : SceneOf N) → fired_for at_m common (option_map (as_timer r) o) (renamed_scene r s) ≡ as_fired r (fired_for at_n common o s)
  fired_for-renamed common None s = refl
  fired_for-renamed common (Some (Arp h ip)) s = λ i. record { left = arp_turned-renamed r at_n at_m faithful common h ip s i; timeout = None }
  fired_for-renamed common (Some (Ping id arm)) s = ap (λ o. timed_out o (renamed_scene r s)) (timed-so arm s) ∙ timed_out-renamed (timed_by arm s.parts.pings) s

  due-so : (now : ℕ) (s : SceneOf N) → due now (renamed_scene r s).parts.timers ≡ option_map (as_timer r) (due now s.parts.timers)
  unfolding renamed_scene renamed
  due-so now s = due-renamed r now s.parts.timers

  untimed : {L : Type 0} → ℕ → PartsOf L → PartsOf L
  untimed now p = record p { timers = after_due now p.timers }

  untimed-renamed : (now : ℕ) (p : PartsOf N) → untimed now (renamed r p) ≡ renamed r (untimed now p)
  unfolding untimed renamed
  untimed-renamed now p i = record (renamed r p) { timers = after_due-renamed r now p.timers i }

  pub fired-renamed : (common : Common) (s : SceneOf N) → fired at_m common (renamed_scene r s) ≡ as_fired r (fired at_n common s)
  unfolding fired untimed
  fired-renamed common s =
      ap₂ (fired_for at_m common) (due-so common.clock s) (on_parts-renamed r (untimed common.clock) (untimed common.clock) s (untimed-renamed common.clock s.parts))
      ∙ fired_for-renamed common (due common.clock s.parts.timers) (on_parts (untimed common.clock) s)

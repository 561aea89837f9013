-- A timer that is due leaves a scene sound.
use Rattle.std.proofs.Common.{◌≡◌, ℕ, Bool, true, Option, Some, None, refl}
use Rattle.std.specs.Bool.{Decides}
use Rattle.std.specs.Option.{option_map}
use Rattle.vn_rules.specs.declared.ping.PingOf.{PingOf}
use Rattle.vn_rules.specs.declared.timer.TimerOf.TheVariants.{Arp, Ping}
use Rattle.vn_rules.specs.Pings.{timed_by, without_pings, without_ping}
use Rattle.vn_rules.specs.Rules.{Common}
use Rattle.vn_rules.specs.Scenes.{SceneOf, is_sound_scene}
use Rattle.vn_rules.specs.Timers.{Timed, next_due}
use Rattle.vn_packets.specs.Drops.{on_parts}
use Rattle.vn_packets.specs.Fired.{timed_out, fired_for, fired}
use Rattle.vn_packets.proofs.SceneSound.{Keeps, keeps-refl, parts-sound, queues-short, scene-sound}
use Rattle.vn_packets.proofs.ArpPacketSound.{arp_turned-keeps}
use Rattle.vn_packets.proofs.TakenTimers.{without_due, due-stands, taken-sound, timed-some, timed_out-sound}

module _ {N : Type 0} (same : N → N → Bool) (decides : (a b : N) → Decides (same a b) (a ≡ b)) (common : Common) (s : SceneOf N) (sound : is_sound_scene same s ≡ true) where
  pub fired-keeps : Keeps same s (fired same common s).left
  unfolding fired without_pings
  fired-keeps = by (next_due common.clock s.parts.timers) refl
    where
      ended : (e : Timed N) (id arm : ℕ) → next_due common.clock s.parts.timers ≡ Some e → e.1 ≡ Ping id arm → (o : Option (PingOf N)) → timed_by arm s.parts.pings ≡ o → Keeps same s (timed_out o (without_due (Some e) s)).left
      ended e id arm due is None found = absurd (timed-some same decides s.parts (parts-sound same s sound) e (due-stands common.clock s.parts.timers e due) id arm is found)
      ended e id arm due is (Some ping) found = record {
        sound = scene-sound same (on_parts (without_ping ping) (without_due (Some e) s))
            (timed_out-sound same decides s.parts (parts-sound same s sound) e (due-stands common.clock s.parts.timers e due) id arm is ping found) (queues-short same s sound);
        interfaces = refl;
      }

      by : (o : Option (Timed N)) → next_due common.clock s.parts.timers ≡ o → Keeps same s (fired_for same common (option_map (λ (e : Timed N). e.1) o) (without_due o s)).left
      by None due = keeps-refl same s sound
      by (Some (at, Arp h ip)) due =
          let k = arp_turned-keeps same decides common h ip (without_due (Some (at, Arp h ip)) s)
          (taken-sound same decides s.parts (parts-sound same s sound) (at, Arp h ip) (due-stands common.clock s.parts.timers (at, Arp h ip) due) h ip refl) (queues-short same s sound) in
          record { sound = k.sound; interfaces = k.interfaces }
      by (Some (at, Ping id arm)) due = ended (at, Ping id arm) id arm due refl (timed_by arm s.parts.pings) refl

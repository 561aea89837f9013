-- A timer that is due does what it was armed for (callout(9)).
use Rattle.std.specs.Prelude.{Bool, Option, Some, None}
use Rattle.vn_rules.specs.declared.ping.PingOf.{PingOf}
use Rattle.vn_rules.specs.declared.timer.TimerOf.{TimerOf}
use Rattle.vn_rules.specs.declared.timer.TimerOf.TheVariants.{Arp, Ping}
use Rattle.vn_rules.specs.Pings.{timed_by, without_ping}
use Rattle.vn_rules.specs.Rules.{Common}
use Rattle.vn_rules.specs.Scenes.{SceneOf}
use Rattle.vn_rules.specs.Timers.{due, after_due}
use Rattle.vn_packets.specs.ArpPackets.{arp_turned}
use Rattle.vn_packets.specs.Drops.{on_parts}

-- what a timer leaves
pub record FiredOf (N : Type 0) : Type 0 where
  -- the scene
  pub left : SceneOf N
  -- the ping whose reply is awaited no more, if it was a ping's
  pub timeout : Option (PingOf N)

module _ {N : Type 0} where
  -- a ping has waited too long, where there is one
  abbrev pub timed_out : Option (PingOf N) → SceneOf N → FiredOf N
  timed_out None s = record { left = s; timeout = None }
  timed_out (Some ping) s = record { left = on_parts (without_ping ping) s; timeout = Some ping }

module _ {N : Type 0} (same : N → N → Bool) where
  -- by what the timer is for
  abbrev pub fired_for : Common → Option (TimerOf N) → SceneOf N → FiredOf N
  fired_for common None s = record { left = s; timeout = None }
  fired_for common (Some (Arp h ip)) s = record { left = arp_turned same common h ip s; timeout = None }
  fired_for common (Some (Ping id arm)) s = timed_out (timed_by arm s.parts.pings) s

  -- the timer that is due first is taken out, and does it
  unfoldable pub fired : Common → SceneOf N → FiredOf N
  fired common s =
      fired_for common (due common.clock s.parts.timers)
      (on_parts (λ p. record p { timers = after_due common.clock p.timers }) s)

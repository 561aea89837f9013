-- What the rules of packets give, under other names of halves.
use Rattle.std.specs.Option.{option_map}
use Rattle.vn_types.specs.Interfaces.{as_if}
use Rattle.vn_rules.specs.Renamed.{as_ping}
use Rattle.vn_rules.specs.Rules.{Rule}
use Rattle.vn_rules.specs.Scenes.{SceneOf, renamed_scene}
use Rattle.vn_packets.specs.declared.outgoing.SentOf.{SentOf}
use Rattle.vn_packets.specs.Fired.{FiredOf}
use Rattle.vn_packets.specs.Icmp.{HeardOf}
use Rattle.vn_packets.specs.Output.{WayOf, Nowhere, Looped, By}

module _ {N M : Type 0} (r : N → M) where
  -- where a datagram goes
  abbrev pub as_way : WayOf N → WayOf M
  as_way Nowhere = Nowhere
  as_way Looped = Looped
  as_way (By h hop) = By (r h) hop

  -- how it was sent
  abbrev pub as_sent : SentOf N → SentOf M
  as_sent sent = record { src = sent.src; out = as_if r sent.out }

  -- how it was sent, and the scene that is left
  abbrev pub as_output : SentOf N × SceneOf N → SentOf M × SceneOf M
  as_output done = (as_sent done.0, renamed_scene r done.1)

  -- what a reception leaves
  abbrev pub as_heard : HeardOf N → HeardOf M
  as_heard h = record { left = renamed_scene r h.left; heard = h.heard }

  -- what a timer leaves
  abbrev pub as_fired : FiredOf N → FiredOf M
  as_fired f = record { left = renamed_scene r f.left; timeout = option_map (as_ping r) f.timeout }

  -- a command
  abbrev pub as_rule : Rule (SceneOf N) → Rule (SceneOf M)
  as_rule rule = record {
    refusals = rule.refusals;
    otherwise = record {
      left = renamed_scene r rule.otherwise.left;
      outcome = rule.otherwise.outcome;
    };
  }

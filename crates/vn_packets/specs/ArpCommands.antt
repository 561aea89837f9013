-- arp(8), `-s`: the datagrams that were held for the address are sent.
use Rattle.std.specs.Prelude.{Bool, Option, Some, None}
use Rattle.vn_types.specs.declared.address.Ip4.{Ip4}
use Rattle.vn_types.specs.declared.address.Mac.{Mac}
use Rattle.vn_rules.specs.Arp.{held_for}
use Rattle.vn_rules.specs.Resolution.{after_arp_set, static_refusals}
use Rattle.vn_rules.specs.Routes.{gateway_half}
use Rattle.vn_rules.specs.Rules.{Rule, done}
use Rattle.vn_rules.specs.Scenes.{SceneOf}
use Rattle.vn_packets.specs.ArpPackets.{sent_datagrams}
use Rattle.vn_packets.specs.Drops.{on_parts}

module _ {N : Type 0} (same : N → N → Bool) where
  -- the datagrams that are held on a half for an address before it is set go out after
  abbrev pub released_on : Option N → Ip4 → Mac → SceneOf N → SceneOf N → SceneOf N
  released_on None ip mac before s = s
  released_on (Some half) ip mac before s =
      sent_datagrams same half mac (held_for same half ip before.parts.arp) s

  -- arp -s: the hardware address of an address is set, and what was held for it is sent
  unfoldable pub arp_set_rule : Ip4 → Mac → SceneOf N → Rule (SceneOf N)
  arp_set_rule ip mac s = record {
    refusals = static_refusals ip mac s.parts;
    otherwise =
        done
        (released_on (gateway_half ip s.parts.routes) ip mac s
        (on_parts (after_arp_set same ip mac) s));
  }

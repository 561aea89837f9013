-- netstat(1), `-s`: how many frames, packets and datagrams were dropped.
use Rattle.std.specs.Prelude.{ℕ, List, [], ◌++◌, codes}
use Rattle.std.specs.Fmt.{decimal}
use Rattle.vn_rules.specs.declared.outcome.Outcome.TheVariants.{Value}
use Rattle.vn_rules.specs.declared.parts.Drops.{Drops}
use Rattle.vn_rules.specs.Rules.{Rule}
use Rattle.vn_rules.specs.Scenes.{SceneOf}

-- how many were dropped, by cause
unfoldable pub drops_text : Drops → List ℕ
drops_text drops =
    codes "link " ++ decimal drops.link
    ++ codes " arp " ++ decimal drops.arp
    ++ codes " ip " ++ decimal drops.ip
    ++ codes " icmp " ++ decimal drops.icmp
    ++ codes " udp " ++ decimal drops.udp
    ++ codes " full " ++ decimal drops.full

-- they are told
unfoldable pub stat_rule : {N : Type 0} → SceneOf N → Rule (SceneOf N)
stat_rule s = record {
  refusals = [];
  otherwise = record { left = s; outcome = Value (drops_text s.parts.drops) };
}

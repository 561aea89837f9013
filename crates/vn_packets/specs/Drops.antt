-- What a stack dropped, counted by cause (netstat(1), `-s`).
use Rattle.std.specs.Prelude.{ℕ, ◌+◌, Bool, if◌then◌else◌}
use Rattle.vn_rules.specs.declared.parts.Drops.{Drops}
use Rattle.vn_rules.specs.declared.parts.PartsOf.{PartsOf}
use Rattle.vn_rules.specs.Scenes.{SceneOf}
use Rattle.vn_packets.specs.declared.tally.Tally.{Tally}
use Rattle.vn_packets.specs.declared.tally.Tally.TheVariants.{Link, Arp, Ip, Icmp, Udp, Full}

-- so many more of a cause
abbrev pub with_drops : Tally → ℕ → Drops → Drops
with_drops Link n d = record d { link = d.link + n }
with_drops Arp n d = record d { arp = d.arp + n }
with_drops Ip n d = record d { ip = d.ip + n }
with_drops Icmp n d = record d { icmp = d.icmp + n }
with_drops Udp n d = record d { udp = d.udp + n }
with_drops Full n d = record d { full = d.full + n }

module _ {N : Type 0} where
  -- a stack's tables, changed
  abbrev pub on_parts : (PartsOf N → PartsOf N) → SceneOf N → SceneOf N
  on_parts f s = record s { parts = f s.parts }

  -- so many were dropped, as its tables tell
  unfoldable pub counted : Tally → ℕ → PartsOf N → PartsOf N
  counted what n p = record p { drops = with_drops what n p.drops }

  -- in its scene
  abbrev pub lost : Tally → ℕ → SceneOf N → SceneOf N
  lost what n s = on_parts (counted what n) s

  -- one, where it is so
  abbrev pub lost_if : Bool → Tally → SceneOf N → SceneOf N
  lost_if is what s = if is then lost what 1 s else s

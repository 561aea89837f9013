-- An address of a stack is announced by a half that has it.
use Rattle.std.specs.Prelude.{if◌then◌else◌}
use Rattle.vn_types.specs.declared.interface.HalfId.{HalfId}
use Rattle.vn_types.specs.declared.interface.IfOf.TheVariants.{Half}
use Rattle.vn_types.specs.Interfaces.{half_id_eq}
use Rattle.vn_rules.specs.declared.address.AddrOf.{AddrOf}
use Rattle.vn_rules.specs.Addresses.{is_on}
use Rattle.vn_rules.specs.Scenes.{SceneOf}
use Rattle.vn_packets.specs.ArpPackets.{announced}

-- the address is announced where it is one of the half
abbrev pub announced_of : HalfId → AddrOf HalfId → SceneOf HalfId → SceneOf HalfId
announced_of h a s = if is_on half_id_eq (Half h) a then announced half_id_eq h a.ip s else s

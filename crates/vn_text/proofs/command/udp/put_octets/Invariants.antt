use Rattle.std.proofs.Common.{take}
use Rattle.std.specs.List.{flat_map}
use Rattle.vn_types.specs.AddressWords.{hex_octet}
use Rattle.vn_text.proofs.Putting.{IsPut}
use Rattle.vn_text.proofs.command.udp.put_octets.Given as goal

abbrev pub invariant-loop-octet : goal.invariant-loop-octet
invariant-loop-octet l = IsPut l.fn.out.items l.out.items (flat_map hex_octet (take l.octet-index l.octets))

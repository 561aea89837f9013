use Rattle.std.proofs.Common.{take}
use Rattle.std.specs.List.{flat_map}
use Rattle.vn_cells.specs.machine.Listings.{address_part}
use Rattle.vn_text.proofs.Putting.{IsPut}
use Rattle.vn_text.proofs.listing.put_addresses.Given as goal

abbrev pub invariant-loop-address : goal.invariant-loop-address
invariant-loop-address l = IsPut l.fn.out.items l.out.items (flat_map address_part (take l.address-index l.addresses))

use Rattle.std.proofs.Common.{◌≡◌, take}
use Rattle.vn_kernel.proofs.listing.addresses_on.Given as goal

abbrev pub invariant-loop-address : goal.invariant-loop-address
invariant-loop-address l = l.addresses ≡ take l.address-index l.address-items

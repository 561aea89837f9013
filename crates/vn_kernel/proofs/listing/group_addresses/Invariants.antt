use Rattle.std.proofs.Common.{take}
use Rattle.vn_kernel.specs.Rows.{AreGrouped}
use Rattle.vn_kernel.proofs.listing.group_addresses.Given as goal

abbrev pub invariant-loop-addr : goal.invariant-loop-addr
invariant-loop-addr l = AreGrouped (take l.addr-index l.addr-items) l.groups.entries

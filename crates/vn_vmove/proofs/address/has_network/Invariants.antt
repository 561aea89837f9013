use Rattle.std.proofs.Common.{◌≡◌, ◌-◌, true, drop, length, take}
use Rattle.std.specs.List.{list_all, list_any}
use Rattle.vn_types.specs.Interfaces.{half_id_eq}
use Rattle.vn_rules.specs.Addresses.{is_address_of}
use Rattle.vn_inaddr.specs.Stacks.{of}
use Rattle.vn_vmove.proofs.Walk.{is_word}
use Rattle.vn_vmove.proofs.address.has_network.Given as goal

-- none of those before the place is of the network, and each of them is an address of 32 bits
abbrev pub invariant-loop-addr : goal.invariant-loop-addr
invariant-loop-addr l = record {
  left : list_any (is_address_of half_id_eq l.on l.to) (drop l.place (of l.addrs l.sid.0)) ≡ list_any (is_address_of half_id_eq l.on l.to) (of l.addrs l.sid.0);
  seen : list_all is_word (take l.place (of l.addrs l.sid.0)) ≡ true;
}

abbrev pub decreases-loop-addr : goal.decreases-loop-addr
decreases-loop-addr l = length (of l.addrs l.sid.0) - l.place

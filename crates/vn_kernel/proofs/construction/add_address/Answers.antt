use Rattle.std.proofs.Common.{List, ap}
use Rattle.vn_types.specs.declared.interface.HalfId.{HalfId}
use Rattle.vn_types.specs.declared.interface.IfOf.TheVariants.{Lo0}
use Rattle.vn_rules.specs.declared.address.AddrOf.{AddrOf}
use Rattle.vn_rules.specs.Addresses.{add_refusal}
use Rattle.vn_rules.specs.Construction.{loopback_ip}
use Rattle.vn_rules.specs.Networks.{directed_broadcast, first_octet, network_of}
use Rattle.vn_inaddr.specs.Stacks.{of as addresses_of}
use Rattle.vn_vmove.proofs.Addressed.{is_done}
use Rattle.vn_kernel.proofs.construction.add_address.Goals as goal

pub unwrap-requires : goal.unwrap-requires
unfolding directed_broadcast first_octet network_of
unwrap-requires c =
    is_done (add_refusal (record { on = Lo0; ip = loopback_ip; len = 8 }) (addresses_of c.args.addrs.now c.args.sid.0)) c.in_ok-added.added c.in_ok-added.ensures.answer
    (ap (λ (addresses : List (AddrOf HalfId)). add_refusal (record { on = Lo0; ip = loopback_ip; len = 8 }) addresses) c.requires)

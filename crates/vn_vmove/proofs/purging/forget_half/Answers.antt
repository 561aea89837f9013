use Rattle.std.proofs.Common.{not, sym, subst}
use Rattle.vn_types.specs.declared.interface.IfOf.TheVariants.{Half}
use Rattle.vn_types.specs.Interfaces.{half_id_eq}
use Rattle.vn_types.proofs.PerStackLaws.{after, unchanged}
use Rattle.vn_rules.specs.Pings.{is_armed_by, is_out_by}
use Rattle.vn_rules.specs.Purge.{without_names}
use Rattle.vn_arp.specs.Kept.{KnowsArms}
use Rattle.vn_arp.specs.Stacks.{of as arp_of}
use Rattle.vn_arp.proofs.Known.{knows-fewer}
use Rattle.vn_callout.specs.Stacks.{of as timers_of}
use Rattle.vn_icmp.specs.Stacks.{of as pings_of}
use Rattle.vn_inaddr.specs.Stacks.{of as addresses_of}
use Rattle.vn_vmove.proofs.Founded.{names-here}
use Rattle.vn_vmove.proofs.Leaving.{leaves}
use Rattle.vn_vmove.proofs.purging.forget_half.Goals as goal

pub purge_interface-requires-4 : goal.purge_interface-requires-4
purge_interface-requires-4 c =
    let t = c.args.tables.now in
    subst (KnowsArms half_id_eq (arp_of t.arp c.args.sid.0)) (sym c.purge_interface-3.ensures.stopped)
    (knows-fewer (arp_of t.arp c.args.sid.0) (timers_of t.wheel c.args.sid.0) c.requires (λ e. not (is_armed_by (is_out_by half_id_eq (Half c.args.half)) (pings_of t.pings c.args.sid.0).awaited e)))

pub returns : goal.returns
returns c =
    let t = c.args.tables.now in
    let sid = c.args.sid.0 in
    leaves sid t t.addrs c.purge_interface.new.self c.purge_interface-4.new.self c.purge_interface-3.new.self c.purge_interface-2.new.self c.purge_interface-4.new.wheel (without_names half_id_eq c.args.half)
    (names-here sid t c.purge_interface.new.self c.purge_interface-4.new.self c.purge_interface-3.new.self c.purge_interface-2.new.self c.purge_interface-3.new.wheel c.purge_interface-4.new.wheel c.args.half
    c.purge_interface.ensures.purged c.purge_interface-2.ensures.purged c.purge_interface-3.ensures.purged c.purge_interface-3.ensures.stopped c.purge_interface-4.ensures.purged)
    (unchanged sid (addresses_of t.addrs)) c.purge_interface.ensures.others c.purge_interface-4.ensures.others c.purge_interface-3.ensures.others c.purge_interface-2.ensures.others
    (after sid (timers_of t.wheel) (timers_of c.purge_interface-3.new.wheel) (timers_of c.purge_interface-4.new.wheel) c.purge_interface-3.ensures.other_timers c.purge_interface-4.ensures.other_timers)
    (λ known. c.purge_interface-4.ensures.knows)

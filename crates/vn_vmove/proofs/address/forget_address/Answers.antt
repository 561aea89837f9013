use Rattle.std.proofs.Common.{not, sym, subst}
use Rattle.vn_types.specs.Interfaces.{half_id_eq}
use Rattle.vn_types.proofs.PerStackLaws.{after, unchanged}
use Rattle.vn_rules.specs.Pings.{is_armed_by, is_from}
use Rattle.vn_arp.specs.Kept.{KnowsArms}
use Rattle.vn_arp.specs.Stacks.{of as arp_of}
use Rattle.vn_arp.proofs.Known.{knows-fewer}
use Rattle.vn_callout.specs.Stacks.{of as timers_of}
use Rattle.vn_icmp.specs.Stacks.{of as pings_of}
use Rattle.vn_inaddr.specs.Stacks.{of as addresses_of}
use Rattle.vn_vmove.specs.Leaving.{unfounded}
use Rattle.vn_vmove.proofs.Founded.{founded-here}
use Rattle.vn_vmove.proofs.Leaving.{leaves}
use Rattle.vn_vmove.proofs.address.forget_address.Goals as goal

pub forget_neighbours-requires : goal.forget_neighbours-requires
forget_neighbours-requires c =
    let t = c.args.tables.now in
    subst (KnowsArms half_id_eq (arp_of t.arp c.args.sid.0)) (sym c.purge_source.ensures.stopped)
    (knows-fewer (arp_of t.arp c.args.sid.0) (timers_of t.wheel c.args.sid.0) c.requires.timers (λ e. not (is_armed_by (is_from c.args.addr.ip) (pings_of t.pings c.args.sid.0).awaited e)))

pub returns : goal.returns
returns c =
    let t = c.args.tables.now in
    let sid = c.args.sid.0 in
    leaves sid t t.addrs c.unlink.new.routes c.forget_neighbours.new.arp c.purge_source.new.self c.purge_address.new.self c.forget_neighbours.new.wheel (unfounded c.args.addr)
    (founded-here sid t c.unlink.new.routes c.forget_neighbours.new.arp c.purge_source.new.self c.purge_address.new.self c.purge_source.new.wheel c.forget_neighbours.new.wheel c.args.addr
    c.unlink.ensures.left c.purge_address.ensures.purged c.purge_source.ensures.purged c.purge_source.ensures.stopped c.forget_neighbours.ensures.left)
    (unchanged sid (addresses_of t.addrs)) c.unlink.ensures.others c.forget_neighbours.ensures.others c.purge_source.ensures.others c.purge_address.ensures.others
    (after sid (timers_of t.wheel) (timers_of c.purge_source.new.wheel) (timers_of c.forget_neighbours.new.wheel) c.purge_source.ensures.other_timers c.forget_neighbours.ensures.other_timers)
    (λ known. c.forget_neighbours.ensures.knows)

use Rattle.std.proofs.Common.{sym, subst}
use Rattle.vn_types.specs.declared.interface.HalfId.{HalfId}
use Rattle.vn_types.specs.declared.interface.IfOf.{IfOf}
use Rattle.vn_types.specs.Interfaces.{half_id_eq}
use Rattle.vn_rules.specs.Arp.{without_entries}
use Rattle.vn_rules.specs.Purge.{is_uncovered}
use Rattle.vn_arp.specs.Kept.{Follows}
use Rattle.vn_arp.specs.Stacks.{of as arp_of}
use Rattle.vn_callout.specs.Stacks.{of as timers_of}
use Rattle.vn_route.specs.Stacks.{of as routes_of}
use Rattle.vn_vmove.proofs.Founded.{lo0_keeps, none_went}
use Rattle.vn_vmove.proofs.address.forget_neighbours.Goals as goal

pub returns-in_default-clause-left : goal.returns-in_default-clause-left
returns-in_default-clause-left c =
    none_went (is_uncovered half_id_eq c.args.on (routes_of c.args.routes.now c.args.sid.0)) (arp_of c.args.arp.now c.args.sid.0) (timers_of c.args.wheel.now c.args.sid.0)
    (lo0_keeps c.args.on (routes_of c.args.routes.now c.args.sid.0) c.in_default.not-Half)

pub returns-clause-left : goal.returns-clause-left
returns-clause-left c =
    subst (λ (on : IfOf HalfId). Follows (without_entries (is_uncovered half_id_eq on (routes_of c.args.routes.now c.args.sid.0))) (arp_of c.args.arp.now c.args.sid.0) (timers_of c.args.wheel.now c.args.sid.0) (arp_of c.purge_uncovered.new.self c.args.sid.0) (timers_of c.purge_uncovered.new.wheel c.args.sid.0))
    (sym c.in-Half.is) c.purge_uncovered.ensures.purged

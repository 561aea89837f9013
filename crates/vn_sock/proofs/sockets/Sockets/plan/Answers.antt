use Rattle.std.proofs.Common.{false, refl}
use Rattle.vn_sock.proofs.Kept.{changed-there, kept-there}
use Rattle.vn_sock.proofs.PortFinds.{are-apart}
use Rattle.vn_sock.proofs.sockets.Sockets.plan.Goals as goal

pub invariant_of-self : goal.invariant_of-self
invariant_of-self c =
    kept-there c.self.inside.names c.self.inside.ports c.self.inside.items.items c.self.invariant c.in-Some.place c.index_mut.result.now c.clear_error.new.self _ c.index_mut.ensures.value c.clear_error.ensures refl refl

pub returns-clause-reported : goal.returns-clause-reported
returns-clause-reported c =
    changed-there c.args.name.now c.self.inside.items.items c.args.self.now c.in-Some.place c.index_mut.result.now c.self.view_is c.in-Some.ensures.place c.index_mut.ensures.value
    (λ s. record s { refused = false }) c.clear_error.new.self (are-apart c.self.inside.names c.self.inside.ports c.self.inside.items.items c.self.invariant) c.clear_error.ensures

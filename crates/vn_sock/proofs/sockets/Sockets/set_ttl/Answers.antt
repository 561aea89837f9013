use Rattle.std.proofs.Common.{[], Some, ap, refl}
use Rattle.vn_types.specs.declared.interface.HalfId.{HalfId}
use Rattle.vn_types.specs.Refusals.{first_refusal}
use Rattle.vn_rules.specs.SocketRefusals.{of_open}
use Rattle.vn_sock.proofs.Kept.{changed-there, found-there, kept-there}
use Rattle.vn_sock.proofs.PortFinds.{are-apart}
use Rattle.vn_sock.proofs.sockets.Sockets.set_ttl.Goals as goal

pub invariant_of-self : goal.invariant_of-self
invariant_of-self c =
    kept-there c.self.inside.names c.self.inside.ports c.self.inside.items.items c.self.invariant c.in-Some.place c.index_mut.result.now c.set_ttl.new.self _ c.index_mut.ensures.value c.set_ttl.ensures refl refl

pub returns-clause-answer : goal.returns-clause-answer
returns-clause-answer c =
    ap (λ o. first_refusal (of_open {N = HalfId} (λ s. []) o))
    (found-there c.args.name.now c.self.inside.items.items c.args.self.now c.in-Some.place c.index_mut.result.now c.self.view_is c.in-Some.ensures.place c.index_mut.ensures.value)

pub returns-clause-set : goal.returns-clause-set
returns-clause-set c =
    changed-there c.args.name.now c.self.inside.items.items c.args.self.now c.in-Some.place c.index_mut.result.now c.self.view_is c.in-Some.ensures.place c.index_mut.ensures.value
    (λ s. record s { ttl = Some c.args.ttl }) c.set_ttl.new.self (are-apart c.self.inside.names c.self.inside.ports c.self.inside.items.items c.self.invariant) c.set_ttl.ensures

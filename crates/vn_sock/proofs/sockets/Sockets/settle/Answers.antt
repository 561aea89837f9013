use Rattle.std.proofs.Common.{length, ◌==◌, arith, List, ◌≡◌, Some, sym, ap, ◌∙◌, subst}
use Rattle.std.specs.Prelude.{IfSome, slice_set}
use Rattle.vn_types.specs.declared.interface.HalfId.{HalfId}
use Rattle.vn_rules.specs.declared.socket.SocketOf.{SocketOf}
use Rattle.vn_sock.specs.Ports.{port_number}
use Rattle.vn_sock.proofs.Kept.{at-place, rebound-there}
use Rattle.vn_sock.proofs.sockets.Sockets.settle.Goals as goal

pub invariant_of-self : goal.invariant_of-self
invariant_of-self c =
    rebound-there c.self.inside.names c.self.inside.ports c.self.inside.items.items c.self.invariant c.rebind.new.self c.args.place c.index_mut.result.now c.settle.new.self (omega (arith, ap length c.self.view_is)) c.index_mut.ensures.value
    (ap (λ (s : SocketOf HalfId). s.name) c.settle.ensures)
    (λ q. c.rebind.ensures.here q ∙ ap (λ (s : SocketOf HalfId). port_number s.port == q) (sym c.settle.ensures)) c.rebind.ensures.others

pub returns : goal.returns
returns c =
    let settled : SocketOf HalfId → SocketOf HalfId = λ s. record s { ip = c.args.end.0; port = Some c.args.end.1; peer = c.args.peer } in
    let there = at-place c.self.inside.items.items c.args.self.now c.args.place c.index_mut.result.now c.self.view_is c.requires c.index_mut.ensures.value in
    subst (λ o. IfSome o (λ s. slice_set c.self.inside.items.items c.args.place c.settle.new.self ≡ slice_set c.args.self.now c.args.place (settled s))) (sym there)
    (ap (slice_set c.self.inside.items.items c.args.place) c.settle.ensures ∙ ap (λ (ss : List (SocketOf HalfId)). slice_set ss c.args.place (settled c.index_mut.result.now)) c.self.view_is)

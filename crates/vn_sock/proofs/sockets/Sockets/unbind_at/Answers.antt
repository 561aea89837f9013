use Rattle.std.proofs.Common.{◌≡◌, ◌==◌, ◌<◌, List, length, arith, sym, ap, subst, ◌∙◌}
use Rattle.std.specs.Prelude.{IfSome, slice_set}
use Rattle.std.proofs.lemmas.Option.{get_or_from_slice_get}
use Rattle.vn_types.specs.declared.interface.HalfId.{HalfId}
use Rattle.vn_rules.specs.declared.socket.SocketOf.{SocketOf}
use Rattle.vn_rules.specs.Sockets.{unbound}
use Rattle.vn_sock.specs.Ports.{port_number}
use Rattle.vn_sock.proofs.Kept.{at-place, rebound-there, unbound-name}
use Rattle.vn_sock.proofs.PlaceEdits.{get-set-here}
use Rattle.vn_sock.proofs.sockets.Sockets.unbind_at.Goals as goal

pub invariant_of-self : goal.invariant_of-self
invariant_of-self c =
    let less : c.args.place < length c.self.inside.items.items = omega (arith, ap length c.self.view_is) in
    let written : c.index-2.result.now ≡ c.unbind.new.self = c.index-2.ensures
    ∙ get_or_from_slice_get (slice_set c.self.inside.items.items c.args.place c.unbind.new.self) c.args.place c.unbind.new.self c.index-2.result.now (get-set-here c.self.inside.items.items c.args.place c.unbind.new.self less) in
    rebound-there c.self.inside.names c.self.inside.ports c.self.inside.items.items c.self.invariant c.rebind.new.self c.args.place c.index_mut.result.now c.unbind.new.self less c.index_mut.ensures.value
    (ap (λ (s : SocketOf HalfId). s.name) c.unbind.ensures ∙ unbound-name c.args.ip c.index_mut.result.now)
    (λ q. c.rebind.ensures.here q ∙ ap (λ o. port_number o == q) (c.port-left.ensures ∙ ap (λ (s : SocketOf HalfId). s.port) written)) c.rebind.ensures.others

pub returns : goal.returns
returns c =
    let there = at-place c.self.inside.items.items c.args.self.now c.args.place c.index_mut.result.now c.self.view_is c.requires c.index_mut.ensures.value in
    subst (λ o. IfSome o (λ s. slice_set c.self.inside.items.items c.args.place c.unbind.new.self ≡ slice_set c.args.self.now c.args.place (unbound c.args.ip s))) (sym there)
    (ap (slice_set c.self.inside.items.items c.args.place) c.unbind.ensures ∙ ap (λ (ss : List (SocketOf HalfId)). slice_set ss c.args.place (unbound c.args.ip c.index_mut.result.now)) c.self.view_is)

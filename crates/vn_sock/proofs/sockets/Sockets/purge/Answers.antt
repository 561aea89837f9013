use Rattle.std.proofs.Common.{map, refl, sym, ap, ◌∙◌, arith}
use Rattle.vn_types.specs.Interfaces.{half_id_eq}
use Rattle.vn_rules.specs.Sockets.{unheard}
use Rattle.vn_sock.proofs.Kept.{kept-all}
use Rattle.vn_sock.proofs.Loops.{changed-next, changed-all, written-back}
use Rattle.vn_sock.proofs.sockets.Sockets.purge.Goals as goal

pub invariant_of-self : goal.invariant_of-self
invariant_of-self c =
    kept-all c.self.inside.names c.self.inside.ports c.self.inside.items.items c.self.invariant (unheard half_id_eq c.args.via) (λ s. (refl, refl)) _
    (written-back c.self.inside.items.len c.self.inside.items.items c.deref_mut-socket-items.result.now c.loop-socket.socket-items c.deref_mut-socket-items.ensures.value c.deref_mut-socket-items.ensures.len c.loop-socket.invariant.as_many
    ∙ changed-all (unheard half_id_eq c.args.via) c.deref_mut-socket-items.result.now c.loop-socket.socket-items c.loop-socket.socket-index c.loop-socket.invariant (omega arith)
    ∙ ap (map (unheard half_id_eq c.args.via)) c.deref_mut-socket-items.ensures.value)

pub loop-socket-preserved : goal.loop-socket-preserved
loop-socket-preserved c =
    changed-next (unheard half_id_eq c.args.via) c.deref_mut-socket-items.result.now c.loop-socket.socket-items c.loop-socket.socket-index c.socket-item.result c.purge.new.self
    c.loop-socket.invariant (omega arith) c.socket-item.is (c.purge.ensures ∙ ap (unheard half_id_eq c.args.via) (sym c.socket-item.is))

use Rattle.std.proofs.Common.{◌≡◌, Some, sym, ap, ap₂, ◌∙◌}
use Rattle.vn_types.specs.declared.interface.HalfId.{HalfId}
use Rattle.vn_rules.specs.declared.socket.SocketOf.{SocketOf}
use Rattle.vn_rules.specs.Sockets.{others, port_asked}
use Rattle.vn_sock.proofs.Kept.{found-alike, settled-there}
use Rattle.vn_sock.proofs.sockets.Sockets.bind.Goals as goal

pub returns-clause-bound : goal.returns-clause-bound
returns-clause-bound c =
    settled-there c.args.name.now c.args.self.now c.settle.new.self c.in-Some.place
    (λ s. record s { ip = c.args.end.0; port = port_asked c.args.end.0 c.args.end.1 (others c.args.name.now c.args.self.now) })
    (λ s. record s { ip = c.args.end.0; port = Some c.in-Ok.own; peer = c.peer-peer.result })
    c.in-Some.ensures.apart c.in-Some.ensures.place c.settle.ensures
    (λ s is.
    let same : c.index.result.now ≡ s = found-alike c.args.name.now c.self.inside.items.items c.args.self.now c.in-Some.place c.index.result.now c.self.view_is c.in-Some.ensures.place c.index.ensures s is in
    ap₂ (λ port peer. record s { ip = c.args.end.0; port = port; peer = peer }) (sym c.in-Ok.ensures.port) (c.peer-peer.ensures ∙ ap (λ (u : SocketOf HalfId). u.peer) same))

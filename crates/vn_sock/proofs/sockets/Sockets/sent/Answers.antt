use Rattle.std.proofs.Common.{◌≡◌, Option, Some, None, refl, ap, ap₂, ◌∙◌, ℕ}
use Rattle.std.specs.Option.{option_or, unwrap_or}
use Rattle.vn_types.specs.declared.address.Ip4.{Ip4}
use Rattle.vn_types.specs.declared.interface.HalfId.{HalfId}
use Rattle.vn_rules.specs.declared.socket.Peer.{Peer}
use Rattle.vn_rules.specs.declared.socket.SocketOf.{SocketOf}
use Rattle.vn_sock.proofs.Kept.{absent, found-alike, settled-there}
use Rattle.vn_sock.proofs.sockets.Sockets.sent.Goals as goal

kept : (o : Option ℕ) (port : ℕ) → Some (unwrap_or o port) ≡ option_or o (Some port)
kept None port = refl
kept (Some own) port = refl

as-sent : (s t : SocketOf HalfId) (ip : Option Ip4) (own : ℕ) (peer : Option Peer) (port : ℕ) → t ≡ s → ip ≡ t.ip → own ≡ unwrap_or t.port port → peer ≡ t.peer
    → record s { ip = ip; port = Some own; peer = peer } ≡ record s { port = option_or s.port (Some port) }
as-sent s t ip own peer port same at from to =
    ap (λ a. record s { ip = a; port = Some own; peer = peer }) (at ∙ ap (λ (u : SocketOf HalfId). u.ip) same)
    ∙ ap₂ (λ o p. record s { port = o; peer = p }) (ap Some from ∙ kept t.port port ∙ ap (λ (u : SocketOf HalfId). option_or u.port (Some port)) same) (to ∙ ap (λ (u : SocketOf HalfId). u.peer) same)

pub returns-in-Some : goal.returns-in-Some
returns-in-Some c =
    settled-there c.args.name.now c.args.self.now c.settle.new.self c.in-Some.place
    (λ s. record s { port = option_or s.port (Some c.args.port) })
    (λ s. record s { ip = c.ip.result; port = Some c.unwrap_or.result; peer = c.peer-peer.result })
    c.in-Some.ensures.apart c.in-Some.ensures.place c.settle.ensures
    (λ s is.
    as-sent s c.index-socket.result.now c.ip.result c.unwrap_or.result c.peer-peer.result c.args.port
    (found-alike c.args.name.now c.self.inside.items.items c.args.self.now c.in-Some.place c.index-socket.result.now c.self.view_is c.in-Some.ensures.place c.index-socket.ensures s is)
    c.ip.ensures (c.unwrap_or.ensures ∙ ap (λ o. unwrap_or o c.args.port) c.port.ensures) c.peer-peer.ensures)

pub returns-in_default : goal.returns-in_default
returns-in_default c = absent c.args.name.now (λ s. record s { port = option_or s.port (Some c.args.port) }) c.args.self.now c.in_default.ensures.found

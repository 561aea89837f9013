use Rattle.std.proofs.Common.{◌≡◌, Some}
use Rattle.vn_rules.specs.Sockets.{socket_named}
use Rattle.vn_sock.proofs.Kept.{found-name, found-there}
use Rattle.vn_sock.proofs.sockets.Sockets.named.Goals as goal

pub returns-in-Some : goal.returns-in-Some
returns-in-Some c =
    let found : socket_named c.args.name.now c.args.self.now ≡ Some c.index.result.now =
    found-there c.args.name.now c.self.inside.items.items c.args.self.now c.in-Some.place c.index.result.now c.self.view_is c.in-Some.ensures.place c.index.ensures in
    (found, found-name c.args.name.now c.args.self.now c.index.result.now found)

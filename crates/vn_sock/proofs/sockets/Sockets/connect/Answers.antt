use Rattle.vn_sock.proofs.Kept.{connected-there}
use Rattle.vn_sock.proofs.sockets.Sockets.connect.Goals as goal

pub returns-clause-connected : goal.returns-clause-connected
returns-clause-connected c =
    connected-there c.args.name.now c.args.self.now c.settle.new.self c.in-Some.place c.args.peer c.args.source c.in-Ok.end
    c.in-Some.ensures.apart c.in-Some.ensures.place c.settle.ensures c.in-Ok.ensures.end

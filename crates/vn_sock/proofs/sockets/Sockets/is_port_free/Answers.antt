use Rattle.std.proofs.Common.{rules, tests, not, ◌&&◌}
use Rattle.std.proofs.lemmas.Iterator.{YieldsList-from_slice}
use Rattle.std.proofs.lemmas.Iterator.Search.{any_from_yields_List}
use Rattle.vn_rules.specs.Ports.{conflicts}
use Rattle.vn_rules.specs.Sockets.{is_named}
use Rattle.vn_sock.specs.declared.port_index.Bound.{Bound}
use Rattle.vn_sock.proofs.PlaceEdits.{passes_at}
use Rattle.vn_sock.proofs.PortFinds.{free-at}
use Rattle.vn_sock.proofs.sockets.Sockets.is_port_free.Goals as goal

pub returns : goal.returns
returns c =
    free-at c.self.inside.names c.self.inside.ports c.self.inside.items.items c.args.self.now c.self.invariant c.self.view_is c.args.port c.at.result.now c.at.ensures.under c.at.ensures.ordered c.args.socket.now.name c.args.ip c.any.result
    (any_from_yields_List (λ (b : Bound). passes_at (λ s. not (is_named c.args.socket.now.name s) && conflicts c.args.ip c.args.port s) c.args.self.now b.place) c.any.new.self _ c.any.result c.any.ensures.ran
    (YieldsList-from_slice c.at.result.now cc) (λ x b q k. search (rules, tests)))

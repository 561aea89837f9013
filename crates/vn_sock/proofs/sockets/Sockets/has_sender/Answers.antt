use Rattle.std.proofs.Common.{rules, tests}
use Rattle.std.proofs.lemmas.Iterator.{YieldsList-from_slice}
use Rattle.std.proofs.lemmas.Iterator.Search.{any_from_yields_List}
use Rattle.vn_rules.specs.Sockets.{has_sent}
use Rattle.vn_sock.specs.declared.port_index.Bound.{Bound}
use Rattle.vn_sock.proofs.PlaceEdits.{passes_at}
use Rattle.vn_sock.proofs.PortFinds.{sent-by}
use Rattle.vn_sock.proofs.sockets.Sockets.has_sender.Goals as goal

pub returns : goal.returns
returns c =
    sent-by c.self.inside.names c.self.inside.ports c.self.inside.items.items c.args.self.now c.self.invariant c.self.view_is c.args.ends.sport c.at.result.now c.at.ensures.under c.at.ensures.ordered c.args.ends.src c.args.ends.dst c.args.ends.dport c.any.result
    (any_from_yields_List (λ (b : Bound). passes_at (has_sent c.args.ends.src c.args.ends.sport c.args.ends.dst c.args.ends.dport) c.args.self.now b.place) c.any.new.self _ c.any.result c.any.ensures.ran
    (YieldsList-from_slice c.at.result.now cc) (λ x b q k. search (rules, tests)))

use Rattle.std.proofs.Common.{[], List, sym, ap, subst, ◌∙◌}
use Rattle.std.specs.List.{position}
use Rattle.vn_types.specs.declared.interface.HalfId.{HalfId}
use Rattle.vn_rules.specs.declared.socket.SocketOf.{SocketOf}
use Rattle.vn_types.specs.Refusals.{first_refusal}
use Rattle.vn_rules.specs.SocketRefusals.{of_open}
use Rattle.vn_rules.specs.Sockets.{is_named, others}
use Rattle.vn_sock.specs.Kept.{IsIndexed, names_of, numbers_of}
use Rattle.vn_sock.proofs.Kept.{closed-there, found-there, others-left}
use Rattle.vn_sock.proofs.sockets.Sockets.close.Goals as goal

pub invariant_of-self : goal.invariant_of-self
invariant_of-self c =
    subst (λ (ss : List (SocketOf HalfId)). IsIndexed c.remove.new.self c.remove-2.new.self (names_of ss) (numbers_of ss)) (sym c.remove-3.ensures.items)
    (closed-there c.self.inside.names c.self.inside.ports c.self.inside.items.items c.self.invariant c.remove.new.self c.remove-2.new.self c.args.name.now c.in-Some.place (c.in-Some.ensures.place ∙ ap (position (is_named c.args.name.now)) (sym c.self.view_is)) c.remove.ensures c.remove-2.ensures)

pub returns-clause-closed : goal.returns-clause-closed
returns-clause-closed c =
    c.remove-3.ensures.items ∙ others-left c.self.inside.names c.self.inside.ports c.self.inside.items.items c.self.invariant c.args.name.now c.in-Some.place (c.in-Some.ensures.place ∙ ap (position (is_named c.args.name.now)) (sym c.self.view_is)) ∙ ap (others c.args.name.now) c.self.view_is

pub returns-clause-answer : goal.returns-clause-answer
returns-clause-answer c =
    ap (λ o. first_refusal (of_open {N = HalfId} (λ s. []) o))
    (found-there c.args.name.now c.self.inside.items.items c.args.self.now c.in-Some.place c.index.result.now c.self.view_is c.in-Some.ensures.place c.index.ensures)

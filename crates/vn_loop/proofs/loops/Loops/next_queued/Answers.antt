use Rattle.std.proofs.Common.{count_by, rules, tests, sym, ap, ◌∙◌}
use Rattle.std.proofs.lemmas.Iterator.{YieldsList-from_slice}
use Rattle.std.proofs.lemmas.Iterator.Search.{find_from_yields_List}
use Rattle.vn_types.specs.declared.interface.Sid.{Sid}
use Rattle.vn_loop.specs.Queues.{of, is_busy}
use Rattle.vn_loop.proofs.Busy.{none-busy, find-none}
use Rattle.vn_loop.proofs.loops.Loops.next_queued.Goals as goal

pub returns-then-self-eq0 : goal.returns-then-self-eq0
returns-then-self-eq0 c =
    sym (find-none (λ (sid : Sid). is_busy (of c.args.self.now sid.0)) c.args.order.now (λ sid. none-busy c.args.self.now (sym (ap (count_by is_busy) c.self.view_is) ∙ sym c.self.invariant ∙ c.if-self-eq0.true) sid.0))

pub returns : goal.returns
returns c =
    c.copied.ensures
    ∙ find_from_yields_List (λ (sid : Sid). is_busy (of c.args.self.now sid.0)) _ _ c.find.result c.find.ensures.ran (YieldsList-from_slice c.args.order.now cc) (λ x b q k. search (rules, tests))

use Rattle.std.proofs.Common.{Option, Some, sym, ap, ◌∙◌, rules, tests}
use Rattle.std.specs.Borrow.{Bor}
use Rattle.std.specs.Option.{option_map}
use Rattle.std.proofs.lemmas.Iterator.{YieldsList-from_slice}
use Rattle.std.proofs.lemmas.Iterator.Search.{find_from_yields_List}
use Rattle.vn_rules.specs.Sockets.{qualifies}
use Rattle.vn_sock.specs.declared.port_index.Bound.{Bound}
use Rattle.vn_sock.proofs.PlaceEdits.{passes_at}
use Rattle.vn_sock.proofs.Kept.{match-within}
use Rattle.vn_sock.proofs.PortFinds.{first-for}
use Rattle.vn_sock.proofs.sockets.Sockets.demux.Goals as goal

pub returns-in_err-bound-clause-place : goal.returns-in_err-bound-clause-place
returns-in_err-bound-clause-place c =
    let found = first-for c.self.inside.names c.self.inside.ports c.self.inside.items.items c.args.self.now c.self.invariant c.self.view_is c.args.dport c.at.result.now c.at.ensures.under c.at.ensures.ordered c.args.dst c.args.src c.args.sport _
    (find_from_yields_List (λ (b : Bound). passes_at (qualifies c.args.dst c.args.dport c.args.src c.args.sport) c.args.self.now b.place) _ _ c.find.result c.find.ensures.ran
    (YieldsList-from_slice c.at.result.now cc) (λ x b q k. search (rules, tests))) in
    c.from_residual.ensures ∙ ap (λ (r : Option (Bor Bound)). option_map (λ (b : Bound). b.place) (option_map (λ (b : Bor Bound). b.now) r)) (sym c.in_err-bound.was) ∙ found

pub returns-clause-place : goal.returns-clause-place
returns-clause-place c =
    let found = first-for c.self.inside.names c.self.inside.ports c.self.inside.items.items c.args.self.now c.self.invariant c.self.view_is c.args.dport c.at.result.now c.at.ensures.under c.at.ensures.ordered c.args.dst c.args.src c.args.sport _
    (find_from_yields_List (λ (b : Bound). passes_at (qualifies c.args.dst c.args.dport c.args.src c.args.sport) c.args.self.now b.place) _ _ c.find.result c.find.ensures.ran
    (YieldsList-from_slice c.at.result.now cc) (λ x b q k. search (rules, tests))) in
    ap (λ (r : Option (Bor Bound)). option_map (λ (b : Bound). b.place) (option_map (λ (b : Bor Bound). b.now) r)) (sym c.in_ok-bound.was) ∙ found

pub returns-clause-within : goal.returns-clause-within
returns-clause-within c =
    let found = first-for c.self.inside.names c.self.inside.ports c.self.inside.items.items c.args.self.now c.self.invariant c.self.view_is c.args.dport c.at.result.now c.at.ensures.under c.at.ensures.ordered c.args.dst c.args.src c.args.sport _
    (find_from_yields_List (λ (b : Bound). passes_at (qualifies c.args.dst c.args.dport c.args.src c.args.sport) c.args.self.now b.place) _ _ c.find.result c.find.ensures.ran
    (YieldsList-from_slice c.at.result.now cc) (λ x b q k. search (rules, tests))) in
    match-within (qualifies c.args.dst c.args.dport c.args.src c.args.sport) c.args.self.now (Some c.in_ok-bound.bound.now.place)
    (ap (λ (r : Option (Bor Bound)). option_map (λ (b : Bound). b.place) (option_map (λ (b : Bor Bound). b.now) r)) (sym c.in_ok-bound.was) ∙ found)

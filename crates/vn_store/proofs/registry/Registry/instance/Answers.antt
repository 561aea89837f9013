use Rattle.std.proofs.Common.{◌≡◌, [], ◌++◌, map, rules, sym, ap, ◌∙◌}
use Rattle.std.specs.Map.{values_of}
use Rattle.std.proofs.lemmas.Result.{on_ok_weaker, on_err_weaker}
use Rattle.vn_rules.specs.declared.variable.Bounds.{Bounds}
use Rattle.vn_rules.specs.Variables.{Declaration}
use Rattle.vn_store.specs.Variables.{declared_in, is_row}
use Rattle.vn_store.proofs.Registers.{either, all_values, first_values_of, first_row, of-started, of-others, sound-others, unchanged-row}
use Rattle.vn_store.proofs.registry.Registry.instance.Goals as goal

pub loop-bounds-init : goal.loop-bounds-init
loop-bounds-init c =
    let rest : c.into_iter-bounds-iterator.result ≡ values_of c.self.inside.declared.entries = search rules in
    (λ i. c.new-values.ensures.items i ++ map (λ (b : Bounds). b.initial) (rest i))
    ∙ first_values_of c.self.inside.declared.entries
    ∙ ap (λ h. map (λ (d : Declaration). d.1.initial) h.declared) c.self.view_is

pub invariant_of-self : goal.invariant_of-self
invariant_of-self c =
    let none : c.loop-bounds.bounds-iterator ≡ [] = search rules in
    let first =
    all_values c.self.inside.declared.entries c.loop-bounds.values.items c.loop-bounds.bounds-iterator none
    (c.loop-bounds.invariant ∙ ap (λ h. map (λ (d : Declaration). d.1.initial) h.declared) (sym c.self.view_is)) in
    sound-others c.self.inside.declared.entries c.args.sid.0 c.self.inside.values c.start.new.self c.start.ensures.others c.self.invariant
    (either c.start.result (λ is. ap (is_row (declared_in c.self.inside.declared.entries)) is ∙ first_row c.self.inside.declared.entries c.args.sid.0 c.loop-bounds.values.items first c.self.invariant.0)
    (λ is. ap (is_row (declared_in c.self.inside.declared.entries)) is ∙ c.self.invariant.1 c.args.sid.0) c.start.ensures.started c.start.ensures.kept)

pub returns-clause-started : goal.returns-clause-started
returns-clause-started c =
    let none : c.loop-bounds.bounds-iterator ≡ [] = search rules in
    let first =
    all_values c.self.inside.declared.entries c.loop-bounds.values.items c.loop-bounds.bounds-iterator none
    (c.loop-bounds.invariant ∙ ap (λ h. map (λ (d : Declaration). d.1.initial) h.declared) (sym c.self.view_is)) in
    rw (← c.self.view_is) (on_ok_weaker c.start.result (of-started c.self.inside.declared.entries c.args.sid.0 c.loop-bounds.values.items first c.start.new.self) c.start.ensures.started)

pub returns-clause-kept : goal.returns-clause-kept
returns-clause-kept c =
    rw (← c.self.view_is) (on_err_weaker c.start.result (unchanged-row c.self.inside.declared.entries c.args.sid.0 c.self.inside.values c.start.new.self c.start.ensures.others) c.start.ensures.kept)

pub returns-clause-others : goal.returns-clause-others
returns-clause-others c = rw (← c.self.view_is) (of-others c.self.inside.declared.entries c.args.sid.0 c.self.inside.values c.start.new.self c.start.ensures.others)

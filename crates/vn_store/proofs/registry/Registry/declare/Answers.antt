use Rattle.std.proofs.Common.{◌≡◌, true, None, is_some, refl, sym, ap, ◌∙◌}
use Rattle.std.proofs.lemmas.Bool.{false≢true}
use Rattle.vn_rules.specs.Variables.{bounds_of}
use Rattle.vn_store.proofs.Registers.{is_declared, not_declared, not_taken}
use Rattle.vn_store.proofs.registry.Registry.declare.Goals as goal

pub returns-then-contains_key-clause-taken : goal.returns-then-contains_key-clause-taken
returns-then-contains_key-clause-taken c =
    (λ _. rw (← c.self.view_is) (is_declared c.args.name.now c.self.inside.declared.entries true (sym c.if-contains_key.true ∙ c.contains_key.ensures)), λ _. refl)

pub add-requires-clause-new : goal.add-requires-clause-new
add-requires-clause-new c = rw (← c.self.view_is) (not_declared c.args.name.now c.self.inside.declared.entries (sym c.if-contains_key.false ∙ c.contains_key.ensures))

pub returns-clause-taken : goal.returns-clause-taken
returns-clause-taken c =
    let none : bounds_of c.args.name.now c.args.self.now.declared ≡ None =
    rw (← c.self.view_is) (not_declared c.args.name.now c.self.inside.declared.entries (sym c.if-contains_key.false ∙ c.contains_key.ensures)) in
    (λ same. cc, λ there. absurd (false≢true (sym (ap is_some none) ∙ there)))

pub returns-in_err-add-clause-taken : goal.returns-in_err-add-clause-taken
returns-in_err-add-clause-taken c =
    let none : bounds_of c.args.name.now c.args.self.now.declared ≡ None =
    rw (← c.self.view_is) (not_declared c.args.name.now c.self.inside.declared.entries (sym c.if-contains_key.false ∙ c.contains_key.ensures)) in
    (λ same. absurd (not_taken c.from_residual.result c.from_residual.ensures.1 same), λ there. absurd (false≢true (sym (ap is_some none) ∙ there)))

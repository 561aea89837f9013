use Rattle.std.proofs.Common.{◌≡◌, true, IsSome, is_some, sym, ap, subst, ◌∙◌, None}
use Rattle.std.proofs.lemmas.Bool.{false≢true}
use Rattle.vn_types.specs.PerStack.{of as kept_for}
use Rattle.vn_rules.specs.Variables.{bounds_of}
use Rattle.vn_store.specs.Held.{of}
use Rattle.vn_store.proofs.Places.{IsAt-from_position}
use Rattle.vn_store.proofs.Registers.{place_within, value_in-place, allowed_value, not_declared, is_declared, has_row}
use Rattle.vn_store.proofs.registry.Registry.get.Goals as goal

pub get-requires : goal.get-requires
get-requires c =
    place_within c.args.name.now c.self.inside.declared.entries c.in-Some.place (IsAt-from_position c.args.name.now c.self.inside.declared.entries c.in-Some.place (sym c.in-Some.ensures.index))
    (kept_for None c.self.inside.values c.args.sid.0) (c.self.invariant.1 c.args.sid.0)
    (has_row c.self.inside.declared.entries c.self.inside.values c.args.sid.0 (subst (λ h. IsSome (of h c.args.sid.0)) (sym c.self.view_is) c.requires))

pub returns-in-Some-clause-value : goal.returns-in-Some-clause-value
returns-in-Some-clause-value c =
    rw (← c.self.view_is) (value_in-place c.args.name.now c.self.inside.declared.entries c.in-Some.place
    (IsAt-from_position c.args.name.now c.self.inside.declared.entries c.in-Some.place (sym c.in-Some.ensures.index)) c.self.inside.values c.args.sid.0 c.get.result (c.self.invariant.1 c.args.sid.0)
    c.get.ensures)

pub returns-in-Some-clause-bounds : goal.returns-in-Some-clause-bounds
returns-in-Some-clause-bounds c =
    rw (← c.self.view_is) (allowed_value c.args.name.now c.self.inside.declared.entries c.in-Some.place
    (IsAt-from_position c.args.name.now c.self.inside.declared.entries c.in-Some.place (sym c.in-Some.ensures.index)) (kept_for None c.self.inside.values c.args.sid.0) c.get.result
    (c.self.invariant.1 c.args.sid.0) c.get.ensures)

pub returns-in-Some-clause-unknown : goal.returns-in-Some-clause-unknown
returns-in-Some-clause-unknown c =
    let known : is_some (bounds_of c.args.name.now c.args.self.now.declared) ≡ true =
    rw (← c.self.view_is) (is_declared c.args.name.now c.self.inside.declared.entries true c.in-Some.ensures.found) in
    (λ same. absurd (false≢true same), λ none. sym (ap is_some none) ∙ known)

pub returns-in-None-clause-unknown : goal.returns-in-None-clause-unknown
returns-in-None-clause-unknown c = (λ _. rw (← c.self.view_is) (not_declared c.args.name.now c.self.inside.declared.entries c.in-None.ensures.found), λ none i. true)

use Rattle.std.proofs.Common.{IsSome, sym, ap, subst, ◌∙◌, None}
use Rattle.vn_types.specs.PerStack.{of as kept_for}
use Rattle.vn_rules.specs.Variables.{bounds_of}
use Rattle.vn_store.specs.Variables.{declared_in, is_row}
use Rattle.vn_store.specs.Held.{of}
use Rattle.vn_store.specs.Faults.{set_fault}
use Rattle.vn_store.proofs.Places.{IsAt-from_position, bounds_of-declared_in}
use Rattle.vn_store.proofs.Registers.{set_fault-allowed, set_fault-range, not_declared, has_row, place_within, of-set, is_row-set, of-others, sound-others}
use Rattle.vn_store.proofs.registry.Registry.set.Goals as goal

pub returns-then-not-allows-clause-fault : goal.returns-then-not-allows-clause-fault
returns-then-not-allows-clause-fault c =
    rw (← c.self.view_is) (sym (set_fault-range (bounds_of c.args.name.now (declared_in c.self.inside.declared.entries)) c.index-bounds.result.now c.args.value
    (bounds_of-declared_in c.args.name.now c.self.inside.declared.entries ∙ sym c.in-Some.ensures.value ∙ c.index-bounds.ensures) (sym c.allows.ensures ∙ c.if-not-allows.true)))

pub set-requires : goal.set-requires
set-requires c =
    place_within c.args.name.now c.self.inside.declared.entries c.in-Some.place (IsAt-from_position c.args.name.now c.self.inside.declared.entries c.in-Some.place (sym c.in-Some.ensures.index))
    (kept_for None c.self.inside.values c.args.sid.0) (c.self.invariant.1 c.args.sid.0)
    (has_row c.self.inside.declared.entries c.self.inside.values c.args.sid.0 (subst (λ h. IsSome (of h c.args.sid.0)) (sym c.self.view_is) c.requires))

pub invariant_of-self : goal.invariant_of-self
invariant_of-self c =
    sound-others c.self.inside.declared.entries c.args.sid.0 c.self.inside.values c.set.new.self c.set.ensures.others c.self.invariant
    (ap (is_row (declared_in c.self.inside.declared.entries)) c.set.ensures.set
    ∙ is_row-set c.args.name.now c.self.inside.declared.entries c.in-Some.place
    (IsAt-from_position c.args.name.now c.self.inside.declared.entries c.in-Some.place (sym c.in-Some.ensures.index)) c.args.value c.index-bounds.result.now (kept_for None c.self.inside.values c.args.sid.0)
    (bounds_of-declared_in c.args.name.now c.self.inside.declared.entries ∙ sym c.in-Some.ensures.value ∙ c.index-bounds.ensures) (sym c.allows.ensures ∙ c.if-not-allows.false) (c.self.invariant.1 c.args.sid.0))

pub returns-else-not-allows-clause-fault : goal.returns-else-not-allows-clause-fault
returns-else-not-allows-clause-fault c =
    rw (← c.self.view_is) (sym (set_fault-allowed (bounds_of c.args.name.now (declared_in c.self.inside.declared.entries)) c.index-bounds.result.now c.args.value
    (bounds_of-declared_in c.args.name.now c.self.inside.declared.entries ∙ sym c.in-Some.ensures.value ∙ c.index-bounds.ensures) (sym c.allows.ensures ∙ c.if-not-allows.false)))

pub returns-else-not-allows-clause-set : goal.returns-else-not-allows-clause-set
returns-else-not-allows-clause-set c =
    rw (← c.self.view_is) (of-set c.args.name.now c.self.inside.declared.entries c.in-Some.place
    (IsAt-from_position c.args.name.now c.self.inside.declared.entries c.in-Some.place (sym c.in-Some.ensures.index)) c.args.value c.args.sid.0 c.self.inside.values c.set.new.self
    (c.self.invariant.1 c.args.sid.0) c.set.ensures.set)

pub returns-else-not-allows-clause-others : goal.returns-else-not-allows-clause-others
returns-else-not-allows-clause-others c = rw (← c.self.view_is) (of-others c.self.inside.declared.entries c.args.sid.0 c.self.inside.values c.set.new.self c.set.ensures.others)

pub returns-in-None-clause-fault : goal.returns-in-None-clause-fault
returns-in-None-clause-fault c =
    rw (← c.self.view_is) (ap (λ o. set_fault o c.args.value) (sym (not_declared c.args.name.now c.self.inside.declared.entries c.in-None.ensures.found)))

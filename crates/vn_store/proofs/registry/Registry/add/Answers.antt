use Rattle.std.proofs.Common.{◌≡◌, None, refl, sym, subst}
use Rattle.vn_types.specs.PerStack.{of as kept_for}
use Rattle.vn_rules.specs.Variables.{bounds_of}
use Rattle.vn_store.proofs.Registers.{on_err, enough, sound-first, unchanged-first, declared-more, sound-more, of-more}
use Rattle.vn_store.proofs.registry.Registry.add.Goals as goal

pub give-requires : goal.give-requires
give-requires c = λ q. enough c.self.inside.declared.entries c.len-count.result (kept_for None c.self.inside.values q) c.len-count.ensures.len (c.self.invariant.1 q)

pub invariant_of-self : goal.invariant_of-self
invariant_of-self c =
    sound-first c.self.inside.declared.entries c.len-count.result c.len-count.ensures.len c.self.inside.values c.give.new.self c.self.inside.declared.entries refl c.give.ensures.first
    c.self.invariant

pub returns-in_err-give-clause-kept : goal.returns-in_err-give-clause-kept
returns-in_err-give-clause-kept c =
    rw (← c.self.view_is) (on_err c.from_residual-in_err-give.result (unchanged-first c.self.inside.declared.entries c.len-count.result c.len-count.ensures.len c.self.inside.values c.give.new.self
    c.self.inside.declared.entries refl c.give.ensures.first))

pub invariant_of-self-in_err-insert : goal.invariant_of-self-in_err-insert
invariant_of-self-in_err-insert c =
    sound-first c.self.inside.declared.entries c.len-count.result c.len-count.ensures.len c.self.inside.values c.give.new.self c.insert.new.self.entries c.in_err-insert.ensures.err
    c.give.ensures.first c.self.invariant

pub returns-in_err-insert-clause-kept : goal.returns-in_err-insert-clause-kept
returns-in_err-insert-clause-kept c =
    rw (← c.self.view_is) (on_err c.from_residual-in_err-insert.result (unchanged-first c.self.inside.declared.entries c.len-count.result c.len-count.ensures.len c.self.inside.values c.give.new.self
    c.insert.new.self.entries c.in_err-insert.ensures.err c.give.ensures.first))

pub invariant_of-self-2 : goal.invariant_of-self-2
invariant_of-self-2 c =
    sound-more c.self.inside.declared.entries c.len-count.result c.len-count.ensures.len c.self.inside.values c.give.new.self c.args.name.now c.args.bounds c.in_ok-name.name c.in_ok-name.ensures.ok
    (subst (λ h. bounds_of c.args.name.now h.declared ≡ None) (sym c.self.view_is) c.requires.new) c.insert.new.self.entries c.in_ok-insert.ensures.entries c.in_ok-give.ensures.given
    c.requires.initial c.self.invariant

pub returns-clause-declared : goal.returns-clause-declared
returns-clause-declared c =
    rw (← c.self.view_is) (declared-more c.self.inside.declared.entries c.len-count.result c.len-count.ensures.len c.self.inside.values c.give.new.self c.args.name.now c.args.bounds c.in_ok-name.name
    c.in_ok-name.ensures.ok (subst (λ h. bounds_of c.args.name.now h.declared ≡ None) (sym c.self.view_is) c.requires.new) c.insert.new.self.entries c.in_ok-insert.ensures.entries
    c.in_ok-give.ensures.given)

pub returns-clause-given : goal.returns-clause-given
returns-clause-given c =
    rw (← c.self.view_is) (of-more c.self.inside.declared.entries c.len-count.result c.len-count.ensures.len c.self.inside.values c.give.new.self c.args.name.now c.args.bounds c.in_ok-name.name
    c.in_ok-name.ensures.ok (subst (λ h. bounds_of c.args.name.now h.declared ≡ None) (sym c.self.view_is) c.requires.new) c.insert.new.self.entries c.in_ok-insert.ensures.entries
    c.in_ok-give.ensures.given c.self.invariant)

use Rattle.std.proofs.Common.{◌<◌, cond, Some, is_ok, ap, subst, ◌∙◌}
use Rattle.std.specs.BTreeMap.{is_at}
use Rattle.vn_epair.specs.declared.name_index.Filled.{Filled}
use Rattle.vn_epair.specs.Kept.{Names, name_cmp, told}
use Rattle.vn_epair.proofs.Fillings.{filled-changed, named-through, stays-some}
use Rattle.vn_epair.proofs.name_index.NameIndex.insert.Goals as goal

pub invariant_of-self-2 : goal.invariant_of-self-2
invariant_of-self-2 c =
    let ends = c.at_or_new.follows.holds (record { units = c.first_unnamed-filled.result }) (ap is_ok c.in_ok-filled.was) in
    let some = stays-some c.self.inside.numbers.entries c.insert.new.self.entries c.args.home.0 c.args.unit c.args.number (λ k. c.in_ok-insert.ensures.updates.0 k) in
    filled-changed c.self.inside.numbers.entries c.insert.new.self.entries c.self.inside.filled _ c.args.home.0 c.self.invariant (λ h unit ne. some (h, unit)) ends.others
    (λ unit below. named-through c.insert.new.self.entries c.args.home.0 c.in_ok-filled.filled.now.units c.first_unnamed-filled.result
    (λ lower less. some (c.args.home.0, lower) (c.self.invariant.homes c.args.home.0 lower (subst (λ (f : Filled). lower < f.units) c.in_ok-filled.ensures.row less))) c.first_unnamed-filled.ensures unit
    (subst (λ (f : Filled). unit < f.units) ends.here below))

pub returns-clause-inserted : goal.returns-clause-inserted
returns-clause-inserted c = λ k.
    c.in_ok-insert.ensures.updates.0 k
    ∙ ap (λ (names : Names). cond (is_at (name_cmp (c.args.home.0, c.args.unit)) k) (Some c.args.number) (told names k)) c.self.view_is

use Rattle.std.proofs.Common.{◌≡◌, ◌≤◌, None, cond, rules, ap, ◌∙◌, arith}
use Rattle.std.specs.BTreeMap.{is_at}
use Rattle.vn_epair.specs.declared.name_index.Filled.{Filled}
use Rattle.vn_epair.specs.Kept.{Names, filled_of, name_cmp, told}
use Rattle.vn_epair.proofs.Fillings.{filled-lowered, filled-without, of_home}
use Rattle.vn_epair.proofs.name_index.NameIndex.remove.Goals as goal

pub invariant_of-self : goal.invariant_of-self
invariant_of-self c =
    let none : of_home c.self.inside.filled c.args.home.0 ≡ record { units = 0 } = search rules in
    filled-without c.self.inside.numbers.entries c.remove.new.self.entries c.self.inside.filled c.args.home.0 c.args.unit 0 c.self.invariant (λ k. c.remove.ensures.updates.0 k) none

pub returns-in_default : goal.returns-in_default
returns-in_default c = λ k.
    c.remove.ensures.updates.0 k ∙ ap (λ (names : Names). cond (is_at (name_cmp (c.args.home.0, c.args.unit)) k) None (told names k)) c.self.view_is

pub invariant_of-self-2 : goal.invariant_of-self-2
invariant_of-self-2 c =
    let was = ap (λ (f : Filled). f.units) c.in-Some.ensures.row in
    let least : c.min-filled.result ≤ filled_of c.self.inside.filled c.args.home.0 = omega (arith, was, c.min-filled.ensures) in
    let most : c.min-filled.result ≤ c.args.unit = omega (arith, c.min-filled.ensures) in
    filled-lowered c.self.inside.numbers.entries c.remove.new.self.entries c.self.inside.filled c.args.home.0 c.args.unit c.min-filled.result c.self.invariant (λ k. c.remove.ensures.updates.0 k) least most

pub returns : goal.returns
returns c = λ k.
    c.remove.ensures.updates.0 k ∙ ap (λ (names : Names). cond (is_at (name_cmp (c.args.home.0, c.args.unit)) k) None (told names k)) c.self.view_is

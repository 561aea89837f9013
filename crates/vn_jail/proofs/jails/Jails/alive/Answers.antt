use Rattle.std.proofs.Common.{rules, ◌≡◌, true, false, Some, None, sym, ap, ◌∙◌, ◌<◌, length, subst}
use Rattle.std.specs.BTreeMap.{get}
use Rattle.std.proofs.lemmas.Bool.{false≢true}
use Rattle.vn_types.specs.Paths.{path_cmp}
use Rattle.vn_jail.specs.Tree.{is_alive, number_of}
use Rattle.vn_jail.proofs.Numbers.{dead, alive-found, found-within, number-found}
use Rattle.vn_jail.proofs.jails.Jails.alive.Goals as goal

pub returns-in_default-clause-alive : goal.returns-in_default-clause-alive
returns-in_default-clause-alive c =
    let gone : get path_cmp c.self.inside.numbers c.args.path.now ≡ None = search rules in
    (λ e. absurd (false≢true e), λ alive. sym (dead c.self.inside.jails.items c.self.inside.numbers c.self.invariant.numbered c.args.path.now gone) ∙ ap (is_alive c.args.path.now) c.self.view_is ∙ alive)

pub returns-then-not-index-clause-alive : goal.returns-then-not-index-clause-alive
returns-then-not-index-clause-alive c =
    let there : get path_cmp c.self.inside.numbers c.args.path.now ≡ Some c.in-Some.number.now = search rules in
    let is = alive-found c.self.inside.jails.items c.self.inside.numbers c.self.invariant.numbered c.args.path.now c.self.invariant.linked c.in-Some.number.now c.index.result.now there c.index.ensures in
    let not' : c.index.result.now.alive ≡ false = search rules in
    (λ e. absurd (false≢true e), λ alive. sym not' ∙ sym is ∙ ap (is_alive c.args.path.now) c.self.view_is ∙ alive)

pub returns-clause-alive : goal.returns-clause-alive
returns-clause-alive c =
    let there : get path_cmp c.self.inside.numbers c.args.path.now ≡ Some c.in-Some.number.now = search rules in
    let is = alive-found c.self.inside.jails.items c.self.inside.numbers c.self.invariant.numbered c.args.path.now c.self.invariant.linked c.in-Some.number.now c.index.result.now there c.index.ensures in
    let lives : c.index.result.now.alive ≡ true = search rules in
    (λ e. sym (ap (is_alive c.args.path.now) c.self.view_is) ∙ is ∙ lives, λ alive. search rules)

pub returns-clause-number : goal.returns-clause-number
returns-clause-number c =
    let there : get path_cmp c.self.inside.numbers c.args.path.now ≡ Some c.in-Some.number.now = search rules in
    number-found c.self.inside.jails.items c.self.inside.numbers c.self.invariant.numbered c.args.path.now c.self.invariant.linked c.in-Some.number.now there ∙ ap (number_of c.args.path.now) c.self.view_is

pub returns-clause-within : goal.returns-clause-within
returns-clause-within c =
    let there : get path_cmp c.self.inside.numbers c.args.path.now ≡ Some c.in-Some.number.now = search rules in
    subst (λ js. c.in-Some.number.now < length js) c.self.view_is (found-within c.self.inside.jails.items c.self.inside.numbers c.self.invariant.numbered c.args.path.now c.in-Some.number.now there)

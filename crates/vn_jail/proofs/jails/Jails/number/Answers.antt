use Rattle.std.proofs.Common.{◌≡◌, ◌++◌, ◌∷◌, [], None, Some, length, sym, ap, ap₂, ◌∙◌, subst, rules, cond}
use Rattle.std.specs.BTreeMap.{get, is_at}
use Rattle.vn_types.specs.Paths.{path_cmp, parent}
use Rattle.vn_jail.specs.Tree.{dead_jail, is_alive, is_known, number_of}
use Rattle.vn_jail.specs.Kept.{IsKept}
use Rattle.vn_jail.proofs.Numbers.{found-path, found-within, is-known, number-found, number-none, unknown}
use Rattle.vn_jail.proofs.Known.{kept-known, known-is, known-new}
use Rattle.vn_jail.proofs.jails.Jails.number.Goals as goal

pub returns-in-Some-clause-known : goal.returns-in-Some-clause-known
returns-in-Some-clause-known c =
    let there : get path_cmp c.self.inside.numbers c.args.path.now ≡ Some c.in-Some.number.now = search rules in
    let own = is-known c.self.inside.jails.items c.self.invariant.linked c.args.path.now c.in-Some.number.now (found-within c.self.inside.jails.items c.self.inside.numbers c.self.invariant.numbered c.args.path.now c.in-Some.number.now there) (found-path c.self.inside.jails.items c.self.inside.numbers c.self.invariant.numbered c.args.path.now c.in-Some.number.now there) in
    sym (known-is c.args.path.now c.args.self.now (sym (ap (is_known c.args.path.now) c.self.view_is) ∙ own))

pub returns-in-Some-clause-number : goal.returns-in-Some-clause-number
returns-in-Some-clause-number c =
    let there : get path_cmp c.self.inside.numbers c.args.path.now ≡ Some c.in-Some.number.now = search rules in
    number-found c.self.inside.jails.items c.self.inside.numbers c.self.invariant.numbered c.args.path.now c.self.invariant.linked c.in-Some.number.now there ∙ ap (number_of c.args.path.now) c.self.view_is

pub invariant_of-self-2 : goal.invariant_of-self-2
invariant_of-self-2 c =
    let gone : get path_cmp c.self.inside.numbers c.args.path.now ≡ None = search rules in
    let items : c.push_reserved.new.self.items ≡ c.self.inside.jails.items ++ dead_jail c.args.path.now c.args.up.0 ∷ [] = search rules in
    let size : c.len-number.result ≡ length c.self.inside.jails.items = search rules in
    subst (λ js. IsKept js c.insert.new.self c.self.inside.order.items) (sym items)
    (kept-known c.self.inside.jails.items c.self.inside.numbers c.insert.new.self c.self.inside.order.items c.self.invariant c.args.path.now gone c.args.up.0
    (ap (is_alive (parent c.args.path.now)) c.self.view_is ∙ c.requires.alive) (c.requires.parent ∙ sym (ap (number_of (parent c.args.path.now)) c.self.view_is))
    (λ q. c.in_ok-insert.ensures.updates.0 q ∙ ap₂ (λ p n. cond (is_at (path_cmp p) q) (Some n) (get path_cmp c.self.inside.numbers q)) c.in_ok-copy-2.ensures size))

pub returns-clause-known : goal.returns-clause-known
returns-clause-known c =
    let gone : get path_cmp c.self.inside.numbers c.args.path.now ≡ None = search rules in
    let items : c.push_reserved.new.self.items ≡ c.self.inside.jails.items ++ dead_jail c.args.path.now c.args.up.0 ∷ [] = search rules in
    items ∙ ap₂ (λ js n. js ++ dead_jail c.args.path.now n ∷ []) c.self.view_is c.requires.parent
    ∙ sym (known-new c.args.path.now c.args.self.now (sym (ap (is_known c.args.path.now) c.self.view_is) ∙ unknown c.self.inside.jails.items c.self.inside.numbers c.self.invariant.numbered c.args.path.now gone))

pub returns-clause-number : goal.returns-clause-number
returns-clause-number c =
    let gone : get path_cmp c.self.inside.numbers c.args.path.now ≡ None = search rules in
    let size : c.len-number.result ≡ length c.self.inside.jails.items = search rules in
    size ∙ sym (number-none c.self.inside.jails.items c.args.path.now (unknown c.self.inside.jails.items c.self.inside.numbers c.self.invariant.numbered c.args.path.now gone)) ∙ ap (number_of c.args.path.now) c.self.view_is

use Rattle.std.proofs.Common.{map, ap, ◌∙◌, arith, []}
use Rattle.std.proofs.lemmas.List.{get_or_default}
use Rattle.vn_types.specs.Paths.{from}
use Rattle.vn_jail.specs.declared.jail.Jail.{Jail}
use Rattle.vn_jail.specs.Tree.{any_full, counted, dead_jail, path_at, recount}
use Rattle.vn_jail.proofs.Upwards.{over}
use Rattle.vn_jail.proofs.counting.count_above.Goals as goal

pub count-requires-clause-number : goal.count-requires-clause-number
count-requires-clause-number c =
    let up = ap (λ (j : Jail). j.parent) (get_or_default c.args.jails.now c.args.number c.index-jails-number.result (dead_jail [] 0) c.requires.number) in
    omega (arith, up, c.requires.linked.inside c.args.number c.requires.jail c.requires.number)

pub count-requires-clause-room : goal.count-requires-clause-room
count-requires-clause-room c = λ more.
    let this = get_or_default c.args.jails.now c.args.number c.index-jails-number.result (dead_jail [] 0) c.requires.number in
    ap (λ (j : Jail). any_full c.args.jails.now (from (path_at c.args.jails.now j.parent))) this
    ∙ ap (any_full c.args.jails.now) (over c.args.jails.now c.requires.linked c.args.number c.requires.number c.requires.jail)
    ∙ c.requires.room more

pub returns : goal.returns
returns c =
    let this = get_or_default c.args.jails.now c.args.number c.index-jails-number.result (dead_jail [] 0) c.requires.number in
    c.count.ensures
    ∙ ap (λ (j : Jail). map (recount (counted c.args.living) (from (path_at c.args.jails.now j.parent))) c.args.jails.now) this
    ∙ ap (λ ps. map (recount (counted c.args.living) ps) c.args.jails.now) (over c.args.jails.now c.requires.linked c.args.number c.requires.number c.requires.jail)

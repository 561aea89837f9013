use Rattle.std.proofs.Common.{◌+◌, ap, ◌∙◌, refl, slice_set}
use Rattle.vn_jail.specs.Tree.{start}
use Rattle.vn_jail.proofs.Changes.{changed-is, untouched}
use Rattle.vn_jail.proofs.counting.begin.Goals as goal

pub returns : goal.returns
returns c =
    let own = untouched (λ n. n + 1) c.args.jails.now c.requires.linked c.args.number c.requires.number c.requires.jail c.count_above.new.jails c.count_above.ensures c.index-jails-number.result in
    ap (λ j. slice_set c.count_above.new.jails c.args.number j) (c.start.ensures ∙ ap (start c.args.limit) own)
    ∙ changed-is (start c.args.limit) (λ n. n + 1) (λ j. (refl, refl)) c.args.jails.now c.requires.linked c.args.number c.requires.number c.count_above.new.jails c.count_above.ensures

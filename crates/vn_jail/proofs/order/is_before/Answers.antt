use Rattle.std.proofs.Common.{◌≤◌, [], length, sym, ap, ◌∙◌, rules}
use Rattle.std.specs.Ordering.{is_lt}
use Rattle.std.proofs.lemmas.List.{get_or_past}
use Rattle.vn_types.specs.Paths.{path_cmp}
use Rattle.vn_jail.specs.declared.jail.Jail.{Jail}
use Rattle.vn_jail.specs.Tree.{dead_jail}
use Rattle.vn_jail.proofs.Orders.{host-first}
use Rattle.vn_jail.proofs.order.is_before.Goals as goal

pub returns-in-None : goal.returns-in-None
returns-in-None c =
    let past : length c.args.jails.now ≤ c.args.sid.0 = search rules in
    sym (ap (λ (j : Jail). is_lt (path_cmp j.path c.args.path.now)) (get_or_past c.args.jails.now c.args.sid.0 (dead_jail [] 0) past) ∙ ap is_lt (host-first c.args.path.now c.requires))

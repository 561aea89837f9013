use Rattle.std.proofs.Common.{IfOk, sym, subst}
use Rattle.vn_jail.specs.Tree.{path_at}
use Rattle.vn_cells.specs.machine.Commands.{far_rule}
use Rattle.vn_cells.specs.machine.Reach.{MakesPair}
use Rattle.vn_cells.specs.world.World.{common_of}
use Rattle.vn_kernel.specs.Fields.{fields}
use Rattle.vn_kernel.specs.Stands.{AnsweredBy}
use Rattle.vn_kernel.proofs.pairs.make_pair.Goals as goal

pub returns-in-Some : goal.returns-in-Some
unfolding far_rule
returns-in-Some c = subst (λ unit. IfOk c.make_unit.result (λ outcome.
    AnsweredBy (λ w. far_rule (common_of w) (path_at c.args.state.now.jails c.args.home.0) (MakesPair unit) w) outcome (fields c.args.state.now) (fields c.make_unit.new.state)))
    (sym c.in-Some.is) c.make_unit.ensures

pub returns-in-None : goal.returns-in-None
unfolding far_rule
returns-in-None c = subst (λ unit. IfOk c.make_lowest.result (λ outcome.
    AnsweredBy (λ w. far_rule (common_of w) (path_at c.args.state.now.jails c.args.home.0) (MakesPair unit) w) outcome (fields c.args.state.now) (fields c.make_lowest.new.state)))
    (sym c.in-None.is) c.make_lowest.ensures

use Rattle.std.proofs.Common.{arith}
use Rattle.std.proofs.lemmas.Result.{IfOk-weaker}
use Rattle.vn_jail.specs.Tree.{path_at}
use Rattle.vn_kernel.specs.Fields.{fields}
use Rattle.vn_kernel.proofs.Stacks.{its-path}
use Rattle.vn_kernel.proofs.making.Units.{has-free}
use Rattle.vn_kernel.proofs.making.Answered.{made-lowest}
use Rattle.vn_kernel.proofs.pairs.make_lowest.Goals as goal

pub lowest_free-unit-requires : goal.lowest_free-unit-requires
lowest_free-unit-requires c = has-free c.requires.stack.stands.sound c.args.home.0 (omega (arith, c.requires.room.pairs))

pub returns : goal.returns
returns c = IfOk-weaker c.make_unit.result _ _
    (λ outcome is. made-lowest (fields c.args.state.now) c.requires.stack.stands (path_at c.args.state.now.jails c.args.home.0) (its-path c.requires.stack).0 c.args.home.0 (its-path c.requires.stack).1 c.lowest_free-unit.result
    c.lowest_free-unit.ensures.unit c.lowest_free-unit.ensures.lowest outcome (fields c.make_unit.new.state) is)
    c.make_unit.ensures

use Rattle.vn_jail.specs.Tree.{path_at}
use Rattle.vn_kernel.specs.Fields.{fields}
use Rattle.vn_kernel.proofs.Stacks.{its-path}
use Rattle.vn_kernel.proofs.moving.Answered.{lend-refuses, lend-runs, number-living, number-told}
use Rattle.vn_kernel.proofs.moves.lend_half.Goals as goal

pub lend-requires-clause-living : goal.lend-requires-clause-living
lend-requires-clause-living c =
    number-living (fields c.args.state.now) c.requires.stands c.args.to.now c.alive-target.result
    (number-told (fields c.args.state.now) c.requires.stands c.args.to.now c.alive-target.result c.alive-target.ensures.alive c.alive-target.ensures.number)

pub returns-in-Ok : goal.returns-in-Ok
returns-in-Ok c =
    lend-runs (fields c.args.state.now) c.requires.stands (path_at c.args.state.now.jails c.args.from.0) c.args.name c.lend.new.tables c.in_ok-lend.ensures.sound
    c.args.to.now c.args.from c.alive-target.result (its-path c.requires)
    (number-told (fields c.args.state.now) c.requires.stands c.args.to.now c.alive-target.result c.alive-target.ensures.alive c.alive-target.ensures.number)
    (rw c.in-Ok.is at c.in_ok-lend.ensures.answer) (rw c.in-Ok.is at c.in_ok-lend.ensures.moved)

pub returns-in-Err : goal.returns-in-Err
returns-in-Err c =
    lend-refuses (fields c.args.state.now) c.requires.stands (path_at c.args.state.now.jails c.args.from.0) c.args.name c.lend.new.tables c.in_ok-lend.ensures.sound
    c.args.to.now c.args.from c.alive-target.result (its-path c.requires)
    (number-told (fields c.args.state.now) c.requires.stands c.args.to.now c.alive-target.result c.alive-target.ensures.alive c.alive-target.ensures.number)
    c.in-Err.errno (rw c.in-Err.is at c.in_ok-lend.ensures.answer) (rw c.in-Err.is at c.in_ok-lend.ensures.refused)

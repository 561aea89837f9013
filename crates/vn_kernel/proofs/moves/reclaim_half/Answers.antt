use Rattle.std.proofs.Common.{Some, sym}
use Rattle.vn_jail.specs.Tree.{path_at}
use Rattle.vn_kernel.specs.Fields.{fields}
use Rattle.vn_kernel.proofs.Stacks.{its-path}
use Rattle.vn_kernel.proofs.moving.Answered.{number-living, number-told, reclaim-refuses, reclaim-runs}
use Rattle.vn_kernel.proofs.moves.reclaim_half.Goals as goal

pub reclaim-requires-clause-living : goal.reclaim-requires-clause-living
reclaim-requires-clause-living c = number-living (fields c.args.state.now) c.requires.stands (path_at c.args.state.now.jails c.args.to.0) (Some c.args.to) (its-path c.requires)

pub returns-in-Ok : goal.returns-in-Ok
returns-in-Ok c =
    reclaim-runs (fields c.args.state.now) c.requires.stands (path_at c.args.state.now.jails c.args.to.0) c.args.name c.reclaim.new.tables c.in_ok-reclaim.ensures.sound
    c.args.from.now c.args.to c.alive-source.result c.home_allows-allows.result (its-path c.requires)
    (number-told (fields c.args.state.now) c.requires.stands c.args.from.now c.alive-source.result c.alive-source.ensures.alive c.alive-source.ensures.number)
    (sym c.home_allows-allows.ensures) (rw c.in-Ok.is at c.in_ok-reclaim.ensures.answer) (rw c.in-Ok.is at c.in_ok-reclaim.ensures.moved)

pub returns-in-Err : goal.returns-in-Err
returns-in-Err c =
    reclaim-refuses (fields c.args.state.now) c.requires.stands (path_at c.args.state.now.jails c.args.to.0) c.args.name c.reclaim.new.tables c.in_ok-reclaim.ensures.sound
    c.args.from.now c.args.to c.alive-source.result c.home_allows-allows.result (its-path c.requires)
    (number-told (fields c.args.state.now) c.requires.stands c.args.from.now c.alive-source.result c.alive-source.ensures.alive c.alive-source.ensures.number)
    (sym c.home_allows-allows.ensures) c.in-Err.errno (rw c.in-Err.is at c.in_ok-reclaim.ensures.answer) (rw c.in-Err.is at c.in_ok-reclaim.ensures.refused)

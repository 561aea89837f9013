use Rattle.std.proofs.Common.{refl, subst, sym}
use Rattle.vn_jail.specs.Kept.{IsLinked, IsTree}
use Rattle.vn_kernel.specs.Stands.{IsOpen}
use Rattle.vn_kernel.proofs.Opened.{opened-as}
use Rattle.vn_kernel.proofs.state.State.new.Goals as goal

pub construct-requires-clause-dead : goal.construct-requires-clause-dead
construct-requires-clause-dead c = c.in_ok-tables.ensures.lives 0

pub returns : goal.returns
returns c =
    subst IsOpen (sym c.in_ok-construct.ensures.noted)
    (opened-as c.in_ok-tables.tables c.construct.new.state.tables c.in_ok-tables.ensures.lives c.in_ok-tables.ensures.pairs c.in_ok-construct.ensures.constructs
    (subst IsLinked c.in_ok-jails.ensures c.law_of_tree.ensures.paths) (subst IsTree c.in_ok-jails.ensures c.law_of_tree.ensures.tree)
    c.in_ok-jails.jails _ c.new-logs.result.entries c.host.result c.new-readers.result.entries c.new-units.result.entries
    c.in_ok-jails.ensures refl c.host.ensures c.new-logs.ensures.empty c.new-readers.ensures.empty c.new-units.ensures.empty)

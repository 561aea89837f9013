use Rattle.vn_jail.specs.Tree.{path_at}
use Rattle.vn_kernel.proofs.Stacks.{its-path}
use Rattle.vn_kernel.proofs.links.Ran.{stands-there, up-done, up-lo0, up-missing}
use Rattle.vn_kernel.proofs.links.set_up.Goals as goal

pub returns-in-None : goal.returns-in-None
returns-in-None c = up-missing c.requires.stack.stands (path_at c.args.state.now.jails c.args.sid.0) (its-path c.requires.stack).0 c.args.sid.0 (its-path c.requires.stack).1 c.args.name c.in-None.ensures

pub returns-in-Some-Lo0 : goal.returns-in-Some-Lo0
returns-in-Some-Lo0 c = up-lo0 c.requires.stack.stands (path_at c.args.state.now.jails c.args.sid.0) (its-path c.requires.stack).0 c.args.sid.0 (its-path c.requires.stack).1 c.args.name (rw c.in-Some-Lo0.field-0-is at c.in-Some-Lo0.ensures)

pub come_up-requires-clause-stands : goal.come_up-requires-clause-stands
come_up-requires-clause-stands c = stands-there c.requires.stack.stands (path_at c.args.state.now.jails c.args.sid.0) (its-path c.requires.stack).0 c.args.sid.0 (its-path c.requires.stack).1 c.args.name c.in-Some-Half.half (rw c.in-Some-Half.field-0-is at c.in-Some-Half.ensures)

pub returns-in_ok-come_up-in-Some-Half : goal.returns-in_ok-come_up-in-Some-Half
returns-in_ok-come_up-in-Some-Half c = up-done c.requires.stack.stands (path_at c.args.state.now.jails c.args.sid.0) (its-path c.requires.stack).0 c.args.sid.0 (its-path c.requires.stack).1 c.args.name c.in-Some-Half.half (rw c.in-Some-Half.field-0-is at c.in-Some-Half.ensures)
    c.come_up.new.tables c.in_ok-come_up-in-Some-Half.ensures

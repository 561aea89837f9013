use Rattle.vn_jail.specs.Tree.{path_at}
use Rattle.vn_kernel.proofs.Stacks.{its-path}
use Rattle.vn_kernel.proofs.links.Ran.{down-done, down-lo0, down-missing, stands-there}
use Rattle.vn_kernel.proofs.links.set_down.Goals as goal

pub returns-in-None : goal.returns-in-None
returns-in-None c = down-missing c.requires.stands (path_at c.args.state.now.jails c.args.sid.0) (its-path c.requires).0 c.args.sid.0 (its-path c.requires).1 c.args.name c.in-None.ensures

pub returns-in-Some-Lo0 : goal.returns-in-Some-Lo0
returns-in-Some-Lo0 c = down-lo0 c.requires.stands (path_at c.args.state.now.jails c.args.sid.0) (its-path c.requires).0 c.args.sid.0 (its-path c.requires).1 c.args.name (rw c.in-Some-Lo0.field-0-is at c.in-Some-Lo0.ensures)

pub go_down-requires-clause-stands : goal.go_down-requires-clause-stands
go_down-requires-clause-stands c = stands-there c.requires.stands (path_at c.args.state.now.jails c.args.sid.0) (its-path c.requires).0 c.args.sid.0 (its-path c.requires).1 c.args.name c.in-Some-Half.half (rw c.in-Some-Half.field-0-is at c.in-Some-Half.ensures)

pub returns-in-Some-Half : goal.returns-in-Some-Half
returns-in-Some-Half c = down-done c.requires.stands (path_at c.args.state.now.jails c.args.sid.0) (its-path c.requires).0 c.args.sid.0 (its-path c.requires).1 c.args.name c.in-Some-Half.half (rw c.in-Some-Half.field-0-is at c.in-Some-Half.ensures)
    c.go_down.new.tables c.go_down.ensures

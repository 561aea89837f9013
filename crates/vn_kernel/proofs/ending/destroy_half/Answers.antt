use Rattle.vn_jail.specs.Tree.{path_at}
use Rattle.vn_kernel.specs.Fields.{fields}
use Rattle.vn_kernel.proofs.Stacks.{its-path}
use Rattle.vn_kernel.proofs.moving.Ended.{half-ended, lo0-refused, none-refused}
use Rattle.vn_kernel.proofs.moving.Found.{found-exists}
use Rattle.vn_kernel.proofs.ending.destroy_half.Goals as goal

pub returns-in-None : goal.returns-in-None
returns-in-None c = none-refused (fields c.args.state.now) c.requires.stands (path_at c.args.state.now.jails c.args.sid.0) c.args.name c.args.sid (its-path c.requires) c.in-None.ensures

pub returns-in-Some-Lo0 : goal.returns-in-Some-Lo0
returns-in-Some-Lo0 c =
    lo0-refused (fields c.args.state.now) c.requires.stands (path_at c.args.state.now.jails c.args.sid.0) c.args.name c.args.sid (its-path c.requires)
    (rw c.in-Some-Lo0.field-0-is at c.in-Some-Lo0.ensures)

pub end_pair-requires-clause-exists : goal.end_pair-requires-clause-exists
end_pair-requires-clause-exists c =
    found-exists c.requires.stands c.args.sid.0 c.args.name c.in-Some-Half.half (rw c.in-Some-Half.field-0-is at c.in-Some-Half.ensures)

pub returns-in_ok-end_pair-in-Some-Half : goal.returns-in_ok-end_pair-in-Some-Half
returns-in_ok-end_pair-in-Some-Half c =
    half-ended (fields c.args.state.now) c.requires.stands (path_at c.args.state.now.jails c.args.sid.0) c.args.name c.args.sid (its-path c.requires)
    c.in-Some-Half.half (rw c.in-Some-Half.field-0-is at c.in-Some-Half.ensures) (fields c.end_pair.new.state) c.in_ok-end_pair-in-Some-Half.ensures.leaves

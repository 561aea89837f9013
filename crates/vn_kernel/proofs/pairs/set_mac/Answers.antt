use Rattle.std.proofs.Common.{sym, ◌∙◌}
use Rattle.vn_jail.specs.Tree.{path_at}
use Rattle.vn_kernel.specs.Fields.{fields}
use Rattle.vn_kernel.proofs.Stacks.{its-path}
use Rattle.vn_kernel.proofs.ether.Answered.{mac-bad, mac-done, mac-lo0, mac-missing}
use Rattle.vn_kernel.proofs.moving.Found.{found-exists}
use Rattle.vn_kernel.proofs.pairs.set_mac.Goals as goal

pub set_mac-requires : goal.set_mac-requires
set_mac-requires c = found-exists c.requires.stands c.args.sid.0 c.args.name c.in-Some-Half.half (rw c.in-Some-Half.field-0-is at c.in-Some-Half.ensures)

pub returns-in-None : goal.returns-in-None
returns-in-None c = mac-missing (fields c.args.state.now) c.requires.stands (path_at c.args.state.now.jails c.args.sid.0) (its-path c.requires).0 c.args.sid.0 (its-path c.requires).1 c.args.name c.args.mac c.in-None.ensures

pub returns-in-Some-Lo0 : goal.returns-in-Some-Lo0
returns-in-Some-Lo0 c = mac-lo0 (fields c.args.state.now) c.requires.stands (path_at c.args.state.now.jails c.args.sid.0) (its-path c.requires).0 c.args.sid.0 (its-path c.requires).1 c.args.name c.args.mac (rw c.in-Some-Lo0.field-0-is at c.in-Some-Lo0.ensures)

pub returns-then-is_no_station : goal.returns-then-is_no_station
returns-then-is_no_station c = mac-bad (fields c.args.state.now) c.requires.stands (path_at c.args.state.now.jails c.args.sid.0) (its-path c.requires).0 c.args.sid.0 (its-path c.requires).1 c.args.name c.args.mac c.in-Some-Half.half (rw c.in-Some-Half.field-0-is at c.in-Some-Half.ensures)
    (sym c.is_no_station.ensures ∙ c.if-is_no_station.true)

pub returns : goal.returns
returns c = mac-done (fields c.args.state.now) c.requires.stands (path_at c.args.state.now.jails c.args.sid.0) (its-path c.requires).0 c.args.sid.0 (its-path c.requires).1 c.args.name c.args.mac c.in-Some-Half.half (rw c.in-Some-Half.field-0-is at c.in-Some-Half.ensures)
    (sym c.is_no_station.ensures ∙ c.if-is_no_station.false) c.set_mac.new.self c.set_mac.ensures.mac c.set_mac.ensures.others c.set_mac.ensures.numbers

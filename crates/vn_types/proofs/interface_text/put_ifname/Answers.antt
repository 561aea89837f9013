use Rattle.std.proofs.Common.{arith}
use Rattle.vn_types.proofs.InterfaceReading.{lo0_back, epair_back}
use Rattle.vn_types.proofs.interface_text.put_ifname.Goals as goal

pub returns-in-Lo0-clause-read_back : goal.returns-in-Lo0-clause-read_back
returns-in-Lo0-clause-read_back c = lo0_back c.args.name c.in-Lo0.is

pub returns-in_err-put-in-Epair-clause-read_back : goal.returns-in_err-put-in-Epair-clause-read_back
returns-in_err-put-in-Epair-clause-read_back c = epair_back c.args.name c.in-Epair.unit c.in-Epair.side c.in-Epair.is (omega arith)

pub returns-in_ok-put-in-Epair-clause-read_back : goal.returns-in_ok-put-in-Epair-clause-read_back
returns-in_ok-put-in-Epair-clause-read_back c = epair_back c.args.name c.in-Epair.unit c.in-Epair.side c.in-Epair.is (omega arith)

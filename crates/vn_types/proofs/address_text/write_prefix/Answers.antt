use Rattle.std.proofs.Common.{arith}
use Rattle.vn_types.proofs.AddressReading.{prefix_read_back}
use Rattle.vn_types.proofs.address_text.write_prefix.Goals as goal

pub returns-clause-read_back : goal.returns-clause-read_back
returns-clause-read_back c = prefix_read_back c.args.prefix (omega arith) (omega arith)

use Rattle.std.proofs.Common.{arith}
use Rattle.vn_ip4fmt.proofs.Headers.{plain-fit}
use Rattle.vn_ip4fmt.proofs.write.write_fields.Goals as goal

pub returns-clause-fit : goal.returns-clause-fit
returns-clause-fit c = λ checksum small.
    plain-fit c.args.head c.args.total checksum (omega arith) small
    (omega arith) (omega arith) (omega arith) (omega arith) (omega arith) (omega arith) (omega arith)

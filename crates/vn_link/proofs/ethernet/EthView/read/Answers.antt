use Rattle.std.proofs.Common.{arith}
use Rattle.vn_types.proofs.OctetNumbers.{octets-slice}
use Rattle.vn_link.proofs.FrameLaws.{frame-spelled}
use Rattle.vn_link.proofs.ethernet.EthView.read.Goals as goal

pub returns-clause-spelled : goal.returns-clause-spelled
returns-clause-spelled c =
    frame-spelled c.args.frame.now (omega arith) (octets-slice c.args.frame.now c.type_inv.frame)

use Rattle.vn_ip4fmt.proofs.Flags.{flag}
use Rattle.vn_ip4fmt.proofs.place.mf_of.Goals as goal

pub returns : goal.returns
returns c = flag c.args.flags 5

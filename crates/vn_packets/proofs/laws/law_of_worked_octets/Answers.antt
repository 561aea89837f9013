use Rattle.vn_packets.proofs.WorkedOctets.{asking_is, ping_is, short_is, echo_is, zero_is}
use Rattle.vn_packets.proofs.laws.law_of_worked_octets.Goals as goal

pub returns : goal.returns
returns c = record { asking = asking_is; ping = ping_is; short = short_is; echo = echo_is; zero = zero_is }

use Rattle.vn_laws.proofs.schedules.Settled.{settled}
use Rattle.vn_laws.proofs.settling.Within.{settled-within}
use Rattle.vn_laws.proofs.runs.law_of_settling.Goals as goal

pub returns : goal.returns
returns c = record { settled = settled; within = settled-within }

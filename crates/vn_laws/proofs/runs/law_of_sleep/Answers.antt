use Rattle.vn_laws.proofs.schedules.Slept.{each-turn, slept}
use Rattle.vn_laws.proofs.runs.law_of_sleep.Goals as goal

pub returns : goal.returns
returns c = record { turns = each-turn; slept = slept }

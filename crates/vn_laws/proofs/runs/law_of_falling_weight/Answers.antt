use Rattle.vn_laws.proofs.settling.Settling.{looped-step, arrival-step, next-lighter}
use Rattle.vn_laws.proofs.runs.law_of_falling_weight.Goals as goal

pub returns : goal.returns
returns c = record { next = next-lighter; looped = looped-step; frame = arrival-step }

use Rattle.vnetsh.proofs.Runs.{step_happens}
use Rattle.vnetsh.proofs.run.run_event.Goals as goal

pub returns-clause-happened : goal.returns-clause-happened
returns-clause-happened c = step_happens _ _ _ c.step.result c.step.ensures.done c.requires.room c.step.ensures.long c.step.ensures.stays_spent

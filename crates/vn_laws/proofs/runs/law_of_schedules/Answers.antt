use Rattle.vn_cells.specs.machine.Step.{opening}
use Rattle.vn_laws.proofs.schedules.InOrder.{is_serial, serial_is}
use Rattle.vn_laws.proofs.runs.law_of_schedules.Goals as goal

pub returns : goal.returns
returns c script events = (is_serial opening script.parts events, serial_is opening script.parts events)

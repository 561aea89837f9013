use Rattle.vn_cells.specs.keeping.Clean.{IsEachPrefixClean}
use Rattle.vn_cells.specs.sets.Isolation.{IsIsolated}
use Rattle.vn_cells.specs.texts.Schedule.{serial_run}
use Rattle.vnetsh.proofs.Answered.{in_told}
use Rattle.vnetsh.proofs.calls.serial.Goals as goal

pub returns-in-Ok-write_all-clause-isolated : goal.returns-in-Ok-write_all-clause-isolated
returns-in-Ok-write_all-clause-isolated g c done = in_told {P = λ script. IsIsolated (serial_run script)} (λ script. c.law_of_isolation.ensures (serial_run script)) (g.S.Source.left c.args.source.now)

pub returns-in-Ok-write_all-clause-clean : goal.returns-in-Ok-write_all-clause-clean
returns-in-Ok-write_all-clause-clean g c done = in_told {P = λ script. IsEachPrefixClean (serial_run script)} (λ script. c.law_of_clean_histories.ensures (serial_run script)) (g.S.Source.left c.args.source.now)

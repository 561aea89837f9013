use Rattle.std.proofs.Common.{ap, sym, ◌∙◌}
use Rattle.vn_cells.specs.machine.Events.{is_valid_part}
use Rattle.vnetsh.proofs.run.run_part.Goals as goal

pub run_lines-requires-clause-valid : goal.run_lines-requires-clause-valid
unfolding is_valid_part
run_lines-requires-clause-valid c = sym (ap is_valid_part c.in-Phase.is) ∙ c.requires.valid

use Rattle.std.proofs.Common.{ap, sym, ◌∙◌, true≢false}
use Rattle.vn_cells.specs.machine.Events.{is_built, is_built_line, is_valid_event}
use Rattle.vnetsh.proofs.EventsOfLines.{command_valid, line_at_path, open_built}
use Rattle.vnetsh.proofs.run.run_line.Goals as goal

pub run_event-requires-clause-valid : goal.run_event-requires-clause-valid
run_event-requires-clause-valid c = command_valid c.args.line c.in-Cmd.command c.in-Cmd.is c.requires.valid

pub run_event-requires-clause-built : goal.run_event-requires-clause-built
unfolding is_built is_built_line
run_event-requires-clause-built c = sym (ap is_built_line c.in-Cmd.is) ∙ c.requires.built

pub run_listing-requires-clause-valid : goal.run_listing-requires-clause-valid
run_listing-requires-clause-valid c = line_at_path c.args.line c.requires.valid

pub run_event-requires-in-Open-clause-valid : goal.run_event-requires-in-Open-clause-valid
unfolding is_valid_event
run_event-requires-in-Open-clause-valid c = line_at_path c.args.line c.requires.valid

pub run_event-requires-in-Open-clause-built : goal.run_event-requires-in-Open-clause-built
run_event-requires-in-Open-clause-built c = open_built c.args.line.lane c.args.line.path c.in-Open.table c.args.line.line c.in-Open.is c.requires.built

pub run_event-requires-in-Next-clause-valid : goal.run_event-requires-in-Next-clause-valid
unfolding is_valid_event
run_event-requires-in-Next-clause-valid c = line_at_path c.args.line c.requires.valid

pub run_event-requires-in-Next-clause-built : goal.run_event-requires-in-Next-clause-built
unfolding is_built is_built_line
run_event-requires-in-Next-clause-built c = sym (ap is_built_line c.in-Next.is) ∙ c.requires.built

pub run_event-requires-in-Close-clause-valid : goal.run_event-requires-in-Close-clause-valid
unfolding is_valid_event
run_event-requires-in-Close-clause-valid c = line_at_path c.args.line c.requires.valid

pub run_event-requires-in-Close-clause-built : goal.run_event-requires-in-Close-clause-built
unfolding is_built is_built_line
run_event-requires-in-Close-clause-built c = sym (ap is_built_line c.in-Close.is) ∙ c.requires.built

pub unreachable-requires : goal.unreachable-requires
unfolding is_built_line
unreachable-requires c = true≢false (sym c.requires.built ∙ ap is_built_line c.in-Watch.is)

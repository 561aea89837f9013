use Rattle.std.proofs.lemmas.Result.{on_ok_weaker}
use Rattle.vn_cells.specs.declared.event.Event.TheVariants as event
use Rattle.vn_kernel.specs.Fields.{fields}
use Rattle.vn_kernel.proofs.Commands.{built_of, only_commands, step_of, turn_of, valid_of}
use Rattle.vn_kernel.proofs.events.happen.Goals as goal

pub run_command-requires-clause-valid : goal.run_command-requires-clause-valid
run_command-requires-clause-valid c = valid_of c.args.event.now _ _ _ c.in-Cmd.is c.requires.valid

pub run_command-requires-clause-built : goal.run_command-requires-clause-built
run_command-requires-clause-built c = built_of c.args.event.now _ _ _ c.in-Cmd.is c.requires.built

pub unreachable-requires : goal.unreachable-requires
unreachable-requires c = only_commands c.args.event.now c.in_default.not-Cmd c.requires.built

pub returns-in-Cmd : goal.returns-in-Cmd
returns-in-Cmd c =
    on_ok_weaker c.run_command.result
    (step_of (fields c.args.state.now) (fields c.run_command.new.state) c.args.event.now c.in-Cmd.lane c.in-Cmd.path c.in-Cmd.command c.in-Cmd.is)
    c.run_command.ensures

pub returns-in-Next : goal.returns-in-Next
returns-in-Next c =
    on_ok_weaker c.read_next.result
    (turn_of (fields c.args.state.now) (fields c.read_next.new.state) c.args.event.now (event.Next c.in-Next.lane c.in-Next.path) c.in-Next.is)
    c.read_next.ensures

pub returns-in-Close : goal.returns-in-Close
returns-in-Close c =
    on_ok_weaker c.read_end.result
    (turn_of (fields c.args.state.now) (fields c.read_end.new.state) c.args.event.now (event.Close c.in-Close.lane c.in-Close.path) c.in-Close.is)
    c.read_end.ensures

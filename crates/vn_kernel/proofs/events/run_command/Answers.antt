use Rattle.std.proofs.Common.{refl, ◌∙◌}
use Rattle.std.proofs.lemmas.Result.{on_ok_weaker}
use Rattle.vn_kernel.specs.Fields.{fields}
use Rattle.vn_kernel.proofs.Commands.{noted}
use Rattle.vn_kernel.proofs.events.run_command.Goals as goal

pub returns : goal.returns
returns c =
    on_ok_weaker c.note.result
    (noted (fields c.args.state.now) (fields c.run_at.new.state) c.args.state.now.clock c.args.lane c.args.issuer.now c.args.command.now c.in_ok-command.command c.in_ok-outcome.outcome
    refl (c.in_ok-command.ensures ∙ c.in_ok-copy.ensures) c.in_ok-outcome.ensures (fields c.note.new.self))
    c.note.ensures

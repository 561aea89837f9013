use Rattle.std.proofs.Common.{Some, None, sym, ◌∙◌}
use Rattle.vn_kernel.specs.Fields.{fields}
use Rattle.vn_kernel.proofs.ReaderEvents.{left-is, left-none}
use Rattle.vn_kernel.proofs.ReaderSteps.{found-by}
use Rattle.vn_kernel.proofs.reading.remaining.Goals as goal

pub returns-in_err-get : goal.returns-in_err-get
returns-in_err-get c =
    c.from_residual.ensures
    ∙ sym (left-none (fields c.args.state.now) c.requires c.args.lane c.args.path.now (found-by c.args.path.now c.args.state.now.readers.entries None c.in_err-get.ensures.value))

pub returns : goal.returns
returns c =
    c.remaining.ensures
    ∙ sym (left-is (fields c.args.state.now) c.requires c.args.lane c.args.path.now (Some c.in_ok-get.field-0.now) (found-by c.args.path.now c.args.state.now.readers.entries (Some c.in_ok-get.field-0.now) c.in_ok-get.ensures.value))

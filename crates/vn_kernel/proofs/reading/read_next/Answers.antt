use Rattle.std.proofs.Common.{refl}
use Rattle.std.proofs.lemmas.Result.{on_ok_weaker}
use Rattle.vn_kernel.specs.Fields.{fields}
use Rattle.vn_kernel.proofs.ReaderEvents.{next-turned}
use Rattle.vn_kernel.proofs.reading.read_next.Goals as goal

pub returns : goal.returns
returns c =
    on_ok_weaker c.note.result
    (next-turned (fields c.args.state.now) (fields c.next_line.new.state) (fields c.note.new.self) c.requires c.args.lane c.args.path.now c.in_ok-outcome.outcome c.in_ok-outcome.ensures c.args.state.now.clock refl)
    c.note.ensures

use Rattle.std.proofs.Common.{refl}
use Rattle.std.proofs.lemmas.Result.{on_ok_weaker}
use Rattle.vn_kernel.specs.Fields.{fields}
use Rattle.vn_kernel.proofs.ReaderEvents.{close-turned}
use Rattle.vn_kernel.proofs.reading.read_end.Goals as goal

pub returns : goal.returns
returns c =
    on_ok_weaker c.note.result
    (close-turned (fields c.args.state.now) (fields c.close_reader-outcome.new.state) (fields c.note.new.self) c.requires c.args.lane c.args.path.now c.close_reader-outcome.result c.close_reader-outcome.ensures c.args.state.now.clock refl)
    c.note.ensures

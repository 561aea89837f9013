use Rattle.vn_laws.proofs.versions.Snapshots.{snapshot}
use Rattle.vn_laws.proofs.readers.law_of_reader_lines.Goals as goal

pub returns : goal.returns
returns c = snapshot

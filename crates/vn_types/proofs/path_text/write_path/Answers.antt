use Rattle.vn_types.proofs.PathReading.{path_of-path_text}
use Rattle.vn_types.proofs.path_text.write_path.Goals as goal

pub returns-clause-read_back : goal.returns-clause-read_back
returns-clause-read_back c = path_of-path_text _ c.text.ensures.path

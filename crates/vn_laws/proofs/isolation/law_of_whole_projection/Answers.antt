use Rattle.vn_cells.specs.machine.Step.{opening}
use Rattle.vn_laws.proofs.Whole.{keeps-all}
use Rattle.vn_laws.proofs.isolation.law_of_whole_projection.Goals as goal

pub returns : goal.returns
returns c = λ set events all. keeps-all set opening events all

use Rattle.vn_laws.proofs.Isolated.{isolated}
use Rattle.vn_laws.proofs.isolation.law_of_isolation.Goals as goal

pub returns : goal.returns
returns c = isolated

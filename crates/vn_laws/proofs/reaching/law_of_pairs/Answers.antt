use Rattle.vn_laws.proofs.moves.Far.{made-changes, moved-changes, destroyed-changes}
use Rattle.vn_laws.proofs.reaching.law_of_pairs.Goals as goal

pub returns : goal.returns
returns c = record { made = made-changes; moved = moved-changes; destroyed = destroyed-changes }

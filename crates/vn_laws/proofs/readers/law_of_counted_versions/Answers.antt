use Rattle.vn_laws.proofs.versions.Counting.{counted-opening, counted-step, counted-kept}
use Rattle.vn_laws.proofs.readers.law_of_counted_versions.Goals as goal

pub returns : goal.returns
returns c = record { opening = counted-opening; step = counted-step; kept = counted-kept }

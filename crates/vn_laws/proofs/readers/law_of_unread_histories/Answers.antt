use Rattle.vn_laws.proofs.versions.Unread.{are_commands, none_open, none_kept}
use Rattle.vn_laws.proofs.readers.law_of_unread_histories.Goals as goal

pub returns : goal.returns
returns c = record {
  opened = λ events built. none_open events (are_commands events built);
  kept = λ events built. none_kept events (are_commands events built);
}

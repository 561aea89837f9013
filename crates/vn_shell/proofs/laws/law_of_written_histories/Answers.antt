use Rattle.vn_shell.proofs.WrittenHistory.{history_back}
use Rattle.vn_shell.proofs.laws.law_of_written_histories.Goals as goal

pub returns : goal.returns
returns c = history_back

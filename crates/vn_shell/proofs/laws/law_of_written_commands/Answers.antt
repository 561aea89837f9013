use Rattle.vn_shell.proofs.ByWords.{words_back}
use Rattle.vn_shell.proofs.Written.{command_back}
use Rattle.vn_shell.proofs.laws.law_of_written_commands.Goals as goal

pub returns : goal.returns
returns c = λ issuer command valid. words_back command (command_back issuer command valid)

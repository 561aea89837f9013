use Rattle.std.proofs.Common.{◌≡◌, ◌++◌, length}
use Rattle.vn_shell.specs.Words.{texts, words_of}
use Rattle.vn_shell.proofs.words.cut_words.Given as goal

abbrev pub invariant-loop-piece : goal.invariant-loop-piece
invariant-loop-piece l = texts l.words.items ++ words_of l.rest ≡ words_of l.line

abbrev pub decreases-loop-piece : goal.decreases-loop-piece
decreases-loop-piece l = length l.rest

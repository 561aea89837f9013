use Rattle.std.proofs.Common.{sym}
use Rattle.std.proofs.lemmas.List.{take_rest}
use Rattle.vn_shell.proofs.Splitting.{lines_none, lines_at, lines_last}
use Rattle.vn_shell.proofs.lines.next_line.Goals as goal

pub returns-then-is_empty-clause-none : goal.returns-then-is_empty-clause-none
returns-then-is_empty-clause-none c = lines_none _ (sym c.if-is_empty.ensures)

pub returns-in-Some-clause-some : goal.returns-in-Some-clause-some
returns-in-Some-clause-some c = rw take_rest (lines_at _ _ (sym c.in-Some.ensures))

pub returns-in-None-clause-some : goal.returns-in-None-clause-some
returns-in-None-clause-some c = lines_last _ (sym c.if-is_empty.ensures) (sym c.in-None.ensures)

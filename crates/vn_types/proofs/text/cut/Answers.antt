use Rattle.std.proofs.Common.{sym}
use Rattle.std.proofs.lemmas.List.{take_rest}
use Rattle.vn_types.proofs.Cuts.{cut_at, cut_nowhere}
use Rattle.vn_types.proofs.text.cut.Goals as goal

pub returns-in-Some-clause-parts : goal.returns-in-Some-clause-parts
returns-in-Some-clause-parts c = rw take_rest (cut_at _ _ _ 0 (sym c.in-Some.ensures))

pub returns-in-None-clause-whole : goal.returns-in-None-clause-whole
returns-in-None-clause-whole c = cut_nowhere _ _ (sym c.in-None.ensures)

use Rattle.std.proofs.Common.{arith}
use Rattle.std.proofs.lemmas.Bool.Decides.{nat_tests}
use Rattle.vn_types.proofs.PathCuts.{no_labels_in, labels_in-count}
use Rattle.vn_types.proofs.path.count_labels.Goals as goal

pub returns-then-is_empty : goal.returns-then-is_empty
returns-then-is_empty c = no_labels_in c.args.text.now (grind (arith, nat_tests, c.is_empty.ensures, c.if-is_empty.true))

pub returns : goal.returns
returns c = labels_in-count c.args.text.now _ (grind (arith, nat_tests, c.is_empty.ensures, c.if-is_empty.false)) c.count_dots.ensures

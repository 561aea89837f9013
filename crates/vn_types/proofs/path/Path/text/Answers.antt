use Rattle.std.proofs.Common.{◌∙◌, ap, length, arith}
use Rattle.std.proofs.lemmas.Bool.Decides.{nat_tests}
use Rattle.vn_types.specs.Paths.{path_text}
use Rattle.vn_types.proofs.PathReading.{host_text, labels_text}
use Rattle.vn_types.proofs.path.Path.text.Goals as goal

pub returns-then-is_empty-clause-text : goal.returns-then-is_empty-clause-text
returns-then-is_empty-clause-text c =
    host_text c.self.inside.text (grind (arith, nat_tests, ap length c.as_slice.ensures, c.is_empty.ensures, c.if-is_empty.true)) ∙ ap path_text c.self.view_is

pub returns-clause-text : goal.returns-clause-text
returns-clause-text c =
    c.as_slice-2.ensures ∙ labels_text c.self.inside.text (grind (arith, nat_tests, ap length c.as_slice.ensures, c.is_empty.ensures, c.if-is_empty.false)) ∙ ap path_text c.self.view_is

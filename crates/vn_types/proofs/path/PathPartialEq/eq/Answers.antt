use Rattle.std.proofs.Common.{ap₂, sym, ◌∙◌}
use Rattle.std.specs.Str.{bytes_eq}
use Rattle.vn_types.specs.Paths.{path_eq}
use Rattle.vn_types.proofs.PathTexts.{labels_all, joined-labels_in, same_text_eq}
use Rattle.vn_types.proofs.path.PathPartialEq.eq.Goals as goal

pub returns : goal.returns
returns c =
    c.eq.ensures ∙ ap₂ bytes_eq (sym (joined-labels_in _)) (sym (joined-labels_in _))
    ∙ same_text_eq _ _ (labels_all _ c.self.invariant) (labels_all _ c.other.invariant) ∙ ap₂ path_eq c.self.view_is c.other.view_is

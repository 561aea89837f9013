use Rattle.std.proofs.Common.{◌≡◌, ap₂, ◌∙◌, sym, true, List, ℕ, subst}
use Rattle.std.specs.List.{list_all}
use Rattle.std.specs.Ordering.{nat_cmp}
use Rattle.std.specs.Cmp.Lexicographic.{slice_cmp}
use Rattle.vn_types.specs.Words.{is_label}
use Rattle.vn_types.specs.Paths.{path_cmp}
use Rattle.vn_types.proofs.PathTexts.{labels_all, joined-labels_in, same_text_cmp}
use Rattle.vn_types.proofs.PathReading.{text_order-path_cmp}
use Rattle.vn_types.proofs.path.PathOrd.cmp.Goals as goal

pub returns-clause-by_labels : goal.returns-clause-by_labels
returns-clause-by_labels c =
    c.cmp.ensures ∙ ap₂ (slice_cmp nat_cmp) (sym (joined-labels_in _)) (sym (joined-labels_in _))
    ∙ same_text_cmp _ _ (labels_all _ c.self.invariant) (labels_all _ c.other.invariant) ∙ ap₂ path_cmp c.self.view_is c.other.view_is

pub returns-clause-by_text : goal.returns-clause-by_text
returns-clause-by_text c =
    let P : List (List ℕ) → Type 0 = λ p. list_all is_label p ≡ true in
    returns-clause-by_labels c
    ∙ text_order-path_cmp _ _ (subst P c.self.view_is (labels_all _ c.self.invariant)) (subst P c.other.view_is (labels_all _ c.other.invariant))

use Rattle.std.proofs.Common.{◌≡◌, ◌++◌, ◌+◌, ◌≤◌, length, ap, ap₂, ◌∙◌}
use Rattle.vn_types.specs.Paths.{is_path, glued}
use Rattle.vn_types.specs.PathTexts.{labels_in}
use Rattle.vn_types.proofs.PathTexts.{is_path-append, labels_in-glued, labels_all}
use Rattle.vn_types.proofs.path.join.Goals as goal
use Rattle.vn_types.proofs.path.join.Goals.{In_ok-text}

labels : (c : In_ok-text) → labels_in c.in_ok-text.text ≡ labels_in c.base.inside.text ++ labels_in c.rest.inside.text
labels c =
    ap labels_in (c.in_ok-text.ensures ∙ ap₂ glued c.as_slice.ensures c.as_slice-2.ensures)
    ∙ labels_in-glued c.base.inside.text c.rest.inside.text (labels_all _ c.base.invariant) (labels_all _ c.rest.invariant)

pub invariant_of-result : goal.invariant_of-result
invariant_of-result c =
    let few : length (labels_in c.base.inside.text) + length (labels_in c.rest.inside.text) ≤ 8 = rw (c.base.view_is, c.rest.view_is) c.requires in
    ap is_path (labels c) ∙ is_path-append _ _ c.base.invariant c.rest.invariant few

pub returns : goal.returns
returns c = labels c ∙ ap₂ ◌++◌ c.base.view_is c.rest.view_is

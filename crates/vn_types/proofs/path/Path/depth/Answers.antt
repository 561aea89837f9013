use Rattle.std.proofs.Common.{◌≡◌, ◌≤◌, ◌∙◌, ap, length, arith}
use Rattle.vn_types.specs.PathTexts.{labels_in}
use Rattle.vn_types.proofs.PathTexts.{few_labels}
use Rattle.vn_types.proofs.path.Path.depth.Goals as goal

pub returns-clause-most : goal.returns-clause-most
returns-clause-most c =
    let few : length (labels_in c.self.inside.text) ≤ 8 = few_labels _ c.self.invariant in
    let same : c.count_labels.result ≡ length (labels_in c.self.inside.text) = c.count_labels.ensures ∙ ap (λ t. length (labels_in t)) c.as_slice.ensures in
    omega (arith, few, same)

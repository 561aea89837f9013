use Rattle.std.proofs.Common.{◌∙◌, ap}
use Rattle.std.proofs.lemmas.Result.{IfOk-weaker}
use Rattle.vn_types.specs.Paths.{is_path, parent}
use Rattle.vn_types.specs.PathTexts.{labels_in, before_last_dot}
use Rattle.vn_types.proofs.PathCuts.{labels_in-before_last_dot, path-before_last_dot}
use Rattle.vn_types.proofs.path.Path.parent.Goals as goal

pub spelt-requires : goal.spelt-requires
spelt-requires c =
    ap (λ t. is_path (labels_in t)) (c.before_last_dot.ensures ∙ ap before_last_dot c.as_slice.ensures) ∙ path-before_last_dot c.self.inside.text c.self.invariant

pub returns : goal.returns
returns c =
    IfOk-weaker c.spelt.result _ _
    (λ r e. e ∙ ap labels_in (c.before_last_dot.ensures ∙ ap before_last_dot c.as_slice.ensures) ∙ labels_in-before_last_dot c.self.inside.text c.self.invariant ∙ ap parent c.self.view_is)
    c.spelt.ensures

use Rattle.std.proofs.Common.{◌∙◌, sym, ap₂, length, drop}
use Rattle.vn_types.specs.Paths.{is_under}
use Rattle.vn_types.specs.PathTexts.{is_text_under}
use Rattle.vn_types.proofs.PathCuts.{is_text_under-is_under, is_under-exact}
use Rattle.vn_types.proofs.path.Path.is_under.Goals as goal

pub returns-clause-test : goal.returns-clause-test
returns-clause-test c =
    c.is_text_under.ensures ∙ ap₂ is_text_under c.as_slice.ensures c.as_slice-2.ensures
    ∙ is_text_under-is_under _ _ c.self.invariant c.other.invariant ∙ ap₂ is_under c.self.view_is c.other.view_is

pub returns-clause-below : goal.returns-clause-below
returns-clause-below c =
    let exact = is_under-exact c.args.self.now c.args.other.now in
    let same = returns-clause-test c in
    (λ h. (drop (length c.args.other.now) c.args.self.now, exact.0 (sym same ∙ h)), λ w. same ∙ exact.1 w.0 w.1)

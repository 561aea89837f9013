use Rattle.std.proofs.Common.{IfOk, ◌≡◌, subst}
use Rattle.vn_kernel.specs.Fields.{fields}
use Rattle.vn_kernel.proofs.Sections.{sections-are}
use Rattle.vn_kernel.proofs.state.State.into_sections.Goals as goal

pub returns : goal.returns
returns c = subst (λ sections. IfOk c.sections_of.result (λ r. r ≡ sections)) (sections-are (fields c.args.self)) c.sections_of.ensures

use Rattle.std.proofs.Common.{◌∙◌}
use Rattle.std.proofs.lemmas.Result.{IfOk-weaker}
use Rattle.vn_types.proofs.HalfReading.{half_cut, half_uncut, half_canonical}
use Rattle.vn_types.proofs.half_text.read_half.Goals as goal

pub returns-in-Some-clause-half : goal.returns-in-Some-clause-half
returns-in-Some-clause-half c = IfOk-weaker c.half_of_parts.result _ _ (λ r e. e ∙ half_cut _ _ _ c.in-Some.ensures.parts) c.half_of_parts.ensures

pub returns-in-Some-clause-canonical : goal.returns-in-Some-clause-canonical
returns-in-Some-clause-canonical c = IfOk-weaker c.half_of_parts.result _ _ (λ r e. half_canonical _ r (e ∙ half_cut _ _ _ c.in-Some.ensures.parts)) c.half_of_parts.ensures

pub returns-in-None-clause-half : goal.returns-in-None-clause-half
returns-in-None-clause-half c = half_uncut _ c.in-None.ensures.whole

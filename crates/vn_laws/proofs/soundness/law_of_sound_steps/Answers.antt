use Rattle.vn_laws.proofs.Opening.{sound-opening}
use Rattle.vn_laws.proofs.Steps.{fine-step}
use Rattle.vn_laws.proofs.soundness.law_of_sound_steps.Goals as goal

pub returns : goal.returns
returns c = record {
  opening = sound-opening;
  step = λ w event s valid. (fine-step s event valid).sound;
  nothing = λ w event s valid. (fine-step s event valid).nothing;
}

use Rattle.vn_types.specs.PathOrder.{path_eq-Decides}
use Rattle.vn_laws.proofs.jails.Buried.{home_alone}
use Rattle.vn_laws.proofs.jails.Removed.{is_removed, removed_reach, removed_at_home}
use Rattle.vn_laws.proofs.removal.law_of_removal.Goals as goal

pub returns : goal.returns
returns c = record {
  lives = λ w s clock p q top. (is_removed clock p w s top).alive q;
  reach = λ w s clock p q top. removed_reach clock p w s top q;
  destroyed = λ w s clock p top. removed_at_home clock p w s top;
  homed = λ w s p lowest k pair home e. home_alone s p lowest k pair ((path_eq-Decides k.0 p).1 home) e;
}

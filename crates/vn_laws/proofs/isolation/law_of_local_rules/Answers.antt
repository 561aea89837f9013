use Rattle.vn_laws.proofs.local.Acted.{belongs-act_by}
use Rattle.vn_laws.proofs.local.Alike.{alike-local}
use Rattle.vn_laws.proofs.isolation.law_of_local_rules.Goals as goal

pub returns : goal.returns
returns c = record {
  alike = λ rule set v w a b p event inside. alike-local a rule b p event inside;
  belongs = λ rule set w b p event. belongs-act_by rule w p event b;
}

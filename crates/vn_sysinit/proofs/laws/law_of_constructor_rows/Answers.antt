use Rattle.vn_sysinit.proofs.AnyOrder.{constructors-in_order}
use Rattle.vn_sysinit.proofs.laws.law_of_constructor_rows.Goals as goal

pub returns : goal.returns
returns c = constructors-in_order

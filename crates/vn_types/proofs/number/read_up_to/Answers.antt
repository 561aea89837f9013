use Rattle.vn_types.proofs.Digits.{number_within, number_beyond}
use Rattle.vn_types.proofs.number.read_up_to.Goals as goal

pub returns-then-number-most-clause-number : goal.returns-then-number-most-clause-number
returns-then-number-most-clause-number c = number_within _ _ _ c.in-Some.ensures.number c.if-number-most.true

pub returns-else-number-most-clause-number : goal.returns-else-number-most-clause-number
returns-else-number-most-clause-number c = number_beyond _ _ _ c.in-Some.ensures.number c.if-number-most.false

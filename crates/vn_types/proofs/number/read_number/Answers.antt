use Rattle.std.proofs.Common.{◌≡◌, ◌∙◌, sym}
use Rattle.vn_types.specs.NumberWords.{number_of}
use Rattle.vn_types.proofs.Digits.{parsed_number, numeral_utf8, canonical_number}
use Rattle.vn_types.proofs.number.read_number.Goals as goal
use Rattle.vn_types.proofs.number.read_number.Goals.{After-ok}

number : (c : After-ok) → c.ok.result ≡ number_of c.args.text.now
number c = c.ok.ensures.value ∙ parsed_number _ _ _ (sym (c.if-not-is_numeral.ensures)) c.in-Ok.ensures.cases.0 c.parse.ensures.value.0

pub returns-in-Ok-clause-number : goal.returns-in-Ok-clause-number
returns-in-Ok-clause-number c = number c

pub returns-in-Ok-clause-canonical : goal.returns-in-Ok-clause-canonical
returns-in-Ok-clause-canonical c = canonical_number _ _ (number c)

pub returns-in-Err-clause-number : goal.returns-in-Err-clause-number
returns-in-Err-clause-number c = absurd (c.in-Err.ensures.cases.0 (numeral_utf8 _ (sym (c.if-not-is_numeral.ensures))))

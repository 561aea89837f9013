use Rattle.std.proofs.Common.{◌<◌, ◌∙◌, length, arith}
use Rattle.std.proofs.lemmas.Bool.Decides.{nat_tests}
use Rattle.vn_types.proofs.PathCuts.{under_none, under_not, under_rest, ends, goes_on_by}
use Rattle.vn_types.proofs.path.is_text_under.Goals as goal

pub returns-then-is_empty : goal.returns-then-is_empty
returns-then-is_empty c = under_none c.args.text.now c.args.above.now (grind (arith, nat_tests, c.is_empty.ensures, c.if-is_empty.true))

pub returns-in-Some-empty : goal.returns-in-Some-empty
returns-in-Some-empty c =
    let some : 0 < length c.args.above.now = grind (arith, nat_tests, c.is_empty.ensures, c.if-is_empty.false) in
    ends c.in-Some-empty.field-0.now (omega (arith, c.in-Some-empty.len_below))
    ∙ under_rest _ _ _ some c.in-Some-empty.ensures.cases.0 c.in-Some-empty.ensures.cases.1

pub returns-in-Some-len1-up : goal.returns-in-Some-len1-up
returns-in-Some-len1-up c =
    let some : 0 < length c.args.above.now = grind (arith, nat_tests, c.is_empty.ensures, c.if-is_empty.false) in
    goes_on_by c.in-Some-len1-up.field-0.now (omega (arith, c.in-Some-len1-up.len_at_least))
    ∙ under_rest _ _ _ some c.in-Some-len1-up.ensures.cases.0 c.in-Some-len1-up.ensures.cases.1

pub returns-in-None : goal.returns-in-None
returns-in-None c =
    let some : 0 < length c.args.above.now = grind (arith, nat_tests, c.is_empty.ensures, c.if-is_empty.false) in
    under_not _ _ some c.in-None.ensures.cases

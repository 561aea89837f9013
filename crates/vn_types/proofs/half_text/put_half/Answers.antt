use Rattle.std.proofs.Common.{◌∙◌, ◌++◌, ◌∷◌, [], append_assoc, arith, rules}
use Rattle.std.proofs.Transfers.{starts_with_trans}
use Rattle.std.proofs.lemmas.Result.{on_ok_weaker}
use Rattle.vn_types.specs.Octets.{slash}
use Rattle.vn_types.specs.HalfWords.{half_text}
use Rattle.vn_types.specs.InterfaceWords.{unit_side_text}
use Rattle.vn_types.proofs.HalfReading.{half_read_back}
use Rattle.vn_types.proofs.PathReading.{path_of-path_text}
use Rattle.vn_types.proofs.half_text.put_half.Goals as goal

pub returns-clause-put : goal.returns-clause-put
unfolding half_text
returns-clause-put c =
    on_ok_weaker c.put_unit_side.result (λ h. h ∙ (λ i. (rw c.text.ensures.text at c.in_ok-put.ensures.put i ++ slash ∷ []) ++ unit_side_text c.args.half.now.unit c.args.half.now.side) ∙ simp append_assoc) (rw c.in_ok-put-2.ensures.put at c.put_unit_side.ensures.put)

pub returns-in_err-put-clause-read_back : goal.returns-in_err-put-clause-read_back
returns-in_err-put-clause-read_back c = half_read_back c.args.half.now (path_of-path_text _ c.text.ensures.path) (omega arith)

pub returns-in_err-put-2-clause-read_back : goal.returns-in_err-put-2-clause-read_back
returns-in_err-put-2-clause-read_back c = half_read_back c.args.half.now (path_of-path_text _ c.text.ensures.path) (omega arith)

pub returns-clause-read_back : goal.returns-clause-read_back
returns-clause-read_back c = half_read_back c.args.half.now (path_of-path_text _ c.text.ensures.path) (omega arith)

pub returns-clause-front : goal.returns-clause-front
returns-clause-front c = search (rules, starts_with_trans)

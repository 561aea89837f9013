use Rattle.std.proofs.Common.{◌∙◌, ◌++◌, ◌∷◌, [], append_assoc}
use Rattle.std.specs.Prelude.{decimal}
use Rattle.std.proofs.lemmas.Result.{on_ok_weaker}
use Rattle.vn_types.specs.Octets.{slash}
use Rattle.vn_types.specs.AddressWords.{prefix_text}
use Rattle.vn_types.proofs.address_text.put_prefix.Goals as goal

pub returns-clause-put : goal.returns-clause-put
unfolding prefix_text
returns-clause-put c =
    on_ok_weaker c.put_number.result (λ h. h ∙ (λ i. (c.in_ok-write_ip4.ensures.written i ++ slash ∷ []) ++ decimal (c.from.ensures i)) ∙ simp append_assoc) (rw c.in_ok-put.ensures.put at c.put_number.ensures.put)

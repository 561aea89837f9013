use Rattle.std.proofs.Common.{◌∙◌, ◌++◌, ℕ, get_or, ap, arith}
use Rattle.std.specs.Prelude.{decimal}
use Rattle.std.proofs.lemmas.Result.{on_ok_weaker}
use Rattle.vn_types.specs.AddressWords.{ip4_text}
use Rattle.vn_types.proofs.AddressReading.{ip4_texts, ip4_read_back}
use Rattle.vn_types.proofs.address_text.write_ip4.Goals as goal

pub returns-clause-written : goal.returns-clause-written
unfolding ip4_text
returns-clause-written c =
    let octet = λ (i : ℕ). ap (λ os. decimal (get_or os i 0)) c.to_be_bytes.ensures in
    let text = ip4_texts _ _ _ _ _ _ _ _ (c.digits-a.ensures ∙ ap decimal c.from.ensures ∙ octet 0) (c.digits-b.ensures ∙ ap decimal c.from-2.ensures ∙ octet 1) (c.digits-c.ensures ∙ ap decimal c.from-3.ensures ∙ octet 2) (c.digits-d.ensures ∙ ap decimal c.from-4.ensures ∙ octet 3) in
    on_ok_weaker c.put_all.result (λ h. h ∙ ap (λ t. c.args.out.now.items ++ t) text) c.put_all.ensures.put

pub returns-clause-read_back : goal.returns-clause-read_back
returns-clause-read_back c = ip4_read_back c.args.ip (omega arith)

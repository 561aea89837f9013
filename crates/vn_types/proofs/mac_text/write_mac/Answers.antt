use Rattle.std.proofs.Common.{◌≡◌, ◌∙◌, ◌++◌, length, ap, rules}
use Rattle.std.proofs.lemmas.Result.{on_ok_weaker}
use Rattle.vn_types.proofs.MacReading.{mac_texts, mac_read_back}
use Rattle.vn_types.proofs.mac_text.write_mac.Goals as goal

pub returns-clause-written : goal.returns-clause-written
returns-clause-written c =
    let six : length c.args.mac.0 ≡ 6 = search rules in
    let text = mac_texts c.args.mac _ _ _ _ _ _ six c.hex_pair-a.ensures c.hex_pair-b.ensures c.hex_pair-c.ensures c.hex_pair-d.ensures c.hex_pair-e.ensures c.hex_pair-f.ensures in
    on_ok_weaker c.put_all.result (λ h. h ∙ ap (λ t. c.args.out.now.items ++ t) text) c.put_all.ensures.put

pub returns-clause-read_back : goal.returns-clause-read_back
returns-clause-read_back c = mac_read_back c.args.mac (search rules) (λ k lt. search rules)

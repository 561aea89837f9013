use Rattle.std.proofs.Common.{◌++◌, ap, ◌∙◌}
use Rattle.std.specs.Prelude.{codes, decimal}
use Rattle.std.proofs.lemmas.Result.{on_ok_weaker}
use Rattle.vn_types.specs.AddressWords.{ip4_text}
use Rattle.vn_text.proofs.Putting.{six_put}
use Rattle.vn_text.proofs.command.udp.put_connect.Goals as goal

pub returns-clause-put : goal.returns-clause-put
returns-clause-put c =
    on_ok_weaker c.put_endpoint.result
    (λ h. six_put _ (codes "udp connect ") c.args.sock.now (codes " ") (ip4_text c.args.ip) (codes " ") (decimal c.args.port) _ _ _ c.in_ok-put.ensures.put
    (c.in_ok-put-2.ensures.put ∙ ap (λ t. c.put.new.out.items ++ t) c.text.ensures.text) h)
    c.put_endpoint.ensures.put

use Rattle.std.proofs.Transfers.{starts_with_trans}
use Rattle.vn_text.proofs.transcript.put_icmp.Goals as goal

pub returns-clause-front : goal.returns-clause-front
returns-clause-front c =
    starts_with_trans _ _ _ c.put_ping.ensures.front
    (starts_with_trans _ _ _ c.in_ok-put_number-2.ensures.front
    (starts_with_trans _ _ _ c.in_ok-put-2.ensures.front
    (starts_with_trans _ _ _ c.in_ok-put_number.ensures.front c.in_ok-put.ensures.front)))

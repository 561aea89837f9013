use Rattle.std.proofs.Common.{◌++◌, take, drop, ap, ◌∙◌, arith}
use Rattle.byteorder.specs.Endian.{big_bytes}
use Rattle.vn_cksum.specs.Sums.{sum_of, complement}
use Rattle.vn_types.proofs.OctetNumbers.{octets-slice}
use Rattle.vn_icmpfmt.specs.Grammar.{icmp_of}
use Rattle.vn_icmpfmt.proofs.Written.{message-sums, message-read}
use Rattle.vn_icmpfmt.proofs.write.write_message.Goals as goal

pub returns-clause-written : goal.returns-clause-written
returns-clause-written c =
    c.put_checksum.ensures
    ∙ ap (λ xs. take 2 xs ++ (big_bytes 2 (complement (sum_of xs)) ++ drop 4 xs)) c.write_unsummed.ensures.written

pub returns-clause-sums_up : goal.returns-clause-sums_up
returns-clause-sums_up c =
    ap sum_of (returns-clause-written c) ∙ message-sums _ (octets-slice c.args.rest.now c.type_inv.rest)

pub returns-clause-read_back : goal.returns-clause-read_back
returns-clause-read_back c =
    ap icmp_of (returns-clause-written c)
    ∙ message-read _ _ (c.write_unsummed.ensures.fit _ (omega arith)) (message-sums _ (octets-slice c.args.rest.now c.type_inv.rest))

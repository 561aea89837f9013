use Rattle.std.proofs.Common.{◌++◌, take, drop, inr, sym, ap, ◌∙◌, arith}
use Rattle.byteorder.specs.Endian.{big_bytes}
use Rattle.vn_types.proofs.OctetNumbers.{octets-slice}
use Rattle.vn_udpfmt.specs.Pseudo.{sum_behind_pseudo}
use Rattle.vn_udpfmt.specs.Written.{datagram_for, checksum_for, sent_for}
use Rattle.vn_udpfmt.proofs.Headers.{datagram-for, fit-for}
use Rattle.vn_udpfmt.proofs.Sums.{checksum-small, computed-sum, put-for}
use Rattle.vn_udpfmt.proofs.write.write_udp.Goals as goal

pub returns-then-sum-clause-written : goal.returns-then-sum-clause-written
returns-then-sum-clause-written c =
    let datagram = datagram_for c.args.sport c.args.dport c.args.octets.now in
    let sum = sum_behind_pseudo c.args.src c.args.dst in
    c.put_checksum.ensures
    ∙ ap (λ xs. take 6 xs ++ (big_bytes 2 c.sent_for-checksum.result ++ drop 8 xs)) c.write_datagram.ensures
    ∙ put-for c.args.sport c.args.dport c.sent_for-checksum.result c.args.octets.now
    ∙ ap datagram (c.sent_for-checksum.ensures ∙ ap sent_for (c.sum_behind_pseudo.ensures ∙ ap sum c.write_datagram.ensures))
    ∙ ap (λ yes. datagram (checksum_for c.args.src c.args.dst c.args.sport c.args.dport c.args.octets.now yes)) (sym c.if-sum.true)

pub returns-then-sum-clause-sums_up : goal.returns-then-sum-clause-sums_up
returns-then-sum-clause-sums_up c = λ yes.
    ap (sum_behind_pseudo c.args.src c.args.dst) (returns-then-sum-clause-written c)
    ∙ computed-sum c.args.src c.args.dst c.args.sport c.args.dport c.args.octets.now c.args.sum yes (octets-slice c.args.octets.now c.type_inv.octets)

pub returns-then-sum-clause-grammar : goal.returns-then-sum-clause-grammar
returns-then-sum-clause-grammar c = λ rest.
    let checksum = checksum_for c.args.src c.args.dst c.args.sport c.args.dport c.args.octets.now c.args.sum in
    let small = checksum-small c.args.src c.args.dst c.args.sport c.args.dport c.args.octets.now c.args.sum in
    let fit = fit-for c.args.sport c.args.dport checksum c.args.octets.now (omega arith) (omega arith) (omega arith) small in
    let sum = computed-sum c.args.src c.args.dst c.args.sport c.args.dport c.args.octets.now c.args.sum c.if-sum.true
    (octets-slice c.args.octets.now c.type_inv.octets) in
    rw (returns-then-sum-clause-written c)
    (datagram-for c.args.src c.args.dst c.args.sport c.args.dport checksum c.args.octets.now rest fit c.requires.port (inr sum))

use Rattle.std.proofs.Common.{◌++◌, ◌∙◌, refl, ap, sym, arith}
use Rattle.vn_cksum.specs.Sums.{sum_of}
use Rattle.vn_ip4fmt.specs.Checksum.{renewed}
use Rattle.vn_ip4fmt.specs.Heads.{head_of, plain_checksum}
use Rattle.vn_ip4fmt.proofs.Headers.{plain-datagram, plain-head, plain-renewed, plain-total, plain-whole}
use Rattle.vn_ip4fmt.proofs.write.write_header.Goals as goal

pub returns-clause-written : goal.returns-clause-written
returns-clause-written c =
    c.renew_checksum.ensures.renewed ∙ ap renewed c.write_fields.ensures.written ∙ plain-renewed c.args.head.now c.args.total

pub returns-clause-grammar : goal.returns-clause-grammar
returns-clause-grammar c = λ body rest len.
    let checksum = plain_checksum c.args.head.now c.args.total in
    let sum = ap sum_of (sym (returns-clause-written c)) ∙ c.renew_checksum.ensures.sums_up in
    rw (returns-clause-written c)
    (plain-datagram c.args.head.now c.args.total checksum body rest (c.write_fields.ensures.fit checksum (omega arith)) sum len)

pub returns-clause-parts : goal.returns-clause-parts
returns-clause-parts c = λ body rest len.
    let checksum = plain_checksum c.args.head.now c.args.total in
    rw (returns-clause-written c) (
      refl,
      plain-total c.args.head.now c.args.total checksum (body ++ rest) (c.write_fields.ensures.fit checksum (omega arith)),
      plain-whole c.args.head.now c.args.total checksum body rest len,
    )

pub returns-clause-read_back : goal.returns-clause-read_back
returns-clause-read_back c = λ body.
    let checksum = plain_checksum c.args.head.now c.args.total in
    ap (λ xs. head_of (xs ++ body)) (returns-clause-written c)
    ∙ plain-head c.args.head.now c.args.total checksum body (c.write_fields.ensures.fit checksum (omega arith))

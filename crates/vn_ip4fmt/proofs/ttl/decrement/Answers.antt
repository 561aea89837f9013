use Rattle.std.proofs.Common.{◌≡◌, ◌*◌, ◌-◌, ◌++◌, ◌∙◌, ap, take, drop, set, get_or, refl, arith}
use Rattle.vn_types.specs.Ip4Header.{header_len}
use Rattle.vn_ip4fmt.specs.Checksum.{renewed}
use Rattle.vn_ip4fmt.proofs.Renewing.{place-relived}
use Rattle.vn_ip4fmt.proofs.ttl.decrement.Goals as goal

pub returns-clause-others : goal.returns-clause-others
returns-clause-others c = λ k not8 not10 not11.
    let xs = c.args.datagram.now in
    let len : 4 * c.from-header_len.result ≡ header_len xs = omega (arith, c.from-header_len.ensures) in
    let is : c.renew_checksum.new.header ++ c.split_at_mut-header.result.1.now
    ≡ renewed (set (take (4 * c.from-header_len.result) xs) 8 (get_or c.split_at_mut-header.result.0.now 8 0 - 1)) ++ drop (4 * c.from-header_len.result) xs =
    rw (c.renew_checksum.ensures.renewed, ← c.split_at_mut-header.ensures.front, ← c.split_at_mut-header.ensures.back) refl in
    ap (λ ys. get_or ys k 0) is ∙ place-relived (4 * c.from-header_len.result) _ xs k (omega (arith, c.requires.reads.has_fields)) (omega (arith, c.requires.reads.has_header)) not8 not10 not11

use Rattle.std.proofs.Common.{◌≡◌, ◌+◌, ◌-◌, ◌∙◌, List, ℕ, take, drop, sym, ap, arith}
use Rattle.vn_types.proofs.OctetNumbers.{bytes-from, octets-slice}
use Rattle.vn_link.specs.Macs.{mac_of}
use Rattle.vn_link.proofs.mac.mac_at.Goals as goal

pub returns : goal.returns
unfolding mac_of
returns c =
    let place : ℕ = c.args.place in
    let octets : List ℕ = c.args.octets.now in
    let six : place + 6 - place ≡ 6 = omega arith in
    ap (λ (xs : List ℕ). record { 0 = xs })
    (c.copy_from_slice.ensures.after ∙ ap (λ n. take n (drop place octets)) six
    ∙ sym (bytes-from place 6 octets (octets-slice octets c.type_inv.octets) c.requires))

-- A packet's octets spell it, and it is read from them.
use Rattle.std.proofs.Common.{◌≡◌, ◌⊎◌, ◌<◌, ◌≤◌, ◌^◌, ◌&&◌, ℕ, false, not, nat_eq, nat_lt, List, ◌++◌, inl, inr, None, Ok, length, drop, refl, sym, ap, subst, lit<, ◌∙◌, arith}
use Rattle.std.proofs.lemmas.Bool.Decides.{nat_tests}
use Rattle.std.proofs.lemmas.List.{take-append-drop}
use Rattle.vn_types.specs.Fields.{AreOctets, FitWidths, spelled}
use Rattle.vn_types.specs.Refusals.{unless}
use Rattle.vn_types.proofs.FieldLaws.{IsFormat, reads-back, spells}
use Rattle.vn_types.proofs.RefusalLaws.{none-applies, none-refused, value-given}
use Rattle.vn_link.specs.declared.arp.ArpPacket.{ArpPacket}
use Rattle.vn_types.specs.declared.address.Ip4.{Ip4}
use Rattle.vn_types.specs.declared.address.Mac.{Mac}
use Rattle.vn_link.specs.Macs.{mac_of, number_of, IsMac}
use Rattle.vn_link.specs.Packets.{Fields, IsPacket, arp_format, arp_octets, arp_of, arp_refusal, arp_refusals, fields, fields_for, fields_of, packet_in, packet_of}
use Rattle.vn_link.proofs.MacLaws.{mac-below, mac-number, number-below, number-mac}

pub is_format : IsFormat arp_format
is_format = record { whole = refl; same_widths = λ value. refl; same_value = λ value. refl; same_values = λ xs. refl }

-- ---- nothing refuses a packet, and something refuses all else

equal_by_test : (x k : ℕ) → not (nat_eq x k) ≡ false → x ≡ k
equal_by_test x k h = grind (arith, nat_tests)

at_least_by_test : (x k : ℕ) → nat_lt x k ≡ false → k ≤ x
at_least_by_test x k h = grind (arith, nat_tests)

one_or_two : (x : ℕ) → (not (nat_eq x 1) && not (nat_eq x 2)) ≡ false → (x ≡ 1) ⊎ (x ≡ 2)
one_or_two x h = grind (arith, nat_tests)

pub packet-of_no_refusal : (xs : List ℕ) → arp_refusal xs ≡ None → IsPacket xs
packet-of_no_refusal xs none =
    let w = none-applies (arp_refusals xs) none in
    record {
      long_enough = at_least_by_test _ _ w.0;
      is_of_ethernet = equal_by_test _ _ w.1.0;
      is_of_ipv4 = equal_by_test _ _ w.1.1.0;
      has_hardware_length = equal_by_test _ _ w.1.1.1.0;
      has_protocol_length = equal_by_test _ _ w.1.1.1.1.0;
      is_request_or_reply = one_or_two _ w.1.1.1.1.1.0;
    }

known_op : (n : ℕ) → (n ≡ 1) ⊎ (n ≡ 2) → (not (nat_eq n 1) && not (nat_eq n 2)) ≡ false
known_op n (inl e) = ap (λ x. not (nat_eq x 1) && not (nat_eq x 2)) e
known_op n (inr e) = ap (λ x. not (nat_eq x 1) && not (nat_eq x 2)) e

pub no_refusal-of_packet : (xs : List ℕ) → IsPacket xs → arp_refusal xs ≡ None
no_refusal-of_packet xs w =
    let long : nat_lt (length xs) 28 ≡ false = grind (arith, nat_tests, w.long_enough) in
    none-refused (arp_refusals xs) (
      long,
      (
        ap (λ x. not (nat_eq x 1)) w.is_of_ethernet,
        (
          ap (λ x. not (nat_eq x 0x0800)) w.is_of_ipv4,
          (
            ap (λ x. not (nat_eq x 6)) w.has_hardware_length,
            (
              ap (λ x. not (nat_eq x 4)) w.has_protocol_length,
              (known_op _ w.is_request_or_reply, tt),
            ),
          ),
        ),
      ),
    )

-- ---- a packet that is read

abbrev the_packet : ℕ → Mac → Ip4 → Mac → Ip4 → ArpPacket
the_packet op sha spa tha tpa = record { op = op; sha = sha; spa = spa; tha = tha; tpa = tpa }

abbrev the_fields : ℕ → ℕ → ℕ → ℕ → ℕ → ℕ → ℕ → ℕ → ℕ → Fields
the_fields hrd pro hln pln op sha spa tha tpa = record {
  ar_hrd = hrd;
  ar_pro = pro;
  ar_hln = hln;
  ar_pln = pln;
  ar_op = op;
  ar_sha = sha;
  ar_spa = spa;
  ar_tha = tha;
  ar_tpa = tpa;
}

same-fields : (hrd pro hln pln op sha spa tha tpa : ℕ) → hrd ≡ 1 → pro ≡ 0x0800 → hln ≡ 6 → pln ≡ 4 → sha < 2 ^ 48 → tha < 2 ^ 48
    → fields_for (packet_in (the_fields hrd pro hln pln op sha spa tha tpa)) ≡ the_fields hrd pro hln pln op sha spa tha tpa
same-fields hrd pro hln pln op sha spa tha tpa a b c d small small' = rw (a, b, c, d, number-mac sha small, number-mac tha small') refl

-- a packet whose parts are read apart
pub same-packet : (f : Fields) (op spa tpa : ℕ) (sha tha : Mac)
    → op ≡ f.ar_op → sha ≡ mac_of f.ar_sha → spa ≡ f.ar_spa → tha ≡ mac_of f.ar_tha → tpa ≡ f.ar_tpa
    → the_packet op sha (record { 0 = spa }) tha (record { 0 = tpa }) ≡ packet_in f
same-packet f op spa tpa sha tha a b c d e = rw (a, b, c, d, e) refl

-- a packet that is read is written the same
pub read-spelled : (xs : List ℕ) (p : ArpPacket) → AreOctets xs → arp_of xs ≡ Ok p → arp_octets p ++ drop 28 xs ≡ xs
read-spelled xs p octets is =
    let given = value-given (arp_refusal xs) (packet_of xs) p is in
    let w = packet-of_no_refusal xs given.0 in
    let same : fields_for (packet_of xs) ≡ fields_of xs =
    same-fields _ _ _ _ (fields_of xs).ar_op (fields_of xs).ar_sha (fields_of xs).ar_spa (fields_of xs).ar_tha (fields_of xs).ar_tpa
    w.is_of_ethernet w.is_of_ipv4 w.has_hardware_length w.has_protocol_length (number-below 8 xs octets) (number-below 18 xs octets) in
    ap (λ q. arp_octets q ++ drop 28 xs) (sym given.1)
    ∙ ap (λ f. spelled arp_format f ++ drop 28 xs) same
    ∙ ap (λ ys. ys ++ drop 28 xs) (spells arp_format is_format xs octets w.long_enough)
    ∙ take-append-drop 28 xs

-- ---- a packet that is written

small_op : (n : ℕ) → (n ≡ 1) ⊎ (n ≡ 2) → n < 65536
small_op n (inl e) = omega arith
small_op n (inr e) = omega arith

pub packet-fit : (p : ArpPacket) → (p.op ≡ 1) ⊎ (p.op ≡ 2) → IsMac p.sha → p.spa.0 < 2 ^ 32 → IsMac p.tha → p.tpa.0 < 2 ^ 32
    → FitWidths (fields (fields_for p))
packet-fit p op sha spa tha tpa = (
  lit< tt,
  (
    lit< tt,
    (
      lit< tt,
      (
        lit< tt,
        (
          small_op p.op op,
          (mac-below p.sha sha, (spa, (mac-below p.tha tha, (tpa, tt)))),
        ),
      ),
    ),
  ),
)

pub arp_of-octets : (p : ArpPacket) (rest : List ℕ) → FitWidths (fields (fields_for p)) → IsMac p.sha → IsMac p.tha
    → (p.op ≡ 1) ⊎ (p.op ≡ 2) → arp_of (arp_octets p ++ rest) ≡ Ok p
arp_of-octets p rest fit is is' op =
    let xs : List ℕ = arp_octets p ++ rest in
    let back : fields_of xs ≡ fields_for p = reads-back arp_format is_format (fields_for p) rest fit in
    let none : arp_refusal xs ≡ None =
    no_refusal-of_packet xs (record {
      long_enough = omega arith;
      is_of_ethernet = ap (λ (f : Fields). f.ar_hrd) back;
      is_of_ipv4 = ap (λ (f : Fields). f.ar_pro) back;
      has_hardware_length = ap (λ (f : Fields). f.ar_hln) back;
      has_protocol_length = ap (λ (f : Fields). f.ar_pln) back;
      is_request_or_reply = subst (λ (f : Fields). (f.ar_op ≡ 1) ⊎ (f.ar_op ≡ 2)) (sym back) op;
    }) in
    ap (λ r. unless r (packet_of xs)) none
    ∙ ap (λ f. Ok (packet_in f)) back
    ∙ ap (λ mac. Ok (the_packet p.op mac p.spa (mac_of (number_of p.tha)) p.tpa)) (mac-number p.sha is)
    ∙ ap (λ mac. Ok (the_packet p.op p.sha p.spa mac p.tpa)) (mac-number p.tha is')

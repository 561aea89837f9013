-- The sum of a datagram that is written.
use Rattle.std.proofs.Common.{◌≡◌, ℕ, ◌+◌, ◌%◌, ◌<◌, Bool, true, false, lit<, List, [], ◌∷◌, ◌++◌, length, take, drop, inl, inr, refl, ap, ◌∙◌, arith}
use Rattle.std.proofs.lemmas.Bool.{cases_lt}
use Rattle.byteorder.specs.Endian.{big_bytes}
use Rattle.vn_types.specs.Fields.{octets_of}
use Rattle.vn_cksum.specs.Sums.{sum_of, complement}
use Rattle.vn_types.specs.Fields.{AreOctets}
use Rattle.vn_types.proofs.FieldLaws.{octets-fields}
use Rattle.vn_cksum.proofs.SumLaws.{completed, octets-field, sixteen_bits, two_zeros}
use Rattle.vn_types.specs.declared.address.Ip4.{Ip4}
use Rattle.vn_udpfmt.specs.Pseudo.{sum_behind_pseudo}
use Rattle.vn_udpfmt.specs.Written.{datagram_for, sent_for, checksum_for}

sent-below : (t : ℕ) → t < 65535 → sent_for t ≡ complement t
sent-below t below = grind arith

sent-top : (t : ℕ) → t ≡ 65535 → sent_for t ≡ 65535
sent-top t top = grind arith

sent-small : (t : ℕ) → sent_for t < 65536
sent-small t = grind arith

-- with what is sent in a field that was 0, the whole sum is 65535
pub sent-sum : (front back : List ℕ) → AreOctets front → AreOctets back → length front % 2 ≡ 0
    → sum_of (front ++ (big_bytes 2 (sent_for (sum_of (front ++ 0 ∷ 0 ∷ back))) ++ back)) ≡ 65535
sent-sum front back first last even =
    let t : ℕ = sum_of (front ++ 0 ∷ 0 ∷ back) in
    let small : t < 65536 = sixteen_bits (front ++ (big_bytes 2 0 ++ back)) (octets-field front back 0 first last) in
    elim (cases_lt t 65535) [
      | inl below ↦ ap (λ w. sum_of (front ++ (big_bytes 2 w ++ back))) (sent-below t below) ∙ completed front back first last even
      | inr above ↦
          let top : t ≡ 65535 = omega arith in
          ap (λ w. sum_of (front ++ (big_bytes 2 w ++ back))) (sent-top t top) ∙ two_zeros front back first last even (λ none. omega arith) ∙ top
    ]

-- what stands before the checksum
abbrev pub front : Ip4 → Ip4 → ℕ → ℕ → ℕ → List ℕ
front src dst sport dport len =
    octets_of ((32, src.0) ∷ (32, dst.0) ∷ (8, 0) ∷ (8, 17) ∷ (16, len) ∷ (16, sport) ∷ (16, dport) ∷ (16, len) ∷ [])

sum-round : (src dst : Ip4) (sport dport checksum : ℕ) (octets : List ℕ)
    → sum_behind_pseudo src dst (datagram_for sport dport octets checksum) ≡ sum_of (front src dst sport dport (8 + length octets) ++ (big_bytes 2 checksum ++ octets))
sum-round src dst sport dport checksum octets =
    let len : length (datagram_for sport dport octets checksum) ≡ 8 + length octets = omega arith in
    rw len refl

sent-for : (src dst : Ip4) (sport dport : ℕ) (octets : List ℕ) → AreOctets octets
    → sum_behind_pseudo src dst (datagram_for sport dport octets (sent_for (sum_behind_pseudo src dst (datagram_for sport dport octets 0)))) ≡ 65535
sent-for src dst sport dport octets are =
    let bare : sum_behind_pseudo src dst (datagram_for sport dport octets 0) ≡ sum_of (front src dst sport dport (8 + length octets) ++ 0 ∷ 0 ∷ octets) =
    sum-round src dst sport dport 0 octets in
    let first : AreOctets (front src dst sport dport (8 + length octets)) = octets-fields ((32, src.0) ∷ (32, dst.0) ∷ (8, 0) ∷ (8, 17) ∷ (16, 8 + length octets) ∷ (16, sport) ∷ (16, dport) ∷ (16, 8 + length octets) ∷ []) in
    ap (λ t. sum_behind_pseudo src dst (datagram_for sport dport octets (sent_for t))) bare
    ∙ sum-round src dst sport dport (sent_for (sum_of (front src dst sport dport (8 + length octets) ++ 0 ∷ 0 ∷ octets))) octets
    ∙ sent-sum (front src dst sport dport (8 + length octets)) octets first are refl

-- a datagram whose checksum is computed sums up
pub computed-sum : (src dst : Ip4) (sport dport : ℕ) (octets : List ℕ) (computed : Bool) → computed ≡ true → AreOctets octets
    → sum_behind_pseudo src dst (datagram_for sport dport octets (checksum_for src dst sport dport octets computed)) ≡ 65535
computed-sum src dst sport dport octets true is are = sent-for src dst sport dport octets are
computed-sum src dst sport dport octets false is are = absurd (cc)

pub checksum-small : (src dst : Ip4) (sport dport : ℕ) (octets : List ℕ) (computed : Bool) → checksum_for src dst sport dport octets computed < 65536
checksum-small src dst sport dport octets true = sent-small _
checksum-small src dst sport dport octets false = lit< tt

-- a checksum that is put where 0 stood
pub put-for : (sport dport checksum : ℕ) (octets : List ℕ)
    → take 6 (datagram_for sport dport octets 0) ++ (big_bytes 2 checksum ++ drop 8 (datagram_for sport dport octets 0)) ≡ datagram_for sport dport octets checksum
put-for sport dport checksum octets = refl

-- Headers as octets, and read back.
use Rattle.std.proofs.Common.{◌≡◌, ◌≢◌, ◌⊎◌, ◌==◌, ◌||◌, true, ℕ, ◌+◌, ◌<◌, ◌≤◌, List, ◌++◌, length, take, length-append, refl, sym, ap, ◌∙◌, arith}
use Rattle.std.proofs.lemmas.List.{take_at}
use Rattle.vn_types.specs.Fields.{FitWidths}
use Rattle.vn_types.proofs.FieldLaws.{IsFormat, reads-back}
use Rattle.vn_types.specs.declared.address.Ip4.{Ip4}
use Rattle.vn_udpfmt.specs.Datagram.{IsDatagram, whole}
use Rattle.vn_udpfmt.specs.Header.{Header, fields, udp_header, header_of}
use Rattle.vn_udpfmt.specs.Pseudo.{sum_behind_pseudo}
use Rattle.vn_udpfmt.specs.Written.{header_for, datagram_for}

pub is_format : IsFormat udp_header
is_format = record { whole = refl; same_widths = λ value. refl; same_value = λ value. refl; same_values = λ xs. refl }

pub fit-for : (sport dport checksum : ℕ) (octets : List ℕ) → sport < 65536 → dport < 65536 → length octets ≤ 65527 → checksum < 65536
    → FitWidths (fields (header_for sport dport octets checksum))
fit-for sport dport checksum octets has_sport has_dport size has_checksum =
    let len : 8 + length octets < 65536 = omega arith in
    (has_sport, (has_dport, (len, (has_checksum, tt))))

-- a datagram that is written is whole, whatever stands behind it
pub whole-for : (sport dport checksum : ℕ) (octets rest : List ℕ) → FitWidths (fields (header_for sport dport octets checksum))
    → whole (datagram_for sport dport octets checksum ++ rest) ≡ datagram_for sport dport octets checksum
whole-for sport dport checksum octets rest fit =
    let datagram : List ℕ = datagram_for sport dport octets checksum in
    let told : (header_of (datagram ++ rest)).len ≡ 8 + length octets =
    ap (λ (h : Header). h.len) (reads-back udp_header is_format (header_for sport dport octets checksum) (octets ++ rest) fit) in
    let len : length datagram ≡ 8 + length octets = omega arith in
    ap (λ n. take n (datagram ++ rest)) told ∙ take_at datagram rest (8 + length octets) len

pub datagram-for : (src dst : Ip4) (sport dport checksum : ℕ) (octets rest : List ℕ) → FitWidths (fields (header_for sport dport octets checksum)) → dport ≢ 0
    → (checksum ≡ 0) ⊎ (sum_behind_pseudo src dst (datagram_for sport dport octets checksum) ≡ 65535)
    → IsDatagram src dst (datagram_for sport dport octets checksum ++ rest)
datagram-for src dst sport dport checksum octets rest fit port sums =
    let datagram : List ℕ = datagram_for sport dport octets checksum in
    let is : header_of (datagram ++ rest) ≡ header_for sport dport octets checksum = reads-back udp_header is_format (header_for sport dport octets checksum) (octets ++ rest) fit in
    let told : (header_of (datagram ++ rest)).len ≡ 8 + length octets = ap (λ (h : Header). h.len) is in
    let all : length (datagram ++ rest) ≡ length datagram + length rest = length-append datagram rest in
    let len : length datagram ≡ 8 + length octets = omega arith in
    record {
      long_enough = omega arith;
      holds_header = omega arith;
      is_whole = omega arith;
      sums_up = rw (ap (λ (h : Header). h.checksum) is, whole-for sport dport checksum octets rest fit) sums;
      has_port = λ none. port (sym (ap (λ (h : Header). h.dport) is) ∙ none);
    }

-- ---- which octets are refused

summed : (a b : ℕ) → (a == 0 || b == 65535) ≡ true → (a ≡ 0) ⊎ (b ≡ 65535)
summed a b test = grind arith

-- the test of the checksum, of numbers that were read
pub sums : (src dst : Ip4) (xs : List ℕ) (checksum len : ℕ) → checksum ≡ (header_of xs).checksum → len ≡ (header_of xs).len
    → (checksum == 0 || sum_behind_pseudo src dst (take len xs) == 65535) ≡ true
    → ((header_of xs).checksum ≡ 0) ⊎ (sum_behind_pseudo src dst (whole xs) ≡ 65535)
sums src dst xs checksum len is is_len test = rw (← is, ← is_len) (summed checksum (sum_behind_pseudo src dst (take len xs)) test)

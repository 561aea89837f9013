-- A message that was written sums up, and is read.
use Rattle.std.proofs.Common.{◌≡◌, ℕ, ◌<◌, false, not, nat_eq, nat_lt, List, [], ◌∷◌, ◌++◌, Ok, length, refl, ap, arith}
use Rattle.std.proofs.lemmas.Bool.Decides.{nat_tests}
use Rattle.std.proofs.lemmas.List.Elements.{All-append}
use Rattle.vn_types.specs.Fields.{AreOctets, FitWidths, octets_of}
use Rattle.vn_types.proofs.FieldLaws.{IsFormat, octets-fields, reads-back}
use Rattle.vn_cksum.specs.Sums.{sum_of}
use Rattle.vn_cksum.proofs.SumLaws.{completed}
use Rattle.vn_icmpfmt.specs.Messages.{Message, fields, header_for, icmp_header, message_in, message_with, summed}
use Rattle.vn_icmpfmt.specs.Grammar.{icmp_of}

is_format : IsFormat icmp_header
is_format = record { whole = refl; same_widths = λ value. refl; same_value = λ value. refl; same_values = λ xs. refl }

pub message-sums : (m : Message) → AreOctets m.rest → sum_of (summed (message_with m)) ≡ 65535
message-sums m octets =
    let front : List (ℕ × ℕ) = (8, m.kind) ∷ (8, m.code) ∷ [] in
    let back : List (ℕ × ℕ) = (16, m.id) ∷ (16, m.seq) ∷ [] in
    completed (octets_of front) (octets_of back ++ m.rest) (octets-fields front)
    (All-append (λ x. x < 256) (octets_of back) m.rest (octets-fields back) octets) refl

pub message-read : (m : Message) (checksum : ℕ) → FitWidths (fields (header_for m checksum))
    → sum_of (message_with m checksum) ≡ 65535 → icmp_of (message_with m checksum) ≡ Ok m
message-read m checksum fit e =
    let xs : List ℕ = message_with m checksum in
    let long : nat_lt (length xs) 8 ≡ false = grind (arith, nat_tests) in
    let sums : not (nat_eq (sum_of xs) 65535) ≡ false = ap (λ (x : ℕ). not (nat_eq x 65535)) e in
    rw (long, sums) (ap (λ h. Ok (message_in h m.rest)) (reads-back icmp_header is_format (header_for m checksum) m.rest fit))

-- Headers as octets, and read back.
use Rattle.std.proofs.Common.{◌≡◌, ◌==◌, ℕ, ◌+◌, ◌^◌, ◌<◌, Bool, true, false, List, ◌++◌, take, length, length-append, append_assoc, refl, sym, ap, ◌∙◌, arith, lit<}
use Rattle.std.proofs.lemmas.List.{take_at}
use Rattle.vn_types.specs.Fields.{FitWidths, bit}
use Rattle.vn_types.proofs.FieldLaws.{IsFormat, reads-back}
use Rattle.vn_ip4fmt.specs.declared.head.Ip4Head.{Ip4Head}
use Rattle.vn_types.specs.Ip4Header.{Header, fields, header_of, ip4_header}
use Rattle.vn_cksum.specs.Sums.{sum_of}
use Rattle.vn_ip4fmt.specs.Checksum.{renewed}
use Rattle.vn_ip4fmt.specs.Datagram.{IsDatagram}
use Rattle.vn_ip4fmt.specs.Heads.{head_in, head_of, plain_header, plain_octets, plain_checksum}

pub is_format : IsFormat ip4_header
is_format = record { whole = refl; same_widths = λ value. refl; same_value = λ value. refl; same_values = λ xs. refl }

-- ---- a header without options

bit-small : (b : Bool) → bit b < 2
bit-small true = lit< tt
bit-small false = lit< tt

bit-back : (b : Bool) → (bit b == 1) ≡ b
bit-back true = refl
bit-back false = refl

pub plain-fit : (head : Ip4Head) (total checksum : ℕ) → total < 65536 → checksum < 65536
    → head.tos < 256 → head.id < 65536 → head.offset < 8192 → head.ttl < 256 → head.proto < 256 → head.src.0 < 2 ^ 32 → head.dst.0 < 2 ^ 32
    → FitWidths (fields (plain_header head total checksum))
plain-fit head total checksum has_total has_checksum tos id offset ttl proto src dst = (
  lit< tt,
  (
    lit< tt,
    (
      tos,
      (
        has_total,
        (
          id,
          (
            lit< tt,
            (
              bit-small head.df,
              (
                bit-small head.mf,
                (offset, (ttl, (proto, (has_checksum, (src, (dst, tt)))))),
              ),
            ),
          ),
        ),
      ),
    ),
  ),
)

pub plain-renewed : (head : Ip4Head) (total : ℕ) → renewed (plain_octets head total 0) ≡ plain_octets head total (plain_checksum head total)
plain-renewed head total = refl

pub plain-head : (head : Ip4Head) (total checksum : ℕ) (body : List ℕ) → FitWidths (fields (plain_header head total checksum))
    → head_of (plain_octets head total checksum ++ body) ≡ head
plain-head head total checksum body fit =
    ap head_in (reads-back ip4_header is_format (plain_header head total checksum) body fit) ∙ (rw (bit-back head.df, bit-back head.mf) refl)

pub plain-total : (head : Ip4Head) (total checksum : ℕ) (body : List ℕ) → FitWidths (fields (plain_header head total checksum))
    → (header_of (plain_octets head total checksum ++ body)).total ≡ total
plain-total head total checksum body fit = ap (λ (h : Header). h.total) (reads-back ip4_header is_format (plain_header head total checksum) body fit)

pub plain-datagram : (head : Ip4Head) (total checksum : ℕ) (body rest : List ℕ) → FitWidths (fields (plain_header head total checksum))
    → sum_of (plain_octets head total checksum) ≡ 65535 → 20 + length body ≡ total → IsDatagram (plain_octets head total checksum ++ (body ++ rest))
plain-datagram head total checksum body rest fit sum len =
    let told = plain-total head total checksum (body ++ rest) fit in
    let whole : length (plain_octets head total checksum ++ (body ++ rest)) ≡ 20 + length (body ++ rest) = length-append (plain_octets head total checksum) (body ++ rest) in
    let behind = length-append body rest in
    record {
      header = record {
        long_enough = omega arith;
        is_version_4 = refl;
        has_fields = omega arith;
        has_header = omega arith;
        sums_up = sum;
      };
      holds_header = omega arith;
      is_whole = omega arith;
    }

-- the octets up to the total length are the header and the body
pub plain-whole : (head : Ip4Head) (total checksum : ℕ) (body rest : List ℕ) → 20 + length body ≡ total
    → take total (plain_octets head total checksum ++ (body ++ rest)) ≡ plain_octets head total checksum ++ body
plain-whole head total checksum body rest len =
    let xs = plain_octets head total checksum in
    let whole : length (xs ++ body) ≡ total = length-append xs body ∙ len in
    ap (take total) (sym (append_assoc xs body rest)) ∙ take_at (xs ++ body) rest total whole

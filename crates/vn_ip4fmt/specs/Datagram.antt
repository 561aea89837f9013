-- Which octets are an IPv4 datagram, and why others are refused (RFC 791, section 3.1; RFC 1122, section 3.2.1).
use Rattle.std.specs.Prelude.{◌≡◌, ℕ, ◌≤◌, ◌==◌, nat_lt, not, ◌||◌, List, [], ◌∷◌, length, take, Option, Result}
use Rattle.vn_types.specs.Refusals.{first_refusal, unless}
use Rattle.vn_types.specs.Ip4Header.{header_of, header_len, header_size}
use Rattle.vn_cksum.specs.Sums.{sum_of}
use Rattle.vn_ip4fmt.specs.declared.bad.IpBad.{IpBad}
use Rattle.vn_ip4fmt.specs.declared.bad.IpBad.TheVariants as bad

-- a header that reads, and whatever stands behind it
pub record HasHeader (xs : List ℕ) : Type 0 where
  pub long_enough : header_size ≤ length xs
  pub is_version_4 : (header_of xs).version ≡ 4
  pub has_fields : 5 ≤ (header_of xs).ihl
  pub has_header : header_len xs ≤ length xs
  pub sums_up : sum_of (take (header_len xs) xs) ≡ 65535

-- a datagram, and whatever stands behind it
pub record IsDatagram (xs : List ℕ) : Type 0 where
  pub header : HasHeader xs
  pub holds_header : header_len xs ≤ (header_of xs).total
  pub is_whole : (header_of xs).total ≤ length xs

-- the first refusal that applies
abbrev pub refusal : List ℕ → Option IpBad
refusal xs = first_refusal (
    (nat_lt (length xs) header_size, bad.Short)
    ∷ (not ((header_of xs).version == 4), bad.Version)
    ∷ (nat_lt (header_of xs).ihl 5 || nat_lt (length xs) (header_len xs), bad.HeaderLen)
    ∷ (not (sum_of (take (header_len xs) xs) == 65535), bad.Checksum)
    ∷ (
      nat_lt (header_of xs).total (header_len xs) || nat_lt (length xs) (header_of xs).total,
      bad.TotalLen,
    )
    ∷ [])

-- octets are read as they stand
abbrev pub ip4_of : List ℕ → Result (List ℕ) IpBad
ip4_of xs = unless (refusal xs) xs

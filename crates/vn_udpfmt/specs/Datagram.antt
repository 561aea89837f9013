-- Which octets are a UDP datagram, and why others are refused (RFC 768).
use Rattle.std.specs.Prelude.{◌≡◌, ◌≢◌, ℕ, ◌≤◌, ◌==◌, nat_lt, not, ◌||◌, ◌⊎◌, List, [], ◌∷◌, length, take, Option, Result}
use Rattle.vn_types.specs.Refusals.{first_refusal, unless}
use Rattle.vn_types.specs.declared.address.Ip4.{Ip4}
use Rattle.vn_udpfmt.specs.declared.bad.UdpBad.{UdpBad}
use Rattle.vn_udpfmt.specs.declared.bad.UdpBad.TheVariants as bad
use Rattle.vn_udpfmt.specs.Header.{header_size, header_of}
use Rattle.vn_udpfmt.specs.Pseudo.{sum_behind_pseudo}

-- the octets up to the length field's end
abbrev pub whole : List ℕ → List ℕ
whole xs = take (header_of xs).len xs

-- a datagram between two addresses, and whatever stands behind it. A checksum of 0 is none.
pub record IsDatagram (src dst : Ip4) (xs : List ℕ) : Type 0 where
  -- it holds a header
  pub long_enough : header_size ≤ length xs
  -- so does the length that is told
  pub holds_header : header_size ≤ (header_of xs).len
  -- all octets of that length are there
  pub is_whole : (header_of xs).len ≤ length xs
  -- it has no checksum, or the right one
  pub sums_up : ((header_of xs).checksum ≡ 0) ⊎ (sum_behind_pseudo src dst (whole xs) ≡ 65535)
  -- its destination is a port
  pub has_port : (header_of xs).dport ≢ 0

-- the first refusal that applies
abbrev pub refusal : Ip4 → Ip4 → List ℕ → Option UdpBad
refusal src dst xs = first_refusal (
    (nat_lt (length xs) header_size, bad.Short)
    ∷ (nat_lt (header_of xs).len header_size || nat_lt (length xs) (header_of xs).len, bad.Length)
    ∷ (
      not ((header_of xs).checksum == 0 || sum_behind_pseudo src dst (whole xs) == 65535),
      bad.Checksum,
    )
    ∷ ((header_of xs).dport == 0, bad.Port)
    ∷ [])

-- octets are read as they stand
abbrev pub udp_of : Ip4 → Ip4 → List ℕ → Result (List ℕ) UdpBad
udp_of src dst xs = unless (refusal src dst xs) xs

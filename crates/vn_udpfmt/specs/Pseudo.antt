-- The pseudo header that a UDP checksum covers (RFC 768).
use Rattle.std.specs.Prelude.{ℕ, List, [], ◌∷◌, ◌++◌, length}
use Rattle.vn_types.specs.Fields.{octets_of}
use Rattle.vn_cksum.specs.Sums.{sum_of}
use Rattle.vn_types.specs.declared.address.Ip4.{Ip4}

-- its fields in wire order: both addresses, zeros, the protocol's number and the UDP length
abbrev pub pseudo_fields : Ip4 → Ip4 → ℕ → List (ℕ × ℕ)
pseudo_fields src dst len = (32, src.0) ∷ (32, dst.0) ∷ (8, 0) ∷ (8, 17) ∷ (16, len) ∷ []

-- the sum of a whole datagram's octets behind their pseudo header
abbrev pub sum_behind_pseudo : Ip4 → Ip4 → List ℕ → ℕ
sum_behind_pseudo src dst xs = sum_of (octets_of (pseudo_fields src dst (length xs)) ++ xs)

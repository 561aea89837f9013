-- A datagram that is written.
use Rattle.std.specs.Prelude.{ℕ, ◌+◌, ◌==◌, Bool, if◌then◌else◌, List, ◌++◌, length}
use Rattle.vn_types.specs.Fields.{spelled}
use Rattle.vn_cksum.specs.Sums.{complement}
use Rattle.vn_types.specs.declared.address.Ip4.{Ip4}
use Rattle.vn_udpfmt.specs.Header.{Header, udp_header, header_size}
use Rattle.vn_udpfmt.specs.Pseudo.{sum_behind_pseudo}

-- the header of a datagram with these ports, octets and checksum
abbrev pub header_for : ℕ → ℕ → List ℕ → ℕ → Header
header_for sport dport octets checksum = record {
  sport = sport;
  dport = dport;
  len = header_size + length octets;
  checksum = checksum;
}

-- the datagram with these ports, octets and checksum
abbrev pub datagram_for : ℕ → ℕ → List ℕ → ℕ → List ℕ
datagram_for sport dport octets checksum =
    spelled udp_header (header_for sport dport octets checksum) ++ octets

-- a checksum that is computed: the complement of the sum, in which it counts as 0. If that is 0 it is sent as
-- all ones, since 0 tells that there is none.
abbrev pub sent_for : ℕ → ℕ
sent_for sum = if complement sum == 0 then 65535 else complement sum

-- the checksum that is sent
abbrev pub checksum_for : Ip4 → Ip4 → ℕ → ℕ → List ℕ → Bool → ℕ
checksum_for src dst sport dport octets computed =
    if computed then sent_for (sum_behind_pseudo src dst (datagram_for sport dport octets 0)) else 0

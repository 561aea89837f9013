-- The header of a UDP datagram (RFC 768).
use Rattle.std.specs.Prelude.{ℕ, List, [], ◌∷◌, slice_index}
use Rattle.vn_types.specs.Fields.{Format, read, size}

-- what its fields hold
pub record Header : Type 0 where
  -- the source port
  pub sport : ℕ
  -- the destination port
  pub dport : ℕ
  -- the length of the datagram in octets
  pub len : ℕ
  -- the checksum, or 0 where there is none
  pub checksum : ℕ

-- the fields in wire order
abbrev pub fields : Header → List (ℕ × ℕ)
fields h = (16, h.sport) ∷ (16, h.dport) ∷ (16, h.len) ∷ (16, h.checksum) ∷ []

-- the header whose fields have these values
abbrev pub header_with : List ℕ → Header
header_with values =
    let v = slice_index values in
    record { sport = v 0; dport = v 1; len = v 2; checksum = v 3 }

-- the header as a format
abbrev pub udp_header : Format Header
udp_header = record { fields = fields; of_values = header_with }

-- how many octets a header has: the Length field
-- counts them too, so it is at least as much
abbrev pub header_size : ℕ
header_size = size udp_header

-- the header that octets spell
abbrev pub header_of : List ℕ → Header
header_of octets = read udp_header octets

-- The header of an IPv4 datagram (RFC 791, section 3.1). An ICMP error quotes it too.
use Rattle.std.specs.Prelude.{ℕ, ◌*◌, List, [], ◌∷◌, slice_index}
use Rattle.vn_types.specs.Fields.{Format, read, size}

-- what its fields hold. Options, which may follow, have no meaning here.
pub record Header : Type 0 where
  -- the version, 4
  pub version : ℕ
  -- the length of the header in words of four octets
  pub ihl : ℕ
  -- the type of service
  pub tos : ℕ
  -- the length of the datagram in octets
  pub total : ℕ
  -- the identification
  pub id : ℕ
  -- the reserved flag
  pub reserved : ℕ
  -- don't fragment
  pub df : ℕ
  -- more fragments
  pub mf : ℕ
  -- the place of a fragment in units of 8 octets
  pub offset : ℕ
  -- the time to live
  pub ttl : ℕ
  -- the protocol
  pub proto : ℕ
  -- the checksum of the header
  pub checksum : ℕ
  -- the source
  pub src : ℕ
  -- the destination
  pub dst : ℕ

-- the fields in wire order, a line for each four octets
abbrev pub fields : Header → List (ℕ × ℕ)
fields h =
    (4, h.version) ∷ (4, h.ihl) ∷ (8, h.tos) ∷ (16, h.total)
    ∷ (16, h.id) ∷ (1, h.reserved) ∷ (1, h.df) ∷ (1, h.mf) ∷ (13, h.offset)
    ∷ (8, h.ttl) ∷ (8, h.proto) ∷ (16, h.checksum)
    ∷ (32, h.src)
    ∷ (32, h.dst)
    ∷ []

-- the header whose fields have these values
abbrev pub header_with : List ℕ → Header
header_with values = record {
  version = slice_index values 0;
  ihl = slice_index values 1;
  tos = slice_index values 2;
  total = slice_index values 3;
  id = slice_index values 4;
  reserved = slice_index values 5;
  df = slice_index values 6;
  mf = slice_index values 7;
  offset = slice_index values 8;
  ttl = slice_index values 9;
  proto = slice_index values 10;
  checksum = slice_index values 11;
  src = slice_index values 12;
  dst = slice_index values 13;
}

-- the header as a format
abbrev pub ip4_header : Format Header
ip4_header = record { fields = fields; of_values = header_with }

-- how many octets a header without options has
abbrev pub header_size : ℕ
header_size = size ip4_header

-- the header that octets spell
abbrev pub header_of : List ℕ → Header
header_of octets = read ip4_header octets

-- the length of the header in octets: IHL counts words of four octets
abbrev pub header_len : List ℕ → ℕ
header_len octets = 4 * (header_of octets).ihl

-- An Ethernet frame (RFC 894).
use Rattle.std.specs.Prelude.{ℕ, List, [], ◌∷◌, length, drop, nat_lt, slice_index, Result}
use Rattle.vn_types.specs.Fields.{Format, read, size, spelled}
use Rattle.vn_types.specs.Refusals.{first_refusal, unless}
use Rattle.vn_types.specs.declared.address.Mac.{Mac}
use Rattle.vn_link.specs.declared.ethernet.EthBad.{EthBad}
use Rattle.vn_link.specs.declared.ethernet.EthBad.TheVariants as bad
use Rattle.vn_link.specs.Macs.{mac_of, number_of}

-- what the fields of a header hold
pub record Header : Type 0 where
  pub destination : ℕ
  pub source : ℕ
  pub type_code : ℕ

-- the fields in wire order
abbrev pub fields : Header → List (ℕ × ℕ)
fields h = (48, h.destination) ∷ (48, h.source) ∷ (16, h.type_code) ∷ []

-- the header whose fields have these values
abbrev pub header_with : List ℕ → Header
header_with values =
    let v = slice_index values in
    record { destination = v 0; source = v 1; type_code = v 2 }

-- the header as a format
abbrev pub ethernet_header : Format Header
ethernet_header = record { fields = fields; of_values = header_with }

-- the header that octets spell
abbrev pub header_of : List ℕ → Header
header_of octets = read ethernet_header octets

-- how many octets a header has
abbrev pub header_size : ℕ
header_size = size ethernet_header

-- a frame: the stations that it is for and from, its type and what it carries
pub record EthFrame : Type 0 where
  pub dst : Mac
  pub src : Mac
  pub kind : ℕ
  pub payload : List ℕ

-- the frame with this header
abbrev pub frame_in : Header → List ℕ → EthFrame
frame_in h payload = record {
  dst = mac_of h.destination;
  src = mac_of h.source;
  kind = h.type_code;
  payload = payload;
}

-- the frame that octets spell
abbrev pub frame_of : List ℕ → EthFrame
frame_of octets = frame_in (header_of octets) (drop header_size octets)

-- a frame is read where it has a whole header
abbrev pub eth_of : List ℕ → Result EthFrame EthBad
eth_of octets = unless
    (first_refusal ((nat_lt (length octets) header_size, bad.Short) ∷ []))
    (frame_of octets)

-- the header of a frame
abbrev pub header_for : Mac → Mac → ℕ → Header
header_for dst src kind = record {
  destination = number_of dst;
  source = number_of src;
  type_code = kind;
}

-- the octets of a header
abbrev pub eth_header : Mac → Mac → ℕ → List ℕ
eth_header dst src kind = spelled ethernet_header (header_for dst src kind)

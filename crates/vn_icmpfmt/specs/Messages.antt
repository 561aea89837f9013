-- An ICMP message (RFC 792).
use Rattle.std.specs.Prelude.{ℕ, List, [], ◌∷◌, ◌++◌, drop, slice_index}
use Rattle.vn_types.specs.Fields.{Format, octets_of, read, size, spelled}
use Rattle.vn_cksum.specs.Sums.{sum_of, complement}

-- what the fields of an echo hold
pub record Header : Type 0 where
  -- the type
  pub kind : ℕ
  -- the code
  pub code : ℕ
  -- the checksum
  pub checksum : ℕ
  -- the identifier
  pub id : ℕ
  -- the sequence number
  pub seq : ℕ

-- the fields of an echo in wire order, a line for each four octets
abbrev pub fields : Header → List (ℕ × ℕ)
fields h =
    (8, h.kind) ∷ (8, h.code) ∷ (16, h.checksum)
    ∷ (16, h.id) ∷ (16, h.seq)
    ∷ []

-- the header whose fields have these values
abbrev pub header_with : List ℕ → Header
header_with values =
    let v = slice_index values in
    record { kind = v 0; code = v 1; checksum = v 2; id = v 3; seq = v 4 }

-- the header as a format
abbrev pub icmp_header : Format Header
icmp_header = record { fields = fields; of_values = header_with }

-- how many octets a header has
abbrev pub header_size : ℕ
header_size = size icmp_header

-- the header that octets spell
abbrev pub header_of : List ℕ → Header
header_of octets = read icmp_header octets

-- the fields of an error, whose second four octets are unused
abbrev pub error_fields : ℕ → ℕ → ℕ → List (ℕ × ℕ)
error_fields kind code checksum =
    (8, kind) ∷ (8, code) ∷ (16, checksum)
    ∷ (32, 0)
    ∷ []

-- what a message says, with whatever follows its first eight octets. The identifier and the sequence
-- number are an echo's; other messages have other data in their place.
pub record Message : Type 0 where
  -- the type
  pub kind : ℕ
  -- the code
  pub code : ℕ
  -- the identifier
  pub id : ℕ
  -- the sequence number
  pub seq : ℕ
  -- the octets behind the first eight
  pub rest : List ℕ

-- the message that says so
abbrev pub message_for : ℕ → ℕ → ℕ → ℕ → List ℕ → Message
message_for kind code id seq rest = record {
  kind = kind;
  code = code;
  id = id;
  seq = seq;
  rest = rest;
}

-- what a message with this header says
abbrev pub message_in : Header → List ℕ → Message
message_in h rest = message_for h.kind h.code h.id h.seq rest

-- the message that octets spell
abbrev pub message_of : List ℕ → Message
message_of xs = message_in (header_of xs) (drop header_size xs)

-- an echo or an echo reply, with its data
abbrev pub echo : ℕ → ℕ → ℕ → List ℕ → Message
echo kind id seq octets = message_for kind 0 id seq octets

-- an error about what it quotes, whose unused octets read as zeros
abbrev pub error : ℕ → ℕ → List ℕ → Message
error kind code quoted = message_for kind code 0 0 quoted

-- the header of a message with this checksum
abbrev pub header_for : Message → ℕ → Header
header_for m checksum = record {
  kind = m.kind;
  code = m.code;
  checksum = checksum;
  id = m.id;
  seq = m.seq;
}

-- the octets of a message with this checksum
abbrev pub message_with : Message → ℕ → List ℕ
message_with m checksum = spelled icmp_header (header_for m checksum) ++ m.rest

-- the octets of an error with this checksum
abbrev pub error_with : ℕ → ℕ → List ℕ → ℕ → List ℕ
error_with kind code quoted checksum = octets_of (error_fields kind code checksum) ++ quoted

-- octets with their checksum: the complement of their sum, in which the checksum counts as 0
abbrev pub summed : (ℕ → List ℕ) → List ℕ
summed octets = octets (complement (sum_of (octets 0)))

-- The fields that users of a header give and get.
use Rattle.std.specs.Prelude.{ℕ, ◌==◌, List}
use Rattle.vn_types.specs.Fields.{bit, spelled}
use Rattle.vn_cksum.specs.Sums.{sum_of, complement}
use Rattle.vn_ip4fmt.specs.declared.head.Ip4Head.{Ip4Head}
use Rattle.vn_types.specs.Ip4Header.{Header, ip4_header, header_of}

-- what users get of a header
abbrev pub head_in : Header → Ip4Head
head_in h = record {
  tos = h.tos;
  id = h.id;
  df = h.df == 1;
  mf = h.mf == 1;
  offset = h.offset;
  ttl = h.ttl;
  proto = h.proto;
  src = record { 0 = h.src };
  dst = record { 0 = h.dst };
}

-- what users get of octets
abbrev pub head_of : List ℕ → Ip4Head
head_of xs = head_in (header_of xs)

-- the header without options that has these fields, a total length and a checksum
abbrev pub plain_header : Ip4Head → ℕ → ℕ → Header
plain_header head total checksum = record {
  version = 4;
  ihl = 5;
  tos = head.tos;
  total = total;
  id = head.id;
  reserved = 0;
  df = bit head.df;
  mf = bit head.mf;
  offset = head.offset;
  ttl = head.ttl;
  proto = head.proto;
  checksum = checksum;
  src = head.src.0;
  dst = head.dst.0;
}

-- the octets of such a header
abbrev pub plain_octets : Ip4Head → ℕ → ℕ → List ℕ
plain_octets head total checksum = spelled ip4_header (plain_header head total checksum)

-- the checksum of such a header: the complement of the sum of its words, of which the checksum counts as 0
abbrev pub plain_checksum : Ip4Head → ℕ → ℕ
plain_checksum head total = complement (sum_of (plain_octets head total 0))

-- What an error quotes: the header of a datagram and the first 64 bits of its data (RFC 792).
use Rattle.std.specs.Prelude.{ℕ, ◌+◌, ◌==◌, ◌||◌, not, nat_lt, if◌then◌else◌, List, length, take, drop, Option, Some, None}
use Rattle.vn_types.specs.Ip4Header.{header_of, header_len, header_size}
use Rattle.vn_icmpfmt.specs.declared.quote.Quote.{Quote}

-- the octets of data that are quoted
abbrev pub data_size : ℕ
data_size = 8

-- what octets quote
abbrev pub quote_in : List ℕ → Quote
quote_in xs = record {
  proto = (header_of xs).proto;
  src = record { 0 = (header_of xs).src };
  dst = record { 0 = (header_of xs).dst };
  first = take data_size (drop (header_len xs) xs);
}

-- a quote is read where its header and the eight octets behind it are whole
abbrev pub quote_of : List ℕ → Option Quote
quote_of xs =
    if nat_lt (length xs) header_size || not ((header_of xs).version == 4)
    || nat_lt (header_of xs).ihl 5 || nat_lt (length xs) (header_len xs + data_size)
    then None
    else Some (quote_in xs)

-- Addresses as a user writes them.
use Rattle.std.specs.Prelude.{ℕ, ◌+◌, ◌*◌, ◌/◌, ◌%◌, ◌++◌, ◌==◌, nat_lt, List, [], ◌∷◌, map, Option, Some, None, if◌then◌else◌, decimal}
use Rattle.std.specs.Char.{digit_value, digit_char}
use Rattle.std.specs.Int.{w32, to_be_bytes, from_be_bytes}
use Rattle.std.specs.List.{slice_split, join_with_byte}
use Rattle.vn_types.specs.Octets.{colon, dot, slash}
use Rattle.vn_types.specs.declared.address.Ip4.{Ip4}
use Rattle.vn_types.specs.declared.address.Mac.{Mac}
use Rattle.vn_types.specs.declared.address.Prefix.{Prefix}
use Rattle.vn_types.specs.NumberWords.{number_up_to}
use Rattle.vn_types.specs.Steps.{◌>>=◌}

-- ---- IPv4 addresses

-- four numbers up to 255
unfoldable pub ip4_parts : List ℕ → List ℕ → List ℕ → List ℕ → Option Ip4
ip4_parts a b c d = do
  a ← number_up_to 255 a
  b ← number_up_to 255 b
  c ← number_up_to 255 c
  d ← number_up_to 255 d
  Some (record { 0 = from_be_bytes w32 (a ∷ b ∷ c ∷ d ∷ []) })

-- four pieces, each a number up to 255
unfoldable pub ip4_pieces : List (List ℕ) → Option Ip4
ip4_pieces (a ∷ b ∷ c ∷ d ∷ []) = ip4_parts a b c d
ip4_pieces _ = None

-- four numbers up to 255 with dots
unfoldable pub ip4_of : List ℕ → Option Ip4
ip4_of text = ip4_pieces (slice_split (λ c. c == dot) text)

-- its octets in decimal digits with dots
unfoldable pub ip4_text : Ip4 → List ℕ
ip4_text ip = join_with_byte dot (map decimal (to_be_bytes w32 ip.0))

-- ---- addresses with a length

-- an address, and a length up to 32
unfoldable pub prefix_parts : List ℕ → List ℕ → Option Prefix
prefix_parts ip len = do
  net ← ip4_of ip
  len ← number_up_to 32 len
  Some (record { net = net; len = len })

-- two pieces, an address and a length
unfoldable pub prefix_pieces : List (List ℕ) → Option Prefix
prefix_pieces (ip ∷ len ∷ []) = prefix_parts ip len
prefix_pieces _ = None

-- an address, `/` and a length up to 32
unfoldable pub prefix_of : List ℕ → Option Prefix
prefix_of text = prefix_pieces (slice_split (λ c. c == slash) text)

-- an address, `/` and the length
unfoldable pub prefix_text : Prefix → List ℕ
prefix_text prefix = ip4_text prefix.net ++ slash ∷ decimal prefix.len

-- ---- hardware addresses

-- a hexadecimal digit of either case
unfoldable pub hex_digit_of : ℕ → Option ℕ
hex_digit_of c = if nat_lt (digit_value c) 16 then Some (digit_value c) else None

-- two hexadecimal digits
unfoldable pub hex_octet_of : List ℕ → Option ℕ
hex_octet_of (high ∷ low ∷ []) = do
  high ← hex_digit_of high
  low ← hex_digit_of low
  Some (16 * high + low)
hex_octet_of _ = None

-- six groups of two hexadecimal digits
unfoldable pub mac_parts : List ℕ → List ℕ → List ℕ → List ℕ → List ℕ → List ℕ → Option Mac
mac_parts a b c d e f = do
  a ← hex_octet_of a
  b ← hex_octet_of b
  c ← hex_octet_of c
  d ← hex_octet_of d
  e ← hex_octet_of e
  f ← hex_octet_of f
  Some (record { 0 = a ∷ b ∷ c ∷ d ∷ e ∷ f ∷ [] })

-- six pieces, each two hexadecimal digits
unfoldable pub mac_pieces : List (List ℕ) → Option Mac
mac_pieces (a ∷ b ∷ c ∷ d ∷ e ∷ f ∷ []) = mac_parts a b c d e f
mac_pieces _ = None

-- six groups of two hexadecimal digits with colons
unfoldable pub mac_of : List ℕ → Option Mac
mac_of text = mac_pieces (slice_split (λ c. c == colon) text)

-- two hexadecimal digits in lower case
abbrev pub hex_octet : ℕ → List ℕ
hex_octet n = digit_char (n / 16) ∷ digit_char (n % 16) ∷ []

-- six groups of two hexadecimal digits in lower case, with colons
unfoldable pub mac_text : Mac → List ℕ
mac_text mac = join_with_byte colon (map hex_octet mac.0)

-- The one's complement sum of 16-bit words (RFC 1071).
use Rattle.std.specs.Prelude.{ℕ, ◌+◌, ◌-◌, ◌*◌, ◌/◌, ◌%◌, ◌==◌, ◌<◌, if◌then◌else◌, All, List, [], ◌∷◌}

-- one's complement addition: the carry out of the 16 bits is added at their low end (end-around carry)
unfoldable pub plus16 : ℕ → ℕ → ℕ
plus16 a b = (a + b) % 65536 + (a + b) / 65536

-- the sum of words
unfoldable pub sum_words : List ℕ → ℕ
sum_words [] = 0
sum_words (w ∷ ws) = plus16 w (sum_words ws)

-- the big-endian words of octets; an odd last octet is followed by a zero octet
unfoldable pub words_of : List ℕ → List ℕ
words_of [] = []
words_of (a ∷ []) = (256 * a) ∷ []
words_of (a ∷ b ∷ rest) = (256 * a + b) ∷ words_of rest

-- the sum of octets
unfoldable pub sum_of : List ℕ → ℕ
sum_of octets = sum_words (words_of octets)

-- what a checksum field holds for a sum
abbrev pub complement : ℕ → ℕ
complement sum = 65535 - sum

-- the 16 bits into which a wide total of words is folded
abbrev pub folded : ℕ → ℕ
folded total = if total == 0 then 0 else (total - 1) % 65535 + 1

-- words are numbers below 65536
abbrev pub AreWords : List ℕ → Type 0
AreWords ws = All (λ w. w < 65536) ws

-- The laws of the sum, as RFC 1071 and RFC 1624 give them.
use Rattle.std.specs.Prelude.{◌≡◌, ◌≢◌, ◌↔◌, ℕ, ◌<◌, ◌%◌, List, ◌∷◌, ◌++◌, All, IsPermutation, length, sum}
use Rattle.byteorder.specs.Endian.{big_bytes}
use Rattle.vn_types.specs.Fields.{AreOctets}
use Rattle.vn_cksum.specs.Sums.{plus16, sum_words, sum_of, complement, folded, AreWords}

-- a sum has 16 bits
abbrev pub HasSixteenBits : Type 0
HasSixteenBits = (xs : List ℕ) → AreOctets xs → sum_of xs < 65536

-- the carries may be left to the end
abbrev pub DefersCarries : Type 0
DefersCarries = (ws : List ℕ) → AreWords ws → sum_words ws ≡ folded (sum ws)

-- the order of words is free
abbrev pub KeepsNoOrder : Type 0
KeepsNoOrder = (ws vs : List ℕ) → AreWords ws → IsPermutation ws vs → sum_words vs ≡ sum_words ws

-- octets in a row, the first of them of an even length, have the sum of their sums
abbrev pub AddsRows : Type 0
AddsRows = (xs ys : List ℕ) → AreOctets xs → AreOctets ys → length xs % 2 ≡ 0
    → sum_of (xs ++ ys) ≡ plus16 (sum_of xs) (sum_of ys)

-- and a sum, as the two octets of a word, may stand for those that it is the sum of
abbrev pub StandsForRow : Type 0
StandsForRow = (xs ys : List ℕ) → AreOctets xs → AreOctets ys → length xs % 2 ≡ 0
    → sum_of (big_bytes 2 (sum_of xs) ++ ys) ≡ sum_of (xs ++ ys)

-- a new word in the place of an old one changes the sum by their folded difference (RFC 1624, equation 3),
-- unless nothing but zeros is left: then the sum is 0
abbrev pub ReplacesWord : Type 0
ReplacesWord = (front back : List ℕ) (old new : ℕ) → AreWords front → AreWords back
    → old < 65536 → new < 65536
    → sum_words (front ++ new ∷ back) ≢ 0
    → sum_words (front ++ new ∷ back)
    ≡ plus16 (plus16 (sum_words (front ++ old ∷ back)) (complement old)) new

-- with the complement in the field that was 0, the whole sum is 65535
abbrev pub Completes : Type 0
Completes = (front back : List ℕ) → AreOctets front → AreOctets back → length front % 2 ≡ 0
    → sum_of (front ++ (big_bytes 2 (complement (sum_of (front ++ 0 ∷ 0 ∷ back))) ++ back)) ≡ 65535

-- a sum is 0 only of all zeros
abbrev pub IsZeroOfZeros : Type 0
IsZeroOfZeros = (xs : List ℕ) → (sum_of xs ≡ 0) ↔ All (λ x. x ≡ 0) xs

-- in a field, 65535 counts as 0 does, unless all else is zeros
abbrev pub HasTwoZeros : Type 0
HasTwoZeros = (front back : List ℕ) → AreOctets front → AreOctets back → length front % 2 ≡ 0
    → sum_of (front ++ 0 ∷ 0 ∷ back) ≢ 0
    → sum_of (front ++ 255 ∷ 255 ∷ back) ≡ sum_of (front ++ 0 ∷ 0 ∷ back)

-- Formats as RFCs draw them: fields in wire order, each with its width in bits and its value. The widths are the
-- layout: from them follow each field's place, the octets that are spelled, and what is read of octets.
use Rattle.std.specs.Prelude.{◌≡◌, ◌≤◌, ◌<◌, ◌==◌, ◌+◌, ◌-◌, ◌*◌, ◌/◌, ◌%◌, ◌^◌, ℕ, zero, suc, Bool, true, false, if◌then◌else◌, not, All, List, [], ◌∷◌, ◌++◌, length, take}
use Rattle.std.specs.List.{AllByRecursion}
use Rattle.byteorder.specs.Endian.{big_bytes, big_from}

-- octets are numbers below 256
abbrev pub AreOctets : List ℕ → Type 0
AreOctets xs = All (λ x. x < 256) xs

-- the bits that fields of these widths have
abbrev pub bits : List ℕ → ℕ
bits [] = 0
bits (width ∷ widths) = width + bits widths

-- the widths of fields
abbrev pub widths : List (ℕ × ℕ) → List ℕ
widths [] = []
widths (field ∷ fields) = field.0 ∷ widths fields

-- the values of fields
abbrev pub values : List (ℕ × ℕ) → List ℕ
values [] = []
values (field ∷ fields) = field.1 ∷ values fields

-- each value has its width
abbrev pub FitWidths : List (ℕ × ℕ) → Type 0
FitWidths fields = AllByRecursion (λ field. field.1 < 2 ^ field.0) fields

-- the value of a flag, whose field has one bit
abbrev pub bit : Bool → ℕ
bit flag = if flag then 1 else 0

-- ---- spelling

-- a number of bits, and a field's value behind it
abbrev pub joined : ℕ → ℕ → ℕ × ℕ → ℕ
joined zero number field = field.1
joined (suc width) number field = number * 2 ^ field.0 + field.1

-- the octets of fields, where `width` bits with a number stand before them and fill no octet yet
abbrev pub octets_after : ℕ → ℕ → List (ℕ × ℕ) → List ℕ
octets_after width number [] = []
octets_after width number (field ∷ fields) =
    if (width + field.0) % 8 == 0
    then big_bytes ((width + field.0) / 8) (joined width number field) ++ octets_after 0 0 fields
    else octets_after (width + field.0) (joined width number field) fields

-- the octets that fields spell: each value high bit first, one behind the other
abbrev pub octets_of : List (ℕ × ℕ) → List ℕ
octets_of fields = octets_after 0 0 fields

-- ---- reading

-- how many octets the `width` bits behind `place` bits are in
abbrev pub octets_with : ℕ → ℕ → ℕ
octets_with place width = (place % 8 + width + 7) / 8

-- how many bits stand behind them in the last of these octets
abbrev pub bits_behind : ℕ → ℕ → ℕ
bits_behind place width = 8 * octets_with place width - (place % 8 + width)

-- a number without its lowest bits
abbrev pub without_lowest : ℕ → ℕ → ℕ
without_lowest zero number = number
without_lowest (suc behind) number = number / 2 ^ suc behind

-- a number's lowest bits, where others stand before them
abbrev pub lowest : Bool → ℕ → ℕ → ℕ
lowest false width number = number
lowest true width number = number % 2 ^ width

-- the number in the `width` bits behind `place` bits
abbrev pub number_at : ℕ → ℕ → List ℕ → ℕ
number_at place width octets =
    lowest (not (place % 8 == 0)) width
    (without_lowest (bits_behind place width)
    (big_from (place / 8) (octets_with place width) octets))

-- the numbers in fields of these widths behind `place` bits
abbrev pub numbers_after : ℕ → List ℕ → List ℕ → List ℕ
numbers_after place [] octets = []
numbers_after place (width ∷ widths) octets =
    number_at place width octets ∷ numbers_after (place + width) widths octets

-- the numbers in the fields of a format
abbrev pub numbers_in : List ℕ → List ℕ → List ℕ
numbers_in widths octets = numbers_after 0 widths octets

-- ---- formats

-- a format of T
pub record Format (T : Type 0) : Type 0 where
  -- the fields of a T in wire order, whose widths are the same in each T
  pub fields : T → List (ℕ × ℕ)
  -- the T whose fields have these values
  pub of_values : List ℕ → T

-- the widths of a format's fields
abbrev pub layout : {T : Type 0} → Format T → List ℕ
layout format = widths (format.fields (format.of_values []))

-- how many octets a format has
abbrev pub size : {T : Type 0} → Format T → ℕ
size format = bits (layout format) / 8

-- the octets that spell a T
abbrev pub spelled : {T : Type 0} → Format T → T → List ℕ
spelled format value = octets_of (format.fields value)

-- the T that octets begin with
abbrev pub read : {T : Type 0} → Format T → List ℕ → T
read format octets = format.of_values (numbers_in (layout format) octets)

-- what is read of octets spells them
abbrev pub SpellsHeader : {T : Type 0} → Format T → Type 0
SpellsHeader format = (octets : List ℕ) → AreOctets octets → size format ≤ length octets
    → spelled format (read format octets) ≡ take (size format) octets

-- what is spelled is read, whatever follows
abbrev pub ReadsBack : {T : Type 0} → Format T → Type 0
ReadsBack {T = T} format = (value : T) (rest : List ℕ) → FitWidths (format.fields value)
    → read format (spelled format value ++ rest) ≡ value

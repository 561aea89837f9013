-- Numbers in decimal digits.
use Rattle.std.specs.Prelude.{ℕ, Bool, false, ◌&&◌, ◌==◌, not, nat_le, List, [], ◌∷◌, Option, Some, None, if◌then◌else◌}
use Rattle.std.specs.Char.{is_ascii_digit}
use Rattle.std.specs.List.{list_all}
use Rattle.std.specs.Str.Parse.{digits_value}
use Rattle.vn_types.specs.Octets.{zero_digit}

-- one digit, or several of which the first is not `0`
unfoldable pub is_numeral : List ℕ → Bool
is_numeral [] = false
is_numeral (c ∷ []) = is_ascii_digit c
is_numeral (c ∷ d ∷ cs) = not (c == zero_digit) && list_all is_ascii_digit (c ∷ d ∷ cs)

-- the number, where it is not above a bound
unfoldable pub number_up_to : ℕ → List ℕ → Option ℕ
number_up_to most text =
    if is_numeral text && nat_le (digits_value 10 text) most
    then Some (digits_value 10 text)
    else None

-- digits without a sign or a leading zero, at most 18446744073709551615
unfoldable pub number_of : List ℕ → Option ℕ
number_of text = number_up_to 18446744073709551615 text

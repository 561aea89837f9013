-- The values of one stack by the places of the variables, where a stack without an instance has none.
use Rattle.std.specs.Prelude.{ℕ, List, [], ◌∷◌, ◌++◌, length, take, slice_get, slice_set, Option, Some, None, option_map}
use Rattle.std.specs.Option.{option_and_then}

-- how many there are
abbrev pub count_of : Option (List ℕ) → ℕ
count_of None = 0
count_of (Some values) = length values

-- the value at a place
abbrev pub value_at : ℕ → Option (List ℕ) → Option ℕ
value_at place values = option_and_then (λ vs. slice_get vs place) values

-- another value there
abbrev pub with_value_at : ℕ → ℕ → Option (List ℕ) → Option (List ℕ)
with_value_at place value values = option_map (λ vs. slice_set vs place value) values

-- the first values
abbrev pub cut : ℕ → Option (List ℕ) → Option (List ℕ)
cut count values = option_map (take count) values

-- the first values, and one more
abbrev pub grown : ℕ → ℕ → Option (List ℕ) → Option (List ℕ)
grown count value values = option_map (λ vs. take count vs ++ value ∷ []) values

-- How a registry keeps the variables: bounds under names, and the values of a stack in the same order.
use Rattle.std.specs.Prelude.{ℕ, Bool, true, false, ◌&&◌, List, [], ◌∷◌, map, Option, Some, None, option_map, String, string_bytes}
use Rattle.std.specs.List.{zip, list_all}
use Rattle.vn_rules.specs.declared.variable.Bounds.{Bounds}
use Rattle.vn_rules.specs.declared.variable.Variable.{Variable}
use Rattle.vn_rules.specs.Variables.{Declaration, allows}

-- the declarations that a map has
abbrev pub declared_in : {Y : Type 0} → List (String Y × Bounds) → List Declaration
declared_in {Y} entries = map (λ (e : String Y × Bounds). (string_bytes e.0, e.1)) entries

-- the variables with these values
abbrev pub named : List Declaration → List ℕ → List Variable
named declared values =
    map (λ (p : Declaration × ℕ). record { name = p.0.0; value = p.1 }) (zip declared values)

-- the variables of each stack
abbrev pub shown : List Declaration → List (Option (List ℕ)) → List (Option (List Variable))
shown declared rows = map (option_map (named declared)) rows

-- whether each variable has a value, and one that it may take
abbrev pub are_values : List Declaration → List ℕ → Bool
are_values [] values = true
are_values (d ∷ declared) [] = false
are_values (d ∷ declared) (value ∷ values) = allows d.1 value && are_values declared values

-- the same of a stack that has an instance
abbrev pub is_row : List Declaration → Option (List ℕ) → Bool
is_row declared None = true
is_row declared (Some values) = are_values declared values

-- whether each variable may take its first value
abbrev pub are_declarations : List Declaration → Bool
are_declarations declared = list_all (λ (d : Declaration). allows d.1 d.1.initial) declared

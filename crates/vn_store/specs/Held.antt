-- What a registry of variables holds.
use Rattle.std.specs.Prelude.{◌≡◌, ℕ, List, Option, None}
use Rattle.std.specs.Option.{option_and_then}
use Rattle.vn_types.specs.PerStack.{of as kept_for}
use Rattle.vn_rules.specs.declared.variable.Variable.{Variable}
use Rattle.vn_rules.specs.Variables.{Declaration, value_of}

-- the declared variables, and those of each stack
pub record Held : Type 0 where
  -- in order of declaration
  pub declared : List Declaration
  -- the variables of each stack number that has an instance
  pub stacks : List (Option (List Variable))

-- the variables of a stack, by its number
abbrev pub of : Held → ℕ → Option (List Variable)
of held sid = kept_for None held.stacks sid

-- the value of a variable of a stack
abbrev pub value_in : Held → ℕ → List ℕ → Option ℕ
value_in held sid name = option_and_then (value_of name) (of held sid)

-- the declared_in and each stack's variables are as before
pub record IsUnchanged (old new : Held) : Type 0 where
  -- the declarations
  pub declared : new.declared ≡ old.declared
  -- what each stack has
  pub stacks : (q : ℕ) → of new q ≡ of old q

-- What is answered where conditions stand in an order: the first that applies decides.
use Rattle.std.specs.Prelude.{◌≡◌, ◌↔◌, Bool, List, [], ◌∷◌, Option, Some, None, Result, Ok, Err, MatchResult, if◌then◌else◌}

-- conditions in their order, each with what it is answered
abbrev pub first_refusal : {E : Type 0} → List (Bool × E) → Option E
first_refusal [] = None
first_refusal (c ∷ cs) = if c.0 then Some c.1 else first_refusal cs

-- the value, or the refusal
abbrev pub unless : {T E : Type 0} → Option E → T → Result T E
unless None value = Ok value
unless (Some refusal) value = Err refusal

-- a value is given where nothing applies, else the error is exactly the first refusal that applies
abbrev pub IsRefusedBy : {T E : Type 0} → Option E → Result T E → Type 0
IsRefusedBy refusal result = MatchResult result (λ _. refusal ≡ None) (λ bad. refusal ≡ Some bad)

-- nothing refuses what is in a grammar, and something refuses all else
abbrev pub RefusesTheRest : {X E : Type 0} → (X → Option E) → (X → Type 0) → Type 0
RefusesTheRest {X = X} refusal IsInGrammar = (x : X) → (refusal x ≡ None) ↔ IsInGrammar x

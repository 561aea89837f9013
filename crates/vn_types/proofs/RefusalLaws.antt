-- Where nothing is refused, no condition applies, and a value that is given was not refused.
use Rattle.std.proofs.Common.{◌≡◌, Bool, true, false, if◌then◌else◌, List, [], ◌∷◌, Option, Some, None, Ok, refl}
use Rattle.std.specs.List.{AllByRecursion}
use Rattle.vn_types.specs.Refusals.{first_refusal, unless}

-- no condition applies
abbrev pub NoneApplies : {E : Type 0} → List (Bool × E) → Type 0
NoneApplies conditions = AllByRecursion (λ condition. condition.0 ≡ false) conditions

passed : {E : Type 0} (test : Bool) (bad : E) (others : Option E) → (if test then Some bad else others) ≡ None → (test ≡ false) × (others ≡ None)
passed true bad others none = absurd (cc)
passed false bad others none = (refl, none)

pub none-applies : {E : Type 0} (conditions : List (Bool × E)) → first_refusal conditions ≡ None → NoneApplies conditions
none-applies [] none = tt
none-applies (condition ∷ conditions) none =
    let first = passed condition.0 condition.1 (first_refusal conditions) none in
    (first.0, none-applies conditions first.1)

pub none-refused : {E : Type 0} (conditions : List (Bool × E)) → NoneApplies conditions → first_refusal conditions ≡ None
none-refused [] none = refl
none-refused (condition ∷ conditions) none = rw none.0 (none-refused conditions none.1)

pub value-given : {T E : Type 0} (refusal : Option E) (value given : T) → unless refusal value ≡ Ok given → (refusal ≡ None) × (value ≡ given)
value-given None value given is = (refl, cc)
value-given (Some bad) value given is = absurd (cc)

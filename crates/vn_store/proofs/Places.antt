-- The place of a name among the declared variables, and the value at that place.
use Rattle.std.proofs.Common.{◌≡◌, ℕ, zero, suc, ◌<◌, Bool, true, false, cond, ◌&&◌, List, [], ◌∷◌, length, get_or, position, Some, IfSome, slice_get, slice_set, String, string_bytes, refl, ap, ◌∙◌, arith}
use Rattle.std.specs.Str.{bytes_eq}
use Rattle.std.specs.Map.{keys_of, lookup}
use Rattle.std.proofs.lemmas.Bool.{and_parts, false≢true}
use Rattle.std.proofs.lemmas.List.Quantifiers.{position-Some}
use Rattle.vn_rules.specs.declared.variable.Bounds.{Bounds}
use Rattle.vn_rules.specs.Variables.{allows}
use Rattle.vn_rules.specs.Variables.{bounds_of, value_of, with_value}
use Rattle.vn_store.specs.Variables.{declared_in, named, are_values}

module _ {Y : Type 0} (name : List ℕ) where
  abbrev pub is_name : String Y → Bool
  is_name k = bytes_eq name (string_bytes k)

  -- the name is the first time at this place
  abbrev pub IsAt : List (String Y × Bounds) → ℕ → Type 0
  IsAt [] i = ⊥
  IsAt (e ∷ es) zero = is_name e.0 ≡ true
  IsAt (e ∷ es) (suc i) = (is_name e.0 ≡ false) × IsAt es i

  from_places : (es : List (String Y × Bounds)) (i : ℕ) → i < length (keys_of es) → ((d : String Y) → is_name (get_or (keys_of es) i d) ≡ true)
      → ((k : ℕ) (d : String Y) → k < i → is_name (get_or (keys_of es) k d) ≡ false) → IsAt es i
  from_places [] i within here before = absurd (omega arith)
  from_places (e ∷ es) zero within here before = here e.0
  from_places (e ∷ es) (suc i) within here before = (before 0 e.0 (omega arith), from_places es i (omega arith) here (λ k d less. before (suc k) d (omega arith)))

  pub IsAt-from_position : (es : List (String Y × Bounds)) (i : ℕ) → position is_name (keys_of es) ≡ Some i → IsAt es i
  IsAt-from_position [] i at = cc
  IsAt-from_position (e ∷ es) i at =
      from_places (e ∷ es) i (position-Some is_name (keys_of (e ∷ es)) i e.0 at).0 (λ d. (position-Some is_name (keys_of (e ∷ es)) i d at).1)
      (λ k d. (position-Some is_name (keys_of (e ∷ es)) i d at).2 k)

  -- the bounds are those that the map has
  pub bounds_of-declared_in : (es : List (String Y × Bounds)) → bounds_of name (declared_in es) ≡ lookup is_name es
  bounds_of-declared_in [] = refl
  bounds_of-declared_in (e ∷ es) = ap (cond (is_name e.0) (Some e.1)) (bounds_of-declared_in es)

  pub within-at : (es : List (String Y × Bounds)) (i : ℕ) (vs : List ℕ) → IsAt es i → are_values (declared_in es) vs ≡ true → i < length vs
  within-at [] i vs at kept = absurd at
  within-at (e ∷ es) i [] at kept = absurd (false≢true kept)
  within-at (e ∷ es) zero (v ∷ vs) at kept = omega arith
  within-at (e ∷ es) (suc i) (v ∷ vs) at kept = let rest = within-at es i vs at.1 (and_parts (allows e.1 v) _ kept).1 in omega arith

  -- the value at the place is that of the variable
  pub value_of-at : (es : List (String Y × Bounds)) (i : ℕ) (vs : List ℕ) → IsAt es i → are_values (declared_in es) vs ≡ true → value_of name (named (declared_in es) vs) ≡ slice_get vs i
  value_of-at [] i vs at kept = absurd at
  value_of-at (e ∷ es) i [] at kept = absurd (false≢true kept)
  value_of-at (e ∷ es) zero (v ∷ vs) at kept = rw at refl
  value_of-at (e ∷ es) (suc i) (v ∷ vs) at kept = rw at.0 (value_of-at es i vs at.1 (and_parts (allows e.1 v) _ kept).1)

  -- and is within the bounds
  pub allowed-at : (es : List (String Y × Bounds)) (i : ℕ) (vs : List ℕ) → IsAt es i → are_values (declared_in es) vs ≡ true
      → IfSome (slice_get vs i) (λ v. IfSome (bounds_of name (declared_in es)) (λ b. allows b v ≡ true))
  allowed-at [] i vs at kept = absurd at
  allowed-at (e ∷ es) i [] at kept = absurd (false≢true kept)
  allowed-at (e ∷ es) zero (v ∷ vs) at kept = rw at ((and_parts (allows e.1 v) _ kept).0)
  allowed-at (e ∷ es) (suc i) (v ∷ vs) at kept = rw at.0 (allowed-at es i vs at.1 (and_parts (allows e.1 v) _ kept).1)

  -- the value of the variable changes where that at its place does
  pub with_value-at : (value : ℕ) (es : List (String Y × Bounds)) (i : ℕ) (vs : List ℕ) → IsAt es i → are_values (declared_in es) vs ≡ true
      → named (declared_in es) (slice_set vs i value) ≡ with_value name value (named (declared_in es) vs)
  with_value-at value [] i vs at kept = absurd at
  with_value-at value (e ∷ es) i [] at kept = absurd (false≢true kept)
  with_value-at value (e ∷ es) zero (v ∷ vs) at kept = rw at refl
  with_value-at value (e ∷ es) (suc i) (v ∷ vs) at kept =
      rw at.0 (ap (λ rest. record { name = string_bytes e.0; value = v } ∷ rest) (with_value-at value es i vs at.1 (and_parts (allows e.1 v) _ kept).1))

  -- a value that the bounds allow may stand there
  pub are_values-at : (value : ℕ) (b : Bounds) (es : List (String Y × Bounds)) (i : ℕ) (vs : List ℕ) → IsAt es i → bounds_of name (declared_in es) ≡ Some b → allows b value ≡ true
      → are_values (declared_in es) vs ≡ true → are_values (declared_in es) (slice_set vs i value) ≡ true
  are_values-at value b [] i vs at bounds allowed kept = absurd at
  are_values-at value b (e ∷ es) i [] at bounds allowed kept = absurd (false≢true kept)
  are_values-at value b (e ∷ es) zero (v ∷ vs) at bounds allowed kept =
      let found : Some e.1 ≡ Some b = rw at at bounds in
      let own : e.1 ≡ b = cc in
      (λ j. allows (own j) value && are_values (declared_in es) vs) ∙ rw allowed ((and_parts (allows e.1 v) _ kept).1)
  are_values-at value b (e ∷ es) (suc i) (v ∷ vs) at bounds allowed kept =
      let parts = and_parts (allows e.1 v) _ kept in
      rw parts.0 (are_values-at value b es i vs at.1 (rw at.0 at bounds) allowed parts.1)

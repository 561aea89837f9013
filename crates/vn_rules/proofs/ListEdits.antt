-- Elements that are found or changed under a renaming that keeps the test.
use Rattle.std.proofs.Common.{◌≡◌, ℕ, Bool, true, false, cond, List, [], ◌∷◌, map, Option, Some, None, refl, sym, ap, ap₂, ◌∙◌}
use Rattle.std.specs.Prelude.{if◌then◌else◌, slice_get}
use Rattle.std.specs.List.{position, position_or_len, slice_set}
use Rattle.std.specs.Option.{option_map, option_map_or}
use Rattle.std.proofs.lemmas.List.{length-map, map-set}
use Rattle.std.proofs.lemmas.Option.{slice_get-map}

module _ {A B : Type 0} (f : A → B) (p : A → Bool) (q : B → Bool) (kept : (x : A) → q (f x) ≡ p x) where
  pub position_map_same : (xs : List A) → position q (map f xs) ≡ position p xs
  position_map_same xs = rw (places xs, length-map xs f) refl
    where
      places : (xs : List A) → position_or_len q (map f xs) ≡ position_or_len p xs
      places [] = refl
      places (x ∷ xs) = rw (kept x, places xs) refl

  module _ (g : A → A) (h : B → B) (same : (x : A) → h (f x) ≡ f (g x)) where
    pub edit_map_same : (xs : List A) → map (λ y. if q y then h y else y) (map f xs) ≡ map f (map (λ x. if p x then g x else x) xs)
    edit_map_same [] = refl
    edit_map_same (x ∷ xs) = ap₂ (λ y ys. y ∷ ys) (rw (kept x, same x) (by (p x))) (edit_map_same xs)
      where
        by : (b : Bool) → cond b (f (g x)) (f x) ≡ f (cond b (g x) x)
        by true = refl
        by false = refl

module _ {A B : Type 0} (f : A → B) where
  pub option_map_or_same : {C : Type 0} (g : A → C) (h : B → C) (same : (x : A) → h (f x) ≡ g x) (d : C) (o : Option A) → option_map_or h (option_map f o) d ≡ option_map_or g o d
  option_map_or_same g h same d None = refl
  option_map_or_same g h same d (Some x) = same x

  -- an element at a place is changed
  pub edit_at_map_same : (g : A → A) (h : B → B) (same : (x : A) → h (f x) ≡ f (g x)) (place : ℕ) (xs : List A)
      → option_map_or (λ y. slice_set (map f xs) place (h y)) (slice_get (map f xs) place) (map f xs) ≡ map f (option_map_or (λ x. slice_set xs place (g x)) (slice_get xs place) xs)
  edit_at_map_same g h same place xs =
      ap (λ o. option_map_or (λ y. slice_set (map f xs) place (h y)) o (map f xs)) (slice_get-map f xs place) ∙ by (slice_get xs place)
    where
      by : (o : Option A) → option_map_or (λ y. slice_set (map f xs) place (h y)) (option_map f o) (map f xs) ≡ map f (option_map_or (λ x. slice_set xs place (g x)) o xs)
      by None = refl
      by (Some x) = ap (slice_set (map f xs) place) (same x) ∙ sym (map-set f xs place (g x))

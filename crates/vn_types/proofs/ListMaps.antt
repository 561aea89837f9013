-- A test that a renaming keeps has the same answers before it and after it.
use Rattle.std.proofs.Common.{◌≡◌, Bool, true, false, cond, ◌||◌, List, [], ◌∷◌, map, Some, refl, ap, ap₂}
use Rattle.std.specs.List.{list_any, filter, find}
use Rattle.std.specs.Option.{option_map}

module _ {A B : Type 0} (f : A → B) (p : A → Bool) (q : B → Bool) (kept : (x : A) → q (f x) ≡ p x) where
  pub filter_map_same : (xs : List A) → filter q (map f xs) ≡ map f (filter p xs)
  filter_map_same [] = refl
  filter_map_same (x ∷ xs) = rw (kept x) (by (p x) (filter_map_same xs))
    where
      by : (b : Bool) → filter q (map f xs) ≡ map f (filter p xs) → cond b (f x ∷ filter q (map f xs)) (filter q (map f xs)) ≡ map f (cond b (x ∷ filter p xs) (filter p xs))
      by true more = ap (λ ys. f x ∷ ys) more
      by false more = more

  pub any_map_same : (xs : List A) → list_any q (map f xs) ≡ list_any p xs
  any_map_same [] = refl
  any_map_same (x ∷ xs) = ap₂ ◌||◌ (kept x) (any_map_same xs)

  pub find_map_same : (xs : List A) → find q (map f xs) ≡ option_map f (find p xs)
  find_map_same [] = refl
  find_map_same (x ∷ xs) = rw (kept x) (by (p x) (find_map_same xs))
    where
      by : (b : Bool) → find q (map f xs) ≡ option_map f (find p xs) → cond b (Some (f x)) (find q (map f xs)) ≡ option_map f (cond b (Some x) (find p xs))
      by true more = refl
      by false more = more

-- Lists whose last element goes first, and what passes a test there.
use Rattle.std.proofs.Common.{◌≡◌, Bool, true, false, ◌||◌, List, [], ◌∷◌, ◌++◌, map, reverse, refl, sym}
use Rattle.std.specs.List.{AllByRecursion, list_any}
use Rattle.std.specs.List.Sorted.{IsStrictlySortedBy}
use Rattle.std.specs.declared.cmp.Ordering.{Ordering}
use Rattle.std.specs.declared.cmp.Ordering.TheVariants.{Less}
use Rattle.std.proofs.lemmas.Bool.{false≢true, or_left, or_right}
use Rattle.std.proofs.lemmas.List.Sorted.{IsPermutation-reverse, list_any-IsPermutation}
use Rattle.vn_rules.proofs.Kept.{IsIn}

-- the last of a list that rises is behind all others
pub sorted-front : {K : Type 0} (c : K → K → Ordering) (xs : List K) (x : K) → IsStrictlySortedBy c (xs ++ x ∷ []) → IsStrictlySortedBy c xs × AllByRecursion (λ y. c y x ≡ Less) xs
unfolding IsStrictlySortedBy
sorted-front c [] x sorted = (tt, tt)
sorted-front {K = K} c (y ∷ xs) x sorted =
    let more = sorted-front c xs x sorted.1 in let split = all xs sorted.0 in ((split.0, more.0), (split.1, more.1))
  where
    all : (xs : List K) → AllByRecursion (λ z. c y z ≡ Less) (xs ++ x ∷ []) → AllByRecursion (λ z. c y z ≡ Less) xs × (c y x ≡ Less)
    all [] below = (tt, below.0)
    all (z ∷ xs) below = let more = all xs below.1 in ((below.0, more.0), more.1)

pub sorted-map : {A K : Type 0} (c : K → K → Ordering) (g : A → K) (xs : List A) → IsStrictlySortedBy (λ x y. c (g x) (g y)) xs → IsStrictlySortedBy c (map g xs)
unfolding IsStrictlySortedBy
sorted-map c g [] sorted = tt
sorted-map {A = A} c g (x ∷ xs) sorted = (all xs sorted.0, sorted-map c g xs sorted.1)
  where
    all : (ys : List A) → AllByRecursion (λ y. c (g x) (g y) ≡ Less) ys → AllByRecursion (λ k. c (g x) k ≡ Less) (map g ys)
    all [] below = tt
    all (y ∷ ys) below = (below.0, all ys below.1)

-- what passes is in the list
pub record Passing {A : Type 0} (t : A → Bool) (xs : List A) : Type 0 where
  pub it : A
  pub is_in : IsIn it xs
  pub passes : t it ≡ true

pub passing : {A : Type 0} (t : A → Bool) (xs : List A) → list_any t xs ≡ true → Passing t xs
passing t [] any = absurd (false≢true any)
passing {A = A} t (x ∷ xs) any = by (t x) refl any (λ more. passing t xs more)
  where
    by : (b : Bool) → t x ≡ b → (b || list_any t xs) ≡ true → (list_any t xs ≡ true → Passing t xs) → Passing t (x ∷ xs)
    by true here any more = record { it = x; is_in = λ p e. or_left (p x) (list_any p xs) e; passes = here }
    by false here any more = let m = more any in record { it = m.it; is_in = λ p e. or_right (p x) (list_any p xs) (m.is_in p e); passes = m.passes }

-- what holds of each element holds of one that passes
pub all-none : {A : Type 0} (P : A → Type 0) (t : A → Bool) → ((y : A) → P y → t y ≡ true → ⊥) → (xs : List A) → AllByRecursion P xs → list_any t xs ≡ true → ⊥
all-none P t none [] all any = false≢true any
all-none P t none (x ∷ xs) all any = by (t x) refl any (all-none P t none xs all.1)
  where
    by : (b : Bool) → t x ≡ b → (b || list_any t xs) ≡ true → (list_any t xs ≡ true → ⊥) → ⊥
    by true here any more = none x all.0 here
    by false here any more = more any

-- a test passes in either order
pub any-reverse : {A : Type 0} (t : A → Bool) (xs : List A) → list_any t (reverse xs) ≡ list_any t xs
any-reverse t xs = sym (list_any-IsPermutation t xs (reverse xs) (IsPermutation-reverse xs))

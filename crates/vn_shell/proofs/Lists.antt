-- Tests of all elements of a list.
use Rattle.std.proofs.Common.{◌≡◌, ℕ, Bool, true, ◌&&◌, List, [], ◌∷◌, ◌++◌, refl, ◌∙◌}
use Rattle.std.specs.List.{list_all, join_with_byte}
use Rattle.std.proofs.lemmas.Bool.{and_parts, and_from}
use Rattle.std.proofs.lemmas.List.Folds.{list_all-append}

-- a test that passes where another does
pub all_weaker : {X : Type 0} (p q : X → Bool) → ((x : X) → p x ≡ true → q x ≡ true) → (xs : List X) → list_all p xs ≡ true → list_all q xs ≡ true
all_weaker p q f [] h = refl
all_weaker p q f (x ∷ xs) h = let at = and_parts (p x) (list_all p xs) h in and_from _ _ (f x at.0) (all_weaker p q f xs at.1)

pub all_both : {X : Type 0} (p : X → Bool) (xs ys : List X) → list_all p xs ≡ true → list_all p ys ≡ true → list_all p (xs ++ ys) ≡ true
all_both p xs ys h g = list_all-append p xs ys ∙ and_from _ _ h g

-- texts with an octet between each two
pub all_joined : (p : ℕ → Bool) (d : ℕ) → p d ≡ true → (texts : List (List ℕ)) → list_all (list_all p) texts ≡ true → list_all p (join_with_byte d texts) ≡ true
all_joined p d h [] g = refl
all_joined p d h (t ∷ []) g = (and_parts (list_all p t) true g).0
all_joined p d h (t ∷ u ∷ texts) g =
    let at = and_parts (list_all p t) (list_all (list_all p) (u ∷ texts)) g in
    all_both p t (d ∷ join_with_byte d (u ∷ texts)) at.0 (and_from _ _ h (all_joined p d h (u ∷ texts) at.1))

-- A loop that changes each element of a list.
use Rattle.std.proofs.Common.{◌≡◌, ℕ, ◌<◌, ◌≤◌, ◌+◌, List, [], ◌++◌, length, map, take, drop, get_or, set, slice_get, Option, Some, None, IfSome, refl, sym, ap, ap₂, subst, ◌∙◌, arith}
use Rattle.std.proofs.lemmas.Option.{get_or_from_slice_get}
use Rattle.std.proofs.lemmas.List.{append-nil, drop_all, length-set, take_all}
use Rattle.std.proofs.lemmas.List.Edits.{map_over_more}
use Rattle.vn_sock.proofs.Places.{stands}

module _ {X : Type 0} (f : X → X) (xs : List X) where
  -- the first so many are changed, the others are as they were
  pub record AreChanged (ys : List X) (i : ℕ) : Type 0 where
    pub so_far : ys ≡ map f (take i xs) ++ drop i xs
    pub as_many : length ys ≡ length xs

  pub changed-next : (ys : List X) (i : ℕ) (x y : X) → AreChanged ys i → i < length ys → x ≡ get_or ys i x → y ≡ f x → AreChanged (set ys i y) (i + 1)
  changed-next ys i x y c less at is =
      let many = c.as_many in
      record {
        so_far = ap (set ys i) is ∙ map_over_more f xs ys i x (omega arith) c.so_far at;
        as_many = length-set ys i y ∙ many;
      }

  -- the next is changed at its place
  pub changed-at : (ys zs : List X) (i : ℕ) → AreChanged ys i → i < length ys → IfSome (slice_get ys i) (λ x. zs ≡ set ys i (f x)) → AreChanged zs (i + 1)
  changed-at ys zs i c less is = by (slice_get ys i) refl is
    where
      by : (o : Option X) → slice_get ys i ≡ o → IfSome o (λ x. zs ≡ set ys i (f x)) → AreChanged zs (i + 1)
      by None none is = absurd (stands ys i less none)
      by (Some x) at is = subst (λ (ws : List X). AreChanged ws (i + 1)) (sym is) (changed-next ys i x (f x) c less (sym (get_or_from_slice_get ys i x x at)) refl)

  pub changed-all : (ys : List X) (i : ℕ) → AreChanged ys i → length ys ≤ i → ys ≡ map f xs
  changed-all ys i c past =
      let many = c.as_many in
      let none : drop i xs ≡ [] = drop_all i xs (omega arith) in
      let all : take i xs ≡ xs = take_all i xs (omega arith) in
      c.so_far ∙ ap₂ (λ a b. map f a ++ b) all none ∙ append-nil (map f xs)

-- what a loop wrote is what a vector has afterwards
pub written-back : {X : Type 0} (n : ℕ) (xs zs ys : List X) → zs ≡ xs → length zs ≡ n → length ys ≡ length zs → take n (ys ++ drop (length ys) xs) ≡ ys
written-back n xs zs ys same long as_many =
    let alike : length zs ≡ length xs = ap length same in
    let none : drop (length ys) xs ≡ [] = drop_all (length ys) xs (omega arith) in
    ap (λ rest. take n (ys ++ rest)) none ∙ ap (take n) (append-nil ys) ∙ take_all n ys (omega arith)

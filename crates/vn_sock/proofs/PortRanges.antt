-- The sockets of a stack under one number.
use Rattle.std.proofs.Common.{◌≡◌, ℕ, zero, suc, true, false, not, nat_lt, nat_le, List, [], ◌∷◌, ◌++◌, take, drop, refl, sym, ap, ap₂, ◌∙◌, arith}
use Rattle.std.specs.List.{list_all, filter}
use Rattle.std.specs.List.Sorted.{IsPartitionedBy}
use Rattle.std.proofs.lemmas.Bool.{and_parts, and_from}
use Rattle.std.proofs.lemmas.Bool.Decides.{nat_tests}
use Rattle.std.proofs.lemmas.List.{append-nil, take-append-drop}
use Rattle.std.proofs.lemmas.List.Elements.{filter-append}
use Rattle.vn_rules.proofs.Kept.{none_from_all}
use Rattle.vn_sock.specs.declared.port_index.Bound.{Bound}
use Rattle.vn_sock.specs.Ports.{precedes, are_ordered, is_under}
use Rattle.vn_sock.proofs.PortOrder.{filter-all, filter-none, ordered-after, ordered-before, partitioned}

-- ---- those under a number

under-down : (q : ℕ) (a b : Bound) → precedes a b ≡ true → nat_lt b.port q ≡ true → nat_lt a.port q ≡ true
under-down q a b before less = grind (arith, nat_tests)

upto-down : (q : ℕ) (a b : Bound) → precedes a b ≡ true → nat_le b.port q ≡ true → nat_le a.port q ≡ true
upto-down q a b before less = grind (arith, nat_tests)

under-other : (q : ℕ) (a : Bound) → nat_lt a.port q ≡ true → is_under q a ≡ false
under-other q a less = grind (arith, nat_tests)

past-other : (q : ℕ) (a : Bound) → not (nat_le a.port q) ≡ true → is_under q a ≡ false
past-other q a past = grind (arith, nat_tests)

under-is : (q : ℕ) (a : Bound) → not (nat_lt a.port q) ≡ true → nat_le a.port q ≡ true → is_under q a ≡ true
under-is q a low high = grind (arith, nat_tests)

module _ (q : ℕ) (bs : List Bound) (ordered : are_ordered bs ≡ true) where
  pub under-partitioned : IsPartitionedBy (λ b. nat_lt b.port q) bs
  under-partitioned = partitioned (λ b. nat_lt b.port q) (under-down q) bs ordered

  pub upto-partitioned : (i : ℕ) → IsPartitionedBy (λ b. nat_le b.port q) (drop i bs)
  upto-partitioned i =
      partitioned (λ b. nat_le b.port q) (upto-down q) (drop i bs) (ordered-after (take i bs) (drop i bs) (ap are_ordered (take-append-drop i bs) ∙ ordered))

  module _ (i n : ℕ) (left : list_all (λ b. nat_lt b.port q) (take i bs) ≡ true) (right : list_all (λ b. not (nat_lt b.port q)) (drop i bs) ≡ true)
      (within : list_all (λ b. nat_le b.port q) (take n (drop i bs)) ≡ true) (past : list_all (λ b. not (nat_le b.port q)) (drop n (drop i bs)) ≡ true) where
    pub found-under : take n (drop i bs) ≡ filter (is_under q) bs
    found-under =
        let none_left : filter (is_under q) (take i bs) ≡ [] = filter-none (is_under q) (take i bs) (none_from_all (is_under q) (λ b. nat_lt b.port q) (take i bs) (under-other q) left) in
        let none_right : filter (is_under q) (drop n (drop i bs)) ≡ [] =
        filter-none (is_under q) (drop n (drop i bs)) (none_from_all (is_under q) (λ b. not (nat_le b.port q)) (drop n (drop i bs)) (past-other q) past) in
        let all : filter (is_under q) (take n (drop i bs)) ≡ take n (drop i bs) = filter-all (is_under q) (take n (drop i bs)) (both (take n (drop i bs)) (front n (drop i bs) right) within) in
        sym (ap (filter (is_under q)) (sym (take-append-drop i bs)) ∙ filter-append (is_under q) (take i bs) (drop i bs) ∙ ap (λ xs. xs ++ filter (is_under q) (drop i bs)) none_left
        ∙ ap (filter (is_under q)) (sym (take-append-drop n (drop i bs))) ∙ filter-append (is_under q) (take n (drop i bs)) (drop n (drop i bs))
        ∙ ap₂ (λ xs ys. xs ++ ys) all none_right ∙ append-nil (take n (drop i bs)))
      where
        front : (n : ℕ) (xs : List Bound) → list_all (λ b. not (nat_lt b.port q)) xs ≡ true → list_all (λ b. not (nat_lt b.port q)) (take n xs) ≡ true
        front zero xs all = refl
        front (suc n) [] all = refl
        front (suc n) (x ∷ xs) all = let parts = and_parts (not (nat_lt x.port q)) _ all in and_from _ _ parts.0 (front n xs parts.1)

        both : (xs : List Bound) → list_all (λ b. not (nat_lt b.port q)) xs ≡ true → list_all (λ b. nat_le b.port q) xs ≡ true → list_all (is_under q) xs ≡ true
        both [] low high = refl
        both (x ∷ xs) low high =
            let l = and_parts (not (nat_lt x.port q)) _ low in
            let h = and_parts (nat_le x.port q) _ high in
            and_from _ _ (under-is q x l.0 h.0) (both xs l.1 h.1)

-- a part of what is in order is in order
pub found-ordered : (bs : List Bound) → are_ordered bs ≡ true → (i n : ℕ) → are_ordered (take n (drop i bs)) ≡ true
found-ordered bs ordered i n =
    ordered-before (take n (drop i bs)) (drop n (drop i bs))
    (ap are_ordered (take-append-drop n (drop i bs)) ∙ ordered-after (take i bs) (drop i bs) (ap are_ordered (take-append-drop i bs) ∙ ordered))

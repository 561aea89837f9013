-- A walk over the addresses of a stack by their places.
use Rattle.std.proofs.Common.{◌≡◌, ℕ, zero, suc, ◌+◌, ◌^◌, ◌<◌, ◌≤◌, Bool, true, false, not, ◌||◌, eqb, List, [], ◌∷◌, ◌++◌, Some, None, length, map, take, drop, refl, sym, ap, ◌∙◌, arith}
use Rattle.std.specs.Prelude.{nat_lt, slice_get}
use Rattle.std.specs.List.{AllByRecursion, IsDistinct, list_any, list_all}
use Rattle.std.proofs.lemmas.Bool.{and_parts, and_from, both_ways, eq-eqb, eqb-true, false≢true, false_from_ne_true, ltb-true, not-true, not_from_false, or_parts, or_from}
use Rattle.std.proofs.lemmas.List.{length-map, length-take-le, take_more}
use Rattle.std.proofs.lemmas.Map.Steps.{length-le_from_distinct_below}
use Rattle.std.proofs.lemmas.Option.{get_or_from_slice_get, slice_get_within}
use Rattle.std.proofs.Math.Seq.{drop-cons}
use Rattle.vn_types.specs.declared.interface.HalfId.{HalfId}
use Rattle.vn_rules.specs.declared.address.AddrOf.{AddrOf}
use Rattle.vn_rules.specs.Addresses.{has_ip}
use Rattle.vn_rules.specs.Orders.{are_addresses, are_distinct}
use Rattle.vn_rules.proofs.ListTests.{all_push}

abbrev Address : Type 0
Address = AddrOf HalfId

-- ---- what is left to look at

-- from a place on
pub drop_here : {X : Type 0} (xs : List X) (place : ℕ) (x : X) → slice_get xs place ≡ Some x → drop place xs ≡ x ∷ drop (place + 1) xs
drop_here xs place x is =
    drop-cons xs place x (slice_get_within xs place x is) ∙ (λ i. get_or_from_slice_get xs place x x is i ∷ drop (more i) xs)
  where
    more : suc place ≡ place + 1
    more = omega arith

-- past the last
pub drop_none : {X : Type 0} (xs : List X) (place : ℕ) → slice_get xs place ≡ None → drop place xs ≡ []
drop_none [] zero is = refl
drop_none [] (suc place) is = refl
drop_none (x ∷ xs) zero is = cc
drop_none (x ∷ xs) (suc place) is = drop_none xs place is

module _ {X : Type 0} (test : X → Bool) where
  -- whether one of them is so
  pub left-here : (xs : List X) (place : ℕ) (x : X) → slice_get xs place ≡ Some x → list_any test (drop place xs) ≡ (test x || list_any test (drop (place + 1) xs))
  left-here xs place x is = ap (list_any test) (drop_here xs place x is)

  pub left-none : (xs : List X) (place : ℕ) → slice_get xs place ≡ None → list_any test (drop place xs) ≡ false
  left-none xs place is = ap (list_any test) (drop_none xs place is)

-- ---- how far the walk goes

-- whether an address has 32 bits
abbrev pub is_word : Address → Bool
is_word a = nat_lt a.ip.0 (2 ^ 32)

pub seen-more : (xs : List Address) (place : ℕ) (a : Address) → slice_get xs place ≡ Some a → list_all is_word (take place xs) ≡ true → is_word a ≡ true → list_all is_word (take (place + 1) xs) ≡ true
seen-more xs place a is seen here =
    ap (list_all is_word) (take_more xs place a (slice_get_within xs place a is) ∙ ap (λ x. take place xs ++ x ∷ []) (get_or_from_slice_get xs place a a is))
    ∙ all_push is_word a (take place xs) seen here

abbrev number : Address → ℕ
number a = a.ip.0

abbrev same_ip : Address → Address → Bool
same_ip a b = has_ip a.ip b

none_taken : (test : Address → Bool) (n : ℕ) (xs : List Address) → list_any test xs ≡ false → list_any test (take n xs) ≡ false
none_taken test zero xs none = refl
none_taken test (suc n) [] none = refl
none_taken test (suc n) (x ∷ xs) none = let two = or_parts (test x) _ none in or_from (test x) _ two.0 (none_taken test n xs two.1)

apart_taken : (n : ℕ) (xs : List Address) → are_distinct same_ip xs ≡ true → are_distinct same_ip (take n xs) ≡ true
apart_taken zero xs apart = refl
apart_taken (suc n) [] apart = refl
apart_taken (suc n) (x ∷ xs) apart =
    let two = and_parts (not (list_any (same_ip x) xs)) _ apart in
    and_from _ _ (not_from_false _ (none_taken (same_ip x) n xs (not-true _ two.0))) (apart_taken n xs two.1)

other_numbers : (x : Address) (xs : List Address) → list_any (same_ip x) xs ≡ false → AllByRecursion (λ n. eqb (number x) n ≡ false) (map number xs)
other_numbers x [] none = tt
other_numbers x (y ∷ ys) none =
    let two = or_parts (same_ip x y) _ none in
    (false_from_ne_true _ (λ is. both_ways (same_ip x y) two.0 (eq-eqb (number y) (number x) (sym (eqb-true (number x) (number y) is)))), other_numbers x ys two.1)

distinct_numbers : (xs : List Address) → are_distinct same_ip xs ≡ true → IsDistinct eqb (map number xs)
unfolding IsDistinct
distinct_numbers [] apart = tt
distinct_numbers (x ∷ xs) apart =
    let two = and_parts (not (list_any (same_ip x) xs)) _ apart in (other_numbers x xs (not-true _ two.0), distinct_numbers xs two.1)

below : (xs : List Address) → list_all is_word xs ≡ true → (q : ℕ) → list_any (eqb q) (map number xs) ≡ true → q < 2 ^ 32
below [] all q is = absurd (false≢true is)
below (x ∷ xs) all q is = let two = and_parts (is_word x) _ all in by (eqb q (number x)) refl is (below xs two.1 q)
  where
    small : number x < 2 ^ 32
    small = ltb-true (number x) (2 ^ 32) (and_parts (is_word x) _ all).0

    by : (b : Bool) → eqb q (number x) ≡ b → (b || list_any (eqb q) (map number xs)) ≡ true → (list_any (eqb q) (map number xs) ≡ true → q < 2 ^ 32) → q < 2 ^ 32
    by true same found more = let one : q ≡ number x = eqb-true q (number x) same in omega (arith, small)
    by false other found more = more found

-- no more addresses were seen than there are
pub few-seen : (xs : List Address) (place : ℕ) (a : Address) → are_addresses xs ≡ true → slice_get xs place ≡ Some a → list_all is_word (take place xs) ≡ true → place ≤ 2 ^ 32
unfolding are_addresses
few-seen xs place a right is seen =
    let apart = (and_parts (are_distinct same_ip xs) _ right).0 in
    let within = slice_get_within xs place a is in
    let most = length-le_from_distinct_below (map number (take place xs)) (2 ^ 32) (distinct_numbers (take place xs) (apart_taken place xs apart)) (below (take place xs) seen) in
    let many : length (map number (take place xs)) ≡ place = length-map (take place xs) number ∙ length-take-le place xs (omega arith) in
    omega (arith, most, many)

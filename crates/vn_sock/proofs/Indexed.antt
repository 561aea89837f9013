-- What is told by name and by port, after the sockets are edited.
use Rattle.std.proofs.Common.{◌≡◌, ◌≢◌, ℕ, ◌<◌, ◌≤◌, Bool, true, false, cond, not, ◌&&◌, ◌||◌, ◌==◌, List, [], ◌∷◌, ◌++◌, length, get_or, set, Option, Some, None, is_some, refl, sym, ap, ap₂, ◌∙◌, ◌⊎◌, inl, inr, arith}
use Rattle.std.specs.Prelude.{slice_get}
use Rattle.std.specs.List.{list_any, filter, remove}
use Rattle.std.specs.Option.{option_map, option_map_or, option_or}
use Rattle.std.specs.Str.{bytes_eq}
use Rattle.std.proofs.lemmas.Bool.{and_parts, both_ways, cases_eq, cases_lt, eq-eqb, ne_eqb}
use Rattle.std.proofs.lemmas.Bool.Decides.{nat_tests}
use Rattle.std.proofs.lemmas.Option.{slice_get_past}
use Rattle.std.proofs.lemmas.Slice.Eq.{bytes_eq-Decides}
use Rattle.vn_rules.specs.Orders.{are_distinct}
use Rattle.vn_rules.proofs.ListTests.{both_pass, distinct_filter, distinct_push, distinct_weaker}
use Rattle.vn_sock.specs.declared.port_index.Bound.{Bound}
use Rattle.vn_sock.specs.Kept.{IsIndexed, first_place, stands_at}
use Rattle.vn_sock.specs.Names.{moved, told, unmoved}
use Rattle.vn_sock.specs.Ports.{has}
use Rattle.vn_sock.proofs.Places.{any-filter}
use Rattle.vn_sock.proofs.PortMoves.{unmoved-other}
use Rattle.vn_sock.proofs.PlaceEdits.{first-pushed, first-none, first-some, first-passes, first-kept, removed-is, get-set-here, get-set-other, get-pushed-here, get-pushed-other, get-removed}

-- ---- equal names

pub same-name : (a b : List ℕ) → bytes_eq a b ≡ true → a ≡ b
same-name a b is = (bytes_eq-Decides a b).0 is

flip : (a b : List ℕ) → bytes_eq a b ≡ bytes_eq b a
flip a b = by (bytes_eq a b) (bytes_eq b a) refl refl
  where
    by : (x y : Bool) → bytes_eq a b ≡ x → bytes_eq b a ≡ y → x ≡ y
    by true true first second = refl
    by false false first second = refl
    by true false first second = absurd (both_ways (bytes_eq b a) second ((bytes_eq-Decides b a).1 (sym (same-name a b first))))
    by false true first second = absurd (both_ways (bytes_eq a b) first ((bytes_eq-Decides a b).1 (sym (same-name b a second))))

alone : (b : Bool) → ((b && true) || false) ≡ b
alone true = refl
alone false = refl

lost : (b c : Bool) → ((b && false) || c) ≡ c
lost true c = refl
lost false c = refl

unmoved-below : (n k : ℕ) → k < n → unmoved n k ≡ k
unmoved-below n k less = grind (arith, nat_tests)

unmoved-above : (n k : ℕ) → n ≤ k → n ≤ unmoved n k
unmoved-above n k past = grind (arith, nat_tests)

-- none is left of those that are taken away
none-left : {A : Type 0} (t : A → Bool) (xs : List A) → list_any t (filter (λ x. not (t x)) xs) ≡ false
none-left {A = A} t xs = any-filter (λ x. not (t x)) t xs ∙ never xs
  where
    at : (b : Bool) → (not b && b) ≡ false
    at true = refl
    at false = refl

    never : (ys : List A) → list_any (λ x. not (t x) && t x) ys ≡ false
    never [] = refl
    never (y ∷ ys) = ap₂ (λ a b. a || b) (at (t y)) (never ys)

module _ (names : List (List ℕ × ℕ)) (ports : List Bound) (texts : List (List ℕ)) (numbers : List ℕ) (kept : IsIndexed names ports texts numbers) where
  -- nothing stands behind all others
  pub none-past : (q k : ℕ) → length numbers ≤ k → has q k ports ≡ false
  none-past q k past = kept.bound q k ∙ ap (λ o. option_map_or (λ m. m == q) o false) (slice_get_past numbers k past)

  module _ (added : List Bound) (n : ℕ) (as_many : length numbers ≡ n) (added_is : (q k : ℕ) → has q k added ≡ (((0 == q) && (n == k)) || has q k ports)) where
    -- one more stands there without a port
    pub added-last : (q : ℕ) → has q n added ≡ (0 == q)
    added-last q = added_is q n ∙ ap₂ (λ a b. ((0 == q) && a) || b) (eq-eqb n n refl) (none-past q n (omega arith)) ∙ alone (0 == q)

    -- and is taken away again
    pub undone : (removed : List Bound) → ((q k : ℕ) → has q k removed ≡ has q (unmoved n k) added) → IsIndexed names removed texts numbers
    undone removed removed_is = record {
      apart = kept.apart;
      named = kept.named;
      bound = λ q k.
          removed_is q k ∙ added_is q (unmoved n k) ∙ ap (λ a. ((0 == q) && a) || has q (unmoved n k) ports) (unmoved-other n k) ∙ lost (0 == q) (has q (unmoved n k) ports)
          ∙ by q k (cases_lt k n);
    }
      where
        by : (q k : ℕ) → (k < n) ⊎ (n ≤ k) → has q (unmoved n k) ports ≡ stands_at q k numbers
        by q k (inl less) = ap (λ j. has q j ports) (unmoved-below n k less) ∙ kept.bound q k
        by q k (inr past) =
            let beyond : n ≤ unmoved n k = unmoved-above n k past in
            none-past q (unmoved n k) (omega arith) ∙ sym (ap (λ o. option_map_or (λ m. m == q) o false) (slice_get_past numbers k (omega arith)))

  -- one more, the last, with a new name and without a port
  pub opened : (told_next : List (List ℕ × ℕ)) (bound_next : List Bound) (name : List ℕ) (n : ℕ) → length texts ≡ n → length numbers ≡ n → told name names ≡ None
      → ((q : List ℕ) → told q told_next ≡ cond (bytes_eq name q) (Some n) (told q names)) → ((q k : ℕ) → has q k bound_next ≡ (((0 == q) && (n == k)) || has q k ports))
      → IsIndexed told_next bound_next (texts ++ name ∷ []) (numbers ++ 0 ∷ [])
  opened told_next bound_next name n many as_many new told_is bound_is = record {
    apart = distinct_push bytes_eq name texts kept.apart (none texts fresh);
    named = λ q. by_name q (bytes_eq name q) refl;
    bound = λ q k. by_place q k (cases_eq k n);
  }
    where
      unknown : first_place (bytes_eq name) texts ≡ None
      unknown = sym (kept.named name) ∙ new

      fresh : list_any (bytes_eq name) texts ≡ false
      fresh = sym (first-some (bytes_eq name) texts) ∙ ap is_some unknown

      none : (xs : List (List ℕ)) → list_any (bytes_eq name) xs ≡ false → list_any (λ x. bytes_eq x name) xs ≡ false
      none xs is = (λ i. list_any (λ x. flip x name i) xs) ∙ is

      by_name : (q : List ℕ) (b : Bool) → bytes_eq name q ≡ b → told q told_next ≡ first_place (bytes_eq q) (texts ++ name ∷ [])
      by_name q true is =
          let equal : name ≡ q = same-name name q is in
          told_is q ∙ ap (λ b. cond b (Some n) (told q names)) is
          ∙ sym (first-pushed (bytes_eq q) texts name
          ∙ ap₂ (λ o b. option_or o (cond b (Some (length texts)) None)) (ap (λ a. first_place (bytes_eq a) texts) (sym equal) ∙ unknown) (flip q name ∙ is) ∙ ap Some many)
      by_name q false is =
          told_is q ∙ ap (λ b. cond b (Some n) (told q names)) is ∙ kept.named q
          ∙ sym (first-pushed (bytes_eq q) texts name ∙ ap (λ b. option_or (first_place (bytes_eq q) texts) (cond b (Some (length texts)) None)) (flip q name ∙ is) ∙ or_none (first_place (bytes_eq q) texts))
        where
          or_none : (o : Option ℕ) → option_or o None ≡ o
          or_none None = refl
          or_none (Some k) = refl

      by_place : (q k : ℕ) → (k ≡ n) ⊎ (k ≡ n → ⊥) → has q k bound_next ≡ stands_at q k (numbers ++ 0 ∷ [])
      by_place q k (inl here) =
          let past : has q k ports ≡ false = none-past q k (omega arith) in
          let last : slice_get (numbers ++ 0 ∷ []) k ≡ Some 0 = ap (slice_get (numbers ++ 0 ∷ [])) (here ∙ sym as_many) ∙ get-pushed-here numbers 0 in
          bound_is q k ∙ ap₂ (λ a b. ((0 == q) && a) || b) (eq-eqb n k (sym here)) past ∙ alone (0 == q)
          ∙ sym (ap (λ o. option_map_or (λ m. m == q) o false) last)
      by_place q k (inr other) =
          bound_is q k ∙ ap (λ a. ((0 == q) && a) || has q k ports) (ne_eqb n k (λ e. other (sym e))) ∙ lost (0 == q) (has q k ports) ∙ kept.bound q k
          ∙ sym (ap (λ o. option_map_or (λ m. m == q) o false) (get-pushed-other numbers k 0 (λ e. other (e ∙ as_many))))

  -- one has another port
  pub rebound : (bound_next : List Bound) (k to : ℕ) → k < length numbers → ((q : ℕ) → has q k bound_next ≡ (to == q)) → ((q j : ℕ) → j ≢ k → has q j bound_next ≡ has q j ports)
      → IsIndexed names bound_next texts (set numbers k to)
  rebound bound_next k to less here others = record { apart = kept.apart; named = kept.named; bound = λ q j. by q j (cases_eq j k) }
    where
      by : (q j : ℕ) → (j ≡ k) ⊎ (j ≡ k → ⊥) → has q j bound_next ≡ stands_at q j (set numbers k to)
      by q j (inl at) = ap (λ i. has q i bound_next) at ∙ here q ∙ sym (ap (λ o. option_map_or (λ m. m == q) o false) (ap (slice_get (set numbers k to)) at ∙ get-set-here numbers k to less))
      by q j (inr other) = others q j other ∙ kept.bound q j ∙ sym (ap (λ o. option_map_or (λ m. m == q) o false) (get-set-other numbers k j to other))

  -- the one of a name is gone
  pub closed : (told_next : List (List ℕ × ℕ)) (bound_next : List Bound) (name : List ℕ) (k : ℕ) → told name names ≡ Some k
      → ((q : List ℕ) → told q told_next ≡ cond (bytes_eq name q) None (option_map (moved k) (told q names))) → ((q j : ℕ) → has q j bound_next ≡ has q (unmoved k j) ports)
      → IsIndexed told_next bound_next (remove texts k) (remove numbers k)
  closed told_next bound_next name k at told_is bound_is = record {
    apart = ap (are_distinct bytes_eq) left ∙ distinct_filter (λ x. not (bytes_eq name x)) bytes_eq texts kept.apart;
    named = λ q. by_name q (bytes_eq name q) refl;
    bound = λ q j. bound_is q j ∙ kept.bound q (unmoved k j) ∙ sym (ap (λ o. option_map_or (λ m. m == q) o false) (get-removed numbers k j));
  }
    where
      there : first_place (bytes_eq name) texts ≡ Some k
      there = sym (kept.named name) ∙ at

      both : (x y : List ℕ) → both_pass (bytes_eq name) x y ≡ true → bytes_eq x y ≡ true
      both x y is = let two = and_parts (bytes_eq name x) _ is in (bytes_eq-Decides x y).1 (sym (same-name name x two.0) ∙ same-name name y two.1)

      left : remove texts k ≡ filter (λ x. not (bytes_eq name x)) texts
      left = removed-is (bytes_eq name) texts k (distinct_weaker bytes_eq (both_pass (bytes_eq name)) both texts kept.apart) there

      by_name : (q : List ℕ) (b : Bool) → bytes_eq name q ≡ b → told q told_next ≡ first_place (bytes_eq q) (remove texts k)
      by_name q true is =
          told_is q ∙ ap (λ b. cond b None (option_map (moved k) (told q names))) is
          ∙ sym (ap (λ a. first_place (bytes_eq a) (remove texts k)) (sym (same-name name q is)) ∙ ap (first_place (bytes_eq name)) left
          ∙ first-none (bytes_eq name) (filter (λ x. not (bytes_eq name x)) texts) (none-left (bytes_eq name) texts))
      by_name q false is =
          let stands = first-passes (bytes_eq name) texts k there in
          told_is q ∙ ap (λ b. cond b None (option_map (moved k) (told q names))) is ∙ ap (option_map (moved k)) (kept.named q)
          ∙ sym (first-kept (bytes_eq q) texts k stands.0 (λ d. ap (bytes_eq q) (sym (same-name name (get_or texts k d) (stands.1 d))) ∙ flip q name ∙ is))

-- nothing is told of no socket
pub of-none : IsIndexed [] [] [] []
of-none = record { apart = refl; named = λ q. refl; bound = λ q k. by q k }
  where
    by : (q k : ℕ) → has q k [] ≡ stands_at q k []
    by q k = refl

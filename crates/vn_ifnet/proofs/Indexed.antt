-- Interfaces by order, and their orders by a number: what is found, and what attaching and detaching leave.
use Rattle.std.proofs.Common.{◌≡◌, ◌≢◌, ℕ, Bool, true, false, not, cond, ◌==◌, List, [], ◌∷◌, ◌++◌, find, Option, Some, None, IfSome, refl, sym, subst, ap, ◌∙◌}
use Rattle.std.specs.List.{AllByRecursion, filter}
use Rattle.std.specs.List.Sorted.{IsStrictlySortedBy}
use Rattle.std.specs.BTreeMap.{is_at}
use Rattle.std.specs.Cmp.{both_ways}
use Rattle.std.specs.Ordering.{nat_cmp}
use Rattle.std.specs.Map.{keys_of, values_of, remove_entry}
use Rattle.std.specs.Option.{option_map}
use Rattle.std.proofs.lemmas.Bool.{eqb-true, eq-eqb, ne_eqb, cond-true, cond-false, false≢true}
use Rattle.vn_types.specs.declared.interface.HalfId.{HalfId}
use Rattle.vn_types.specs.declared.interface.IfName.{IfName}
use Rattle.vn_types.specs.declared.interface.IfOf.{IfOf}
use Rattle.vn_rules.specs.Named.{ifname_eq}
use Rattle.vn_ifnet.specs.declared.interfaces.Attached.{Attached}
use Rattle.vn_ifnet.specs.Names.{if_number, name_number}
use Rattle.vn_ifnet.specs.Stacks.{without}
use Rattle.vn_ifnet.specs.Kept.{told, number_of_if, number_of_name, HasNumber, IsIndex}
use Rattle.vn_ifnet.proofs.Numbers.{same-if, same-name}
use Rattle.vn_ifnet.proofs.Entries.{apart-at, at-itself, each-entry, find-none, find-one, kept-whole, map-none, remove-append, removed, same-at, values-push}

abbrev Es : Type 0
Es = List (ℕ × Attached)

abbrev Orders : Type 0
Orders = List (ℕ × ℕ)

-- the entries without that of an order
abbrev pub without_order : Option ℕ → Es → Es
without_order None es = es
without_order (Some n) es = remove_entry (is_at (nat_cmp n)) es

-- whether an order is the one
abbrev pub is_order : Option ℕ → ℕ → Bool
is_order None k = false
is_order (Some n) k = is_at (nat_cmp n) k

-- those that have a number, by their number
abbrev pub has : (Attached → ℕ) → ℕ → Attached → Bool
has number w a = w == number a

-- what is attached has one number
one-number : (number : Attached → ℕ) (o : Option Attached) (v w : ℕ) → HasNumber number o w → HasNumber number o v → v ≡ w
one-number number None v w h g = absurd h
one-number number (Some a) v w h g = sym g ∙ h

lost : (number : Attached → ℕ) (o : Option Attached) (w : ℕ) → o ≡ None → HasNumber number o w → ⊥
lost number None w is h = h
lost number (Some a) w is h = cc

module _ (number : Attached → ℕ) (es : Es) (orders : Orders) (kept : IsIndex number es orders) where
  -- at the order that a number tells stands what has it
  own : (w n : ℕ) → told w orders ≡ Some n → HasNumber number (told n es) w
  own w n is = subst (λ o. IfSome o (λ k. HasNumber number (told k es) w)) is (kept.standing w)

  module _ (ordered : IsStrictlySortedBy nat_cmp (keys_of es)) (w : ℕ) where
    -- where a number tells no order, nothing has it
    none-has : told w orders ≡ None → AllByRecursion (λ (e : ℕ × Attached). has number w e.1 ≡ false) es
    none-has none = each-entry (λ k a. has number w a ≡ false) es ordered (λ k. by k (told k es) (kept.placed k))
      where
        by : (k : ℕ) (o : Option Attached) → IfSome o (λ a. told (number a) orders ≡ Some k) → IfSome o (λ a. has number w a ≡ false)
        by k None h = tt
        by k (Some a) h = ne_eqb w (number a) apart
          where
            apart : w ≢ number a
            apart e = let c : None ≡ Some k = sym none ∙ ap (λ v. told v orders) e ∙ h in cc

    -- and otherwise the one at that order has it
    one-has : (n : ℕ) → told w orders ≡ Some n → AllByRecursion (λ (e : ℕ × Attached). has number w e.1 ≡ is_at (nat_cmp n) e.0) es
    one-has n is = each-entry (λ k a. has number w a ≡ is_at (nat_cmp n) k) es ordered (λ k. by k (told k es) refl (kept.placed k))
      where
        by : (k : ℕ) (o : Option Attached) → told k es ≡ o → IfSome o (λ a. told (number a) orders ≡ Some k) → IfSome o (λ a. has number w a ≡ is_at (nat_cmp n) k)
        by k None f h = tt
        by k (Some a) f h = both_ways (has number w a) (is_at (nat_cmp n) k) to from
          where
            to : has number w a ≡ true → is_at (nat_cmp n) k ≡ true
            to e =
                let c : Some n ≡ Some k = sym is ∙ ap (λ v. told v orders) (eqb-true w (number a) e) ∙ h in
                let s : n ≡ k = cc in ap (λ q. is_at (nat_cmp n) q) (sym s) ∙ at-itself n

            from : is_at (nat_cmp n) k ≡ true → has number w a ≡ true
            from e = eq-eqb w (number a) (sym (subst (λ o. HasNumber number o w) (ap (λ q. told q es) (same-at n k e) ∙ f) (own w n is)))

    pub found-none : told w orders ≡ None → find (has number w) (values_of es) ≡ None
    found-none none = find-none (has number w) es (none-has none)

    pub found-one : (n : ℕ) → told w orders ≡ Some n → find (has number w) (values_of es) ≡ told n es
    found-one n is = find-one (has number w) n es (one-has n is)

    -- a number that nothing has tells no order
    pub unused : find (has number w) (values_of es) ≡ None → told w orders ≡ None
    unused none = by (told w orders) refl
      where
        by : (o : Option ℕ) → told w orders ≡ o → o ≡ None
        by None is = refl
        by (Some n) is = absurd (lost number (told n es) w (sym (found-one n is) ∙ none) (own w n is))

    pub left-none : told w orders ≡ None → filter (λ a. not (has number w a)) (values_of es) ≡ values_of es
    left-none none = kept-whole (has number w) es (none-has none)

    pub left-one : (n : ℕ) → told w orders ≡ Some n → values_of (remove_entry (is_at (nat_cmp n)) es) ≡ filter (λ a. not (has number w a)) (values_of es)
    left-one n is = removed (has number w) n es ordered (one-has n is)

  -- ---- one goes

  pub index-gone : (w n : ℕ) → told w orders ≡ Some n → (es' : Es) (orders' : Orders) → ((k : ℕ) → told k es' ≡ cond (is_at (nat_cmp n) k) None (told k es)) → ((v : ℕ) → told v orders' ≡ cond (is_at (nat_cmp w) v) None (told v orders)) → IsIndex number es' orders'
  index-gone w n is es' orders' found tells = record { placed = placed; standing = standing }
    where
      placed : (k : ℕ) → IfSome (told k es') (λ a. told (number a) orders' ≡ Some k)
      placed k = subst (λ o. IfSome o (λ a. told (number a) orders' ≡ Some k)) (sym (found k)) (by (is_at (nat_cmp n) k) refl (told k es) (kept.placed k))
        where
          by : (b : Bool) → is_at (nat_cmp n) k ≡ b → (o : Option Attached) → IfSome o (λ a. told (number a) orders ≡ Some k) → IfSome (cond b None o) (λ a. told (number a) orders' ≡ Some k)
          by true e o h = tt
          by false e None h = tt
          by false e (Some a) h = tells (number a) ∙ cond-false (is_at (nat_cmp w) (number a)) None (told (number a) orders) (apart-at w (number a) apart) ∙ h
            where
              apart : w ≢ number a
              apart same =
                  let c : Some n ≡ Some k = sym is ∙ ap (λ v. told v orders) same ∙ h in
                  let s : n ≡ k = cc in false≢true (sym e ∙ ap (λ q. is_at (nat_cmp n) q) (sym s) ∙ at-itself n)

      standing : (v : ℕ) → IfSome (told v orders') (λ k. HasNumber number (told k es') v)
      standing v = subst (λ o. IfSome o (λ k. HasNumber number (told k es') v)) (sym (tells v)) (by (is_at (nat_cmp w) v) refl (told v orders) (kept.standing v))
        where
          by : (b : Bool) → is_at (nat_cmp w) v ≡ b → (o : Option ℕ) → IfSome o (λ k. HasNumber number (told k es) v) → IfSome (cond b None o) (λ k. HasNumber number (told k es') v)
          by true e o h = tt
          by false e None h = tt
          by false e (Some k) h = subst (λ o. HasNumber number o v) (sym (found k ∙ cond-false (is_at (nat_cmp n) k) None (told k es) (apart-at n k apart))) h
            where
              apart : n ≢ k
              apart same =
                  let s : w ≡ v = one-number number (told k es) w v h (subst (λ q. HasNumber number (told q es) w) same (own w n is)) in
                  false≢true (sym e ∙ ap (λ q. is_at (nat_cmp w) q) (sym s) ∙ at-itself w)

  -- ---- one comes

  -- at a free order, and the order at which its number stood before, if there is one, is taken out
  module _ (n : ℕ) (one : Attached) (new : told n es ≡ None) (before : Option ℕ) (told-before : told (number one) orders ≡ before) where
    had : (m : ℕ) → before ≡ Some m → HasNumber number (told m es) (number one)
    had m is = own (number one) m (told-before ∙ is)

    -- that order is not the new one
    apart-before : (o : Option ℕ) → before ≡ o → is_order o n ≡ false
    apart-before None is = refl
    apart-before (Some m) is = apart-at m n (λ e. lost number (told m es) (number one) (ap (λ q. told q es) e ∙ new) (had m is))

    -- nor one of another number
    other-before : (k v : ℕ) → is_at (nat_cmp (number one)) v ≡ false → HasNumber number (told k es) v → (o : Option ℕ) → before ≡ o → is_order o k ≡ false
    other-before k v ne h None is = refl
    other-before k v ne h (Some m) is = apart-at m k apart
      where
        apart : m ≢ k
        apart same =
            let s : number one ≡ v = one-number number (told k es) (number one) v h (subst (λ q. HasNumber number (told q es) (number one)) same (had m is)) in
            false≢true (sym ne ∙ ap (λ q. is_at (nat_cmp (number one)) q) (sym s) ∙ at-itself (number one))

    -- what stands at another order has another number
    other-number : (k : ℕ) (a : Attached) → is_order before k ≡ false → told (number a) orders ≡ Some k → is_at (nat_cmp (number one)) (number a) ≡ false
    other-number k a ne h = apart-at (number one) (number a) (λ same. by (sym told-before ∙ ap (λ v. told v orders) same ∙ h))
      where
        by : before ≡ Some k → ⊥
        by is = false≢true (sym ne ∙ ap (λ o. is_order o k) is ∙ at-itself k)

    pub index-come : (es' : Es) (orders' : Orders) → ((k : ℕ) → told k es' ≡ cond (is_order before k) None (cond (is_at (nat_cmp n) k) (Some one) (told k es))) → ((v : ℕ) → told v orders' ≡ cond (is_at (nat_cmp (number one)) v) (Some n) (told v orders)) → IsIndex number es' orders'
    index-come es' orders' found tells = record { placed = placed; standing = standing }
      where
        placed : (k : ℕ) → IfSome (told k es') (λ a. told (number a) orders' ≡ Some k)
        placed k = subst (λ o. IfSome o (λ a. told (number a) orders' ≡ Some k)) (sym (found k)) (by (is_order before k) refl (is_at (nat_cmp n) k) refl (told k es) (kept.placed k))
          where
            by : (b : Bool) → is_order before k ≡ b → (d : Bool) → is_at (nat_cmp n) k ≡ d → (o : Option Attached) → IfSome o (λ a. told (number a) orders ≡ Some k) → IfSome (cond b None (cond d (Some one) o)) (λ a. told (number a) orders' ≡ Some k)
            by true e d f o h = tt
            by false e true f o h = tells (number one) ∙ cond-true (is_at (nat_cmp (number one)) (number one)) (Some n) (told (number one) orders) (at-itself (number one)) ∙ ap (λ q. Some q) (same-at n k f)
            by false e false f None h = tt
            by false e false f (Some a) h = tells (number a) ∙ cond-false (is_at (nat_cmp (number one)) (number a)) (Some n) (told (number a) orders) (other-number k a e h) ∙ h

        standing : (v : ℕ) → IfSome (told v orders') (λ k. HasNumber number (told k es') v)
        standing v = subst (λ o. IfSome o (λ k. HasNumber number (told k es') v)) (sym (tells v)) (by (is_at (nat_cmp (number one)) v) refl (told v orders) (kept.standing v))
          where
            rest : ℕ → Option Attached
            rest k = cond (is_at (nat_cmp n) k) (Some one) (told k es)

            by : (b : Bool) → is_at (nat_cmp (number one)) v ≡ b → (o : Option ℕ) → IfSome o (λ k. HasNumber number (told k es) v) → IfSome (cond b (Some n) o) (λ k. HasNumber number (told k es') v)
            by true e o h =
                subst (λ o. HasNumber number o v)
                (sym (found n ∙ cond-false (is_order before n) None (rest n) (apart-before before refl) ∙ cond-true (is_at (nat_cmp n) n) (Some one) (told n es) (at-itself n))) (same-at (number one) v e)
            by false e None h = tt
            by false e (Some k) h =
                subst (λ o. HasNumber number o v)
                (sym (found k ∙ cond-false (is_order before k) None (rest k) (other-before k v e h before refl) ∙ cond-false (is_at (nat_cmp n) k) (Some one) (told k es) (apart-at n k apart))) h
              where
                apart : n ≢ k
                apart same = lost number (told k es) v (ap (λ q. told q es) (sym same) ∙ new) h

    -- it stands last, and its number stands there alone
    pub values-come : IsStrictlySortedBy nat_cmp (keys_of es) → (es' : Es) → es' ≡ without_order before (es ++ (n, one) ∷ []) → values_of es' ≡ filter (λ a. not (has number (number one) a)) (values_of es) ++ one ∷ []
    values-come ordered es' entries = ap (λ xs. values_of xs) entries ∙ by before refl
      where
        by : (o : Option ℕ) → before ≡ o → values_of (without_order o (es ++ (n, one) ∷ [])) ≡ filter (λ a. not (has number (number one) a)) (values_of es) ++ one ∷ []
        by None is = values-push es n one ∙ ap (λ vs. vs ++ one ∷ []) (sym (left-none ordered (number one) (told-before ∙ is)))
        by (Some m) is =
            ap (λ xs. values_of xs) (remove-append (is_at (nat_cmp m)) es (n, one) (apart-before (Some m) is))
            ∙ values-push (remove_entry (is_at (nat_cmp m)) es) n one
            ∙ ap (λ vs. vs ++ one ∷ []) (left-one ordered (number one) m (told-before ∙ is))

-- ---- names and interfaces by their numbers

pub named-has : (name : IfName) → has number_of_name (name_number name) ≡ (λ (a : Attached). ifname_eq a.name name)
named-has name = λ i a. same-name name a.name i

pub without-has : (what : IfOf HalfId) (attached : List Attached) → filter (λ a. not (has number_of_if (if_number what) a)) attached ≡ without what attached
without-has what attached = ap (λ (test : Attached → Bool). filter (λ a. not (test a)) attached) (λ i a. same-if what a.what i)

-- a name that doesn't stand tells no order
pub free : (name : IfName) (es : Es) (names : Orders) → IsStrictlySortedBy nat_cmp (keys_of es) → IsIndex number_of_name es names → option_map (λ (a : Attached). a.what) (find (λ (a : Attached). ifname_eq a.name name) (values_of es)) ≡ None → told (name_number name) names ≡ None
free name es names ordered kept none = unused number_of_name es names kept ordered (name_number name) (ap (λ test. find test (values_of es)) (named-has name) ∙ map-none (λ (a : Attached). a.what) _ none)

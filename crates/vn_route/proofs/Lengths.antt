-- The search by falling length finds the longest.
use Rattle.std.proofs.Common.{◌≡◌, ◌≢◌, ℕ, zero, suc, ◌≤◌, ◌<◌, Bool, true, false, cond, ◌==◌, ◌&&◌, nat_lt, List, [], ◌∷◌, Option, Some, None, refl, sym, ap, ap₂, ◌∙◌, arith}
use Rattle.std.specs.List.{AllByRecursion, IsDistinct, list_all, filter, find}
use Rattle.std.specs.Option.{option_or, option_map, IfSome}
use Rattle.std.specs.Ordering.{is_eq}
use Rattle.std.specs.Map.{lookup as value_at, keys_of}
use Rattle.std.specs.BTreeMap.{is_at}
use Rattle.std.proofs.lemmas.Bool.{eqb-true, eq-eqb, leb-true, lt-ltb, le-ltb, false≢true, false_from_ne_true, and_parts}
use Rattle.std.proofs.lemmas.Map.Keys.{IsDistinct-from_sorted}
use Rattle.vn_types.specs.declared.address.Ip4.{Ip4}
use Rattle.vn_types.specs.declared.address.Prefix.{Prefix}
use Rattle.vn_rules.specs.declared.route.TargetOf.{TargetOf}
use Rattle.vn_rules.specs.Networks.{network_of, lies_in, is_network}
use Rattle.vn_rules.specs.Orders.{are_rising, are_routes}
use Rattle.vn_rules.specs.Routes.{Routed, prefix_cmp, covers_ip, longer, longest, longest_among}
use Rattle.vn_rules.proofs.OrderLaws.{IsStrictlySortedBy-from_rising}
use Rattle.vn_rules.proofs.ListTests.{find_passes}
use Rattle.vn_rules.proofs.RouteChoice.{prefix-exact, prefix-covers}
use Rattle.vn_rules.proofs.RouteRemoval.{prefix_ties}
use Rattle.vn_route.specs.Lengths.{network_at, passing, of_length, shorter_than}

-- no key is equal to the one that comes before them
none_at : {V : Type 0} (k : Prefix) (es : List (Prefix × V)) → AllByRecursion (λ q. is_eq (prefix_cmp k q) ≡ false) (keys_of es) → value_at (is_at (prefix_cmp k)) es ≡ None
none_at k [] apart = refl
none_at k (e ∷ es) apart = rw apart.0 (none_at k es apart.1)

-- ---- the longest of a list, by falling length

module _ {N : Type 0} where
  abbrev has_length : ℕ → Routed N → Bool
  has_length n e = e.0.len == n

  abbrev Below : ℕ → List (Routed N) → Type 0
  Below n es = AllByRecursion (λ (e : Routed N). e.0.len < n) es

  unequal : (e : Routed N) (n : ℕ) → (e.0.len == n) ≡ false → e.0.len ≢ n
  unequal e n other same = false≢true (sym other ∙ eq-eqb e.0.len n same)

  -- the first of the greatest length
  abbrev first_below : List (Routed N) → ℕ → Option (Routed N)
  first_below es zero = None
  first_below es (suc n) = option_or (find (has_length n) es) (first_below es n)

  -- where none has that length, all are shorter
  shrink : (n : ℕ) (es : List (Routed N)) → Below (suc n) es → find (has_length n) es ≡ None → Below n es
  shrink n [] below none = tt
  shrink n (e ∷ es) below none = by (e.0.len == n) refl none (shrink n es below.1)
    where
      by : (b : Bool) → (e.0.len == n) ≡ b → cond b (Some e) (find (has_length n) es) ≡ None → (find (has_length n) es ≡ None → Below n es) → Below n (e ∷ es)
      by true same none more = cc
      by false other none more = let apart = unequal e n other in (omega (arith, below.0), more none)

  longest-below : (n : ℕ) (es : List (Routed N)) → Below n es → IfSome (longest es) (λ e. e.0.len < n)
  longest-below n [] below = tt
  longest-below n (e ∷ es) below = by (longest es) (longest-below n es below.1)
    where
      by_test : (f : Routed N) → f.0.len < n → (b : Bool) → (cond b f e).0.len < n
      by_test f less true = less
      by_test f less false = below.0

      by : (o : Option (Routed N)) → IfSome o (λ f. f.0.len < n) → (longer e o).0.len < n
      by None less = below.0
      by (Some f) less = by_test f less (nat_lt e.0.len f.0.len)

  -- the first of the greatest length is the longest
  longest-first : (n : ℕ) (es : List (Routed N)) (f : Routed N) → Below (suc n) es → find (has_length n) es ≡ Some f → longest es ≡ Some f
  longest-first n [] f below is = cc
  longest-first n (e ∷ es) f below is = by (e.0.len == n) refl is (longest-first n es f below.1)
    where
      by_long : (o : Option (Routed N)) → IfSome o (λ g. g.0.len < suc n) → e.0.len ≡ n → longer e o ≡ e
      by_long None less same = refl
      by_long (Some g) less same = let le : g.0.len ≤ e.0.len = omega arith in rw (le-ltb e.0.len g.0.len le) refl

      shorter : (e.0.len == n) ≡ false → f.0.len ≡ n → e.0.len < f.0.len
      shorter other is = let apart = unequal e n other in omega (arith, below.0)

      by : (b : Bool) → (e.0.len == n) ≡ b → cond b (Some e) (find (has_length n) es) ≡ Some f → (find (has_length n) es ≡ Some f → longest es ≡ Some f) → Some (longer e (longest es)) ≡ Some f
      by true same is more = ap Some (by_long (longest es) (longest-below (suc n) es below.1) (eqb-true e.0.len n same)) ∙ is
      by false other is more = ap (λ o. Some (longer e o)) (more is) ∙ rw (lt-ltb e.0.len f.0.len (shorter other (eqb-true f.0.len n (find_passes (has_length n) es f is)))) refl

  by_length : (n : ℕ) (es : List (Routed N)) → Below n es → first_below es n ≡ longest es
  by_length zero [] below = refl
  by_length zero (e ∷ es) below = absurd (omega (arith, below.0))
  by_length (suc n) es below = by (find (has_length n) es) refl (by_length n es)
    where
      by : (o : Option (Routed N)) → find (has_length n) es ≡ o → (Below n es → first_below es n ≡ longest es) → option_or o (first_below es n) ≡ longest es
      by None none more = more (shrink n es below none)
      by (Some f) is more = sym (longest-first n es f below is)

-- ---- one look-up for each length

module _ {N : Type 0} (test : TargetOf N → Bool) (ip : Ip4) where
  abbrev passes : Routed N → Bool
  passes e = test e.1 && covers_ip ip e

  -- a route of that length that covers the address leads to the network in which it lies
  apart : (n : ℕ) (e : Routed N) → is_at (prefix_cmp (network_at test ip n)) e.0 ≡ false → passes e ≡ true → (e.0.len == n) ≡ false
  unfolding lies_in
  apart n e other pass = false_from_ne_true (e.0.len == n) (λ same.
      let is : network_at test ip n ≡ e.0 = prefix-covers ip (network_at test ip n) e.0 (sym (eqb-true e.0.len n same)) (eq-eqb (network_of ip n).0 (network_of ip n).0 refl) (and_parts (test e.1) _ pass).1 in
      false≢true (sym other ∙ ap (λ k. is_at (prefix_cmp (network_at test ip n)) k) (sym is) ∙ prefix_ties (network_at test ip n)))

  found-none : (n : ℕ) (es : List (Routed N)) → value_at (is_at (prefix_cmp (network_at test ip n))) es ≡ None → find (has_length n) (filter passes es) ≡ None
  found-none n [] none = refl
  found-none n (e ∷ es) none = by (is_at (prefix_cmp (network_at test ip n)) e.0) refl none (found-none n es)
    where
      by_pass : is_at (prefix_cmp (network_at test ip n)) e.0 ≡ false → (b : Bool) → passes e ≡ b → find (has_length n) (filter passes es) ≡ None → find (has_length n) (cond b (e ∷ filter passes es) (filter passes es)) ≡ None
      by_pass other true pass more = rw (apart n e other pass) more
      by_pass other false fail more = more

      by : (b : Bool) → is_at (prefix_cmp (network_at test ip n)) e.0 ≡ b → cond b (Some e.1) (value_at (is_at (prefix_cmp (network_at test ip n))) es) ≡ None
          → (value_at (is_at (prefix_cmp (network_at test ip n))) es ≡ None → find (has_length n) (filter passes es) ≡ None) → find (has_length n) (filter passes (e ∷ es)) ≡ None
      by true here none more = cc
      by false other none more = by_pass other (passes e) refl (more none)

  found : (n : ℕ) (es : List (Routed N)) → IsDistinct (λ a b. is_eq (prefix_cmp a b)) (keys_of es) → find (has_length n) (filter passes es) ≡ of_length test ip es n
  unfolding IsDistinct lies_in
  found n [] distinct = refl
  found n (e ∷ es) distinct = by (is_at (prefix_cmp at) e.0) refl (found n es distinct.1)
    where
      at : Prefix
      at = network_at test ip n

      by_test : e.0 ≡ at → (b : Bool) → find (has_length n) (cond (b && covers_ip ip e) (e ∷ filter passes es) (filter passes es)) ≡ cond b (Some (at, e.1)) None
      by_test is true =
          let covers : covers_ip ip e ≡ true = ap (λ k. lies_in ip k) is ∙ eq-eqb (network_of ip n).0 (network_of ip n).0 refl in
          let long : (e.0.len == n) ≡ true = eq-eqb e.0.len n (ap (λ (k : Prefix). k.len) is) in
          rw covers (rw long (λ i. Some (is i, e.1)))
      by_test is false = found-none n es (rw (← is) (none_at e.0 es distinct.0))

      by_pass : is_at (prefix_cmp at) e.0 ≡ false → (b : Bool) → passes e ≡ b → find (has_length n) (filter passes es) ≡ of_length test ip es n → find (has_length n) (cond b (e ∷ filter passes es) (filter passes es)) ≡ of_length test ip es n
      by_pass other true pass more = rw (apart n e other pass) more
      by_pass other false fail more = more

      by : (b : Bool) → is_at (prefix_cmp at) e.0 ≡ b → find (has_length n) (filter passes es) ≡ of_length test ip es n → find (has_length n) (filter passes (e ∷ es)) ≡ passing test ip at (cond b (Some e.1) (value_at (is_at (prefix_cmp at)) es))
      by true here more = by_test (sym (prefix-exact at e.0 here)) (test e.1)
      by false other more = by_pass other (passes e) refl more

  -- the search goes through the lengths
  searches : (n : ℕ) (es : List (Routed N)) → IsDistinct (λ a b. is_eq (prefix_cmp a b)) (keys_of es) → shorter_than test ip es n ≡ first_below (filter passes es) n
  unfolding shorter_than
  searches zero es distinct = refl
  searches (suc n) es distinct = ap₂ option_or (sym (found n es distinct)) (searches n es distinct)

  short : (es : List (Routed N)) → list_all is_network (keys_of es) ≡ true → Below 33 (filter passes es)
  short [] all = tt
  short (e ∷ es) all = by (passes e) (short es parts.1)
    where
      parts : (is_network e.0 ≡ true) × (list_all is_network (keys_of es) ≡ true)
      parts = and_parts (is_network e.0) _ all

      by : (b : Bool) → Below 33 (filter passes es) → Below 33 (cond b (e ∷ filter passes es) (filter passes es))
      by true more = let le = leb-true e.0.len 32 (and_parts _ _ parts.0).0 in (omega arith, more)
      by false more = more

  -- and it finds the longest
  pub search-longest : (es : List (Routed N)) → are_routes es ≡ true → shorter_than test ip es 33 ≡ longest_among test ip es
  unfolding are_routes
  search-longest es right =
      let parts = and_parts (are_rising prefix_cmp (keys_of es)) _ right in
      searches 33 es (IsDistinct-from_sorted prefix_cmp (keys_of es) (IsStrictlySortedBy-from_rising prefix_cmp (keys_of es) parts.0))
      ∙ by_length 33 (filter passes es) (short es parts.1)

  -- one length after another
  searched : (es : List (Routed N)) (n m : ℕ) → n ≡ suc m → shorter_than test ip es n ≡ option_or (of_length test ip es m) (shorter_than test ip es m)
  unfolding shorter_than
  searched es n m is = rw is refl

  searched-none : (es : List (Routed N)) (n : ℕ) → n ≡ 0 → shorter_than test ip es n ≡ None
  unfolding shorter_than
  searched-none es n none = rw none refl

  module _ {A : Type 0} (f : Routed N → A) (es : List (Routed N)) (n : ℕ) (so_far : shorter_than test ip es 33 ≡ shorter_than test ip es n) where
    -- what is found at a length is the longest, where nothing longer was found
    pub longest-at : (m : ℕ) → n ≡ suc m → are_routes es ≡ true → (a : A) → Some a ≡ option_map f (of_length test ip es m) → Some a ≡ option_map f (longest_among test ip es)
    longest-at m is right a at = by (of_length test ip es m) at (searched es n m is)
      where
        by : (o : Option (Routed N)) → Some a ≡ option_map f o → shorter_than test ip es n ≡ option_or o (shorter_than test ip es m) → Some a ≡ option_map f (longest_among test ip es)
        by None at found = cc
        by (Some e) at found = at ∙ ap (option_map f) (sym found ∙ sym so_far ∙ search-longest es right)

    -- where nothing is found at a length, the search goes on
    pub none-at : (m : ℕ) → n ≡ suc m → None ≡ option_map f (of_length test ip es m) → shorter_than test ip es 33 ≡ shorter_than test ip es m
    none-at m is at = by (of_length test ip es m) at (searched es n m is)
      where
        by : (o : Option (Routed N)) → None ≡ option_map f o → shorter_than test ip es n ≡ option_or o (shorter_than test ip es m) → shorter_than test ip es 33 ≡ shorter_than test ip es m
        by None at found = so_far ∙ found
        by (Some e) at found = cc

    -- where no length is left, none covers the address
    pub none-left : n ≡ 0 → are_routes es ≡ true → None ≡ option_map f (longest_among test ip es)
    none-left is right = ap (option_map f) (sym (searched-none es n is) ∙ sym so_far ∙ search-longest es right)

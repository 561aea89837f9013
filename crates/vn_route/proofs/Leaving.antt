-- Gateway routes that stand on no interface route any more are taken out one after another.
use Rattle.std.proofs.Common.{◌≡◌, Bool, true, false, cond, not, ◌&&◌, ◌||◌, List, [], ◌∷◌, Option, Some, None, IsSome, is_some, suc, ◌<◌, length, refl, sym, subst, ap, ◌∙◌, arith}
use Rattle.std.specs.List.{Contains, list_any, filter, find}
use Rattle.std.specs.Option.{option_map, unwrap_or}
use Rattle.std.specs.Map.{keys_of, lookup as value_at, remove_entry}
use Rattle.std.specs.BTreeMap.{is_at}
use Rattle.std.proofs.lemmas.Bool.{and_parts, false≢true}
use Rattle.std.proofs.lemmas.List.Elements.{Contains-append_left, Contains-append_right}
use Rattle.vn_types.specs.declared.address.Ip4.{Ip4}
use Rattle.vn_types.specs.declared.address.Prefix.{Prefix}
use Rattle.vn_types.specs.declared.interface.IfOf.{IfOf}
use Rattle.vn_types.specs.declared.interface.IfOf.TheVariants.{Half}
use Rattle.vn_types.specs.Interfaces.{if_same}
use Rattle.vn_rules.specs.declared.route.TargetOf.{TargetOf}
use Rattle.vn_rules.specs.declared.route.TargetOf.TheVariants.{Link, Gateway}
use Rattle.vn_rules.specs.Networks.{lies_in}
use Rattle.vn_rules.specs.Orders.{are_rising, are_routes}
use Rattle.vn_rules.specs.Routes.{Routed, prefix_cmp, route_at, longest, longest_among, is_link_on, covers, is_stranded, without_stranded}
use Rattle.vn_rules.proofs.ListTests.{absent-none, all_kept, find_passes}
use Rattle.vn_rules.proofs.OrderLaws.{prefix_cmp_total}
use Rattle.vn_rules.proofs.RouteChoice.{route_at-stands}
use Rattle.vn_route.specs.Behind.{is_behind}
use Rattle.vn_route.proofs.Behind.{next-follows}

-- ---- lists

module _ {X : Type 0} (p : X → Bool) where
  found-stands : (xs : List X) (x : X) → find p xs ≡ Some x → Contains xs x
  found-stands [] x is = cc
  found-stands (y ∷ ys) x is = by (p y) is (found-stands ys x)
    where
      by : (b : Bool) → cond b (Some y) (find p ys) ≡ Some x → (find p ys ≡ Some x → Contains ys x) → Contains (y ∷ ys) x
      by true is more = Contains-append_left (y ∷ []) ys x (0, omega arith, (let same : y ≡ x = cc in same))
      by false is more = Contains-append_right (y ∷ []) ys x (more is)

module _ {K V : Type 0} (test : K → Bool) (p : K × V → Bool) where
  -- an entry that fails a test is of no account to it
  any-remove : (es : List (K × V)) (v : V) → value_at test es ≡ Some v → ((k : K) → p (k, v) ≡ false) → list_any p (remove_entry test es) ≡ list_any p es
  any-remove [] v is fails = refl
  any-remove (e ∷ es) v is fails = by (test e.0) is (any-remove es v)
    where
      by : (b : Bool) → cond b (Some e.1) (value_at test es) ≡ Some v → (value_at test es ≡ Some v → ((k : K) → p (k, v) ≡ false) → list_any p (remove_entry test es) ≡ list_any p es)
          → list_any p (cond b es (e ∷ remove_entry test es)) ≡ (p e || list_any p es)
      by true is more = let same : v ≡ e.1 = ap (λ o. unwrap_or o v) (sym is) in rw (sym (ap (λ w. p (e.0, w)) same) ∙ fails e.0) refl
      by false is more = ap (λ b. p e || b) (more is fails)

  filter-remove : (es : List (K × V)) (v : V) → value_at test es ≡ Some v → ((k : K) → p (k, v) ≡ false) → filter p (remove_entry test es) ≡ filter p es
  filter-remove [] v is fails = refl
  filter-remove (e ∷ es) v is fails = by (test e.0) is (filter-remove es v)
    where
      by : (b : Bool) → cond b (Some e.1) (value_at test es) ≡ Some v → (value_at test es ≡ Some v → ((k : K) → p (k, v) ≡ false) → filter p (remove_entry test es) ≡ filter p es)
          → filter p (cond b es (e ∷ remove_entry test es)) ≡ cond (p e) (e ∷ filter p es) (filter p es)
      by true is more = let same : v ≡ e.1 = ap (λ o. unwrap_or o v) (sym is) in rw (sym (ap (λ w. p (e.0, w)) same) ∙ fails e.0) refl
      by false is more = ap (λ rest. cond (p e) (e ∷ rest) rest) (more is fails)

module _ {K V : Type 0} (test : K → Bool) where
  -- there are fewer where one is taken out
  pub fewer : (es : List (K × V)) → IsSome (value_at test es) → length (remove_entry test es) < length es
  fewer [] there = absurd (false≢true there)
  fewer (e ∷ es) there = by (test e.0) there (fewer es)
    where
      by : (b : Bool) → IsSome (cond b (Some e.1) (value_at test es)) → (IsSome (value_at test es) → length (remove_entry test es) < length es) → length (cond b es (e ∷ remove_entry test es)) < suc (length es)
      by true there more = omega arith
      by false there more = let less = more there in omega arith

-- ---- routes

rising : {N : Type 0} (es : List (Routed N)) → are_routes es ≡ true → are_rising prefix_cmp (keys_of es) ≡ true
unfolding are_routes
rising es right = (and_parts (are_rising prefix_cmp (keys_of es)) _ right).0

module _ {N : Type 0} (same : N → N → Bool) where
  -- an interface route covers the address where the longest of them is found
  pub covers-longest : {A : Type 0} (f : Routed N → A) (on : IfOf N) (ip : Ip4) (es : List (Routed N)) → is_some (option_map f (longest_among (is_link_on same on) ip es)) ≡ covers same on ip es
  unfolding covers
  covers-longest {A} f on ip es = by_list es
    where
      p : Routed N → Bool
      p e = is_link_on same on e.1 && lies_in ip e.0

      by_list : (es : List (Routed N)) → is_some (option_map f (longest (filter p es))) ≡ list_any p es
      by_list [] = refl
      by_list (e ∷ es) = by (p e) (by_list es)
        where
          by : (b : Bool) → is_some (option_map f (longest (filter p es))) ≡ list_any p es → is_some (option_map f (longest (cond b (e ∷ filter p es) (filter p es)))) ≡ (b || list_any p es)
          by true more = refl
          by false more = more

  module _ (on : IfOf N) where
    no_link : (es : List (Routed N)) (other : IfOf N) (t : TargetOf N) → is_stranded same on es t ≡ true → is_link_on same other t ≡ false
    no_link es other (Link own) is = cc
    no_link es other (Gateway via half) is = refl

    covers-remove : (test : Prefix → Bool) (es : List (Routed N)) (t : TargetOf N) → value_at test es ≡ Some t → is_stranded same on es t ≡ true → (other : IfOf N) (ip : Ip4) → covers same other ip (remove_entry test es) ≡ covers same other ip es
    unfolding covers
    covers-remove test es t is stranded other ip =
        any-remove test (λ (e : Routed N). is_link_on same other e.1 && lies_in ip e.0) es t is (λ k. ap (λ b. b && lies_in ip k) (no_link es other t stranded))

    stranded-remove : (test : Prefix → Bool) (es : List (Routed N)) (t : TargetOf N) → value_at test es ≡ Some t → is_stranded same on es t ≡ true → (u : TargetOf N) → is_stranded same on (remove_entry test es) u ≡ is_stranded same on es u
    stranded-remove test es t is stranded (Link own) = refl
    stranded-remove test es t is stranded (Gateway via half) = ap (λ b. if_same same (Half half) on && not b) (covers-remove test es t is stranded (Half half) via)

    -- one that is taken out is none that stays
    removed : (test : Prefix → Bool) (es : List (Routed N)) (t : TargetOf N) → value_at test es ≡ Some t → is_stranded same on es t ≡ true → without_stranded same on (remove_entry test es) ≡ without_stranded same on es
    removed test es t is stranded =
        ap (λ (g : Routed N → Bool). filter (λ e. not (g e)) (remove_entry test es)) (λ i e. stranded-remove test es t is stranded e.1 i)
        ∙ filter-remove test (λ (e : Routed N). not (is_stranded same on es e.1)) es t is (λ k. ap not stranded)

    abbrev stranded_in : List (Routed N) → Routed N → Bool
    stranded_in es e = is_stranded same on es e.1

    abbrev gone : Prefix → List (Routed N) → List (Routed N)
    gone to es = remove_entry (is_at (prefix_cmp to)) es

    -- what holds after the first of them is taken out
    pub record IsOneLess (to : Prefix) (es : List (Routed N)) : Type 0 where
      pub same_stay : without_stranded same on (gone to es) ≡ without_stranded same on es
      pub was_there : IsSome (route_at to es)
      pub next_behind : find (stranded_in (gone to es)) (gone to es) ≡ find (λ (e : Routed N). is_behind (Some to) e.0 && stranded_in (gone to es) e) (gone to es)

    pub stranded-removed : (es : List (Routed N)) (to : Prefix) → are_routes es ≡ true → Some to ≡ option_map (λ (e : Routed N). e.0) (find (stranded_in es) es) → IsOneLess to es
    stranded-removed es to right found = by (find (stranded_in es) es) refl found
      where
        by : (o : Option (Routed N)) → find (stranded_in es) es ≡ o → Some to ≡ option_map (λ (e : Routed N). e.0) o → IsOneLess to es
        by None none is = cc
        by (Some e) found is = subst (λ k. IsOneLess k es) at (record {
          same_stay = removed (is_at (prefix_cmp e.0)) es e.1 there stranded;
          was_there = ap is_some there;
          next_behind = ap (λ (f : Routed N → Bool). find f (gone e.0 es)) tests
              ∙ next-follows prefix_cmp prefix_cmp_total (stranded_in es) es e (rising es right) found
              ∙ sym (ap (λ (f : Routed N → Bool). find (λ (x : Routed N). is_behind (Some e.0) x.0 && f x) (gone e.0 es)) tests);
        })
          where
            at : e.0 ≡ to
            at = sym (ap (λ o. unwrap_or o to) is)

            there : route_at e.0 es ≡ Some e.1
            there = route_at-stands es right e (found-stands (stranded_in es) es e found)

            stranded : is_stranded same on es e.1 ≡ true
            stranded = find_passes (stranded_in es) es e found

            tests : stranded_in (gone e.0 es) ≡ stranded_in es
            tests = λ i x. stranded-remove (is_at (prefix_cmp e.0)) es e.1 there stranded x.1 i

    -- where there is none, all stay
    pub none-stranded : (es : List (Routed N)) → None ≡ option_map (λ (e : Routed N). e.0) (find (stranded_in es) es) → es ≡ without_stranded same on es
    none-stranded es none = by (find (stranded_in es) es) refl none
      where
        by : (o : Option (Routed N)) → find (stranded_in es) es ≡ o → None ≡ option_map (λ (e : Routed N). e.0) o → es ≡ without_stranded same on es
        by None is none = sym (all_kept (stranded_in es) es (absent-none (stranded_in es) es is))
        by (Some e) is none = cc

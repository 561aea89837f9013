-- Routes stay in order, each under the prefix of a network, where one is added or deleted.
use Rattle.std.proofs.Common.{◌≡◌, Bool, true, false, cond, List, [], ◌∷◌, refl}
use Rattle.std.specs.List.{list_all}
use Rattle.std.specs.Ordering.{match_ordering, is_lt}
use Rattle.std.specs.declared.cmp.Ordering.{Ordering}
use Rattle.std.specs.declared.cmp.Ordering.TheVariants.{Less, Equal, Greater}
use Rattle.std.specs.Map.{keys_of, remove_entry}
use Rattle.std.specs.BTreeMap.{insert_entry}
use Rattle.std.proofs.lemmas.Bool.{and_parts, and_from}
use Rattle.vn_types.specs.declared.address.Prefix.{Prefix}
use Rattle.vn_types.proofs.EntryLaws.{IsStrictlySortedBy-insert_entry}
use Rattle.vn_rules.specs.declared.route.TargetOf.{TargetOf}
use Rattle.vn_rules.specs.Networks.{is_network}
use Rattle.vn_rules.specs.Orders.{are_rising, are_routes}
use Rattle.vn_rules.specs.Routes.{Routed, prefix_cmp}
use Rattle.vn_rules.proofs.OrderLaws.{prefix_cmp_total, IsStrictlySortedBy-from_rising, rising_from_sorted}

module _ {K V : Type 0} (cmp : K → K → Ordering) (p : K → Bool) where
  -- what holds of each key and of a new one holds after it is put in
  keys_pass-insert : (k : K) (v : V) (es : List (K × V)) → p k ≡ true → list_all p (keys_of es) ≡ true → list_all p (keys_of (insert_entry cmp es k v)) ≡ true
  keys_pass-insert k v [] here all = and_from (p k) true here refl
  keys_pass-insert k v (e ∷ es) here all = let parts = and_parts (p e.0) _ all in by (cmp k e.0) parts.0 (keys_pass-insert k v es here parts.1)
    where
      by : (r : Ordering) → p e.0 ≡ true → list_all p (keys_of (insert_entry cmp es k v)) ≡ true → list_all p (keys_of (match_ordering r ((k, v) ∷ e ∷ es) ((e.0, v) ∷ es) (e ∷ insert_entry cmp es k v))) ≡ true
      by Less first more = and_from (p k) _ here all
      by Equal first more = all
      by Greater first more = and_from (p e.0) _ first more

module _ {K V : Type 0} (test p : K → Bool) where
  -- what holds of each key holds where an entry is taken out
  keys_pass-remove : (es : List (K × V)) → list_all p (keys_of es) ≡ true → list_all p (keys_of (remove_entry test es)) ≡ true
  keys_pass-remove [] all = refl
  keys_pass-remove (e ∷ es) all = let parts = and_parts (p e.0) _ all in by (test e.0) parts.0 parts.1 (keys_pass-remove es parts.1)
    where
      by : (b : Bool) → p e.0 ≡ true → list_all p (keys_of es) ≡ true → list_all p (keys_of (remove_entry test es)) ≡ true → list_all p (keys_of (cond b es (e ∷ remove_entry test es))) ≡ true
      by true first rest more = rest
      by false first rest more = and_from (p e.0) _ first more

rising-remove : {K V : Type 0} (cmp : K → K → Ordering) (test : K → Bool) (es : List (K × V)) → are_rising cmp (keys_of es) ≡ true → are_rising cmp (keys_of (remove_entry test es)) ≡ true
rising-remove cmp test [] rising = refl
rising-remove {K} {V} cmp test (e ∷ es) rising = by (test e.0) (rising-remove cmp test es parts.1)
  where
    above : K → Bool
    above q = is_lt (cmp e.0 q)

    parts : (list_all above (keys_of es) ≡ true) × (are_rising cmp (keys_of es) ≡ true)
    parts = and_parts (list_all above (keys_of es)) _ rising

    by : (b : Bool) → are_rising cmp (keys_of (remove_entry test es)) ≡ true → are_rising cmp (keys_of (cond b es (e ∷ remove_entry test es))) ≡ true
    by true more = parts.1
    by false more = and_from _ _ (keys_pass-remove test above es parts.0) more

module _ {N : Type 0} where
  -- there are none
  pub are_routes-none : (routes : List (Routed N)) → routes ≡ [] → are_routes routes ≡ true
  unfolding are_routes
  are_routes-none routes none = rw none refl

  -- a route to a network is added, or leads elsewhere
  pub are_routes-insert : (to : Prefix) (target : TargetOf N) (routes : List (Routed N)) → is_network to ≡ true → are_routes routes ≡ true → are_routes (insert_entry prefix_cmp routes to target) ≡ true
  unfolding are_routes
  are_routes-insert to target routes network right =
      let parts = and_parts (are_rising prefix_cmp (keys_of routes)) _ right in
      and_from _ _
      (rising_from_sorted prefix_cmp _ (IsStrictlySortedBy-insert_entry prefix_cmp prefix_cmp_total to target routes (IsStrictlySortedBy-from_rising prefix_cmp _ parts.0)))
      (keys_pass-insert prefix_cmp is_network to target routes network parts.1)

  -- a route is deleted
  pub are_routes-remove : (test : Prefix → Bool) (routes : List (Routed N)) → are_routes routes ≡ true → are_routes (remove_entry test routes) ≡ true
  unfolding are_routes
  are_routes-remove test routes right =
      let parts = and_parts (are_rising prefix_cmp (keys_of routes)) _ right in
      and_from _ _ (rising-remove prefix_cmp test routes parts.0) (keys_pass-remove test is_network routes parts.1)

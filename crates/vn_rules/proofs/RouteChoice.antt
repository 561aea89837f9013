-- The route that is chosen for an address: the longest that covers it, and there is one or none.
use Rattle.std.proofs.Common.{◌≡◌, ◌≤◌, Bool, true, false, cond, nat_lt, List, [], ◌∷◌, Option, Some, None, refl, sym, ap, ◌∙◌, arith}
use Rattle.std.specs.List.{All, Contains, filter}
use Rattle.std.specs.Option.{MatchOption, IfSome, IfNone, unwrap_or}
use Rattle.std.specs.Cmp.{Equal-is}
use Rattle.std.specs.Ordering.{nat_cmp}
use Rattle.std.specs.Map.{keys_of}
use Rattle.std.specs.BTreeMap.{is_at}
use Rattle.std.proofs.lemmas.Bool.{eqb-true, ltb-true, ltb-false, false≢true, false_from_ne_true, and_parts}
use Rattle.std.proofs.lemmas.Cmp.{eq_by_cmp_equiv}
use Rattle.std.proofs.lemmas.List.Elements.{All-from_recursion, recursion_from_All, All-nil, All-cons, All-weaker, All-contains, All-filter, All-contains_itself, filter_passes, Contains-append_right}
use Rattle.std.proofs.lemmas.Map.Keys.{IsDistinct-from_sorted}
use Rattle.std.proofs.lemmas.Map.Lookups.{exact_pairs, exact_unsigned}
use Rattle.std.proofs.lemmas.Map.Views.{lookup-from_Contains}
use Rattle.vn_types.specs.declared.address.Ip4.{Ip4}
use Rattle.vn_types.specs.declared.address.Prefix.{Prefix}
use Rattle.vn_rules.specs.Networks.{network_of, lies_in}
use Rattle.vn_rules.specs.Orders.{are_rising, are_routes}
use Rattle.vn_rules.specs.Routes.{Routed, prefix_cmp, route_at, covers_ip, longer, longest, lookup, IsLongest}
use Rattle.vn_rules.proofs.OrderLaws.{prefix_cmp_total, IsStrictlySortedBy-from_rising}
use Rattle.vn_rules.proofs.TimerOrder.{Contains-first, unfiltered}

-- prefixes that the order finds equal are one
pub prefix-exact : (a b : Prefix) → is_at (prefix_cmp a) b ≡ true → a ≡ b
prefix-exact a b at =
    let same = exact_pairs nat_cmp nat_cmp exact_unsigned exact_unsigned (a.net.0, a.len) (b.net.0, b.len) ((Equal-is (prefix_cmp a b)).0 at) in
    λ i. record { net = record { 0 = (same i).0 }; len = (same i).1 }

-- prefixes of one length that cover one address are one
pub prefix-covers : (ip : Ip4) (a b : Prefix) → a.len ≡ b.len → lies_in ip a ≡ true → lies_in ip b ≡ true → a ≡ b
unfolding lies_in
prefix-covers ip a b same at bt =
    let net : a.net.0 ≡ b.net.0 =
    sym (eqb-true (network_of ip a.len).0 a.net.0 at) ∙ ap (λ n. (network_of ip n).0) same ∙ eqb-true (network_of ip b.len).0 b.net.0 bt in
    λ i. record { net = record { 0 = net i }; len = same i }

module _ {N : Type 0} where
  -- no prefix stands twice: what stands is what is found at its prefix
  pub route_at-stands : (routes : List (Routed N)) → are_routes routes ≡ true → (e : Routed N) → Contains routes e → route_at e.0 routes ≡ Some e.1
  unfolding are_routes
  route_at-stands routes right e stands =
      lookup-from_Contains (eq_by_cmp_equiv prefix_cmp_total) e.0 e.1 routes
      (IsDistinct-from_sorted prefix_cmp (keys_of routes) (IsStrictlySortedBy-from_rising prefix_cmp (keys_of routes) (and_parts (are_rising prefix_cmp (keys_of routes)) _ right).0)) stands

  -- e is in the list, and nothing of the list is longer
  record IsLongestOf (es : List (Routed N)) (e : Routed N) : Type 0 where
    stands : Contains es e
    bound : All (λ (f : Routed N). f.0.len ≤ e.0.len) es

  longest-is : (es : List (Routed N)) → MatchOption (longest es) (es ≡ []) (IsLongestOf es)
  longest-is [] = refl
  longest-is (e ∷ es) = by (longest es) (longest-is es)
    where
      by_test : (f : Routed N) → IsLongestOf es f → (b : Bool) → nat_lt e.0.len f.0.len ≡ b → IsLongestOf (e ∷ es) (cond b f e)
      by_test f is true less = record {
        stands = Contains-append_right (e ∷ []) es f is.stands;
        bound = let lt = ltb-true e.0.len f.0.len less in All-cons (λ (g : Routed N). g.0.len ≤ f.0.len) e es (omega arith) is.bound;
      }
      by_test f is false not_less = record {
        stands = Contains-first e es;
        bound = let le = ltb-false e.0.len f.0.len not_less in All-cons (λ (g : Routed N). g.0.len ≤ e.0.len) e es (omega arith)
            (All-weaker (λ (g : Routed N). g.0.len ≤ f.0.len) (λ (g : Routed N). g.0.len ≤ e.0.len) (λ g more. omega arith) es is.bound);
      }

      by : (o : Option (Routed N)) → MatchOption o (es ≡ []) (IsLongestOf es) → IsLongestOf (e ∷ es) (longer e o)
      by None none = record {
        stands = Contains-first e es;
        bound = All-cons (λ (g : Routed N). g.0.len ≤ e.0.len) e es (omega arith) (rw none (All-nil (λ (g : Routed N). g.0.len ≤ e.0.len)));
      }
      by (Some f) is = by_test f is (nat_lt e.0.len f.0.len) refl

  module _ (ip : Ip4) (routes : List (Routed N)) where
    lookup-is : MatchOption (lookup ip routes) (All (λ (f : Routed N). covers_ip ip f ≡ false) routes) (IsLongest ip routes)
    lookup-is = by (longest (filter (covers_ip ip) routes)) (longest-is (filter (covers_ip ip) routes))
      where
        by : (o : Option (Routed N)) → MatchOption o (filter (covers_ip ip) routes ≡ []) (IsLongestOf (filter (covers_ip ip) routes)) → MatchOption o (All (λ (f : Routed N). covers_ip ip f ≡ false) routes) (IsLongest ip routes)
        by None none = All-weaker (λ (f : Routed N). covers_ip ip f ≡ true → ⊥) (λ (f : Routed N). covers_ip ip f ≡ false) (λ f not. false_from_ne_true (covers_ip ip f) not) routes
            (All-from_recursion _ routes (unfiltered (covers_ip ip) (λ _. ⊥) routes (rw none tt)))
        by (Some e) is = record {
          stands = All-contains (Contains routes) _ e (All-filter (covers_ip ip) (Contains routes) routes (All-contains_itself routes)) is.stands;
          covers = All-contains (λ (f : Routed N). covers_ip ip f ≡ true) _ e (filter_passes (covers_ip ip) routes) is.stands;
          is_longest = All-from_recursion _ routes (unfiltered (covers_ip ip) (λ (f : Routed N). f.0.len ≤ e.0.len) routes (recursion_from_All _ _ is.bound));
        }

    -- what is found is the longest that covers the address
    pub lookup-longest : IfSome (lookup ip routes) (IsLongest ip routes)
    lookup-longest = by (lookup ip routes) lookup-is
      where
        by : (o : Option (Routed N)) → MatchOption o (All (λ (f : Routed N). covers_ip ip f ≡ false) routes) (IsLongest ip routes) → IfSome o (IsLongest ip routes)
        by None none = tt
        by (Some e) is = is

    -- where none is found, none covers it
    pub lookup-none : IfNone (lookup ip routes) (All (λ (f : Routed N). covers_ip ip f ≡ false) routes)
    lookup-none = by (lookup ip routes) lookup-is
      where
        by : (o : Option (Routed N)) → MatchOption o (All (λ (f : Routed N). covers_ip ip f ≡ false) routes) (IsLongest ip routes) → IfNone o (All (λ (f : Routed N). covers_ip ip f ≡ false) routes)
        by None none = none
        by (Some e) is = tt

    -- none is longer than another
    not_longer : (e f : Routed N) → IsLongest ip routes e → IsLongest ip routes f → e.0.len ≤ f.0.len
    not_longer e f ei fi = All-contains (λ (g : Routed N). covers_ip ip g ≡ true → g.0.len ≤ f.0.len) routes e fi.is_longest ei.stands ei.covers

    -- there is one alone
    pub longest-one : are_routes routes ≡ true → (e f : Routed N) → IsLongest ip routes e → IsLongest ip routes f → e ≡ f
    longest-one right e f ei fi = λ i. (same i, target i)
      where
        same : e.0 ≡ f.0
        same = prefix-covers ip e.0 f.0 (omega (arith, not_longer e f ei fi, not_longer f e fi ei)) ei.covers fi.covers

        two : Some e.1 ≡ Some f.1
        two = sym (route_at-stands routes right e ei.stands) ∙ ap (λ k. route_at k routes) same ∙ route_at-stands routes right f fi.stands

        target : e.1 ≡ f.1
        target = ap (λ o. unwrap_or o e.1) two

    -- and it is what is found
    pub lookup-only : are_routes routes ≡ true → (e : Routed N) → IsLongest ip routes e → lookup ip routes ≡ Some e
    lookup-only right e is = by (lookup ip routes) lookup-is
      where
        by : (o : Option (Routed N)) → MatchOption o (All (λ (f : Routed N). covers_ip ip f ≡ false) routes) (IsLongest ip routes) → o ≡ Some e
        by None none = absurd (false≢true (sym (All-contains (λ (f : Routed N). covers_ip ip f ≡ false) routes e none is.stands) ∙ is.covers))
        by (Some f) longest = ap Some (longest-one right f e longest is)

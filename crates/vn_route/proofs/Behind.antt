-- The first entry that passes a test is taken out, and the next one stands behind it.
use Rattle.std.proofs.Common.{◌≡◌, Bool, true, false, cond, ◌&&◌, List, [], ◌∷◌, Option, Some, None, find, refl, sym, subst, ap, ap₂, ◌∙◌}
use Rattle.std.specs.List.{filter, list_all}
use Rattle.std.specs.Map.{keys_of, remove_entry}
use Rattle.std.specs.BTreeMap.{is_at}
use Rattle.std.specs.BTreeMap.Range.{entries_between, range_contains}
use Rattle.std.specs.Cmp.{IsTotalOrder, tied_itself}
use Rattle.std.specs.Ordering.{is_eq, is_lt, ordering_reverse}
use Rattle.std.specs.declared.cmp.Ordering.{Ordering}
use Rattle.std.specs.declared.cmp.Ordering.TheVariants.{Less, Equal, Greater}
use Rattle.std.specs.declared.ops.Bound.TheVariants.{Unbounded}
use Rattle.std.proofs.lemmas.Bool.{and_parts}
use Rattle.std.proofs.lemmas.List.Folds.{list_all-map}
use Rattle.vn_types.specs.declared.address.Prefix.{Prefix}
use Rattle.vn_rules.specs.Orders.{are_rising}
use Rattle.vn_rules.specs.Routes.{Routed, prefix_cmp}
use Rattle.vn_rules.proofs.ListTests.{find_all}
use Rattle.vn_route.specs.Behind.{bound_behind, is_behind}

-- what is found among the elements that a filter keeps
find-kept : {X : Type 0} (keep p : X → Bool) (xs : List X) → find p (filter keep xs) ≡ find (λ x. keep x && p x) xs
find-kept keep p [] = refl
find-kept keep p (x ∷ xs) = by (keep x) (find-kept keep p xs)
  where
    by : (b : Bool) → find p (filter keep xs) ≡ find (λ x. keep x && p x) xs → find p (cond b (x ∷ filter keep xs) (filter keep xs)) ≡ cond (b && p x) (Some x) (find (λ x. keep x && p x) xs)
    by true more = ap (λ o. cond (p x) (Some x) o) more
    by false more = more

and-true : (b : Bool) → (b && true) ≡ b
and-true true = refl
and-true false = refl

between-behind : (last : Option Prefix) (to : Prefix) → range_contains prefix_cmp (bound_behind last) Unbounded to ≡ is_behind last to
between-behind None to = refl
between-behind (Some before) to = and-true (is_lt (prefix_cmp before to))

-- what is found among the entries behind a prefix
pub found-between : {N : Type 0} (last : Option Prefix) (p : Routed N → Bool) (es : List (Routed N))
    → find p (entries_between prefix_cmp (bound_behind last) Unbounded es) ≡ find (λ (e : Routed N). is_behind last e.0 && p e) es
found-between {N} last p es =
    find-kept (λ (e : Routed N). range_contains prefix_cmp (bound_behind last) Unbounded e.0) p es
    ∙ ap (λ (f : Routed N → Bool). find f es) (λ i e. between-behind last e.0 i && p e)

turned : (o : Ordering) → is_lt o ≡ true → ordering_reverse o ≡ Greater
turned Less e = refl
turned Equal e = cc
turned Greater e = cc

module _ {K V : Type 0} (cmp : K → K → Ordering) (total : IsTotalOrder cmp) (p : K × V → Bool) where
  -- the entries without that of a key
  abbrev left : K → List (K × V) → List (K × V)
  left k es = remove_entry (is_at (cmp k)) es

  -- whether an entry passes and stands behind a key
  abbrev follows : K → K × V → Bool
  follows k e = is_lt (cmp k e.0) && p e

  all-follow : (k : K) (es : List (K × V)) → list_all (λ q. is_lt (cmp k q)) (keys_of es) ≡ true → find p es ≡ find (follows k) es
  all-follow k [] all = refl
  all-follow k (x ∷ xs) all =
      let parts = and_parts (is_lt (cmp k x.0)) _ all in
      ap₂ (λ b o. cond b (Some x) o) (sym (ap (λ b. b && p x) parts.0)) (all-follow k xs parts.1)

  pub next-follows : (es : List (K × V)) (e : K × V) → are_rising cmp (keys_of es) ≡ true → find p es ≡ Some e
      → find p (remove_entry (is_at (cmp e.0)) es) ≡ find (λ (x : K × V). is_lt (cmp e.0 x.0) && p x) (remove_entry (is_at (cmp e.0)) es)
  next-follows [] e rising found = refl
  next-follows (x ∷ xs) e rising found = by (p x) refl found (next-follows xs e (and_parts (list_all (λ q. is_lt (cmp x.0 q)) (keys_of xs)) _ rising).1)
    where
      above : list_all (λ q. is_lt (cmp x.0 q)) (keys_of xs) ≡ true
      above = (and_parts (list_all (λ q. is_lt (cmp x.0 q)) (keys_of xs)) _ rising).0

      first : left x.0 (x ∷ xs) ≡ xs
      first = ap (λ b. cond b xs (x ∷ left x.0 xs)) (ap is_eq (tied_itself total x.0))

      by : (b : Bool) → p x ≡ b → cond b (Some x) (find p xs) ≡ Some e → (find p xs ≡ Some e → find p (left e.0 xs) ≡ find (follows e.0) (left e.0 xs)) → find p (left e.0 (x ∷ xs)) ≡ find (follows e.0) (left e.0 (x ∷ xs))
      by true passes is more =
          let same : x ≡ e = cc in
          subst (λ (k : K × V). find p (left k.0 (x ∷ xs)) ≡ find (follows k.0) (left k.0 (x ∷ xs))) same
          (ap (find p) first ∙ all-follow x.0 xs above ∙ sym (ap (find (follows x.0)) first))
      by false fails is more =
          let before : is_lt (cmp x.0 e.0) ≡ true = find_all p (λ (y : K × V). is_lt (cmp x.0 y.0)) xs e is (sym (list_all-map (λ q. is_lt (cmp x.0 q)) (λ (y : K × V). y.0) xs) ∙ above) in
          let behind : cmp e.0 x.0 ≡ Greater = total.antisymm e.0 x.0 ∙ turned _ before in
          let rest : left e.0 (x ∷ xs) ≡ x ∷ left e.0 xs = ap (λ b. cond b xs (x ∷ left e.0 xs)) (ap is_eq behind) in
          ap (find p) rest
          ∙ ap (λ b. cond b (Some x) (find p (left e.0 xs))) fails
          ∙ more is
          ∙ sym (ap (find (follows e.0)) rest ∙ ap (λ o. cond (is_lt o && p x) (Some x) (find (follows e.0) (left e.0 xs))) behind)

-- The keys of one home are those between its lowest and its highest.
use Rattle.std.proofs.Common.{◌≡◌, ℕ, ◌+◌, ◌^◌, ◌<◌, ◌≤◌, false, ◌&&◌, not, cond, List, [], ◌∷◌, ◌++◌, map, Option, Some, None, IfSome, refl, sym, ap, ap₂, ◌∙◌, subst, arith}
use Rattle.std.specs.BTreeMap.Range.{entries_between}
use Rattle.std.specs.List.{AllByRecursion}
use Rattle.std.specs.Option.{option_map}
use Rattle.std.specs.Ordering.{is_eq, is_gt, is_le, is_lt, nat_cmp, ordering_reverse, ordering_then}
use Rattle.std.proofs.lemmas.List.{append-nil}
use Rattle.std.specs.declared.cmp.Ordering.{Ordering}
use Rattle.std.specs.declared.cmp.Ordering.TheVariants.{Less, Equal, Greater}
use Rattle.std.specs.declared.ops.Bound.TheVariants.{Included}
use Rattle.vn_types.specs.OctetOrder.{self_equal}
use Rattle.vn_types.specs.PathOrder.{path_ties, path_total}
use Rattle.vn_types.specs.Paths.{Path, Key, key_cmp, path_cmp, path_eq}
use Rattle.vn_types.proofs.Options.{none_some, some_same}
use Rattle.vn_epair.specs.Halves.{Pair}
use Rattle.vn_vmove.specs.Parts.{pair_at}
use Rattle.vn_kernel.specs.Fields.{Fields}
use Rattle.vn_kernel.specs.Naming.{key_by, key_in}
use Rattle.vn_kernel.specs.Removal.{homed_numbers}
use Rattle.vn_kernel.specs.Stands.{Stands}
use Rattle.vn_kernel.proofs.removing.Ending.{homed}

module _ (p : Path) where
  -- no path comes before itself
  self : path_cmp p p ≡ Equal
  self = self_equal (path_cmp p p) (path_total.antisymm p p)

  nat_order : (x y : ℕ) → x ≤ y → is_gt (nat_cmp x y) ≡ false
  nat_order x y le = grind (arith, le)

  -- the lowest key is not above the highest
  forward : (top : ℕ) → is_gt (key_cmp (p, 0) (p, top)) ≡ false
  unfolding key_cmp
  forward top = ap (λ r. is_gt (ordering_then r (nat_cmp 0 top))) self ∙ nat_order 0 top (omega arith)

  pub goes-forward : (top : ℕ) (first last : Key) → first ≡ (p, 0) → last ≡ (p, top) → is_gt (key_cmp first last) ≡ false
  goes-forward top first last low high = ap₂ (λ a b. is_gt (key_cmp a b)) low high ∙ forward top

  -- a key lies between them where its home is the path
  between : (top : ℕ) (k : Key) → k.1 ≤ top → (is_le (key_cmp (p, 0) k) && not (is_lt (key_cmp (p, top) k))) ≡ path_eq k.0 p
  unfolding key_cmp
  between top k le = by (path_cmp p k.0) (path_ties k.0 p ∙ ap is_eq (path_total.antisymm k.0 p))
    where
      by : (r : Ordering) → path_eq k.0 p ≡ is_eq (ordering_reverse r) → (is_le (ordering_then r (nat_cmp 0 k.1)) && not (is_lt (ordering_then r (nat_cmp top k.1)))) ≡ path_eq k.0 p
      by Less e = sym e
      by Greater e = sym e
      by Equal e = grind (arith, e, le)

module _ (f : Fields) (s : Stands f) (p : Path) where
  small : (n : ℕ) (k : Key) → key_in f n ≡ Some k → k.1 < 2 ^ 32
  unfolding key_in
  small n k is = by (pair_at f.tables n) is (s.small n)
    where
      by : (o : Option Pair) → option_map (key_by f.jails) o ≡ Some k → IfSome o (λ pair. pair.unit < 2 ^ 32) → k.1 < 2 ^ 32
      by None e all = absurd (none_some k e)
      by (Some pair) e all = subst (λ (key : Key). key.1 < 2 ^ 32) (some_same (key_by f.jails pair) k e) all

  homed-between : (top : ℕ) → top + 1 ≡ 2 ^ 32 → entries_between key_cmp (Included (p, 0)) (Included (p, top)) f.units ≡ homed p f.units
  homed-between top is = by f.units s.paired
    where
      by : (es : List (Key × ℕ)) → AllByRecursion (λ (e : Key × ℕ). key_in f e.1 ≡ Some e.0) es → entries_between key_cmp (Included (p, 0)) (Included (p, top)) es ≡ homed p es
      by [] all = refl
      by (e ∷ es) all = (λ i. cond (between p top e.0 (let n = small e.1 e.0 all.0 in omega (arith, is)) i) (e ∷ by es all.1 i) (by es all.1 i))

  -- of all items that were shown, the numbers
  pub numbers-between : {A : Type 0} (shows : A → Key × ℕ) (number : A → ℕ) → ((x : A) → number x ≡ (shows x).1) → (numbers : List ℕ) (found rest : List (Key × ℕ)) (items : List A)
      → numbers ≡ map number items → found ≡ map shows items ++ rest → rest ≡ [] → (first last : Key) (top : ℕ) → first ≡ (p, 0) → last ≡ (p, top) → top + 1 ≡ 2 ^ 32
      → found ≡ entries_between key_cmp (Included first) (Included last) f.units → numbers ≡ homed_numbers p f.units
  numbers-between {A = A} shows number same numbers found rest items are shown none first last top low high is ranged =
      are ∙ each items ∙ ap (map (λ (e : Key × ℕ). e.1)) (sym (shown ∙ ap (λ r. map shows items ++ r) none ∙ append-nil (map shows items)) ∙ ranged
      ∙ ap₂ (λ a b. entries_between key_cmp (Included a) (Included b) f.units) low high ∙ homed-between top is)
    where
      each : (xs : List A) → map number xs ≡ map (λ (e : Key × ℕ). e.1) (map shows xs)
      each [] = refl
      each (x ∷ xs) = ap₂ (λ n ns. n ∷ ns) (same x) (each xs)

-- An entry put into a list of entries that is in the order of its keys.
use Rattle.std.proofs.Common.{◌≡◌, false, List, [], ◌∷◌}
use Rattle.std.specs.Ordering.{is_eq, match_ordering}
use Rattle.std.specs.declared.cmp.Ordering.{Ordering}
use Rattle.std.specs.declared.cmp.Ordering.TheVariants.{Less, Equal, Greater}
use Rattle.std.specs.List.{AllByRecursion}
use Rattle.std.specs.List.Sorted.{IsPermutation}
use Rattle.std.specs.BTreeMap.{insert_entry}
use Rattle.std.proofs.lemmas.List.Sorted.{IsPermutation-refl, IsPermutation-sym, IsPermutation-cons, IsPermutation-trans, IsPermutation-middle}

module _ {K V : Type 0} (cmp : K → K → Ordering) where
  -- no entry has the key
  abbrev pub Lacks : K → List (K × V) → Type 0
  Lacks k es = AllByRecursion (λ (e : K × V). is_eq (cmp k e.0) ≡ false) es

  -- the entries and the new one, in some order
  pub IsPermutation-insert_entry : (k : K) (v : V) (es : List (K × V)) → Lacks k es → IsPermutation ((k, v) ∷ es) (insert_entry cmp es k v)
  IsPermutation-insert_entry k v [] lacks = IsPermutation-refl ((k, v) ∷ [])
  IsPermutation-insert_entry k v (e ∷ es) lacks = by (cmp k e.0) lacks.0 (IsPermutation-insert_entry k v es lacks.1)
    where
      by : (o : Ordering) → is_eq o ≡ false → IsPermutation ((k, v) ∷ es) (insert_entry cmp es k v) → IsPermutation ((k, v) ∷ e ∷ es) (match_ordering o ((k, v) ∷ e ∷ es) ((e.0, v) ∷ es) (e ∷ insert_entry cmp es k v))
      by Less apart more = IsPermutation-refl ((k, v) ∷ e ∷ es)
      by Equal apart more = cc
      by Greater apart more =
          IsPermutation-trans ((k, v) ∷ e ∷ es) (e ∷ (k, v) ∷ es) (e ∷ insert_entry cmp es k v)
          (IsPermutation-sym (e ∷ (k, v) ∷ es) ((k, v) ∷ e ∷ es) (IsPermutation-middle (e ∷ []) (k, v) es))
          (IsPermutation-cons e ((k, v) ∷ es) (insert_entry cmp es k v) more)

-- Entries under their keys whose values are mapped: what is inserted and removed goes through.
use Rattle.std.proofs.Common.{◌≡◌, Bool, true, false, cond, List, [], ◌∷◌, map, refl, ap}
use Rattle.std.specs.BTreeMap.{insert_entry}
use Rattle.std.specs.Map.{remove_entry}
use Rattle.std.specs.Ordering.{match_ordering}
use Rattle.std.specs.declared.cmp.Ordering.{Ordering}
use Rattle.std.specs.declared.cmp.Ordering.TheVariants.{Less, Equal, Greater}

module _ {K V W : Type 0} (g : V → W) where
  -- an entry whose value is mapped
  abbrev pub mapped : K × V → K × W
  mapped e = (e.0, g e.1)

  pub insert_entry-mapped : (cmp : K → K → Ordering) (es : List (K × V)) (k : K) (v : V) → insert_entry cmp (map mapped es) k (g v) ≡ map mapped (insert_entry cmp es k v)
  insert_entry-mapped cmp [] k v = refl
  insert_entry-mapped cmp (e ∷ es) k v = by (cmp k e.0) (insert_entry-mapped cmp es k v)
    where
      by : (o : Ordering) → insert_entry cmp (map mapped es) k (g v) ≡ map mapped (insert_entry cmp es k v)
          → match_ordering o ((k, g v) ∷ mapped e ∷ map mapped es) ((e.0, g v) ∷ map mapped es) (mapped e ∷ insert_entry cmp (map mapped es) k (g v))
          ≡ map mapped (match_ordering o ((k, v) ∷ e ∷ es) ((e.0, v) ∷ es) (e ∷ insert_entry cmp es k v))
      by Less more = refl
      by Equal more = refl
      by Greater more = ap (λ rest. mapped e ∷ rest) more

  pub remove_entry-mapped : (test : K → Bool) (es : List (K × V)) → remove_entry test (map mapped es) ≡ map mapped (remove_entry test es)
  remove_entry-mapped test [] = refl
  remove_entry-mapped test (e ∷ es) = by (test e.0) (remove_entry-mapped test es)
    where
      by : (b : Bool) → remove_entry test (map mapped es) ≡ map mapped (remove_entry test es)
          → cond b (map mapped es) (mapped e ∷ remove_entry test (map mapped es)) ≡ map mapped (cond b es (e ∷ remove_entry test es))
      by true more = refl
      by false more = ap (λ rest. mapped e ∷ rest) more

-- What holds of each entry of a list of keys with their values.
use Rattle.std.proofs.Common.{◌≡◌, List, [], ◌∷◌, refl, subst}
use Rattle.std.specs.List.{AllByRecursion}
use Rattle.std.specs.BTreeMap.{insert_entry}
use Rattle.std.specs.Ordering.{match_ordering}
use Rattle.std.specs.declared.cmp.Ordering.{Ordering}
use Rattle.std.specs.declared.cmp.Ordering.TheVariants.{Less, Equal, Greater}
use Rattle.vn_types.specs.Entries.{put}

module _ {K V : Type 0} (P : K × V → Type 0) where
  -- what holds of each entry holds of those that follow from it
  pub all_entries : (Q : K × V → Type 0) → ((e : K × V) → P e → Q e) → (es : List (K × V)) → AllByRecursion P es → AllByRecursion Q es
  all_entries Q follows [] all = tt
  all_entries Q follows (e ∷ es) all = (follows e all.0, all_entries Q follows es all.1)

  module _ (cmp : K → K → Ordering) (exact : (x y : K) → cmp x y ≡ Equal → x ≡ y) where
    -- and of one more that is put in
    pub all-put : (k : K) (v : V) → P (k, v) → (es : List (K × V)) → AllByRecursion P es → AllByRecursion P (put cmp k v es)
    unfolding put
    all-put k v here [] all = (here, tt)
    all-put k v here (e ∷ es) all = by (cmp k e.0) refl (all-put k v here es all.1)
      where
        by : (r : Ordering) → cmp k e.0 ≡ r → AllByRecursion P (insert_entry cmp es k v) → AllByRecursion P (match_ordering r ((k, v) ∷ e ∷ es) ((e.0, v) ∷ es) (e ∷ insert_entry cmp es k v))
        by Less is more = (here, all)
        by Equal is more = (subst (λ q. P (q, v)) (exact k e.0 is) here, all.1)
        by Greater is more = (all.0, more)

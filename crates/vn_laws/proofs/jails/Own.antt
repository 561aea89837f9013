-- What a stack's destructors change, but the one that sends halves home: the stack itself, and pairs that are homed there.
-- Whatever they clear is the stack's own, so nothing is asked of them.
use Rattle.std.proofs.Common.{◌≡◌, ℕ, Bool, true, false, ◌&&◌, ◌||◌, List, [], ◌∷◌, ◌++◌, cond, Option, Some, None, refl, sym, ap, ◌∙◌, subst}
use Rattle.std.specs.Prelude.{if◌then◌else◌, filter}
use Rattle.std.specs.Option.{is_some}
use Rattle.std.specs.List.{list_any, list_all}
use Rattle.std.specs.Map.{keys_of}
use Rattle.std.specs.List.Sorted.{IsStrictlySortedBy}
use Rattle.std.proofs.lemmas.Bool.{and_parts, and_from, true≢false}
use Rattle.vn_types.specs.declared.half.Half.{Half}
use Rattle.vn_types.specs.PathOrder.{key_ties}
use Rattle.vn_types.proofs.PathNames.{key_eq-Decides, key_total}
use Rattle.vn_rules.specs.Construction.{RowOf, DownOf, Clears, SendsHome, DestroysHomed}
use Rattle.vn_cells.specs.declared.transcript.What.{What}
use Rattle.vn_cells.specs.declared.transcript.What.TheVariants.{Uninit}
use Rattle.vn_cells.specs.declared.world.Live.{Live}
use Rattle.vn_cells.specs.declared.world.Pair.{Pair}
use Rattle.vn_cells.specs.declared.world.Stack.{Stack}
use Rattle.vn_cells.specs.declared.world.World.{World}
use Rattle.vn_cells.specs.world.Names.{Path, Key, key_cmp, key_eq, path_eq}
use Rattle.vn_cells.specs.world.World.{noting, entry_of, stack_at, pair_at, live_map, on_parts, edit_live, noted}
use Rattle.vn_cells.specs.commands.Pairs.{unmade, destroyed_pair}
use Rattle.vn_cells.specs.commands.Removal.{homed_at, without_pairs, run_down, torn_down}
use Rattle.vn_laws.specs.Removals.{HomeAlone, is_cloner}
use Rattle.vn_laws.proofs.edits.Lists.{any-filter}
use Rattle.vn_laws.proofs.edits.Cells.{stack_at-edit_stack, stack_at-edit_live, pair_at-edit_stack, pair_at-each_stack, ordered-edit_stack, ordered-each_stack, pairs-edit_stack, pairs-each_stack, pair_listed, Ordered, OrderedPairs}
use Rattle.vn_laws.proofs.pairs.Unmade.{both_cut, unmade_stack, unmade_pair, unmade_stacks, unmade_pairs, pair_at-destroyed_pair}

-- nothing changes but the stack of the path and the pairs that are homed there, and of those none is made or changed
pub record OwnOnly (q : Path) (v w : World) : Type 0 where
  pub stacks : (r : Path) → path_eq r q ≡ false → stack_at w r ≡ stack_at v r
  pub pairs : (k : Key) → path_eq k.0 q ≡ false → pair_at w k ≡ pair_at v k
  pub fewer : (k : Key) (pair : Pair) → pair_at w k ≡ Some pair → pair_at v k ≡ Some pair
  pub ordered : Ordered v → Ordered w
  pub pairs_ordered : OrderedPairs v → OrderedPairs w

pub own-then : {q : Path} {u v w : World} → OwnOnly q u v → OwnOnly q v w → OwnOnly q u w
own-then a b = record {
  stacks = λ r e. b.stacks r e ∙ a.stacks r e;
  pairs = λ k e. b.pairs k e ∙ a.pairs k e;
  fewer = λ k pair e. a.fewer k pair (b.fewer k pair e);
  ordered = λ s. b.ordered (a.ordered s);
  pairs_ordered = λ s. b.pairs_ordered (a.pairs_ordered s);
}

-- the pairs that are homed there are gone
abbrev pub NoneHomed : Path → World → Type 0
NoneHomed q w = (k : Key) → path_eq k.0 q ≡ true → pair_at w k ≡ None

module _ (q : Path) where
  own-none : (v : World) → OwnOnly q v v
  own-none v = record { stacks = λ r e. refl; pairs = λ k e. refl; fewer = λ k pair e. e; ordered = λ s. s; pairs_ordered = λ s. s }

  own-noted : (clock : ℕ) (what : What) (v : World) → OwnOnly q v (noted clock q what v)
  own-noted clock what v = record {
    stacks = λ r e. stack_at-edit_stack q (noting (entry_of clock what)) v r ∙ ap (λ b. if b then noting (entry_of clock what) (stack_at v r) else stack_at v r) e;
    pairs = λ k e. pair_at-edit_stack q _ v k;
    fewer = λ k pair e. sym (pair_at-edit_stack q _ v k) ∙ e;
    ordered = ordered-edit_stack q _ v;
    pairs_ordered = λ s. subst (λ es. IsStrictlySortedBy key_cmp (keys_of es)) (sym (pairs-edit_stack q _ v)) s;
  }

  -- whatever is cleared
  own-cleared : (f : Live → Live) (v : World) → OwnOnly q v (edit_live q f v)
  own-cleared f v = record {
    stacks = λ r e. stack_at-edit_live q f v r ∙ ap (λ b. if b then live_map f (stack_at v r) else stack_at v r) e;
    pairs = λ k e. pair_at-each_stack _ v k;
    fewer = λ k pair e. sym (pair_at-each_stack _ v k) ∙ e;
    ordered = ordered-each_stack _ v;
    pairs_ordered = λ s. subst (λ es. IsStrictlySortedBy key_cmp (keys_of es)) (sym (pairs-each_stack _ v)) s;
  }

  own-unmade : (k : Key) (o : Option Pair) (v : World) → pair_at v k ≡ o → path_eq k.0 q ≡ true → HomeAlone q v → OwnOnly q v (unmade k o v)
  unfolding unmade
  own-unmade k None v f home alone = own-none v
  own-unmade k (Some pair) v f home alone =
      let at = alone k pair home f in
      record {
        stacks = λ r e. unmade_stack k pair v r ∙ ap (λ c. cut_both r c (path_eq r pair.b.at)) (ap (path_eq r) at.0 ∙ e) ∙ ap (λ d. cut_both r false d) (ap (path_eq r) at.1 ∙ e);
        pairs = λ p e. unmade_pair k pair v p ∙ ap (λ b. if b then None else pair_at v p) (apart p e);
        fewer = λ p other e. fewer p other (key_eq p k) (sym (unmade_pair k pair v p) ∙ e);
        ordered = unmade_stacks k pair v;
        pairs_ordered = unmade_pairs k pair v;
      }
    where
      cut_both : Path → Bool → Bool → Stack
      cut_both r c d = both_cut k c d (stack_at v r)

      apart : (p : Key) → path_eq p.0 q ≡ false → key_eq p k ≡ false
      apart p e = by (key_eq p k) refl
        where
          by : (b : Bool) → key_eq p k ≡ b → b ≡ false
          by false g = refl
          by true g = absurd (true≢false (sym (ap (λ (x : Key). path_eq x.0 q) ((key_eq-Decides p k).0 g) ∙ home) ∙ e))

      fewer : (p : Key) (other : Pair) (b : Bool) → (if b then None else pair_at v p) ≡ Some other → pair_at v p ≡ Some other
      fewer p other true e = cc
      fewer p other false e = e

  pub alone-later : (v w : World) → OwnOnly q v w → HomeAlone q v → HomeAlone q w
  alone-later v w o alone k pair home e = alone k pair home (o.fewer k pair e)

  own-without : (ks : List Key) (v : World) → list_all (λ k. path_eq k.0 q) ks ≡ true → HomeAlone q v → OwnOnly q v (without_pairs ks v)
  unfolding without_pairs
  own-without [] v all alone = own-none v
  own-without (k ∷ ks) v all alone =
      let first : OwnOnly q v (destroyed_pair k v) = own-unmade k (pair_at v k) v refl (and_parts _ _ all).0 alone in
      own-then first (own-without ks (destroyed_pair k v) (and_parts _ _ all).1 (alone-later v (destroyed_pair k v) first alone))

  without_at : (ks : List Key) (v : World) (k : Key) → pair_at (without_pairs ks v) k ≡ (if list_any (key_eq k) ks then None else pair_at v k)
  unfolding without_pairs
  without_at [] v k = refl
  without_at (p ∷ ks) v k = without_at ks (destroyed_pair p v) k ∙ ap (λ o. if list_any (key_eq k) ks then None else o) (pair_at-destroyed_pair p v k) ∙ by (list_any (key_eq k) ks) (key_eq k p) (pair_at v k)
    where
      by : (a b : Bool) (o : Option Pair) → (if a then None else (if b then None else o)) ≡ (if b || a then None else o)
      by true true o = refl
      by true false o = refl
      by false true o = refl
      by false false o = refl

  all_homed : (ks : List Key) → list_all (λ k. path_eq k.0 q) (filter (λ k. path_eq k.0 q) ks) ≡ true
  all_homed [] = refl
  all_homed (k ∷ ks) = by (path_eq k.0 q) refl (all_homed ks)
    where
      by : (b : Bool) → path_eq k.0 q ≡ b → list_all (λ k. path_eq k.0 q) (filter (λ k. path_eq k.0 q) ks) ≡ true
          → list_all (λ k. path_eq k.0 q) (cond b (k ∷ filter (λ k. path_eq k.0 q) ks) (filter (λ k. path_eq k.0 q) ks)) ≡ true
      by true e ih = and_from _ _ e ih
      by false e ih = ih

  -- the cloner leaves no pair that is homed there
  pub none_homed : (v : World) → NoneHomed q (without_pairs (homed_at v q) v)
  none_homed v k home =
      without_at (homed_at v q) v k
      ∙ ap (λ b. if b then None else pair_at v k) (any-filter key_cmp key_total key_eq-Decides key_ties (λ k. path_eq k.0 q) k (keys_of v.pairs) ∙ ap (λ b. path_eq k.0 q && b) (pair_listed v k) ∙ ap (λ b. b && is_some (pair_at v k)) home)
      ∙ by (pair_at v k)
    where
      by : (o : Option Pair) → (if is_some o then None else o) ≡ None
      by None = refl
      by (Some pair) = refl

  none-later : (v w : World) → OwnOnly q v w → NoneHomed q v → NoneHomed q w
  none-later v w o none k home = by (pair_at w k) refl
    where
      by : (x : Option Pair) → pair_at w k ≡ x → x ≡ None
      by None e = refl
      by (Some pair) e = let f : pair_at v k ≡ Some pair = o.fewer k pair e in let g = none k home in cc

  -- ---- all rows but the one that sends home

  abbrev pub is_own : DownOf Half → Bool
  is_own (Clears f) = true
  is_own SendsHome = false
  is_own DestroysHomed = true

  own-run_down : (d : DownOf Half) (v : World) → is_own d ≡ true → HomeAlone q v → OwnOnly q v (run_down q d v)
  unfolding run_down
  own-run_down (Clears f) v e alone = own-cleared (on_parts f) v
  own-run_down SendsHome v e alone = cc
  own-run_down DestroysHomed v e alone = own-without (homed_at v q) v (all_homed (keys_of v.pairs)) alone

  none-run_down : (d : DownOf Half) (v : World) → is_cloner d ≡ true → NoneHomed q (run_down q d v)
  unfolding run_down
  none-run_down (Clears f) v e = cc
  none-run_down SendsHome v e = cc
  none-run_down DestroysHomed v e = none_homed v

  -- after some rows above a list of rows whose destructors ran
  pub record TornDown (before : List (RowOf Half)) (v w : World) : Type 0 where
    pub own : OwnOnly q v w
    pub none : list_any (λ (row : RowOf Half). is_cloner row.down) before ≡ true → NoneHomed q w

  pub torn-down : (clock : ℕ) (before more : List (RowOf Half)) (v : World) → list_all (λ (row : RowOf Half). is_own row.down) before ≡ true → HomeAlone q (torn_down clock q more v) → TornDown before (torn_down clock q more v) (torn_down clock q (before ++ more) v)
  unfolding torn_down
  torn-down clock [] more v all alone = record { own = own-none _; none = λ e. cc }
  torn-down clock (row ∷ before) more v all alone =
      let t : TornDown before (torn_down clock q more v) (torn_down clock q (before ++ more) v) = torn-down clock before more v (and_parts _ _ all).1 alone in
      let w : World = torn_down clock q (before ++ more) v in
      let o : OwnOnly q w (run_down q row.down w) = own-run_down row.down w (and_parts _ _ all).0 (alone-later _ w t.own alone) in
      record {
        own = own-then (own-then t.own o) (own-noted clock (Uninit row.name) (run_down q row.down w));
        none = λ e. none-later _ _ (own-noted clock (Uninit row.name) (run_down q row.down w)) (pick t o (is_cloner row.down) refl e);
      }
    where
      pick : TornDown before (torn_down clock q more v) (torn_down clock q (before ++ more) v) → OwnOnly q (torn_down clock q (before ++ more) v) (run_down q row.down (torn_down clock q (before ++ more) v))
          → (b : Bool) → is_cloner row.down ≡ b → (b || list_any (λ (row : RowOf Half). is_cloner row.down) before) ≡ true → NoneHomed q (run_down q row.down (torn_down clock q (before ++ more) v))
      pick t o true f e = none-run_down row.down (torn_down clock q (before ++ more) v) f
      pick t o false f e = none-later _ _ o (t.none e)

-- A pair that is destroyed: each world stays sound, and nothing is left behind.
use Rattle.std.proofs.Common.{◌≡◌, Bool, true, false, Option, Some, None, refl, sym, ap, ◌∙◌, subst, ◌⊎◌, inl, inr}
use Rattle.std.specs.Prelude.{if◌then◌else◌}
use Rattle.std.specs.Option.{is_some}
use Rattle.std.specs.Map.{keys_of}
use Rattle.std.specs.List.Sorted.{IsStrictlySortedBy}
use Rattle.std.proofs.lemmas.Bool.{and_parts, and_from, true≢false}
use Rattle.vn_types.specs.declared.half.Half.{Half}
use Rattle.vn_types.specs.declared.interface.IfOf.TheVariants.{Lo0, Half as OfHalf}
use Rattle.vn_types.specs.declared.interface.Side.{Side}
use Rattle.vn_types.specs.declared.interface.Side.TheVariants.{A, B}
use Rattle.vn_types.proofs.PathNames.{key_eq-Decides}
use Rattle.vn_rules.specs.Soundness.{is_sound_parts}
use Rattle.vn_cells.specs.declared.world.Pair.{Pair}
use Rattle.vn_cells.specs.declared.world.Stack.{Stack}
use Rattle.vn_cells.specs.declared.world.World.{World}
use Rattle.vn_cells.specs.world.Names.{Path, Key, If, path_cmp, key_cmp, key_of, half_on, half_eq, path_eq, key_eq}
use Rattle.vn_cells.specs.world.World.{stack_at, pair_at, ifs_of, end_of, place, on_parts}
use Rattle.vn_cells.specs.commands.Pairs.{detached, unmade, destroyed_pair}
use Rattle.vn_cells.specs.keeping.Standing.{passes, stands_at, is_placed, times, times_listed, has_queues}
use Rattle.vn_cells.specs.keeping.Sound.{IsSound}
use Rattle.vn_cells.specs.keeping.Moved.{forgets, is_emptied}
use Rattle.vn_laws.specs.Relations.{Leaves, IsGone}
use Rattle.vn_laws.proofs.edits.Names.{half_eq-Decides, same_half}
use Rattle.vn_laws.proofs.edits.Paths.{path_eq-sym}
use Rattle.vn_laws.proofs.edits.Cells.{stack_at-edit_live, stack_at-drop_pair, pair_at-each_stack, pair_at-drop_pair, ordered-each_stack, ordered_pairs-drop_pair, Ordered, OrderedPairs, stacks-drop_pair, pairs-each_stack}
use Rattle.vn_laws.proofs.edits.Standing.{leaves-none, named-fewer, stood-if, existed-if, queues-if}
use Rattle.vn_laws.proofs.edits.Trees.{SameTree, tree_of, tree-same, alive_tree}
use Rattle.vn_laws.proofs.pairs.Listed.{count, has-count}
use Rattle.vn_laws.proofs.pairs.Cut.{changed_tree, cut, cut_ifs, ifs_cut, sound_cut, forgets_cut, own_cut, count_cut, count_cut-own, count_cut-none}

-- ---- cells afterwards

abbrev pub both_cut : Key → Bool → Bool → Stack → Stack
both_cut k c d s = cut (half_on B k) d (cut (half_on A k) c s)

module _ (k : Key) (pair : Pair) (v : World) where
  abbrev after : World
  after = unmade k (Some pair) v

  pub unmade_stack : (q : Path) → stack_at (unmade k (Some pair) v) q ≡ both_cut k (path_eq q pair.a.at) (path_eq q pair.b.at) (stack_at v q)
  unfolding unmade
  unmade_stack q = stack_at-drop_pair k _ q ∙ stack_at-edit_live pair.b.at (on_parts (detached (half_on B k))) _ q ∙ ap (cut (half_on B k) (path_eq q pair.b.at)) (stack_at-edit_live pair.a.at (on_parts (detached (half_on A k))) v q)

  pub unmade_pair : (q : Key) → pair_at (unmade k (Some pair) v) q ≡ (if key_eq q k then None else pair_at v q)
  unfolding unmade
  unmade_pair q = pair_at-drop_pair k _ q ∙ ap (λ o. if key_eq q k then None else o) (pair_at-each_stack _ _ q ∙ pair_at-each_stack _ v q)

  pub unmade_stacks : Ordered v → Ordered (unmade k (Some pair) v)
  unfolding unmade
  unmade_stacks s = subst (λ es. IsStrictlySortedBy path_cmp (keys_of es)) (sym (stacks-drop_pair k _)) (ordered-each_stack _ _ (ordered-each_stack _ v s))

  pub unmade_pairs : OrderedPairs v → OrderedPairs (unmade k (Some pair) v)
  unfolding unmade
  unmade_pairs s = ordered_pairs-drop_pair k _ (subst (λ es. IsStrictlySortedBy key_cmp (keys_of es)) (sym (pairs-each_stack _ _ ∙ pairs-each_stack _ _)) s)

  unmade_tree : SameTree v (unmade k (Some pair) v)
  unmade_tree = record {
    trees = λ p. ap tree_of (unmade_stack p) ∙ changed_tree (detached (half_on B k)) (path_eq p pair.b.at) _ ∙ changed_tree (detached (half_on A k)) (path_eq p pair.a.at) (stack_at v p);
    ordered = unmade_stacks;
  }

  unmade_ifs : (q : Path) → ifs_of (stack_at (unmade k (Some pair) v) q) ≡ cut_ifs (half_on B k) (path_eq q pair.b.at) (cut_ifs (half_on A k) (path_eq q pair.a.at) (ifs_of (stack_at v q)))
  unmade_ifs q = ap ifs_of (unmade_stack q) ∙ ifs_cut (half_on B k) (path_eq q pair.b.at) _ ∙ ap (cut_ifs (half_on B k) (path_eq q pair.b.at)) (ifs_cut (half_on A k) (path_eq q pair.a.at) (stack_at v q))

  module _ (s : IsSound v) (is : pair_at v k ≡ Some pair) where
    not_at : (side : Side) (q : Path) → path_eq q (end_of side pair).at ≡ false → count (OfHalf (half_on side k)) (ifs_of (stack_at v q)) ≡ 0
    not_at side q e = s.standing.listed q (OfHalf (half_on side k)) ∙ ap (λ o. times (stands_at q side o)) is ∙ ap times (path_eq-sym (end_of side pair).at q ∙ e)

    apart : (side : Side) (g : Half) → key_eq (key_of g) k ≡ false → half_eq g (half_on side k) ≡ false
    apart side g e = by (half_eq g (half_on side k)) refl
      where
        by : (b : Bool) → half_eq g (half_on side k) ≡ b → b ≡ false
        by false f = refl
        by true f = absurd (true≢false (sym ((key_eq-Decides (key_of g) k).1 (ap key_of ((half_eq-Decides g (half_on side k)).0 f))) ∙ e))

    -- a half of the pair is one of two
    one_of : (P : Half → Type 0) → P (half_on A k) → P (half_on B k) → (g : Half) → key_eq (key_of g) k ≡ true → P g
    one_of P a b g e = by g.side refl
      where
        by : (side : Side) → g.side ≡ side → P g
        by A f = subst P (sym (same_half g (half_on A k) ((key_eq-Decides (key_of g) k).0 e) f)) a
        by B f = subst P (sym (same_half g (half_on B k) ((key_eq-Decides (key_of g) k).0 e) f)) b

    none_listed : (q : Path) (g : Half) → key_eq (key_of g) k ≡ true → count (OfHalf g) (ifs_of (stack_at (unmade k (Some pair) v) q)) ≡ 0
    none_listed q g e = ap (count (OfHalf g)) (unmade_ifs q) ∙
        one_of (λ (g : Half). count (OfHalf g) (cut_ifs (half_on B k) (path_eq q pair.b.at) (cut_ifs (half_on A k) (path_eq q pair.a.at) (ifs_of (stack_at v q)))) ≡ 0)
        (count_cut-none (OfHalf (half_on A k)) (half_on B k) (path_eq q pair.b.at) _ (count_cut-own (half_on A k) (path_eq q pair.a.at) (ifs_of (stack_at v q)) (not_at A q)))
        (count_cut-own (half_on B k) (path_eq q pair.b.at) _ (λ f. count_cut-none (OfHalf (half_on B k)) (half_on A k) (path_eq q pair.a.at) (ifs_of (stack_at v q)) (not_at B q f)))
        g e

    half_unmade : (q : Path) (g : Half) → count (OfHalf g) (ifs_of (stack_at (unmade k (Some pair) v) q)) ≡ times (stands_at q g.side (pair_at (unmade k (Some pair) v) (key_of g)))
    half_unmade q g = by (key_eq (key_of g) k) refl ∙ ap (λ o. times (stands_at q g.side o)) (sym (unmade_pair (key_of g)))
      where
        by : (b : Bool) → key_eq (key_of g) k ≡ b → count (OfHalf g) (ifs_of (stack_at (unmade k (Some pair) v) q)) ≡ times (stands_at q g.side (if b then None else pair_at v (key_of g)))
        by true e = none_listed q g e
        by false e =
            ap (count (OfHalf g)) (unmade_ifs q) ∙ count_cut (OfHalf g) (half_on B k) (path_eq q pair.b.at) _ (apart B g e)
            ∙ count_cut (OfHalf g) (half_on A k) (path_eq q pair.a.at) (ifs_of (stack_at v q)) (apart A g e) ∙ s.standing.listed q (OfHalf g)

    listed_unmade : (q : Path) (on : If) → count on (ifs_of (stack_at (unmade k (Some pair) v) q)) ≡ times_listed (unmade k (Some pair) v) q on
    listed_unmade q Lo0 =
        ap (count Lo0) (unmade_ifs q) ∙ count_cut Lo0 (half_on B k) (path_eq q pair.b.at) _ refl
        ∙ count_cut Lo0 (half_on A k) (path_eq q pair.a.at) (ifs_of (stack_at v q)) refl ∙ s.standing.listed q Lo0
        ∙ ap times (sym (alive_tree unmade_tree q))
    listed_unmade q (OfHalf g) = half_unmade q g

    pub sound-unmade : IsSound (unmade k (Some pair) v)
    sound-unmade = record {
      standing = record {
        places = λ q side. ap (is_placed (unmade k (Some pair) v) q side) (unmade_pair q) ∙ by q side (key_eq q k) (pair_at v q) (s.standing.places q side);
        listed = listed_unmade;
        tables = λ q. ap (λ (t : Stack). passes (is_sound_parts half_eq) t.live) (unmade_stack q) ∙ sound_cut (half_on B k) (path_eq q pair.b.at) _ (sound_cut (half_on A k) (path_eq q pair.a.at) (stack_at v q) (s.standing.tables q));
        queues = λ q. ap has_queues (unmade_pair q) ∙ queues-if (key_eq q k) (pair_at v q) (s.standing.queues q);
        pairs_ordered = unmade_pairs s.standing.pairs_ordered;
      };
      tree = tree-same s.tree unmade_tree;
      names = named-fewer s.names (record { stood = λ p h e. stood-if p h.side (key_eq (key_of h) k) (pair_at v (key_of h)) (sym (ap (stands_at p h.side) (unmade_pair (key_of h))) ∙ e); existed = λ q e. existed-if (key_eq q k) (pair_at v q) (sym (ap is_some (unmade_pair q)) ∙ e) });
    }
      where
        by : (q : Key) (side : Side) (b : Bool) (o : Option Pair) → is_placed v q side o ≡ true → is_placed (unmade k (Some pair) v) q side (if b then None else o) ≡ true
        by q side true o e = refl
        by q side false None e = refl
        by q side false (Some other) e = and_from _ _ (alive_tree unmade_tree (end_of side other).at ∙ (and_parts _ _ e).0) (and_parts _ _ e).1

    gone : (g : Half) → key_eq (key_of g) k ≡ true → IsGone g (unmade k (Some pair) v)
    gone g e = record {
      emptied = ap (is_emptied g) (unmade_pair (key_of g)) ∙ ap (λ b. is_emptied g (if b then None else pair_at v (key_of g))) e;
      forgotten = λ q. ap (λ (t : Stack). passes (forgets g) t.live) (unmade_stack q) ∙
          one_of (λ (g : Half). passes (forgets g) (both_cut k (path_eq q pair.a.at) (path_eq q pair.b.at) (stack_at v q)).live ≡ true)
          (forgets_cut (half_on A k) (half_on B k) (path_eq q pair.b.at) _ (own_cut (half_on A k) (path_eq q pair.a.at) (stack_at v q) (s.standing.tables q) (λ f. has-count (OfHalf (half_on A k)) (ifs_of (stack_at v q)) false (not_at A q f))))
          (own_cut (half_on B k) (path_eq q pair.b.at) _ (sound_cut (half_on A k) (path_eq q pair.a.at) (stack_at v q) (s.standing.tables q))
          (λ f. has-count (OfHalf (half_on B k)) (ifs_of (cut (half_on A k) (path_eq q pair.a.at) (stack_at v q))) false (ap (count (OfHalf (half_on B k))) (ifs_cut (half_on A k) (path_eq q pair.a.at) (stack_at v q)) ∙ count_cut-none (OfHalf (half_on B k)) (half_on A k) (path_eq q pair.a.at) (ifs_of (stack_at v q)) (not_at B q f))))
          g e;
    }

    pub leaves-unmade : Leaves v (unmade k (Some pair) v)
    leaves-unmade = record {
      moved = λ g. by g (key_eq (key_of g) k) refl;
      kept = λ g old. record {
        emptied = ap (is_emptied g) (unmade_pair (key_of g)) ∙ kept g (key_eq (key_of g) k) (pair_at v (key_of g)) old.emptied;
        forgotten = λ q. ap (λ (t : Stack). passes (forgets g) t.live) (unmade_stack q) ∙ forgets_cut g (half_on B k) (path_eq q pair.b.at) _ (forgets_cut g (half_on A k) (path_eq q pair.a.at) (stack_at v q) (old.forgotten q));
      };
    }
      where
        by : (g : Half) (b : Bool) → key_eq (key_of g) k ≡ b → (place g (pair_at (unmade k (Some pair) v) (key_of g)) ≡ place g (pair_at v (key_of g))) ⊎ IsGone g (unmade k (Some pair) v)
        by g true e = inr (gone g e)
        by g false e = inl (ap (place g) (unmade_pair (key_of g)) ∙ ap (λ b. place g (if b then None else pair_at v (key_of g))) e)

        kept : (g : Half) (b : Bool) (o : Option Pair) → is_emptied g o ≡ true → is_emptied g (if b then None else o) ≡ true
        kept g true o e = refl
        kept g false o e = e

-- ---- whether it exists or not

module _ (k : Key) (v : World) where
  by_pair : (P : World → Type 0) → (pair_at v k ≡ None → P v) → ((pair : Pair) → pair_at v k ≡ Some pair → P (unmade k (Some pair) v)) → P (destroyed_pair k v)
  unfolding unmade
  by_pair P none some = by (pair_at v k) refl
    where
      by : (o : Option Pair) → pair_at v k ≡ o → P (unmade k o v)
      by None e = none e
      by (Some pair) e = some pair e

  pub sound-destroyed_pair : IsSound v → IsSound (destroyed_pair k v)
  sound-destroyed_pair s = by_pair IsSound (λ _. s) (λ pair e. sound-unmade k pair v s e)

  pub leaves-destroyed_pair : IsSound v → Leaves v (destroyed_pair k v)
  leaves-destroyed_pair s = by_pair (Leaves v) (λ _. leaves-none v) (λ pair e. leaves-unmade k pair v s e)

  pub tree-destroyed_pair : SameTree v (destroyed_pair k v)
  tree-destroyed_pair = by_pair (SameTree v) (λ _. record { trees = λ p. refl; ordered = λ s. s }) (λ pair e. unmade_tree k pair v)

  pub pair_at-destroyed_pair : (q : Key) → pair_at (destroyed_pair k v) q ≡ (if key_eq q k then None else pair_at v q)
  pair_at-destroyed_pair q = by_pair (λ w. pair_at w q ≡ (if key_eq q k then None else pair_at v q)) (λ f. none f (key_eq q k) refl) (λ pair e. unmade_pair k pair v q)
    where
      none : pair_at v k ≡ None → (b : Bool) → key_eq q k ≡ b → pair_at v q ≡ (if b then None else pair_at v q)
      none f false e = refl
      none f true e = ap (pair_at v) ((key_eq-Decides q k).0 e) ∙ f

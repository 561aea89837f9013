-- What stands in each cell after a half has moved.
use Rattle.std.proofs.Common.{◌≡◌, ◌+◌, Bool, true, false, List, [], ◌∷◌, ◌++◌, Option, Some, None, refl, sym, ap, ◌∙◌, subst, arith}
use Rattle.std.specs.Prelude.{if◌then◌else◌}
use Rattle.std.specs.Option.{option_map, is_some}
use Rattle.std.specs.Map.{keys_of}
use Rattle.std.specs.List.Sorted.{IsStrictlySortedBy}
use Rattle.vn_types.specs.declared.half.Half.{Half}
use Rattle.vn_types.specs.declared.interface.IfOf.TheVariants.{Half as OfHalf}
use Rattle.vn_rules.specs.Soundness.{is_sound_parts}
use Rattle.vn_cells.specs.declared.world.Live.{Live}
use Rattle.vn_cells.specs.declared.world.Stack.{Stack}
use Rattle.vn_cells.specs.declared.world.World.{World}
use Rattle.vn_cells.specs.world.Names.{Path, Key, If, path_cmp, key_cmp, half_eq, if_eq, path_eq}
use Rattle.vn_cells.specs.world.World.{stack_at, pair_at, ifs_of, on_parts}
use Rattle.vn_cells.specs.commands.Pairs.{attached, detached}
use Rattle.vn_cells.specs.commands.Moves.{moved}
use Rattle.vn_cells.specs.keeping.Standing.{passes, times}
use Rattle.vn_cells.specs.keeping.Moved.{forgets}
use Rattle.vn_laws.proofs.edits.Cells.{stack_at-edit_live, stack_at-each_pair, pair_at-each_stack, pair_at-each_pair, ordered-each_stack, ordered_pairs-each_pair, Ordered, OrderedPairs, stacks-each_pair, pairs-each_stack}
use Rattle.vn_laws.proofs.edits.Trees.{SameTree, tree_of}
use Rattle.vn_laws.proofs.pairs.Listed.{count, count-last, if_eq-refl, has}
use Rattle.vn_laws.proofs.pairs.Parts.{attached-sound, attached-forgets}
use Rattle.vn_laws.proofs.pairs.Cut.{changed, changed_tree, changed_passes, changed_ifs, cut, cut_ifs, ifs_cut, sound_cut, forgets_cut, own_cut, count_cut, count_cut-own}
use Rattle.vn_laws.proofs.moves.Ends.{shifted}

-- the half is taken out of one stack, and attached to one
abbrev pub relived : Half → Bool → Bool → Stack → Stack
relived h b c s = changed (attached h) b (cut h c s)

abbrev pub relisted : Half → Bool → Bool → List If → List If
relisted h b c ifs = if b then cut_ifs h c ifs ++ OfHalf h ∷ [] else cut_ifs h c ifs

module _ (h : Half) (from to : Path) (v : World) where
  pub moved_stack : (q : Path) → stack_at (moved h from to v) q ≡ relived h (path_eq q to) (path_eq q from) (stack_at v q)
  unfolding moved
  moved_stack q =
      stack_at-edit_live to (on_parts (attached h)) _ q
      ∙ ap (changed (attached h) (path_eq q to)) (stack_at-edit_live from (on_parts (detached h)) _ q
      ∙ ap (cut h (path_eq q from)) (stack_at-each_pair _ v q))

  pub moved_pair : (k : Key) → pair_at (moved h from to v) k ≡ option_map (shifted h to k) (pair_at v k)
  unfolding moved
  moved_pair k = pair_at-each_stack _ _ k ∙ pair_at-each_stack _ _ k ∙ pair_at-each_pair _ v k

  moved_stacks : Ordered v → Ordered (moved h from to v)
  unfolding moved
  moved_stacks s = ordered-each_stack _ _ (ordered-each_stack _ _ (subst (λ es. IsStrictlySortedBy path_cmp (keys_of es)) (sym (stacks-each_pair _ v)) s))

  pub moved_tree : SameTree v (moved h from to v)
  moved_tree = record {
    trees = λ p. ap tree_of (moved_stack p) ∙ changed_tree (attached h) (path_eq p to) _ ∙ changed_tree (detached h) (path_eq p from) (stack_at v p);
    ordered = moved_stacks;
  }

  pub moved_order : OrderedPairs v → OrderedPairs (moved h from to v)
  unfolding moved
  moved_order s = subst (λ es. IsStrictlySortedBy key_cmp (keys_of es)) (sym (pairs-each_stack _ _ ∙ pairs-each_stack _ _)) (ordered_pairs-each_pair _ v s)

module _ (h : Half) (b c : Bool) where
  pub relived_ifs : (s : Stack) → (b ≡ true → is_some s.live ≡ true) → ifs_of (relived h b c s) ≡ relisted h b c (ifs_of s)
  relived_ifs s alive =
      changed_ifs (attached h) (λ ifs. ifs ++ OfHalf h ∷ []) (λ p. refl) b (cut h c s) (λ e. lives c s.live (alive e))
      ∙ ap (λ ifs. if b then ifs ++ OfHalf h ∷ [] else ifs) (ifs_cut h c s)
    where
      lives : (c : Bool) (o : Option Live) → is_some o ≡ true → is_some (cut h c (record s { live = o })).live ≡ true
      lives true None e = e
      lives false None e = e
      lives true (Some live) e = refl
      lives false (Some live) e = refl

  pub relived_sound : (s : Stack) → passes (is_sound_parts half_eq) s.live ≡ true → passes (is_sound_parts half_eq) (relived h b c s).live ≡ true
  relived_sound s e = changed_passes (attached h) (is_sound_parts half_eq) (attached-sound h) b (cut h c s) (sound_cut h c s e)

  attach_forgets : (g : Half) (s : Stack) → passes (forgets g) s.live ≡ true → passes (forgets g) (changed (attached h) b s).live ≡ true
  attach_forgets g s = changed_passes (attached h) (forgets g) (λ p e. attached-forgets g h p ∙ e) b s

  pub relived_forgets : (g : Half) (s : Stack) → passes (forgets g) s.live ≡ true → passes (forgets g) (relived h b c s).live ≡ true
  relived_forgets g s e = attach_forgets g (cut h c s) (forgets_cut g h c s e)

  -- the half itself is forgotten where it stood, and elsewhere nothing named it
  pub relived_own : (s : Stack) → passes (is_sound_parts half_eq) s.live ≡ true → (c ≡ false → has h (ifs_of s) ≡ false)
      → passes (forgets h) (relived h b c s).live ≡ true
  relived_own s e out = attach_forgets h (cut h c s) (own_cut h c s e out)

  pub count-other : (on : If) (ifs : List If) → if_eq on (OfHalf h) ≡ false → count on (relisted h b c ifs) ≡ count on ifs
  count-other on ifs e = outer b (count_cut on h c ifs e)
    where
      outer : (b : Bool) → count on (cut_ifs h c ifs) ≡ count on ifs → count on (relisted h b c ifs) ≡ count on ifs
      outer true i = let n = count-last on h (cut_ifs h c ifs) ∙ ap (λ d. count on (cut_ifs h c ifs) + times d) e in omega arith
      outer false i = i

  pub count-own : (ifs : List If) → (c ≡ false → count (OfHalf h) ifs ≡ 0) → count (OfHalf h) (relisted h b c ifs) ≡ times b
  count-own ifs out = outer b (count_cut-own h c ifs out)
    where
      outer : (b : Bool) → count (OfHalf h) (cut_ifs h c ifs) ≡ 0 → count (OfHalf h) (relisted h b c ifs) ≡ times b
      outer true i =
          let n = count-last (OfHalf h) h (cut_ifs h c ifs) ∙ ap (λ d. count (OfHalf h) (cut_ifs h c ifs) + times d) (if_eq-refl (OfHalf h)) in omega arith
      outer false i = i

-- A scene that goes back moves no half, whatever it says.
use Rattle.std.proofs.Common.{◌≡◌, Bool, true, false, List, Option, Some, None, refl, sym, ap, ◌∙◌, subst}
use Rattle.std.specs.Prelude.{if◌then◌else◌}
use Rattle.std.specs.Option.{option_map}
use Rattle.std.specs.Map.{keys_of}
use Rattle.std.specs.List.Sorted.{IsStrictlySortedBy}
use Rattle.vn_types.specs.declared.half.Half.{Half}
use Rattle.vn_types.specs.declared.interface.Side.TheVariants.{A, B}
use Rattle.vn_rules.specs.Scenes.{SceneOf, link_of}
use Rattle.vn_cells.specs.declared.world.End.{End}
use Rattle.vn_cells.specs.declared.world.Live.{Live}
use Rattle.vn_cells.specs.declared.world.Pair.{Pair}
use Rattle.vn_cells.specs.declared.world.Stack.{Stack}
use Rattle.vn_cells.specs.declared.world.World.{World}
use Rattle.vn_cells.specs.world.Names.{Path, Key, key_cmp, path_cmp, path_eq, half_on, has_half, half_eq}
use Rattle.vn_cells.specs.world.World.{stack_at, pair_at, ifs_of, ifs_in, live_map}
use Rattle.vn_cells.specs.machine.Local.{live_after, with_link, end_after, pair_after, placed}
use Rattle.vn_laws.proofs.edits.Cells.{stack_at-edit_live, stack_at-each_pair, pair_at-each_stack, pair_at-each_pair, ordered-each_stack, ordered_pairs-each_pair, stacks-each_pair, pairs-each_stack, clock-each_pair, clock-each_stack, OrderedPairs, Ordered}
use Rattle.vn_laws.proofs.edits.Trees.{SameTree, tree_of, alive_tree}
use Rattle.vn_laws.proofs.edits.Standing.{SamePlaces, SameStanding, places}

module _ (p : Path) (halves : List Half) (s : SceneOf Half) (w : World) where
  pub placed_stack : (q : Path)
      → stack_at (placed p halves s w) q ≡ (if path_eq q p then live_map (live_after s) (stack_at w q) else stack_at w q)
  unfolding placed
  placed_stack q = stack_at-each_pair _ _ q ∙ stack_at-edit_live p (live_after s) w q

  pub placed_pair : (k : Key) → pair_at (placed p halves s w) k ≡ option_map (pair_after halves s k) (pair_at w k)
  unfolding placed
  placed_pair k = pair_at-each_pair _ _ k ∙ ap (option_map (pair_after halves s k)) (pair_at-each_stack _ w k)

  pub placed_clock : (placed p halves s w).clock ≡ w.clock
  unfolding placed
  placed_clock = clock-each_pair _ _ ∙ clock-each_stack _ w

  placed_ordered : Ordered w → Ordered (placed p halves s w)
  unfolding placed
  placed_ordered o =
      subst (λ es. IsStrictlySortedBy path_cmp (keys_of es)) (sym (stacks-each_pair _ _)) (ordered-each_stack _ w o)

  placed_pairs : OrderedPairs w → OrderedPairs (placed p halves s w)
  unfolding placed
  placed_pairs o =
      ordered_pairs-each_pair _ _ (subst (λ es. IsStrictlySortedBy key_cmp (keys_of es)) (sym (pairs-each_stack _ w)) o)

  -- what does not look at the parts, but at the interfaces and the number, is as it was
  kept_live : {T : Type 0} (g : Option Live → T) → ((live : Live) → g (Some (live_after s live)) ≡ g (Some live))
      → (b : Bool) (t : Stack) → g (if b then live_map (live_after s) t else t).live ≡ g t.live
  kept_live g blind b t = by b t.live
    where
      by : (b : Bool) (o : Option Live)
          → g (if b then live_map (live_after s) (record t { live = o }) else record t { live = o }).live ≡ g o
      by false o = refl
      by true None = refl
      by true (Some live) = blind live

  pub tree-placed : SameTree w (placed p halves s w)
  tree-placed = record {
    trees = λ q. ap tree_of (placed_stack q)
        ∙ kept_live (option_map (λ (live : Live). live.children)) (λ live. refl) (path_eq q p) (stack_at w q);
    ordered = placed_ordered;
  }

  end_stays : (h : Half) (end : End) → (end_after halves s h end).at ≡ end.at
  end_stays h end = by (has_half halves h)
    where
      by : (b : Bool) → (if b then with_link (link_of half_eq h s) end else end).at ≡ end.at
      by true = refl
      by false = refl

  pub places-placed : SamePlaces w (placed p halves s w)
  places-placed = record { of = λ k. ap places (placed_pair k) ∙ by k (pair_at w k) }
    where
      by : (k : Key) (o : Option Pair) → places (option_map (pair_after halves s k) o) ≡ places o
      by k None = refl
      by k (Some pair) = λ i. Some (end_stays (half_on A k) pair.a i, end_stays (half_on B k) pair.b i)

  pub standing-placed : SameStanding w (placed p halves s w)
  standing-placed = record {
    alive = alive_tree tree-placed;
    ifs = λ q. ap ifs_of (placed_stack q) ∙ kept_live ifs_in (λ live. refl) (path_eq q p) (stack_at w q);
    pairs = places-placed;
    ordered = placed_pairs;
  }

-- Who lives after a removal lived before.
use Rattle.std.proofs.Common.{◌≡◌, ℕ, true, not, List, [], ◌∷◌, refl, sym, ap, ◌∙◌}
use Rattle.std.proofs.lemmas.Bool.{and_parts}
use Rattle.vn_types.specs.declared.half.Half.{Half}
use Rattle.vn_rules.specs.declared.parts.PartsOf.{PartsOf}
use Rattle.vn_rules.specs.Construction.{RowOf, DownOf, Clears, SendsHome, DestroysHomed}
use Rattle.vn_cells.specs.declared.transcript.What.TheVariants.{Uninit}
use Rattle.vn_cells.specs.declared.world.World.{World}
use Rattle.vn_cells.specs.world.Names.{Path, Key, path_eq}
use Rattle.vn_cells.specs.world.World.{stack_at, is_alive, on_parts, noting, entry_of, edit_live}
use Rattle.vn_cells.specs.commands.Jails.{rows}
use Rattle.vn_cells.specs.commands.Moves.{moved}
use Rattle.vn_cells.specs.commands.Pairs.{destroyed_pair}
use Rattle.vn_cells.specs.commands.Removal.{lent_here, homed_at, sent_home, without_pairs, run_down, torn_down, destroyed, living_under, destroyed_all, removed}
use Rattle.vn_laws.proofs.edits.Cells.{stack_at-edit_live, ordered-each_stack}
use Rattle.vn_laws.proofs.edits.Shapes.{shape-edit_stack, shape_tree}
use Rattle.vn_laws.proofs.edits.Trees.{SameTree, tree_of, alive_tree, tree-trans}
use Rattle.vn_laws.proofs.pairs.Cut.{changed_tree}
use Rattle.vn_laws.proofs.pairs.Unmade.{tree-destroyed_pair}
use Rattle.vn_laws.proofs.moves.Moved.{moved_tree}
use Rattle.vn_laws.proofs.jails.Killed.{killed_alive}

tree-none : (v : World) → SameTree v v
tree-none v = record { trees = λ p. refl; ordered = λ s. s }

tree-sent_home : (p : Path) (hs : List Half) (v : World) → SameTree v (sent_home p hs v)
unfolding sent_home
tree-sent_home p [] v = tree-none v
tree-sent_home p (h ∷ hs) v = tree-trans (moved_tree h p h.home v) (tree-sent_home p hs (moved h p h.home v))

tree-without_pairs : (ks : List Key) (v : World) → SameTree v (without_pairs ks v)
unfolding without_pairs
tree-without_pairs [] v = tree-none v
tree-without_pairs (k ∷ ks) v = tree-trans (tree-destroyed_pair k v) (tree-without_pairs ks (destroyed_pair k v))

tree-cleared : (p : Path) (f : PartsOf Half → PartsOf Half) (v : World) → SameTree v (edit_live p (on_parts f) v)
tree-cleared p f v = record {
  trees = λ q. ap tree_of (stack_at-edit_live p (on_parts f) v q) ∙ changed_tree f (path_eq q p) (stack_at v q);
  ordered = ordered-each_stack _ v;
}

tree-run_down : (p : Path) (d : DownOf Half) (v : World) → SameTree v (run_down p d v)
unfolding run_down
tree-run_down p (Clears f) v = tree-cleared p f v
tree-run_down p SendsHome v = tree-sent_home p (lent_here v p) v
tree-run_down p DestroysHomed v = tree-without_pairs (homed_at v p) v

tree-torn_down : (clock : ℕ) (p : Path) (more : List (RowOf Half)) (v : World) → SameTree v (torn_down clock p more v)
unfolding torn_down
tree-torn_down clock p [] v = tree-none v
tree-torn_down clock p (row ∷ more) v =
    let w = torn_down clock p more v in
    tree-trans (tree-torn_down clock p more v) (tree-trans (tree-run_down p row.down w)
    (shape_tree (shape-edit_stack p (noting (entry_of clock (Uninit row.name))) (run_down p row.down w) (λ s. refl))))

lived-destroyed : (clock : ℕ) (p : Path) (v : World) (q : Path) → is_alive (destroyed clock p v) q ≡ true → is_alive v q ≡ true
lived-destroyed clock p v q e =
    let w = torn_down clock p rows v in
    sym (alive_tree (tree-torn_down clock p rows v) q) ∙ (and_parts (is_alive w q) (not (path_eq q p)) (sym (killed_alive p w q) ∙ e)).0

lived-destroyed_all : (clock : ℕ) (ps : List Path) (v : World) (q : Path) → is_alive (destroyed_all clock ps v) q ≡ true → is_alive v q ≡ true
unfolding destroyed_all
lived-destroyed_all clock [] v q e = e
lived-destroyed_all clock (p ∷ ps) v q e = lived-destroyed_all clock ps v q (lived-destroyed clock p (destroyed_all clock ps v) q e)

pub lived-removed : (clock : ℕ) (p : Path) (v : World) (q : Path) → is_alive (removed clock p v) q ≡ true → is_alive v q ≡ true
lived-removed clock p v = lived-destroyed_all clock (living_under v p) v

-- Edits that leave what lives as it was: entries of transcripts, the clock.
use Rattle.std.proofs.Common.{◌≡◌, Bool, true, false, [], Option, refl, sym, ap, ◌∙◌, subst, inl}
use Rattle.std.specs.Prelude.{if◌then◌else◌}
use Rattle.std.specs.Option.{is_some}
use Rattle.std.specs.Map.{keys_of}
use Rattle.std.specs.List.Sorted.{IsStrictlySortedBy}
use Rattle.vn_rules.specs.Soundness.{is_sound_parts}
use Rattle.vn_cells.specs.declared.cell.Cells.{Cells}
use Rattle.vn_cells.specs.declared.world.Live.{Live}
use Rattle.vn_cells.specs.declared.world.Stack.{Stack}
use Rattle.vn_cells.specs.declared.world.World.{World}
use Rattle.vn_cells.specs.world.Names.{Path, key_of, key_cmp, path_eq, half_eq}
use Rattle.vn_cells.specs.world.World.{stack_at, ifs_of, edit_stack}
use Rattle.vn_cells.specs.keeping.Standing.{passes, has_queues}
use Rattle.vn_cells.specs.keeping.Sound.{IsSound}
use Rattle.vn_cells.specs.keeping.Moved.{forgets, is_emptied}
use Rattle.vn_laws.specs.Relations.{Belongs, Leaves}
use Rattle.vn_laws.specs.Locality.{SamePairs}
use Rattle.vn_laws.proofs.edits.Cells.{stack_at-edit_stack, pair_at-edit_stack, ordered-edit_stack, pairs-edit_stack, OrderedPairs, Ordered}
use Rattle.vn_laws.proofs.edits.Standing.{SameStanding, places, standing-same, named-same, belongs-same, same_place}
use Rattle.vn_laws.proofs.edits.Trees.{SameTree, tree_of, tree-same}

-- what lives is as before, and so are all pairs
pub record SameShape (v w : World) : Type 0 where
  pub lives : (p : Path) → (stack_at w p).live ≡ (stack_at v p).live
  pub pairs : SamePairs v w
  pub ordered : Ordered v → Ordered w
  pub pairs_ordered : OrderedPairs v → OrderedPairs w

-- a stack with what lives there, and nothing else
abbrev pub with_live : Option Live → Stack
with_live o = record { entries = []; readers = []; live = o }

pub shape_tree : {v w : World} → SameShape v w → SameTree v w
shape_tree t = record { trees = λ p. ap (λ o. tree_of (with_live o)) (t.lives p); ordered = t.ordered }

pub shape_standing : {v w : World} → SameShape v w → SameStanding v w
shape_standing {v} {w} t = record {
  alive = λ p. ap is_some (t.lives p);
  ifs = λ p. ap (λ o. ifs_of (with_live o)) (t.lives p);
  pairs = record { of = λ k. ap places (t.pairs k) };
  ordered = t.pairs_ordered;
}

pub sound-shape : {v w : World} → IsSound v → SameShape v w → IsSound w
sound-shape s t = record {
  standing = standing-same s.standing (shape_standing t) (λ p. ap (passes (is_sound_parts half_eq)) (t.lives p) ∙ s.standing.tables p)
      (λ k. ap has_queues (t.pairs k) ∙ s.standing.queues k);
  tree = tree-same s.tree (shape_tree t);
  names = named-same s.names (shape_standing t).pairs;
}

pub leaves-shape : {v w : World} → SameShape v w → Leaves v w
leaves-shape t = record {
  moved = λ h. inl (same_place (shape_standing t).pairs h);
  kept = λ h g. record {
    emptied = ap (is_emptied h) (t.pairs (key_of h)) ∙ g.emptied;
    forgotten = λ p. ap (passes (forgets h)) (t.lives p) ∙ g.forgotten p;
  };
}

pub belongs-shape : {set : Cells} {v w : World} → Belongs set v → SameShape v w → Belongs set w
belongs-shape b t = belongs-same b (shape_standing t)

pub shape-none : (w : World) → SameShape w w
shape-none w = record { lives = λ p. refl; pairs = λ k. refl; ordered = λ s. s; pairs_ordered = λ s. s }

-- an edit of a stack that leaves what lives
pub shape-edit_stack : (p : Path) (f : Stack → Stack) (v : World) → ((s : Stack) → (f s).live ≡ s.live)
    → SameShape v (edit_stack p f v)
shape-edit_stack p f v keeps = record {
  lives = λ q. ap (λ (s : Stack). s.live) (stack_at-edit_stack p f v q) ∙ by (path_eq q p) (stack_at v q);
  pairs = λ k. pair_at-edit_stack p f v k;
  ordered = ordered-edit_stack p f v;
  pairs_ordered = λ s. subst (λ es. IsStrictlySortedBy key_cmp (keys_of es)) (sym (pairs-edit_stack p f v)) s;
}
  where
    by : (b : Bool) (s : Stack) → (if b then f s else s).live ≡ s.live
    by true s = keeps s
    by false s = refl

-- The edits that keep two worlds alike, and their pairs in order.
use Rattle.std.proofs.Common.{◌≡◌, List, sym, subst}
use Rattle.std.specs.Prelude.{if◌then◌else◌}
use Rattle.std.specs.List.Sorted.{IsStrictlySortedBy}
use Rattle.std.specs.Map.{keys_of}
use Rattle.vn_cells.specs.declared.cell.Cells.{Cells}
use Rattle.vn_cells.specs.declared.world.Live.{Live}
use Rattle.vn_cells.specs.declared.world.Pair.{Pair}
use Rattle.vn_cells.specs.declared.world.Stack.{Stack}
use Rattle.vn_cells.specs.declared.world.World.{World}
use Rattle.vn_cells.specs.world.Names.{Path, Key, key_cmp, path_eq}
use Rattle.vn_cells.specs.world.World.{no_stack, live_map, edit_stack, each_stack, edit_live, add_pair, drop_pair, each_pair}
use Rattle.vn_cells.specs.keeping.Sound.{IsSound}
use Rattle.vn_laws.specs.Relations.{Alike}
use Rattle.vn_laws.proofs.edits.Alike.{alike-edit_stack, alike-each_stack, alike-add_pair, alike-drop_pair, alike-each_pair}
use Rattle.vn_laws.proofs.edits.Cells.{OrderedPairs, none_lives, pairs-edit_stack, pairs-each_stack, ordered_pairs-add_pair, ordered_pairs-drop_pair, ordered_pairs-each_pair}

-- alike, with their pairs in order
pub record Twins (set : Cells) (v w : World) : Type 0 where
  pub alike : Alike set v w
  pub left : OrderedPairs v
  pub right : OrderedPairs w

pub twins-sound : {set : Cells} {v w : World} → Alike set v w → IsSound v → IsSound w → Twins set v w
twins-sound a sv sw = record { alike = a; left = sv.standing.pairs_ordered; right = sw.standing.pairs_ordered }

same_pairs : (es fs : List (Key × Pair)) → fs ≡ es → IsStrictlySortedBy key_cmp (keys_of es) → IsStrictlySortedBy key_cmp (keys_of fs)
same_pairs es fs e s = subst (λ es. IsStrictlySortedBy key_cmp (keys_of es)) (sym e) s

module _ {set : Cells} {v w : World} (t : Twins set v w) where
  pub twins-edit_stack : (p : Path) (f : Stack → Stack) → Twins set (edit_stack p f v) (edit_stack p f w)
  twins-edit_stack p f = record {
    alike = alike-edit_stack t.alike p f;
    left = same_pairs v.pairs _ (pairs-edit_stack p f v) t.left;
    right = same_pairs w.pairs _ (pairs-edit_stack p f w) t.right;
  }

  pub twins-each_stack : (f : Path → Stack → Stack) → ((q : Path) → f q no_stack ≡ no_stack)
      → Twins set (each_stack f v) (each_stack f w)
  twins-each_stack f none = record {
    alike = alike-each_stack t.alike f none;
    left = same_pairs v.pairs _ (pairs-each_stack f v) t.left;
    right = same_pairs w.pairs _ (pairs-each_stack f w) t.right;
  }

  pub twins-edit_live : (p : Path) (f : Live → Live) → Twins set (edit_live p f v) (edit_live p f w)
  twins-edit_live p f =
      twins-each_stack (λ q s. if path_eq q p then live_map f s else s) (λ q. none_lives (path_eq q p) f)

  pub twins-add_pair : (q : Key) (pair : Pair) → Twins set (add_pair q pair v) (add_pair q pair w)
  twins-add_pair q pair = record {
    alike = alike-add_pair t.alike q pair;
    left = ordered_pairs-add_pair q pair v t.left;
    right = ordered_pairs-add_pair q pair w t.right;
  }

  pub twins-drop_pair : (q : Key) → Twins set (drop_pair q v) (drop_pair q w)
  twins-drop_pair q = record {
    alike = alike-drop_pair t.alike q;
    left = ordered_pairs-drop_pair q v t.left;
    right = ordered_pairs-drop_pair q w t.right;
  }

  pub twins-each_pair : (f : Key → Pair → Pair) → Twins set (each_pair f v) (each_pair f w)
  twins-each_pair f = record {
    alike = alike-each_pair t.alike f;
    left = ordered_pairs-each_pair f v t.left;
    right = ordered_pairs-each_pair f w t.right;
  }

-- Who lives, with the numbers of descendants, is told by the stacks' numbers.
use Rattle.std.proofs.Common.{◌≡◌, ℕ, Bool, true, Option, Some, None, [], refl, sym, ap, ◌∙◌}
use Rattle.std.specs.Prelude.{if◌then◌else◌}
use Rattle.std.specs.Option.{option_map, is_some, is_none}
use Rattle.vn_cells.specs.declared.world.Children.{Children}
use Rattle.vn_cells.specs.declared.world.Live.{Live}
use Rattle.vn_cells.specs.declared.world.Stack.{Stack}
use Rattle.vn_cells.specs.declared.world.World.{World}
use Rattle.vn_cells.specs.world.Names.{Path, parent, is_host}
use Rattle.vn_cells.specs.world.World.{stack_at, is_alive}
use Rattle.vn_cells.specs.keeping.Sound.{living_below, is_number, counts_right, IsTree}
use Rattle.vn_laws.proofs.edits.Cells.{Ordered}
use Rattle.vn_laws.proofs.edits.Counts.{same_living}

-- whether a stack lives, and its number
abbrev pub tree_of : Stack → Option (Option Children)
tree_of s = option_map (λ (live : Live). live.children) s.live

pub record SameTree (v w : World) : Type 0 where
  pub trees : (p : Path) → tree_of (stack_at w p) ≡ tree_of (stack_at v p)
  pub ordered : Ordered v → Ordered w

pub tree_alive : (s : Stack) → is_some s.live ≡ is_some (tree_of s)
tree_alive s = by s.live
  where
    by : (o : Option Live) → is_some o ≡ is_some (option_map (λ (live : Live). live.children) o)
    by None = refl
    by (Some live) = refl

pub alive_tree : {v w : World} → SameTree v w → (p : Path) → is_alive w p ≡ is_alive v p
alive_tree {v} {w} t p = tree_alive (stack_at w p) ∙ ap is_some (t.trees p) ∙ sym (tree_alive (stack_at v p))

abbrev counts_by : ℕ → Path → Option (Option Children) → Bool
counts_by n p None = true
counts_by n p (Some children) = if is_host p then is_none children else is_number n children

counts_tree : (n : ℕ) (p : Path) (o : Option Live) → counts_right n p o ≡ counts_by n p (option_map (λ (live : Live). live.children) o)
counts_tree n p None = refl
counts_tree n p (Some live) = refl

pub tree-same : {v w : World} → IsTree v → SameTree v w → IsTree w
tree-same {v} {w} s t = record {
  host = alive_tree t [] ∙ s.host;
  parents = λ p h. alive_tree t (parent p) ∙ s.parents p (sym (alive_tree t p) ∙ h);
  counted = λ p.
      ap (λ n. counts_right n p (stack_at w p).live) (same_living v w s.stacks_ordered (t.ordered s.stacks_ordered) (alive_tree t) p)
      ∙ counts_tree (living_below v p) p (stack_at w p).live ∙ ap (counts_by (living_below v p) p) (t.trees p) ∙ sym (counts_tree (living_below v p) p (stack_at v p).live) ∙ s.counted p;
  stacks_ordered = t.ordered s.stacks_ordered;
}

pub tree-trans : {u v w : World} → SameTree u v → SameTree v w → SameTree u w
tree-trans a b = record { trees = λ p. b.trees p ∙ a.trees p; ordered = λ s. b.ordered (a.ordered s) }

-- The edits that keep two worlds alike.
use Rattle.std.proofs.Common.{◌≡◌, Some, None, sym, ap, ◌∙◌}
use Rattle.std.specs.Prelude.{if◌then◌else◌}
use Rattle.std.specs.Option.{option_map}
use Rattle.vn_cells.specs.declared.cell.Cells.{Cells}
use Rattle.vn_cells.specs.declared.world.World.{World}
use Rattle.vn_cells.specs.declared.world.Live.{Live}
use Rattle.vn_cells.specs.declared.world.Stack.{Stack}
use Rattle.vn_cells.specs.declared.world.Pair.{Pair}
use Rattle.vn_cells.specs.world.Names.{Path, Key, path_eq, key_eq}
use Rattle.vn_cells.specs.world.World.{no_stack, live_map, edit_stack, each_stack, edit_live, add_pair, drop_pair, each_pair}
use Rattle.vn_laws.specs.Relations.{Alike}
use Rattle.vn_laws.proofs.edits.Cells.{none_lives, stack_at-edit_stack, stack_at-each_stack, stack_at-add_pair, stack_at-drop_pair, stack_at-each_pair, pair_at-edit_stack, pair_at-each_stack, pair_at-add_pair, pair_at-drop_pair, pair_at-each_pair, clock-edit_stack, clock-each_stack, clock-add_pair, clock-drop_pair, clock-each_pair}

module _ {set : Cells} {v w : World} (a : Alike set v w) where
  pub alike-edit_stack : (p : Path) (f : Stack → Stack) → Alike set (edit_stack p f v) (edit_stack p f w)
  alike-edit_stack p f = record {
    clock = simp clock-edit_stack a.clock;
    stacks = λ q h. simp stack_at-edit_stack (ap (λ s. if path_eq q p then f s else s) (a.stacks q h));
    pairs = λ k h. simp pair_at-edit_stack (a.pairs k h);
  }

  pub alike-each_stack : (f : Path → Stack → Stack) → ((q : Path) → f q no_stack ≡ no_stack)
      → Alike set (each_stack f v) (each_stack f w)
  alike-each_stack f none = record {
    clock = simp clock-each_stack a.clock;
    stacks = λ q h.
        stack_at-each_stack f v q (none q) ∙ ap (f q) (a.stacks q h) ∙ sym (stack_at-each_stack f w q (none q));
    pairs = λ k h. simp pair_at-each_stack (a.pairs k h);
  }

  pub alike-edit_live : (p : Path) (f : Live → Live) → Alike set (edit_live p f v) (edit_live p f w)
  alike-edit_live p f =
      alike-each_stack (λ q s. if path_eq q p then live_map f s else s) (λ q. none_lives (path_eq q p) f)

  pub alike-add_pair : (q : Key) (pair : Pair) → Alike set (add_pair q pair v) (add_pair q pair w)
  alike-add_pair q pair = record {
    clock = simp clock-add_pair a.clock;
    stacks = λ p h. simp stack_at-add_pair (a.stacks p h);
    pairs = λ k h. simp pair_at-add_pair (ap (λ o. if key_eq k q then Some pair else o) (a.pairs k h));
  }

  pub alike-drop_pair : (q : Key) → Alike set (drop_pair q v) (drop_pair q w)
  alike-drop_pair q = record {
    clock = simp clock-drop_pair a.clock;
    stacks = λ p h. simp stack_at-drop_pair (a.stacks p h);
    pairs = λ k h. simp pair_at-drop_pair (ap (λ o. if key_eq k q then None else o) (a.pairs k h));
  }

  pub alike-each_pair : (f : Key → Pair → Pair) → Alike set (each_pair f v) (each_pair f w)
  alike-each_pair f = record {
    clock = simp clock-each_pair a.clock;
    stacks = λ p h. simp stack_at-each_pair (a.stacks p h);
    pairs = λ k h. simp pair_at-each_pair (ap (option_map (f k)) (a.pairs k h));
  }

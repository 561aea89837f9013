-- A pair that is made, moves or is destroyed changes that pair and the stacks of two paths alone.
use Rattle.std.proofs.Common.{◌≡◌, ◌≢◌, false, Option, Some, None, refl, sym, ap, ◌∙◌, subst}
use Rattle.std.specs.Prelude.{if◌then◌else◌}
use Rattle.std.specs.Option.{option_map}
use Rattle.std.proofs.lemmas.Bool.{false_from_ne_true}
use Rattle.vn_types.specs.declared.half.Half.{Half}
use Rattle.vn_types.proofs.PathNames.{key_eq-Decides}
use Rattle.vn_cells.specs.declared.world.Pair.{Pair}
use Rattle.vn_cells.specs.declared.world.World.{World}
use Rattle.vn_cells.specs.world.Names.{Path, Key, key_of, key_eq, path_eq}
use Rattle.vn_cells.specs.world.World.{stack_at, pair_at}
use Rattle.vn_cells.specs.commands.Pairs.{new_pair, made_pair, unmade, destroyed_pair}
use Rattle.vn_cells.specs.commands.Moves.{placed_at, moved}
use Rattle.vn_laws.specs.Units.{ChangesPair}
use Rattle.vn_laws.proofs.edits.Cells.{apart}
use Rattle.vn_laws.proofs.jails.Goes.{goes-made_pair, goes-moved, goes-unmade}
use Rattle.vn_laws.proofs.pairs.Made.{two, made_stack, made_at}
use Rattle.vn_laws.proofs.pairs.Unmade.{both_cut, unmade_stack, unmade_pair}
use Rattle.vn_laws.proofs.moves.Ends.{shifted}
use Rattle.vn_laws.proofs.moves.Moved.{relived, moved_stack, moved_pair}

key_apart : (j k : Key) → j ≢ k → key_eq j k ≡ false
key_apart j k ne = false_from_ne_true (key_eq j k) (λ e. ne ((key_eq-Decides j k).0 e))

pub made-changes : (w : World) (k : Key) → ChangesPair k k.0 k.0 w (made_pair k w)
made-changes w k = record {
  clock = (goes-made_pair w k).clock;
  stacks = λ r ne nf. made_stack k.0 k.1 w r ∙ ap (λ b. two k.0 k.1 b (stack_at w r)) (apart r k.0 ne);
  pairs = λ j ne. made_at k.0 k.1 w j ∙ ap (λ b. if b then Some (new_pair k) else pair_at w j) (key_apart j k ne);
}

pub moved-changes : (w : World) (h : Half) (from to : Path) → ChangesPair (key_of h) from to w (moved h from to w)
moved-changes w h from to = record {
  clock = (goes-moved w h from to).clock;
  stacks = λ r ne nf. moved_stack h from to w r
      ∙ ap (λ b. relived h b (path_eq r from) (stack_at w r)) (apart r to nf) ∙ ap (λ c. relived h false c (stack_at w r)) (apart r from ne);
  pairs = λ j ne. moved_pair h from to w j ∙ by j (key_apart j (key_of h) ne) (pair_at w j);
}
  where
    by : (j : Key) → key_eq j (key_of h) ≡ false → (o : Option Pair) → option_map (shifted h to j) o ≡ o
    by j e None = refl
    by j e (Some pair) = ap (λ c. Some (if c then placed_at h.side to pair else pair)) e

pub destroyed-changes : (w : World) (k : Key) (pair : Pair) → pair_at w k ≡ Some pair → ChangesPair k pair.a.at pair.b.at w (destroyed_pair k w)
destroyed-changes w k pair is = subst (λ o. ChangesPair k pair.a.at pair.b.at w (unmade k o w)) (sym is) (record {
  clock = (goes-unmade w k (Some pair)).clock;
  stacks = λ r ne nf. unmade_stack k pair w r
      ∙ ap (λ c. both_cut k c (path_eq r pair.b.at) (stack_at w r)) (apart r pair.a.at ne)
      ∙ ap (λ d. both_cut k false d (stack_at w r)) (apart r pair.b.at nf);
  pairs = λ j ne. unmade_pair k pair w j ∙ ap (λ b. if b then None else pair_at w j) (key_apart j k ne);
})

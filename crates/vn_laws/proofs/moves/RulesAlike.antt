-- The commands that move halves say the same in two worlds that are alike in a set with their deciders.
use Rattle.std.proofs.Common.{◌≡◌, not, [], ◌∷◌, None, Option, refl, subst}
use Rattle.std.specs.Option.{is_none}
use Rattle.vn_types.specs.declared.errno.Errno.TheVariants as errno
use Rattle.vn_types.specs.declared.interface.IfName.{IfName}
use Rattle.vn_rules.specs.Named.{is_lo0}
use Rattle.vn_cells.specs.declared.cell.Cells.{Cells}
use Rattle.vn_cells.specs.declared.world.World.{World}
use Rattle.vn_cells.specs.world.Names.{Path, If}
use Rattle.vn_cells.specs.world.World.{is_alive}
use Rattle.vn_cells.specs.commands.Moves.{moved_on, lending, reclaiming}
use Rattle.vn_cells.specs.commands.Taken.{standing, is_taken, may_have}
use Rattle.vn_laws.specs.Relations.{Alike}
use Rattle.vn_laws.proofs.edits.Twins.{Twins}
use Rattle.vn_laws.proofs.moves.Alike.{twins-moved_on}
use Rattle.vn_laws.proofs.rule.Alike.{AlikeRules}

module _ {set : Cells} {v w : World} (t : Twins set v w) (p : Path) (name : IfName) where
  -- what moves is the same in both
  same_move : (at from to : Path) → standing v at name ≡ standing w at name
      → Alike set (moved_on (standing v at name) from to v) (moved_on (standing w at name) from to w)
  same_move at from to same =
      subst (λ on. Alike set (moved_on (standing v at name) from to v) (moved_on on from to w)) same
      (twins-moved_on t (standing v at name) from to).alike

  pub lending_alike : (to : Path) → standing v p name ≡ standing w p name → is_alive v to ≡ is_alive w to
      → is_taken v to name None ≡ is_taken w to name None → AlikeRules set (lending p name to v) (lending p name to w)
  lending_alike to same lives taken = record {
    refusals = λ i. (is_none (same i), errno.NxIo) ∷ (is_lo0 (same i), errno.Perm) ∷ (not (lives i), errno.NxIo) ∷ (taken i, errno.Exist) ∷ [];
    outcome = refl;
    left = λ none. same_move p p to same;
  }

  pub reclaiming_alike : (from : Path) → standing v from name ≡ standing w from name → is_alive v from ≡ is_alive w from
      → ((but : Option If) → is_taken v p name but ≡ is_taken w p name but) → AlikeRules set (reclaiming p name from v) (reclaiming p name from w)
  reclaiming_alike from same lives taken = record {
    refusals = λ i. (not (lives i), errno.NxIo) ∷ (is_none (same i), errno.NxIo) ∷ (not (may_have p (same i)), errno.Perm)
        ∷ (taken (same i) i, errno.Exist) ∷ [];
    outcome = refl;
    left = λ none. same_move from from p same;
  }

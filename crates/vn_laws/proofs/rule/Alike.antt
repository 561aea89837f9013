-- Two worlds in which a rule says the same.
use Rattle.std.proofs.Common.{◌≡◌, ℕ, Option, Some, None, refl, subst}
use Rattle.vn_types.specs.declared.errno.Errno.{Errno}
use Rattle.vn_types.specs.Refusals.{first_refusal}
use Rattle.vn_rules.specs.Rules.{Rule, answer, answer_by}
use Rattle.vn_cells.specs.declared.cell.Cells.{Cells}
use Rattle.vn_cells.specs.declared.command.Command.{Command}
use Rattle.vn_cells.specs.declared.world.World.{World}
use Rattle.vn_cells.specs.world.Names.{Path}
use Rattle.vn_cells.specs.world.World.{edit_stack}
use Rattle.vn_cells.specs.machine.Step.{ran, entered}
use Rattle.vn_laws.specs.Relations.{Alike}
use Rattle.vn_laws.proofs.edits.Alike.{alike-edit_stack}

-- the same conditions and outcome, and what is left is alike
pub record AlikeRules (set : Cells) (r q : Rule World) : Type 0 where
  pub refusals : r.refusals ≡ q.refusals
  pub outcome : r.otherwise.outcome ≡ q.otherwise.outcome
  pub left : first_refusal r.refusals ≡ None → Alike set r.otherwise.left q.otherwise.left

pub alike-answered : {set : Cells} {v w : World} → Alike set v w
    → (clock lane : ℕ) (issuer : Path) (command : Command) (r q : Rule World) → AlikeRules set r q
    → Alike set (entered clock lane issuer command (answer v r)) (entered clock lane issuer command (answer w q))
unfolding answer_by
alike-answered {set} {v} {w} a clock lane issuer command r q same =
    subst (λ cs. Alike set (entered clock lane issuer command (answer v r))
    (entered clock lane issuer command (answer_by (first_refusal cs) w q.otherwise))) same.refusals
    (by (first_refusal r.refusals) refl)
  where
    by : (o : Option Errno) → first_refusal r.refusals ≡ o
        → Alike set (entered clock lane issuer command (answer_by o v r.otherwise)) (entered clock lane issuer command (answer_by o w q.otherwise))
    by None e =
        subst (λ out. Alike set (edit_stack issuer (ran clock lane command r.otherwise.outcome) r.otherwise.left)
        (edit_stack issuer (ran clock lane command out) q.otherwise.left)) same.outcome
        (alike-edit_stack (same.left e) issuer _)
    by (Some errno) e = alike-edit_stack a issuer _

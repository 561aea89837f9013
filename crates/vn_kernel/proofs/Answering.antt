-- What a command is answered that a rule of the world refuses, and that it doesn't.
use Rattle.std.proofs.Common.{◌≡◌, Some, None, refl, sym, ap, ◌∙◌, subst, arith}
use Rattle.vn_types.specs.declared.errno.Errno.{Errno}
use Rattle.vn_types.specs.Refusals.{first_refusal}
use Rattle.vn_rules.specs.declared.outcome.Outcome.{Outcome}
use Rattle.vn_rules.specs.declared.outcome.Outcome.TheVariants.{Refused}
use Rattle.vn_rules.specs.Rules.{Rule, answer, answer_by, refused}
use Rattle.vn_cells.specs.declared.world.World.{World}
use Rattle.vn_kernel.specs.Fields.{Fields}
use Rattle.vn_kernel.specs.Stands.{Answered, Grows, Leaves, Stands}
use Rattle.vn_kernel.specs.Worlds.{world_of}

-- what is refused is answered with its errno
pub refused_is : (w : World) (rule : Rule World) (e : Errno) → first_refusal rule.refusals ≡ Some e → answer w rule ≡ refused e w
unfolding answer_by
refused_is w rule e is = ap (λ r. answer_by r w rule.otherwise) is

-- nothing grows where all is as it was
pub grows_not : (f : Fields) → Grows f f
grows_not f = record { jails = omega arith; pairs = omega arith }

module _ (f : Fields) (rule : Rule World) where
  -- what is refused leaves the world as it was
  pub answered-left : (g : Fields) (e : Errno) → first_refusal rule.refusals ≡ Some e → Leaves (world_of f) f g → Answered (answer (world_of f) rule) (Refused e) f g
  answered-left g e is leaves = subst (λ a. Answered a (Refused e) f g) (sym (refused_is (world_of f) rule e is)) (record { outcome = refl; leaves = leaves })

  -- and all else
  pub answered-refused : Stands f → (e : Errno) → first_refusal rule.refusals ≡ Some e → Answered (answer (world_of f) rule) (Refused e) f f
  answered-refused s e is = answered-left f e is (record { world = refl; stands = s; grows = grows_not f; read = refl })

  -- what is not becomes what the rule says
  pub answered-done : (g : Fields) (given : Outcome) → first_refusal rule.refusals ≡ None → given ≡ rule.otherwise.outcome → Leaves rule.otherwise.left f g → Answered (answer (world_of f) rule) given f g
  unfolding answer_by
  answered-done g given none is leaves = record {
    outcome = is ∙ sym (ap (λ r. (answer_by r (world_of f) rule.otherwise).outcome) none);
    leaves = subst (λ w. Leaves w f g) (sym (ap (λ r. (answer_by r (world_of f) rule.otherwise).left) none)) leaves;
  }

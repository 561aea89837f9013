-- A rule's answer: what holds before, and afterwards where nothing refuses, holds of what is left; and rules that agree answer alike.
use Rattle.std.proofs.Common.{◌≡◌, Option, Some, None, refl, ap, ◌∙◌}
use Rattle.vn_types.specs.declared.errno.Errno.{Errno}
use Rattle.vn_types.specs.Refusals.{first_refusal}
use Rattle.vn_rules.specs.Rules.{Answer, Rule, answer_by, answer}

module _ {S : Type 0} where
  pub answer-left : (P : S → Type 0) (s : S) (rule : Rule S) → P s → (first_refusal rule.refusals ≡ None → P rule.otherwise.left) → P (answer s rule).left
  unfolding answer_by
  answer-left P s rule before after = by (first_refusal rule.refusals) refl
    where
      by : (o : Option Errno) → first_refusal rule.refusals ≡ o → P (answer_by o s rule.otherwise).left
      by None none = after none
      by (Some errno) some = before

module _ {S T : Type 0} (f : S → T) where
  -- the same answer over another state
  abbrev pub over : Answer S → Answer T
  over a = record { left = f a.left; outcome = a.outcome }

  pub answer-over : (s : S) (rule : Rule S) (other : Rule T) → other.refusals ≡ rule.refusals → other.otherwise ≡ over rule.otherwise → answer (f s) other ≡ over (answer s rule)
  unfolding answer_by
  answer-over s rule other refusals otherwise =
      ap (λ rs. answer_by (first_refusal rs) (f s) other.otherwise) refusals ∙ ap (answer_by (first_refusal rule.refusals) (f s)) otherwise ∙ by (first_refusal rule.refusals)
    where
      by : (o : Option Errno) → answer_by o (f s) (over rule.otherwise) ≡ over (answer_by o s rule.otherwise)
      by None = refl
      by (Some errno) = refl

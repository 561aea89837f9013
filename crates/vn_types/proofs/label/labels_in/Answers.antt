use Rattle.std.proofs.Common.{◌<◌, ◌∙◌, ◌++◌, ◌∷◌, [], sym, ap, length, arith}
use Rattle.std.proofs.lemmas.Bool.Decides.{nat_tests}
use Rattle.vn_types.specs.PathTexts.{pieces}
use Rattle.vn_types.proofs.Labels.{none_in, some_in, all_labels, next_label, more_labels, next_given, last_label, all_given}
use Rattle.vn_types.proofs.label.labels_in.Goals as goal

pub returns-then-is_empty : goal.returns-then-is_empty
returns-then-is_empty c = c.new.ensures ∙ none_in c.args.text.now (grind (arith, nat_tests, c.is_empty.ensures, c.if-is_empty.true))

pub loop-piece-init : goal.loop-piece-init
loop-piece-init c =
    let some : 0 < length c.args.text.now = grind (arith, nat_tests, c.is_empty.ensures, c.if-is_empty.false) in
    record {
      whole = ap (λ ls. ls ++ pieces c.args.text.now) c.in_ok-labels.ensures ∙ sym (some_in _ some);
      labels = all_labels _ some c.requires;
    }

pub spelt-requires : goal.spelt-requires
spelt-requires c = next_label c.args.text.now _ _ c.loop-piece.invariant.whole c.loop-piece.invariant.labels c.in-Some.piece.now c.in-Some.more.now c.in-Some.ensures.parts

pub loop-piece-preserved : goal.loop-piece-preserved
loop-piece-preserved c = record {
  whole = next_given c.args.text.now _ _ c.loop-piece.invariant.whole c.loop-piece.invariant.labels _ _ c.in-Some.ensures.parts _
      (c.in_ok-push.ensures.ok ∙ ap (λ l. c.loop-piece.labels ++ l ∷ []) c.in_ok-label.ensures);
  labels = more_labels c.args.text.now _ _ c.loop-piece.invariant.whole c.loop-piece.invariant.labels _ _ c.in-Some.ensures.parts;
}

pub spelt-requires-2 : goal.spelt-requires-2
spelt-requires-2 c = last_label c.args.text.now _ _ c.loop-piece.invariant.whole c.loop-piece.invariant.labels c.in_default.ensures.whole

pub returns : goal.returns
returns c = all_given c.args.text.now _ _ c.loop-piece.invariant.whole c.loop-piece.invariant.labels c.in_default.ensures.whole _
    (c.in_ok-push-2.ensures.ok ∙ ap (λ l. c.loop-piece.labels ++ l ∷ []) c.in_ok-label-2.ensures)

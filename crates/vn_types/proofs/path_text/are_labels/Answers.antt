use Rattle.vn_types.proofs.PathReading.{label_fails, label_passes, last_fails, last_passes}
use Rattle.vn_types.proofs.path_text.are_labels.Goals as goal

pub returns-then-not-is_label : goal.returns-then-not-is_label
returns-then-not-is_label c = label_fails _ _ c.loop-piece.invariant c.in-Some.piece.now c.in-Some.more.now _ c.in-Some.ensures.parts c.is_label.ensures c.if-not-is_label.true

pub loop-piece-preserved : goal.loop-piece-preserved
loop-piece-preserved c = label_passes _ _ c.loop-piece.invariant c.in-Some.piece.now c.in-Some.more.now _ c.in-Some.ensures.parts c.is_label.ensures c.if-not-is_label.false

pub returns-then-is_label : goal.returns-then-is_label
returns-then-is_label c = last_passes _ _ c.loop-piece.invariant _ c.in_default.ensures.whole c.is_label-2.ensures c.if-is_label.true _ c.count_dots.ensures

pub returns-else-is_label : goal.returns-else-is_label
returns-else-is_label c = last_fails _ _ c.loop-piece.invariant _ c.in_default.ensures.whole c.is_label-2.ensures c.if-is_label.false

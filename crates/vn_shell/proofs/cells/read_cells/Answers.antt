use Rattle.std.proofs.Common.{◌∙◌, ◌==◌, sym, ap}
use Rattle.std.specs.List.{slice_split}
use Rattle.std.proofs.lemmas.Result.{IfOk-weaker}
use Rattle.vn_shell.specs.Cells.{comma}
use Rattle.vn_shell.proofs.CellSets.{cells_from, cells_whole, text_read, text_refused, text_last}
use Rattle.vn_shell.proofs.cells.read_cells.Goals as goal

pub loop-text-init : goal.loop-text-init
loop-text-init c = ap (λ set. cells_from set (slice_split (λ d. d == comma) c.args.word.now)) c.no_cells-set.ensures ∙ cells_whole c.args.word.now

pub loop-text-preserved : goal.loop-text-preserved
loop-text-preserved c =
    sym (text_read _ _ _ _ (sym c.in-Some-2.is ∙ c.in_ok-larger.ensures)) ∙ ap (cells_from c.loop-text.set) (sym c.in-Some.ensures.parts) ∙ c.loop-text.invariant

pub returns-in-None : goal.returns-in-None
returns-in-None c =
    text_refused _ _ _ (sym c.in-None.is ∙ c.in_ok-larger.ensures) ∙ ap (cells_from c.loop-text.set) (sym c.in-Some.ensures.parts) ∙ c.loop-text.invariant

pub returns : goal.returns
returns c =
    IfOk-weaker c.with_text-2.result _ _ (λ r e. e ∙ text_last _ _ ∙ ap (cells_from c.loop-text.set) (sym c.in_default.ensures.whole) ∙ c.loop-text.invariant) c.with_text-2.ensures

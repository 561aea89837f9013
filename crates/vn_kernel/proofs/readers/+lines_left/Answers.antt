use Rattle.std.proofs.Common.{Some, length, true, false, sym, ap, ◌∙◌}
use Rattle.vn_kernel.specs.Readers.{OpenReader}
use Rattle.vn_kernel.proofs.Lanes.{left-first, left-none}
use Rattle.vn_kernel.proofs.readers.+lines_left.Goals as goal

pub returns-in_err-first : goal.returns-in_err-first
returns-in_err-first t c = c.from_residual.ensures ∙ sym (left-none c.args.lane c.args.readers.now c.in_err-first.ensures.cases)

pub returns-then-is_of : goal.returns-then-is_of
returns-then-is_of t c =
    ap Some (c.len.ensures ∙ c.first.inside.lines.ok.0 ∙ ap (λ (r : OpenReader). length r.lines) c.first.view_is)
    ∙ sym (left-first c.args.lane c.in_ok-first.first.now c.in_ok-first.rest.now c.args.readers.now true c.in_ok-first.ensures.cases.0 (sym c.is_of.ensures ∙ c.if-is_of.true))

pub returns : goal.returns
returns t c =
    c.lines_left.ensures
    ∙ sym (left-first c.args.lane c.in_ok-first.first.now c.in_ok-first.rest.now c.args.readers.now false c.in_ok-first.ensures.cases.0 (sym c.is_of.ensures ∙ c.if-is_of.false))

use Rattle.std.proofs.Common.{◌∷◌, map, Some, sym, ap, ◌∙◌}
use Rattle.std.specs.Prelude.{drop, slice_get}
use Rattle.vn_kernel.specs.Readers.{OpenReader, read_on}
use Rattle.vn_kernel.proofs.Lanes.{next-none, next-other, next-own, read-other, read-own, taken-first}
use Rattle.vn_kernel.proofs.readers.+take_line.Goals as goal

pub returns-in_err-readers-clause-line : goal.returns-in_err-readers-clause-line
returns-in_err-readers-clause-line t c = c.from_residual.ensures ∙ sym (next-none c.args.lane c.args.readers.now c.in_err-readers.ensures.cases)

pub returns-then-is_of-clause-line : goal.returns-then-is_of-clause-line
returns-then-is_of-clause-line t c =
    ap Some (taken-first c.pop_front.result _ _ c.pop_front.ensures.items c.pop_front.ensures.rest ∙ ap (λ (r : OpenReader). slice_get r.lines 0) c.first.view_is)
    ∙ sym (next-own c.args.lane c.in_ok-readers.first.now c.in_ok-readers.rest.now c.args.readers.now c.in_ok-readers.ensures.cases.0 (sym c.is_of.ensures ∙ c.if-is_of.true))

pub returns-then-is_of-clause-left : goal.returns-then-is_of-clause-left
returns-then-is_of-clause-left t c =
    (λ i. record { lane = c.first.inside.lane; lines = c.pop_front.ensures.rest i; since = c.first.inside.since } ∷ c.take_line-later.ensures.left i)
    ∙ ap (λ (r : OpenReader). record r { lines = drop 1 r.lines } ∷ map (read_on c.args.lane) c.in_ok-readers.rest.now) c.first.view_is
    ∙ sym (read-own c.args.lane c.in_ok-readers.first.now c.in_ok-readers.rest.now c.args.readers.now c.in_ok-readers.ensures.cases.0 (sym c.is_of.ensures ∙ c.if-is_of.true))

pub returns-clause-line : goal.returns-clause-line
returns-clause-line t c =
    c.take_line-later.ensures.line
    ∙ sym (next-other c.args.lane c.in_ok-readers.first.now c.in_ok-readers.rest.now c.args.readers.now c.in_ok-readers.ensures.cases.0 (sym c.is_of.ensures ∙ c.if-is_of.false))

pub returns-clause-left : goal.returns-clause-left
returns-clause-left t c =
    ap (λ rs. c.in_ok-readers.first.now ∷ rs) c.take_line-later.ensures.left
    ∙ sym (read-other c.args.lane c.in_ok-readers.first.now c.in_ok-readers.rest.now c.args.readers.now c.in_ok-readers.ensures.cases.0 (sym c.is_of.ensures ∙ c.if-is_of.false))

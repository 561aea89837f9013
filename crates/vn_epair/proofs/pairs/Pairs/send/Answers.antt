use Rattle.std.proofs.Common.{◌≡◌, not, Some, IsSome, unwrap_or, refl, subst, sym, ap, ◌∙◌}
use Rattle.vn_epair.specs.declared.line.Awaited.{Awaited}
use Rattle.vn_types.specs.Interfaces.{other_side}
use Rattle.std.specs.List.{list_any}
use Rattle.vn_rules.specs.Scenes.{is_empty}
use Rattle.vn_epair.specs.Pairs.{coming, end_of, half_of, new_pair, of, send_refusal}
use Rattle.vn_types.specs.Refusals.{IsRefusedBy}
use Rattle.vn_epair.specs.Line.{is_ranked, rank}
use Rattle.vn_epair.proofs.Changes.{awaited_of}
use Rattle.vn_epair.proofs.Keeps.{kept-frames, other-twice, read, settle-listed, settle-room, settled-as}
use Rattle.vn_epair.proofs.pairs.Pairs.send.Goals as goal

pub settle-requires-clause-listed : goal.settle-requires-clause-listed
settle-requires-clause-listed c =
    let some : IsSome (of c.self.inside.rows.items c.args.from.pair) = subst (λ ps. IsSome (of ps c.args.from.pair)) (sym c.self.view_is) c.requires in
    let was : of c.self.inside.rows.items c.args.from.pair ≡ Some c.in-Some.row = read c.self.inside.rows.items c.args.from.pair c.index_mut.result.now c.in-Some.row some c.index_mut.ensures.value c.in-Some.is in
    ap (λ (h : Awaited). list_any (is_ranked (rank h)) c.self.inside.line.listed) c.awaited.ensures
    ∙ settle-listed c.self.inside.rows.items _ c.self.inside.names c.self.inside.line c.args.from.pair c.in-Some.row c.send-answer.new.self was refl c.self.invariant c.other.result c.args.from.side _ c.send-answer.ensures.half
    ∙ sym (ap not c.is_quiet-was_quiet.ensures)

pub settle-requires-clause-room : goal.settle-requires-clause-room
settle-requires-clause-room c = λ quiet.
    let some : IsSome (of c.self.inside.rows.items c.args.from.pair) = subst (λ ps. IsSome (of ps c.args.from.pair)) (sym c.self.view_is) c.requires in
    let was : of c.self.inside.rows.items c.args.from.pair ≡ Some c.in-Some.row = read c.self.inside.rows.items c.args.from.pair c.index_mut.result.now c.in-Some.row some c.index_mut.ensures.value c.in-Some.is in
    settle-room c.self.inside.rows.items _ c.self.inside.names c.self.inside.line c.args.from.pair c.in-Some.row c.send-answer.new.self was refl c.self.invariant c.other.result (sym c.is_quiet-was_quiet.ensures ∙ quiet)

pub invariant_of-self : goal.invariant_of-self
invariant_of-self c =
    let some : IsSome (of c.self.inside.rows.items c.args.from.pair) = subst (λ ps. IsSome (of ps c.args.from.pair)) (sym c.self.view_is) c.requires in
    let was : of c.self.inside.rows.items c.args.from.pair ≡ Some c.in-Some.row = read c.self.inside.rows.items c.args.from.pair c.index_mut.result.now c.in-Some.row some c.index_mut.ensures.value c.in-Some.is in
    kept-frames c.self.inside.rows.items _ c.self.inside.names c.self.inside.line c.args.from.pair c.in-Some.row c.send-answer.new.self was refl c.self.invariant c.other.result c.args.from.side _ c.settle.new.self (other-twice c.args.from.side ∙ sym (ap other_side c.other.ensures)) c.send-answer.ensures.half
    (settled-as c.awaited.result (awaited_of c.send-answer.new.self (record { pair = c.args.from.pair; side = c.other.result })) c.is_quiet-was_quiet.result (is_empty (coming c.other.result c.in-Some.row)) c.is_quiet.result (is_empty (coming c.other.result c.send-answer.new.self)) c.self.inside.line c.settle.new.self
    c.awaited.ensures c.is_quiet-was_quiet.ensures c.is_quiet.ensures c.settle.ensures)

pub returns-clause-answer : goal.returns-clause-answer
returns-clause-answer c =
    let some : IsSome (of c.self.inside.rows.items c.args.from.pair) = subst (λ ps. IsSome (of ps c.args.from.pair)) (sym c.self.view_is) c.requires in
    let was : of c.self.inside.rows.items c.args.from.pair ≡ Some c.in-Some.row = read c.self.inside.rows.items c.args.from.pair c.index_mut.result.now c.in-Some.row some c.index_mut.ensures.value c.in-Some.is in
    let half : half_of c.args.self.now c.args.from ≡ end_of c.args.from.side c.in-Some.row = ap (λ ps. half_of ps c.args.from) (sym c.self.view_is) ∙ ap (λ o. end_of c.args.from.side (unwrap_or o (new_pair 0 0))) was in
    subst (λ e. IsRefusedBy (send_refusal e) c.send-answer.result) (sym half) c.send-answer.ensures.answer

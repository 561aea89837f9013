use Rattle.std.proofs.Common.{◌≡◌, not, Some, IsSome, refl, subst, sym, ap, ◌∙◌}
use Rattle.vn_epair.specs.declared.line.Awaited.{Awaited}
use Rattle.vn_types.specs.Interfaces.{other_side}
use Rattle.std.specs.List.{list_any}
use Rattle.vn_rules.specs.Scenes.{is_empty}
use Rattle.vn_epair.specs.Pairs.{coming, of}
use Rattle.vn_epair.specs.Line.{is_ranked, rank}
use Rattle.vn_epair.proofs.Changes.{awaited_of}
use Rattle.vn_epair.proofs.Keeps.{kept-frames, read, settle-listed, settle-room, settled-as}
use Rattle.vn_epair.proofs.pairs.Pairs.take.Goals as goal

pub settle-requires-clause-listed : goal.settle-requires-clause-listed
settle-requires-clause-listed c =
    let some : IsSome (of c.self.inside.rows.items c.args.at.pair) = subst (λ ps. IsSome (of ps c.args.at.pair)) (sym c.self.view_is) c.requires in
    let was : of c.self.inside.rows.items c.args.at.pair ≡ Some c.in-Some.row = read c.self.inside.rows.items c.args.at.pair c.index_mut.result.now c.in-Some.row some c.index_mut.ensures.value c.in-Some.is in
    ap (λ (h : Awaited). list_any (is_ranked (rank h)) c.self.inside.line.listed) c.awaited.ensures
    ∙ settle-listed c.self.inside.rows.items _ c.self.inside.names c.self.inside.line c.args.at.pair c.in-Some.row c.take-frame.new.self was refl c.self.invariant c.args.at.side (other_side c.args.at.side) _ c.take-frame.ensures.rest
    ∙ sym (ap not c.is_quiet-was_quiet.ensures)

pub settle-requires-clause-room : goal.settle-requires-clause-room
settle-requires-clause-room c = λ quiet.
    let some : IsSome (of c.self.inside.rows.items c.args.at.pair) = subst (λ ps. IsSome (of ps c.args.at.pair)) (sym c.self.view_is) c.requires in
    let was : of c.self.inside.rows.items c.args.at.pair ≡ Some c.in-Some.row = read c.self.inside.rows.items c.args.at.pair c.index_mut.result.now c.in-Some.row some c.index_mut.ensures.value c.in-Some.is in
    settle-room c.self.inside.rows.items _ c.self.inside.names c.self.inside.line c.args.at.pair c.in-Some.row c.take-frame.new.self was refl c.self.invariant c.args.at.side (sym c.is_quiet-was_quiet.ensures ∙ quiet)

pub invariant_of-self : goal.invariant_of-self
invariant_of-self c =
    let some : IsSome (of c.self.inside.rows.items c.args.at.pair) = subst (λ ps. IsSome (of ps c.args.at.pair)) (sym c.self.view_is) c.requires in
    let was : of c.self.inside.rows.items c.args.at.pair ≡ Some c.in-Some.row = read c.self.inside.rows.items c.args.at.pair c.index_mut.result.now c.in-Some.row some c.index_mut.ensures.value c.in-Some.is in
    kept-frames c.self.inside.rows.items _ c.self.inside.names c.self.inside.line c.args.at.pair c.in-Some.row c.take-frame.new.self was refl c.self.invariant c.args.at.side (other_side c.args.at.side) _ c.settle.new.self refl c.take-frame.ensures.rest
    (settled-as c.awaited.result (awaited_of c.take-frame.new.self (record { pair = c.args.at.pair; side = c.args.at.side })) c.is_quiet-was_quiet.result (is_empty (coming c.args.at.side c.in-Some.row)) c.is_quiet.result (is_empty (coming c.args.at.side c.take-frame.new.self)) c.self.inside.line c.settle.new.self
    c.awaited.ensures c.is_quiet-was_quiet.ensures c.is_quiet.ensures c.settle.ensures)

use Rattle.std.proofs.Common.{◌<◌, ◌==◌, List, get_or, length, map, sym, ap, ◌∙◌, arith}
use Rattle.std.proofs.lemmas.Option.{get_or_from_slice_get, slice_get-get_or}
use Rattle.vn_sock.specs.declared.port_index.Bound.{Bound}
use Rattle.vn_sock.specs.Names.{unmoved}
use Rattle.vn_sock.specs.Ports.{are_ordered, has, moved_up}
use Rattle.vn_sock.proofs.Loops.{changed-all, changed-next, written-back}
use Rattle.vn_sock.proofs.PortMoves.{gone-has, moved-ordered, now-gone}
use Rattle.vn_sock.proofs.port_index.PortIndex.remove.Goals as goal

pub loop-bound-preserved : goal.loop-bound-preserved
loop-bound-preserved c =
    let items : List Bound = c.loop-bound.bound-items in
    let here : Bound = get_or items c.loop-bound.bound-index (record { port = 0; place = 0 }) in
    let less : c.loop-bound.bound-index < length items = omega arith in
    changed-next (moved_up c.args.place) c.deref_mut-bound-items.result.now items c.loop-bound.bound-index here c.move_up.new.self c.loop-bound.invariant less
    (sym (get_or_from_slice_get items c.loop-bound.bound-index here here (slice_get-get_or items c.loop-bound.bound-index (record { port = 0; place = 0 }) less))) c.move_up.ensures

pub invariant_of-self : goal.invariant_of-self
invariant_of-self c =
    let items : List Bound = c.take.new.items.items in
    let back = written-back c.take.new.items.len items c.deref_mut-bound-items.result.now c.loop-bound.bound-items c.deref_mut-bound-items.ensures.value c.deref_mut-bound-items.ensures.len c.loop-bound.invariant.as_many
    ∙ changed-all (moved_up c.args.place) c.deref_mut-bound-items.result.now c.loop-bound.bound-items c.loop-bound.bound-index c.loop-bound.invariant (omega arith)
    ∙ ap (map (moved_up c.args.place)) c.deref_mut-bound-items.ensures.value in
    let gone = now-gone c.args.place c.port_number-port.result c.self.inside.items.items items
    (λ q. ap (has q c.args.place) c.self.view_is ∙ c.requires q ∙ ap (λ n. n == q) (sym c.port_number-port.ensures)) c.take.ensures.taken in
    record { ordered = ap are_ordered back ∙ moved-ordered c.args.place items gone c.take.ensures.ordered; room = omega (arith, c.take.ensures.room) }

pub returns : goal.returns
returns c = λ q k.
    let items : List Bound = c.take.new.items.items in
    let back = written-back c.take.new.items.len items c.deref_mut-bound-items.result.now c.loop-bound.bound-items c.deref_mut-bound-items.ensures.value c.deref_mut-bound-items.ensures.len c.loop-bound.invariant.as_many
    ∙ changed-all (moved_up c.args.place) c.deref_mut-bound-items.result.now c.loop-bound.bound-items c.loop-bound.bound-index c.loop-bound.invariant (omega arith)
    ∙ ap (map (moved_up c.args.place)) c.deref_mut-bound-items.ensures.value in
    ap (has q k) back
    ∙ gone-has c.args.place c.port_number-port.result c.self.inside.items.items items
    (λ q. ap (has q c.args.place) c.self.view_is ∙ c.requires q ∙ ap (λ n. n == q) (sym c.port_number-port.ensures)) c.take.ensures.taken q k
    ∙ ap (has q (unmoved c.args.place k)) c.self.view_is

use Rattle.std.proofs.Common.{false, List, sym, ap, subst, ◌∙◌}
use Rattle.std.specs.Prelude.{IsErr, IsTrue, slice_set}
use Rattle.std.specs.Option.{option_map_or}
use Rattle.vn_types.specs.declared.interface.HalfId.{HalfId}
use Rattle.vn_rules.specs.declared.socket.SocketOf.{SocketOf}
use Rattle.vn_rules.specs.Sockets.{is_queue_full, queued}
use Rattle.vn_sock.proofs.Kept.{at-place, kept-there, queued-same}
use Rattle.vn_sock.proofs.sockets.Sockets.deliver.Goals as goal

pub invariant_of-self : goal.invariant_of-self
invariant_of-self c =
    let same = queued-same c.args.gram c.index_mut.result.now in
    kept-there c.self.inside.names c.self.inside.ports c.self.inside.items.items c.self.invariant c.args.place c.index_mut.result.now c.receive.new.self _ c.index_mut.ensures.value c.receive.ensures.queued same.0 same.1

pub returns-clause-full : goal.returns-clause-full
returns-clause-full c =
    let there = at-place c.self.inside.items.items c.args.self.now c.args.place c.index_mut.result.now c.self.view_is c.requires c.index_mut.ensures.value in
    subst (λ o. (IsErr c.receive.result → IsTrue (option_map_or is_queue_full o false)) × (IsTrue (option_map_or is_queue_full o false) → IsErr c.receive.result)) (sym there) c.receive.ensures.full

pub returns-clause-delivered : goal.returns-clause-delivered
returns-clause-delivered c =
    let there = at-place c.self.inside.items.items c.args.self.now c.args.place c.index_mut.result.now c.self.view_is c.requires c.index_mut.ensures.value in
    ap (slice_set c.self.inside.items.items c.args.place) c.receive.ensures.queued
    ∙ ap (λ (ss : List (SocketOf HalfId)). slice_set ss c.args.place (queued c.args.gram c.index_mut.result.now)) c.self.view_is
    ∙ ap (λ o. option_map_or (λ s. slice_set c.args.self.now c.args.place (queued c.args.gram s)) o c.args.self.now) (sym there)

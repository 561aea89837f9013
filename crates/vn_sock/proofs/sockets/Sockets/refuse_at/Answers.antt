use Rattle.std.proofs.Common.{◌≡◌, List, sym, ap, subst, ◌∙◌}
use Rattle.std.specs.Prelude.{IfSome, slice_set}
use Rattle.vn_types.specs.declared.interface.HalfId.{HalfId}
use Rattle.vn_rules.specs.declared.socket.SocketOf.{SocketOf}
use Rattle.vn_sock.specs.Kept.{refused}
use Rattle.vn_sock.proofs.Kept.{at-place, kept-there, refused-same}
use Rattle.vn_sock.proofs.sockets.Sockets.refuse_at.Goals as goal

pub invariant_of-self : goal.invariant_of-self
invariant_of-self c =
    let same = refused-same c.args.ends.src c.args.ends.sport c.args.ends.dst c.args.ends.dport c.index_mut.result.now in
    kept-there c.self.inside.names c.self.inside.ports c.self.inside.items.items c.self.invariant c.args.place c.index_mut.result.now c.refuse.new.self _ c.index_mut.ensures.value c.refuse.ensures same.0 same.1

pub returns : goal.returns
returns c =
    let there = at-place c.self.inside.items.items c.args.self.now c.args.place c.index_mut.result.now c.self.view_is c.requires c.index_mut.ensures.value in
    subst (λ o. IfSome o (λ s. slice_set c.self.inside.items.items c.args.place c.refuse.new.self ≡ slice_set c.args.self.now c.args.place (refused c.args.ends.src c.args.ends.sport c.args.ends.dst c.args.ends.dport s))) (sym there)
    (ap (slice_set c.self.inside.items.items c.args.place) c.refuse.ensures ∙ ap (λ (ss : List (SocketOf HalfId)). slice_set ss c.args.place (refused c.args.ends.src c.args.ends.sport c.args.ends.dst c.args.ends.dport c.index_mut.result.now)) c.self.view_is)

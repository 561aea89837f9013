use Rattle.std.proofs.Common.{◌≡◌, false, Some, drop, sym, ap, subst, refl}
use Rattle.std.specs.Prelude.{Result, Ok, Err, IfOk, OnOk, OnErr, slice_get}
use Rattle.std.specs.Option.{option_and_then}
use Rattle.vn_types.specs.declared.interface.HalfId.{HalfId}
use Rattle.vn_types.specs.declared.errno.Errno.{Errno}
use Rattle.vn_types.specs.declared.errno.Errno.TheVariants as errno
use Rattle.vn_types.specs.Refusals.{IsRefusedBy, first_refusal}
use Rattle.vn_rules.specs.declared.socket.GramOf.{GramOf}
use Rattle.vn_rules.specs.declared.socket.SocketOf.{SocketOf}
use Rattle.vn_rules.specs.SocketRefusals.{of_open}
use Rattle.std.specs.Prelude.{is_none, ◌∷◌, []}
use Rattle.vn_sock.proofs.Kept.{changed-there, found-there, kept-there, on_ok, on_err}
use Rattle.vn_sock.proofs.PortFinds.{are-apart}
use Rattle.vn_sock.proofs.sockets.Sockets.recv.Goals as goal

keeps : (s t : SocketOf HalfId) (r : Result (GramOf HalfId) Errno) → OnOk r (t ≡ record s { queue = drop 1 s.queue }) → OnErr r (t ≡ record s { refused = false }) → (t.name ≡ s.name) × (t.port ≡ s.port)
keeps s t (Ok g) taken reported = (ap (λ (u : SocketOf HalfId). u.name) taken, ap (λ (u : SocketOf HalfId). u.port) taken)
keeps s t (Err e) taken reported = (ap (λ (u : SocketOf HalfId). u.name) reported, ap (λ (u : SocketOf HalfId). u.port) reported)

pub invariant_of-self : goal.invariant_of-self
invariant_of-self c =
    let same = keeps c.index_mut.result.now c.recv.new.self c.recv.result c.recv.ensures.taken c.recv.ensures.reported in
    kept-there c.self.inside.names c.self.inside.ports c.self.inside.items.items c.self.invariant c.in-Some.place c.index_mut.result.now c.recv.new.self _ c.index_mut.ensures.value refl same.0 same.1

pub returns-clause-answer : goal.returns-clause-answer
returns-clause-answer c =
    let found = found-there c.args.name.now c.self.inside.items.items c.args.self.now c.in-Some.place c.index_mut.result.now c.self.view_is c.in-Some.ensures.place c.index_mut.ensures.value in
    subst (λ o. IsRefusedBy (first_refusal (of_open (λ (s : SocketOf HalfId). (s.refused, errno.ConnRefused) ∷ (is_none (slice_get s.queue 0), errno.Again) ∷ []) o)) c.recv.result) (sym found) c.recv.ensures.answer

pub returns-clause-first : goal.returns-clause-first
returns-clause-first c =
    let found = found-there c.args.name.now c.self.inside.items.items c.args.self.now c.in-Some.place c.index_mut.result.now c.self.view_is c.in-Some.ensures.place c.index_mut.ensures.value in
    subst (λ o. IfOk c.recv.result (λ g. option_and_then (λ (s : SocketOf HalfId). slice_get s.queue 0) o ≡ Some g)) (sym found) c.recv.ensures.first

pub returns-clause-taken : goal.returns-clause-taken
returns-clause-taken c =
    on_ok c.recv.result
    (changed-there c.args.name.now c.self.inside.items.items c.args.self.now c.in-Some.place c.index_mut.result.now c.self.view_is c.in-Some.ensures.place c.index_mut.ensures.value
    (λ s. record s { queue = drop 1 s.queue }) c.recv.new.self (are-apart c.self.inside.names c.self.inside.ports c.self.inside.items.items c.self.invariant)) c.recv.ensures.taken

pub returns-clause-reported : goal.returns-clause-reported
returns-clause-reported c =
    on_err c.recv.result
    (changed-there c.args.name.now c.self.inside.items.items c.args.self.now c.in-Some.place c.index_mut.result.now c.self.view_is c.in-Some.ensures.place c.index_mut.ensures.value
    (λ s. record s { refused = false }) c.recv.new.self (are-apart c.self.inside.names c.self.inside.ports c.self.inside.items.items c.self.invariant)) c.recv.ensures.reported

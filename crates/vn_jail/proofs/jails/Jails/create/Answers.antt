use Rattle.std.proofs.Common.{◌≡◌, ◌+◌, length, true, false, refl, sym, ap, ap₂, ◌∙◌, arith}
use Rattle.std.proofs.lemmas.Bool.{false≢true, false_from_ne_true}
use Rattle.vn_types.specs.Paths.{above, is_host, parent}
use Rattle.vn_jail.specs.Tree.{any_full, at, changed, is_alive, known, number_of, path_at, start}
use Rattle.vn_jail.proofs.Changes.{as-many}
use Rattle.vn_jail.proofs.Known.{numbered-either, one-number}
use Rattle.vn_jail.proofs.Tables.{asked-above, full-refused, not-refused, parent-number}
use Rattle.vn_jail.proofs.jails.Jails.create.Goals as goal

pub is_any_full-requires-clause-number : goal.is_any_full-requires-clause-number
is_any_full-requires-clause-number c =
    let up : is_alive (parent c.args.path.now) c.args.self.now ≡ true = ap (λ q. is_alive q c.args.self.now) (sym c.in_ok-parent.ensures) ∙ c.in-Some.ensures.alive.0 refl in
    let own : c.in-Some.parent.0 ≡ number_of (parent c.args.path.now) c.args.self.now = c.in-Some.ensures.number ∙ ap (λ q. number_of q c.args.self.now) c.in_ok-parent.ensures in
    let pn = parent-number c.args.path.now c.args.self.now up in
    omega (arith, own, pn.0, ap length (c.deref.ensures.value ∙ c.self.view_is))

pub returns-then-is_any_full-clause-answer : goal.returns-then-is_any_full-clause-answer
returns-then-is_any_full-clause-answer c =
    let up : is_alive (parent c.args.path.now) c.args.self.now ≡ true = ap (λ q. is_alive q c.args.self.now) (sym c.in_ok-parent.ensures) ∙ c.in-Some.ensures.alive.0 refl in
    let gone : is_alive c.args.path.now c.args.self.now ≡ false = false_from_ne_true _ (λ e. false≢true (sym (sym c.is_some.ensures ∙ c.if-is_some.false) ∙ c.alive-2.ensures.alive.1 e)) in
    let own : c.in-Some.parent.0 ≡ number_of (parent c.args.path.now) c.args.self.now = c.in-Some.ensures.number ∙ ap (λ q. number_of q c.args.self.now) c.in_ok-parent.ensures in
    let full = asked-above _ _ c.args.path.now _ _ (c.deref.ensures.value ∙ c.self.view_is) own up c.is_any_full.ensures in
    full-refused c.args.path.now c.args.self.now up gone (full ∙ c.if-is_any_full.true)

pub start-requires-clause-number : goal.start-requires-clause-number
start-requires-clause-number c =
    let gone : is_alive c.args.path.now c.args.self.now ≡ false = false_from_ne_true _ (λ e. false≢true (sym (sym c.is_some.ensures ∙ c.if-is_some.false) ∙ c.alive-2.ensures.alive.1 e)) in
    let n = numbered-either c.args.path.now c.args.self.now gone in
    omega (arith, c.in_ok-sid.ensures.number, n.within, ap length c.in_ok-sid.ensures.known)

pub start-requires-clause-jail : goal.start-requires-clause-jail
start-requires-clause-jail c =
    let gone : is_alive c.args.path.now c.args.self.now ≡ false = false_from_ne_true _ (λ e. false≢true (sym (sym c.is_some.ensures ∙ c.if-is_some.false) ∙ c.alive-2.ensures.alive.1 e)) in
    let n = numbered-either c.args.path.now c.args.self.now gone in
    ap₂ (λ js m. is_host (path_at js m)) c.in_ok-sid.ensures.known c.in_ok-sid.ensures.number ∙ ap is_host n.path ∙ c.requires.label

pub start-requires-clause-dead : goal.start-requires-clause-dead
start-requires-clause-dead c =
    let gone : is_alive c.args.path.now c.args.self.now ≡ false = false_from_ne_true _ (λ e. false≢true (sym (sym c.is_some.ensures ∙ c.if-is_some.false) ∙ c.alive-2.ensures.alive.1 e)) in
    let n = numbered-either c.args.path.now c.args.self.now gone in
    ap₂ (λ js m. (at js m).alive) c.in_ok-sid.ensures.known c.in_ok-sid.ensures.number ∙ n.dead

pub start-requires-clause-parent : goal.start-requires-clause-parent
start-requires-clause-parent c =
    let up : is_alive (parent c.args.path.now) c.args.self.now ≡ true = ap (λ q. is_alive q c.args.self.now) (sym c.in_ok-parent.ensures) ∙ c.in-Some.ensures.alive.0 refl in
    let gone : is_alive c.args.path.now c.args.self.now ≡ false = false_from_ne_true _ (λ e. false≢true (sym (sym c.is_some.ensures ∙ c.if-is_some.false) ∙ c.alive-2.ensures.alive.1 e)) in
    let n = numbered-either c.args.path.now c.args.self.now gone in
    ap₂ (λ js m. is_alive (parent (path_at js m)) js) c.in_ok-sid.ensures.known c.in_ok-sid.ensures.number
    ∙ ap (λ q. is_alive (parent q) (known c.args.path.now c.args.self.now)) n.path ∙ n.same (parent c.args.path.now) ∙ up

pub start-requires-clause-room : goal.start-requires-clause-room
start-requires-clause-room c =
    let up : is_alive (parent c.args.path.now) c.args.self.now ≡ true = ap (λ q. is_alive q c.args.self.now) (sym c.in_ok-parent.ensures) ∙ c.in-Some.ensures.alive.0 refl in
    let gone : is_alive c.args.path.now c.args.self.now ≡ false = false_from_ne_true _ (λ e. false≢true (sym (sym c.is_some.ensures ∙ c.if-is_some.false) ∙ c.alive-2.ensures.alive.1 e)) in
    let own : c.in-Some.parent.0 ≡ number_of (parent c.args.path.now) c.args.self.now = c.in-Some.ensures.number ∙ ap (λ q. number_of q c.args.self.now) c.in_ok-parent.ensures in
    let full = asked-above _ _ c.args.path.now _ _ (c.deref.ensures.value ∙ c.self.view_is) own up c.is_any_full.ensures in
    let n = numbered-either c.args.path.now c.args.self.now gone in
    ap₂ (λ js m. any_full js (above (path_at js m))) c.in_ok-sid.ensures.known c.in_ok-sid.ensures.number
    ∙ ap (λ q. any_full (known c.args.path.now c.args.self.now) (above q)) n.path ∙ n.room ∙ full ∙ c.if-is_any_full.false

pub returns-clause-answer : goal.returns-clause-answer
returns-clause-answer c =
    let up : is_alive (parent c.args.path.now) c.args.self.now ≡ true = ap (λ q. is_alive q c.args.self.now) (sym c.in_ok-parent.ensures) ∙ c.in-Some.ensures.alive.0 refl in
    let gone : is_alive c.args.path.now c.args.self.now ≡ false = false_from_ne_true _ (λ e. false≢true (sym (sym c.is_some.ensures ∙ c.if-is_some.false) ∙ c.alive-2.ensures.alive.1 e)) in
    let own : c.in-Some.parent.0 ≡ number_of (parent c.args.path.now) c.args.self.now = c.in-Some.ensures.number ∙ ap (λ q. number_of q c.args.self.now) c.in_ok-parent.ensures in
    let full = asked-above _ _ c.args.path.now _ _ (c.deref.ensures.value ∙ c.self.view_is) own up c.is_any_full.ensures in
    not-refused c.args.path.now c.args.self.now up gone (full ∙ c.if-is_any_full.false)

pub returns-clause-created : goal.returns-clause-created
returns-clause-created c =
    let gone : is_alive c.args.path.now c.args.self.now ≡ false = false_from_ne_true _ (λ e. false≢true (sym (sym c.is_some.ensures ∙ c.if-is_some.false) ∙ c.alive-2.ensures.alive.1 e)) in
    let n = numbered-either c.args.path.now c.args.self.now gone in
    c.in_ok-start.ensures.started
    ∙ ap₂ (λ js m. changed (start c.args.children_max) (λ k. k + 1) (path_at js m) js) c.in_ok-sid.ensures.known c.in_ok-sid.ensures.number
    ∙ ap (λ q. changed (start c.args.children_max) (λ k. k + 1) q (known c.args.path.now c.args.self.now)) n.path

pub returns-clause-within : goal.returns-clause-within
returns-clause-within c =
    let gone : is_alive c.args.path.now c.args.self.now ≡ false = false_from_ne_true _ (λ e. false≢true (sym (sym c.is_some.ensures ∙ c.if-is_some.false) ∙ c.alive-2.ensures.alive.1 e)) in
    let n = numbered-either c.args.path.now c.args.self.now gone in
    omega (
      arith,
      c.in_ok-sid.ensures.number,
      n.within,
      ap length c.in_ok-sid.ensures.known,
      ap length c.in_ok-start.ensures.started,
      as-many (start c.args.children_max) (λ k. k + 1) (path_at c.number.new.self c.in_ok-sid.sid.0) c.number.new.self,
    )

pub returns-clause-numbers : goal.returns-clause-numbers
returns-clause-numbers c =
    omega (
      arith,
      one-number c.args.path.now c.args.self.now,
      ap length c.in_ok-sid.ensures.known,
      ap length c.in_ok-start.ensures.started,
      as-many (start c.args.children_max) (λ k. k + 1) (path_at c.number.new.self c.in_ok-sid.sid.0) c.number.new.self,
    )

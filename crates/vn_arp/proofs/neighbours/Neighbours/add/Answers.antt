use Rattle.std.proofs.Common.{◌≡◌, ◌++◌, ◌∷◌, [], List, None, IfSome, false, sym, ap, subst, ◌∙◌}
use Rattle.vn_types.specs.declared.interface.HalfId.{HalfId}
use Rattle.vn_types.specs.Interfaces.{half_id_eq}
use Rattle.vn_rules.specs.declared.timer.TimersOf.{TimersOf}
use Rattle.vn_rules.specs.declared.timer.TimerOf.TheVariants.{Arp}
use Rattle.vn_rules.specs.Arp.{entry_of}
use Rattle.vn_rules.specs.Timers.{has_timer}
use Rattle.vn_callout.specs.Stacks.{of as timers_of}
use Rattle.vn_arp.specs.declared.gone.At.{At}
use Rattle.vn_arp.specs.Changes.{armed_for}
use Rattle.vn_arp.specs.Kept.{KnowsArms, entries_of, without_numbered}
use Rattle.vn_arp.specs.Listing.{IsIndexed, at_of, with_listed}
use Rattle.vn_arp.proofs.Numbers.{none-stopped}
use Rattle.vn_arp.proofs.Edits.{Kept, added_index, added_knows, on_err}
use Rattle.vn_arp.proofs.neighbours.Neighbours.add.Goals as goal

-- an entry that has no timer has none to stop
still : (neighbour : Kept) → neighbour.arm ≡ None → (t : TimersOf HalfId) → without_numbered neighbour.arm t ≡ t
still neighbour none t = ap (λ arm. without_numbered arm t) none ∙ sym (none-stopped t)

pub returns-in_err-retime-clause-no_timer : goal.returns-in_err-retime-clause-no_timer
returns-in_err-retime-clause-no_timer c =
    on_err _ c.from_residual-in_err-retime.result (c.in_err-retime.ensures.stopped ∙ still c.args.neighbour c.requires.no_timer (timers_of c.args.wheel.now c.args.sid.0))

pub returns-in_err-retime-clause-knows : goal.returns-in_err-retime-clause-knows
returns-in_err-retime-clause-knows c =
    let rows : c.reserve.new.self.items ≡ c.args.self.now = c.reserve.ensures.items ∙ c.self.view_is in
    let same : timers_of c.retime.new.wheel c.args.sid.0 ≡ timers_of c.args.wheel.now c.args.sid.0 = c.in_err-retime.ensures.stopped ∙ still c.args.neighbour c.requires.no_timer (timers_of c.args.wheel.now c.args.sid.0) in
    subst (λ (x : List Kept × TimersOf HalfId). KnowsArms half_id_eq x.0 x.1) (λ i. (sym rows i, sym same i)) c.requires.knows

pub invariant_of-self-2 : goal.invariant_of-self-2
invariant_of-self-2 c =
    let entry : c.retime.new.self.entry ≡ c.args.neighbour.entry = ap (λ (k : Kept). k.entry) c.in_ok-retime.ensures.number in
    let order : c.list.new.order.items ≡ with_listed (at_of c.retime.new.self.entry) c.self.inside.order.items =
    c.list.ensures ∙ (λ i. with_listed (c.at.ensures i) (c.reserve-2.ensures.items i)) in
    let rows : c.push_reserved.new.self.items ≡ c.self.inside.entries.items ++ c.retime.new.self ∷ [] = c.push_reserved.ensures.items ∙ ap (λ rows. rows ++ c.retime.new.self ∷ []) c.reserve.ensures.items in
    subst (λ (x : List At × List Kept). IsIndexed x.0 x.1) (λ i. (sym order i, sym rows i))
    (added_index c.self.inside.entries.items c.retime.new.self
    ((λ i. entry_of half_id_eq (entry i).half (entry i).ip (entries_of (c.self.view_is i))) ∙ c.requires.absent) c.self.inside.order.items c.self.invariant)

pub returns-clause-timed : goal.returns-clause-timed
returns-clause-timed c =
    c.in_ok-retime.ensures.timed
    ∙ ap (armed_for c.args.deadline (Arp c.args.neighbour.entry.half c.args.neighbour.entry.ip)) (still c.args.neighbour c.requires.no_timer (timers_of c.args.wheel.now c.args.sid.0))

pub returns-clause-knows : goal.returns-clause-knows
returns-clause-knows c =
    let entry : c.retime.new.self.entry ≡ c.args.neighbour.entry = ap (λ (k : Kept). k.entry) c.in_ok-retime.ensures.number in
    let rows : c.push_reserved.new.self.items ≡ c.args.self.now ++ c.retime.new.self ∷ [] = c.push_reserved.ensures.items ∙ ap (λ rows. rows ++ c.retime.new.self ∷ []) (c.reserve.ensures.items ∙ c.self.view_is) in
    let stopped : without_numbered c.args.neighbour.arm (timers_of c.args.wheel.now c.args.sid.0) ≡ timers_of c.args.wheel.now c.args.sid.0 = still c.args.neighbour c.requires.no_timer (timers_of c.args.wheel.now c.args.sid.0) in
    subst (λ rows. KnowsArms half_id_eq rows (timers_of c.retime.new.wheel c.args.sid.0)) (sym rows)
    (added_knows c.args.self.now c.retime.new.self ((λ i. entry_of half_id_eq (entry i).half (entry i).ip (entries_of c.args.self.now)) ∙ c.requires.absent)
    (timers_of c.args.wheel.now c.args.sid.0) c.requires.knows c.args.deadline (ap (λ (k : Kept). k.arm) c.in_ok-retime.ensures.number)
    (subst (λ (t : TimersOf HalfId). IfSome c.args.deadline (λ _. has_timer (timers_of c.args.wheel.now c.args.sid.0).armed t ≡ false)) stopped c.in_ok-retime.ensures.unused) _
    (c.in_ok-retime.ensures.timed ∙ (λ i. armed_for c.args.deadline (Arp (sym entry i).half (sym entry i).ip) (stopped i))))

use Rattle.std.proofs.Common.{◌≡◌, [], Some, None, refl, sym, ap, subst, ◌∙◌}
use Rattle.std.specs.Prelude.{slice_set}
use Rattle.std.specs.Option.{option_map_or}
use Rattle.vn_types.specs.declared.interface.HalfId.{HalfId}
use Rattle.vn_types.specs.Interfaces.{half_id_eq}
use Rattle.vn_rules.specs.declared.arp.ArpEntryOf.{ArpEntryOf}
use Rattle.vn_rules.specs.Arp.{entry_of}
use Rattle.vn_callout.specs.Stacks.{of as timers_of}
use Rattle.vn_arp.specs.Changes.{MayBecome, changed, released_by}
use Rattle.vn_arp.specs.Kept.{entries_of}
use Rattle.vn_arp.specs.Listing.{at_of}
use Rattle.vn_arp.proofs.Edits.{Edited, Kept, Timing, absent_there, changed_at, edited, on_err, put_same, retimed}
use Rattle.vn_arp.proofs.Followed.{made_first, made_so}
use Rattle.vn_arp.proofs.neighbours.Neighbours.change.Goals as goal

-- ---- an entry that is made

pub add-requires-clause-absent : goal.add-requires-clause-absent
add-requires-clause-absent c =
    let place : at_of c.apply-released.new.self.entry ≡ c.args.at =
    ap (λ (k : Kept). at_of k.entry) c.apply-released.ensures.changed ∙ changed_at c.args.change c.new-neighbour.result.entry ∙ ap (λ (k : Kept). at_of k.entry) c.new-neighbour.ensures in
    (λ i. entry_of half_id_eq (place i).half (place i).ip (entries_of c.args.self.now)) ∙ absent_there c.args.at.half c.args.at.ip c.args.self.now c.place.result c.in_default.is c.place.ensures

pub returns-in_default-clause-released : goal.returns-in_default-clause-released
returns-in_default-clause-released c =
    c.apply-released.ensures.released ∙ ap (λ (k : Kept). released_by c.args.change k.entry.held) c.new-neighbour.ensures
    ∙ ap (λ o. released_by c.args.change (option_map_or (λ (e : ArpEntryOf HalfId). e.held) o [])) (sym (absent_there c.args.at.half c.args.at.ip c.args.self.now c.place.result c.in_default.is c.place.ensures))

pub returns-in_default-clause-here : goal.returns-in_default-clause-here
returns-in_default-clause-here c =
    made_first c.args.self.now c.add.new.self (timers_of c.args.wheel.now c.args.sid.0) (timers_of c.add.new.wheel c.args.sid.0) c.args.at.half c.args.at.ip c.args.change c.args.deadline c.apply-released.new.self.entry c.requires.knows
    (absent_there c.args.at.half c.args.at.ip c.args.self.now c.place.result c.in_default.is c.place.ensures)
    (ap (λ (k : Kept). k.entry) c.apply-released.ensures.changed ∙ ap (λ (k : Kept). changed c.args.change k.entry) c.new-neighbour.ensures) c.in_ok-add.ensures.added c.in_ok-add.ensures.timed

-- ---- an entry in its place

pub invariant_of-self : goal.invariant_of-self
invariant_of-self c =
    let e : Edited c.args.at.half c.args.at.ip c.self.inside.order.items c.args.self.now (slice_set c.self.inside.entries.items c.in-Some.place c.retime.new.self) c.index_mut-neighbour.result.now c.retime.new.self = edited c.args.at.half c.args.at.ip c.self.inside.order.items c.self.inside.entries.items c.args.self.now c.self.view_is c.place.result c.in-Some.place c.in-Some.is c.place.ensures c.self.invariant c.index_mut-neighbour.result.now c.retime.new.self c.index_mut-neighbour.ensures.value in
    e.index (λ (e : ArpEntryOf HalfId). e) (λ _. refl) (ap (λ (k : Kept). k.entry) c.in_err-retime.ensures.no_number)

pub returns-in_err-retime-clause-kept : goal.returns-in_err-retime-clause-kept
returns-in_err-retime-clause-kept c =
    let e : Edited c.args.at.half c.args.at.ip c.self.inside.order.items c.args.self.now (slice_set c.self.inside.entries.items c.in-Some.place c.retime.new.self) c.index_mut-neighbour.result.now c.retime.new.self = edited c.args.at.half c.args.at.ip c.self.inside.order.items c.self.inside.entries.items c.args.self.now c.self.view_is c.place.result c.in-Some.place c.in-Some.is c.place.ensures c.self.invariant c.index_mut-neighbour.result.now c.retime.new.self c.index_mut-neighbour.ensures.value in
    on_err _ c.from_residual-in_err-retime.result
    ((e.put (λ (e : ArpEntryOf HalfId). e) (λ _. refl) (ap (λ (k : Kept). k.entry) c.in_err-retime.ensures.no_number)).entries ∙ put_same c.args.at.half c.args.at.ip (entries_of c.args.self.now) c.index_mut-neighbour.result.now.entry e.there)

pub returns-in_err-retime-clause-knows : goal.returns-in_err-retime-clause-knows
returns-in_err-retime-clause-knows c =
    let e : Edited c.args.at.half c.args.at.ip c.self.inside.order.items c.args.self.now (slice_set c.self.inside.entries.items c.in-Some.place c.retime.new.self) c.index_mut-neighbour.result.now c.retime.new.self = edited c.args.at.half c.args.at.ip c.self.inside.order.items c.self.inside.entries.items c.args.self.now c.self.view_is c.place.result c.in-Some.place c.in-Some.is c.place.ensures c.self.invariant c.index_mut-neighbour.result.now c.retime.new.self c.index_mut-neighbour.ensures.value in
    Timing.knows (retimed c.args.at.half c.args.at.ip c.self.inside.order.items c.args.self.now (slice_set c.self.inside.entries.items c.in-Some.place c.retime.new.self) c.index_mut-neighbour.result.now c.retime.new.self e (timers_of c.args.wheel.now c.args.sid.0) c.requires.knows
    (λ (e : ArpEntryOf HalfId). e) (λ _. refl) (ap (λ (k : Kept). k.entry) c.in_err-retime.ensures.no_number) (timers_of c.retime.new.wheel c.args.sid.0) None (ap (λ (k : Kept). k.arm) c.in_err-retime.ensures.no_number) tt c.in_err-retime.ensures.stopped)

pub apply-requires : goal.apply-requires
apply-requires c =
    let e : Edited c.args.at.half c.args.at.ip c.self.inside.order.items c.args.self.now (slice_set c.self.inside.entries.items c.in-Some.place c.retime.new.self) c.index_mut-neighbour.result.now c.retime.new.self = edited c.args.at.half c.args.at.ip c.self.inside.order.items c.self.inside.entries.items c.args.self.now c.self.view_is c.place.result c.in-Some.place c.in-Some.is c.place.ensures c.self.invariant c.index_mut-neighbour.result.now c.retime.new.self c.index_mut-neighbour.ensures.value in
    subst (MayBecome c.args.change) (e.there ∙ sym (ap (λ (k : Kept). Some k.entry) c.in_ok-retime.ensures.number)) c.requires.may

pub invariant_of-self-2 : goal.invariant_of-self-2
invariant_of-self-2 c =
    let e : Edited c.args.at.half c.args.at.ip c.self.inside.order.items c.args.self.now (slice_set c.self.inside.entries.items c.in-Some.place c.apply.new.self) c.index_mut-neighbour.result.now c.apply.new.self = edited c.args.at.half c.args.at.ip c.self.inside.order.items c.self.inside.entries.items c.args.self.now c.self.view_is c.place.result c.in-Some.place c.in-Some.is c.place.ensures c.self.invariant c.index_mut-neighbour.result.now c.apply.new.self c.index_mut-neighbour.ensures.value in
    e.index (changed c.args.change) (changed_at c.args.change) (ap (λ (k : Kept). k.entry) c.apply.ensures.changed ∙ ap (λ (k : Kept). changed c.args.change k.entry) c.in_ok-retime.ensures.number)

pub returns-clause-released : goal.returns-clause-released
returns-clause-released c =
    let e : Edited c.args.at.half c.args.at.ip c.self.inside.order.items c.args.self.now (slice_set c.self.inside.entries.items c.in-Some.place c.apply.new.self) c.index_mut-neighbour.result.now c.apply.new.self = edited c.args.at.half c.args.at.ip c.self.inside.order.items c.self.inside.entries.items c.args.self.now c.self.view_is c.place.result c.in-Some.place c.in-Some.is c.place.ensures c.self.invariant c.index_mut-neighbour.result.now c.apply.new.self c.index_mut-neighbour.ensures.value in
    c.apply.ensures.released ∙ ap (λ (k : Kept). released_by c.args.change k.entry.held) c.in_ok-retime.ensures.number
    ∙ ap (λ o. released_by c.args.change (option_map_or (λ (e : ArpEntryOf HalfId). e.held) o [])) (sym e.there)

pub returns-clause-here : goal.returns-clause-here
returns-clause-here c =
    let e : Edited c.args.at.half c.args.at.ip c.self.inside.order.items c.args.self.now (slice_set c.self.inside.entries.items c.in-Some.place c.apply.new.self) c.index_mut-neighbour.result.now c.apply.new.self = edited c.args.at.half c.args.at.ip c.self.inside.order.items c.self.inside.entries.items c.args.self.now c.self.view_is c.place.result c.in-Some.place c.in-Some.is c.place.ensures c.self.invariant c.index_mut-neighbour.result.now c.apply.new.self c.index_mut-neighbour.ensures.value in
    let entry : c.apply.new.self.entry ≡ changed c.args.change c.index_mut-neighbour.result.now.entry = ap (λ (k : Kept). k.entry) c.apply.ensures.changed ∙ ap (λ (k : Kept). changed c.args.change k.entry) c.in_ok-retime.ensures.number in
    made_so c.args.self.now (slice_set c.self.inside.entries.items c.in-Some.place c.apply.new.self) (timers_of c.args.wheel.now c.args.sid.0) (timers_of c.retime.new.wheel c.args.sid.0) c.args.at.half c.args.at.ip c.args.change c.args.deadline
    (e.put (changed c.args.change) (changed_at c.args.change) entry).entries
    (Timing.timers (retimed c.args.at.half c.args.at.ip c.self.inside.order.items c.args.self.now (slice_set c.self.inside.entries.items c.in-Some.place c.apply.new.self) c.index_mut-neighbour.result.now c.apply.new.self e (timers_of c.args.wheel.now c.args.sid.0) c.requires.knows
    (changed c.args.change) (changed_at c.args.change) entry (timers_of c.retime.new.wheel c.args.sid.0) c.args.deadline (ap (λ (k : Kept). k.arm) c.apply.ensures.changed ∙ ap (λ (k : Kept). k.arm) c.in_ok-retime.ensures.number) c.in_ok-retime.ensures.unused c.in_ok-retime.ensures.timed))

pub returns-clause-knows : goal.returns-clause-knows
returns-clause-knows c =
    let e : Edited c.args.at.half c.args.at.ip c.self.inside.order.items c.args.self.now (slice_set c.self.inside.entries.items c.in-Some.place c.apply.new.self) c.index_mut-neighbour.result.now c.apply.new.self = edited c.args.at.half c.args.at.ip c.self.inside.order.items c.self.inside.entries.items c.args.self.now c.self.view_is c.place.result c.in-Some.place c.in-Some.is c.place.ensures c.self.invariant c.index_mut-neighbour.result.now c.apply.new.self c.index_mut-neighbour.ensures.value in
    let entry : c.apply.new.self.entry ≡ changed c.args.change c.index_mut-neighbour.result.now.entry = ap (λ (k : Kept). k.entry) c.apply.ensures.changed ∙ ap (λ (k : Kept). changed c.args.change k.entry) c.in_ok-retime.ensures.number in
    Timing.knows (retimed c.args.at.half c.args.at.ip c.self.inside.order.items c.args.self.now (slice_set c.self.inside.entries.items c.in-Some.place c.apply.new.self) c.index_mut-neighbour.result.now c.apply.new.self e (timers_of c.args.wheel.now c.args.sid.0) c.requires.knows
    (changed c.args.change) (changed_at c.args.change) entry (timers_of c.retime.new.wheel c.args.sid.0) c.args.deadline (ap (λ (k : Kept). k.arm) c.apply.ensures.changed ∙ ap (λ (k : Kept). k.arm) c.in_ok-retime.ensures.number) c.in_ok-retime.ensures.unused c.in_ok-retime.ensures.timed)

use Rattle.std.proofs.Common.{◌≡◌, false, IfOk, refl, sym, ap, subst, ◌∙◌}
use Rattle.std.specs.Prelude.{slice_set}
use Rattle.std.specs.Option.{option_map_or}
use Rattle.vn_types.specs.declared.interface.HalfId.{HalfId}
use Rattle.vn_types.specs.Interfaces.{half_id_eq}
use Rattle.vn_rules.specs.declared.arp.ArpEntryOf.{ArpEntryOf}
use Rattle.vn_rules.specs.Arp.{holding, holds_all}
use Rattle.vn_arp.specs.Kept.{IsPut}
use Rattle.vn_arp.proofs.Edits.{Edited, Kept, edited, not_nowhere, for_ok, for_both}
use Rattle.vn_arp.proofs.neighbours.Neighbours.hold.Goals as goal

pub unreachable-requires : goal.unreachable-requires
unreachable-requires c = not_nowhere c.args.at.half c.args.at.ip c.args.self.now c.requires c.place.result c.in_default.is c.place.ensures

pub invariant_of-self : goal.invariant_of-self
invariant_of-self c =
    let e : Edited c.args.at.half c.args.at.ip c.self.inside.order.items c.args.self.now (slice_set c.self.inside.entries.items c.in-Some.place c.hold.new.self) c.index_mut.result.now c.hold.new.self = edited c.args.at.half c.args.at.ip c.self.inside.order.items c.self.inside.entries.items c.args.self.now c.self.view_is c.place.result c.in-Some.place c.in-Some.is c.place.ensures c.self.invariant c.index_mut.result.now c.hold.new.self c.index_mut.ensures.value in
    for_both _ _ _ c.hold.result (λ is. e.index (holding c.args.packet) (λ _. refl) (ap (λ (k : Kept). k.entry) is)) (λ is. e.index (λ (e : ArpEntryOf HalfId). e) (λ _. refl) (ap (λ (k : Kept). k.entry) is)) c.hold.ensures.held c.hold.ensures.kept

pub returns-clause-dropped : goal.returns-clause-dropped
returns-clause-dropped c =
    let e : Edited c.args.at.half c.args.at.ip c.self.inside.order.items c.args.self.now (slice_set c.self.inside.entries.items c.in-Some.place c.hold.new.self) c.index_mut.result.now c.hold.new.self = edited c.args.at.half c.args.at.ip c.self.inside.order.items c.self.inside.entries.items c.args.self.now c.self.view_is c.place.result c.in-Some.place c.in-Some.is c.place.ensures c.self.invariant c.index_mut.result.now c.hold.new.self c.index_mut.ensures.value in
    subst (λ x. IfOk c.hold.result (λ r. r ≡ x)) (ap (λ o. option_map_or (λ (e : ArpEntryOf HalfId). holds_all e) o false) (sym e.there)) c.hold.ensures.dropped

pub returns-clause-held : goal.returns-clause-held
returns-clause-held c =
    let e : Edited c.args.at.half c.args.at.ip c.self.inside.order.items c.args.self.now (slice_set c.self.inside.entries.items c.in-Some.place c.hold.new.self) c.index_mut.result.now c.hold.new.self = edited c.args.at.half c.args.at.ip c.self.inside.order.items c.self.inside.entries.items c.args.self.now c.self.view_is c.place.result c.in-Some.place c.in-Some.is c.place.ensures c.self.invariant c.index_mut.result.now c.hold.new.self c.index_mut.ensures.value in
    for_ok _ _ c.hold.result (λ is. subst (λ arm. IsPut half_id_eq c.args.at.half c.args.at.ip (holding c.args.packet) arm c.args.self.now (slice_set c.self.inside.entries.items c.in-Some.place c.hold.new.self)) ((ap (λ (k : Kept). k.arm) is) ∙ sym e.arm) (e.put (holding c.args.packet) (λ _. refl) (ap (λ (k : Kept). k.entry) is))) c.hold.ensures.held

use Rattle.std.proofs.Common.{rules, ◌≡◌, List, true, not, sym, ap, subst, ◌∙◌}
use Rattle.std.specs.List.{filter}
use Rattle.std.proofs.lemmas.Fn.{filter_same}
use Rattle.vn_types.specs.declared.interface.HalfId.{HalfId}
use Rattle.vn_types.specs.Interfaces.{half_id_eq}
use Rattle.vn_types.proofs.InterfaceNames.{half_id_eq-Decides}
use Rattle.vn_rules.specs.declared.arp.ArpEntryOf.{ArpEntryOf}
use Rattle.vn_rules.specs.Soundness.{has_distinct_entries}
use Rattle.vn_callout.specs.Stacks.{of as timers_of}
use Rattle.vn_arp.specs.declared.gone.At.{At}
use Rattle.vn_arp.specs.Kept.{entries_of, without_gone, KnowsArms}
use Rattle.vn_arp.specs.Listing.{IsIndexed}
use Rattle.vn_arp.proofs.Edits.{Kept, left_index}
use Rattle.vn_arp.proofs.Rows.{goes, left, entries_left}
use Rattle.vn_arp.proofs.Removal.{gone-stopped, knows-left}
use Rattle.vn_arp.proofs.neighbours.Neighbours.remove.Goals as goal

pub invariant_of-self : goal.invariant_of-self
invariant_of-self g c =
    let rows : c.retain.new.self.items ≡ left half_id_eq half_id_eq-Decides (g.G.Gone.goes c.args.gone.now) c.self.inside.entries.items = filter_same _ (λ k. not (goes half_id_eq half_id_eq-Decides (g.G.Gone.goes c.args.gone.now) k)) _ (λ a b f k. search rules) c.self.inside.entries.items c.retain.new.self.items c.retain.ensures.filtered in
    let order : c.retain-2.new.self.items ≡ filter (λ (a : At). not (g.G.Gone.goes c.args.gone.now a.half a.ip)) c.self.inside.order.items = filter_same _ (λ (a : At). not (g.G.Gone.goes c.args.gone.now a.half a.ip)) _ (λ a b f k. search rules) c.self.inside.order.items c.retain-2.new.self.items c.retain-2.ensures.filtered in
    subst (λ (x : List At × List Kept). IsIndexed x.0 x.1) (λ i. (sym order i, sym rows i)) (left_index (g.G.Gone.goes c.args.gone.now) c.self.inside.order.items c.self.inside.entries.items c.self.invariant)

pub returns-clause-left : goal.returns-clause-left
returns-clause-left g c =
    let kept : c.retain.new.self.items ≡ left half_id_eq half_id_eq-Decides (g.G.Gone.goes c.args.gone.now) c.self.inside.entries.items = filter_same _ (λ k. not (goes half_id_eq half_id_eq-Decides (g.G.Gone.goes c.args.gone.now) k)) _ (λ a b f k. search rules) c.self.inside.entries.items c.retain.new.self.items c.retain.ensures.filtered in
    ap entries_of kept ∙ entries_left half_id_eq half_id_eq-Decides (g.G.Gone.goes c.args.gone.now) c.self.inside.entries.items
    ∙ ap (λ rows. filter (λ (e : ArpEntryOf HalfId). not (g.G.Gone.goes c.args.gone.now e.half e.ip)) (entries_of rows)) c.self.view_is

pub returns-clause-stopped : goal.returns-clause-stopped
returns-clause-stopped g c =
    let one : has_distinct_entries half_id_eq (entries_of c.args.self.now) ≡ true = sym (ap (λ rows. has_distinct_entries half_id_eq (entries_of rows)) c.self.view_is) ∙ c.self.invariant.distinct in
    c.stop_timers.ensures.stopped
    ∙ ap (λ rows. without_gone (g.G.Gone.goes c.args.gone.now) rows (timers_of c.args.wheel.now c.args.sid.0)) (c.as_slice.ensures.value ∙ c.self.view_is)
    ∙ gone-stopped half_id_eq half_id_eq-Decides (g.G.Gone.goes c.args.gone.now) c.args.self.now (timers_of c.args.wheel.now c.args.sid.0) c.requires one

pub returns-clause-knows : goal.returns-clause-knows
returns-clause-knows g c =
    let one : has_distinct_entries half_id_eq (entries_of c.args.self.now) ≡ true = sym (ap (λ rows. has_distinct_entries half_id_eq (entries_of rows)) c.self.view_is) ∙ c.self.invariant.distinct in
    let kept : c.retain.new.self.items ≡ left half_id_eq half_id_eq-Decides (g.G.Gone.goes c.args.gone.now) c.self.inside.entries.items = filter_same _ (λ k. not (goes half_id_eq half_id_eq-Decides (g.G.Gone.goes c.args.gone.now) k)) _ (λ a b f k. search rules) c.self.inside.entries.items c.retain.new.self.items c.retain.ensures.filtered in
    let rows : c.retain.new.self.items ≡ left half_id_eq half_id_eq-Decides (g.G.Gone.goes c.args.gone.now) c.args.self.now = kept ∙ ap (left half_id_eq half_id_eq-Decides (g.G.Gone.goes c.args.gone.now)) c.self.view_is in
    subst (λ rows. KnowsArms half_id_eq rows (timers_of c.stop_timers.new.wheel c.args.sid.0)) (sym rows)
    (subst (KnowsArms half_id_eq (left half_id_eq half_id_eq-Decides (g.G.Gone.goes c.args.gone.now) c.args.self.now)) (sym (returns-clause-stopped g c))
    (knows-left half_id_eq half_id_eq-Decides (g.G.Gone.goes c.args.gone.now) c.args.self.now (timers_of c.args.wheel.now c.args.sid.0) c.requires one))

use Rattle.std.proofs.Common.{rules, ◌≡◌, [], not, sym, ap, subst, ◌∙◌}
use Rattle.std.specs.Prelude.{slice_set}
use Rattle.std.specs.List.{filter}
use Rattle.vn_types.specs.declared.interface.HalfId.{HalfId}
use Rattle.vn_types.specs.Interfaces.{half_id_eq}
use Rattle.vn_rules.specs.declared.arp.ArpEntryOf.{ArpEntryOf}
use Rattle.vn_rules.specs.Arp.{without_entries}
use Rattle.vn_callout.specs.Stacks.{of as timers_of}
use Rattle.vn_arp.specs.Kept.{entries_of, Follows, KnowsArms}
use Rattle.vn_arp.specs.Stacks.{of}
use Rattle.vn_arp.proofs.Followed.{none_left, removed, removed_nowhere, written_row}
use Rattle.vn_arp.proofs.table.ArpTable.remove.Goals as goal

pub returns-clause-removed : goal.returns-clause-removed
returns-clause-removed g c =
    let old : c.in-Some.neighbours.now ≡ of c.args.self.now c.args.sid.0 = search rules in
    let new : of (slice_set c.self.inside.stacks c.args.sid.0 c.remove.new.self) c.args.sid.0 ≡ c.remove.new.self =
    written_row c.self.inside.stacks c.args.sid.0 c.remove.new.self (λ none. none_left (g.G.Gone.goes c.args.gone.now) c.in-Some.neighbours.now c.remove.new.self c.remove.ensures.left (c.in-Some.ensures.row ∙ none)) in
    removed (of c.args.self.now c.args.sid.0) (of (slice_set c.self.inside.stacks c.args.sid.0 c.remove.new.self) c.args.sid.0) (timers_of c.args.wheel.now c.args.sid.0) (timers_of c.remove.new.wheel c.args.sid.0) (g.G.Gone.goes c.args.gone.now)
    (ap entries_of new ∙ c.remove.ensures.left ∙ ap (λ rows. filter (λ (e : ArpEntryOf HalfId). not (g.G.Gone.goes c.args.gone.now e.half e.ip)) (entries_of rows)) old) c.remove.ensures.stopped

pub returns-in_default-clause-removed : goal.returns-in_default-clause-removed
returns-in_default-clause-removed g c =
    let none : of c.args.self.now c.args.sid.0 ≡ [] = search rules in
    subst (λ rows. Follows (without_entries (g.G.Gone.goes c.args.gone.now)) (of c.args.self.now c.args.sid.0) (timers_of c.args.wheel.now c.args.sid.0) (of rows c.args.sid.0) (timers_of c.args.wheel.now c.args.sid.0)) (sym c.self.view_is)
    (removed_nowhere (g.G.Gone.goes c.args.gone.now) (timers_of c.args.wheel.now c.args.sid.0) (of c.args.self.now c.args.sid.0) none c.requires)

pub returns-clause-knows : goal.returns-clause-knows
returns-clause-knows g c =
    let new : of (slice_set c.self.inside.stacks c.args.sid.0 c.remove.new.self) c.args.sid.0 ≡ c.remove.new.self =
    written_row c.self.inside.stacks c.args.sid.0 c.remove.new.self (λ none. none_left (g.G.Gone.goes c.args.gone.now) c.in-Some.neighbours.now c.remove.new.self c.remove.ensures.left (c.in-Some.ensures.row ∙ none)) in
    subst (λ rows. KnowsArms half_id_eq rows (timers_of c.remove.new.wheel c.args.sid.0)) (sym new) c.remove.ensures.knows

use Rattle.std.proofs.Common.{◌≡◌, Some, None, refl, sym, ap, ◌∙◌}
use Rattle.std.specs.Prelude.{slice_get}
use Rattle.std.specs.Option.{option_map}
use Rattle.std.proofs.lemmas.Option.{slice_get_past, slice_get_read}
use Rattle.vn_types.specs.Interfaces.{half_id_eq}
use Rattle.vn_rules.specs.Arp.{entry_of}
use Rattle.vn_arp.specs.Kept.{entries_of}
use Rattle.vn_arp.specs.Listing.{nth_entry, row_of}
use Rattle.vn_arp.proofs.Order.{row_there, row_past}
use Rattle.vn_arp.proofs.neighbours.Neighbours.row_at.Goals as goal

pub returns-in_err-at : goal.returns-in_err-at
returns-in_err-at c =
    c.from_residual.ensures
    ∙ row_past c.self.inside.order.items (entries_of c.self.inside.entries.items) c.self.invariant.ordered c.args.place
    (sym (ap (λ order. slice_get order c.args.place) c.deref.ensures.value) ∙ slice_get_past c.deref.result.now c.args.place c.in_err-at.ensures.lookup.3)
    ∙ ap (λ rows. option_map row_of (nth_entry c.args.place (entries_of rows))) c.self.view_is

pub returns-in_err-find : goal.returns-in_err-find
returns-in_err-find c =
    let got : slice_get c.deref.result.now c.args.place ≡ Some c.in_ok-at.field-0.now = slice_get_read c.deref.result.now _ c.args.place c.in_ok-at.field-0.now refl c.in_ok-at.ensures.lookup.3.0 c.in_ok-at.ensures.lookup.1 in
    c.from_residual-in_err-find.ensures
    ∙ row_there c.self.inside.order.items (entries_of c.self.inside.entries.items) c.self.invariant.ordered c.args.place c.in_ok-at.field-0.now (sym (ap (λ order. slice_get order c.args.place) c.deref.ensures.value) ∙ got) None
    (ap (λ rows. entry_of half_id_eq c.in_ok-at.field-0.now.half c.in_ok-at.field-0.now.ip (entries_of rows)) c.self.view_is ∙ c.in_err-find.ensures)
    ∙ ap (λ rows. option_map row_of (nth_entry c.args.place (entries_of rows))) c.self.view_is

pub returns : goal.returns
returns c =
    let got : slice_get c.deref.result.now c.args.place ≡ Some c.in_ok-at.field-0.now = slice_get_read c.deref.result.now _ c.args.place c.in_ok-at.field-0.now refl c.in_ok-at.ensures.lookup.3.0 c.in_ok-at.ensures.lookup.1 in
    ap Some c.row.ensures
    ∙ row_there c.self.inside.order.items (entries_of c.self.inside.entries.items) c.self.invariant.ordered c.args.place c.in_ok-at.field-0.now (sym (ap (λ order. slice_get order c.args.place) c.deref.ensures.value) ∙ got) (Some c.in_ok-find.field-0.now.entry)
    (ap (λ rows. entry_of half_id_eq c.in_ok-at.field-0.now.half c.in_ok-at.field-0.now.ip (entries_of rows)) c.self.view_is ∙ c.in_ok-find.ensures)
    ∙ ap (λ rows. option_map row_of (nth_entry c.args.place (entries_of rows))) c.self.view_is

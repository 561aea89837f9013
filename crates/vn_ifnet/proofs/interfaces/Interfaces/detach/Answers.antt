use Rattle.std.proofs.Common.{◌≡◌, None, Some, sym, ap, ◌∙◌}
use Rattle.std.specs.Map.{values_of}
use Rattle.vn_ifnet.specs.Names.{if_number}
use Rattle.vn_ifnet.specs.Stacks.{without, Held}
use Rattle.vn_ifnet.specs.Kept.{number_of_if, told}
use Rattle.vn_ifnet.proofs.Indexed.{left-none, left-one, without-has}
use Rattle.vn_ifnet.proofs.interfaces.Interfaces.detach.Goals as goal

pub returns-in-Some : goal.returns-in-Some
returns-in-Some c =
    let es = c.self.inside.attached.entries in
    let is : told (if_number c.args.what) c.self.inside.places.entries ≡ Some c.in-Some.order = ap (λ w. told w c.self.inside.places.entries) (sym c.if_number.ensures) ∙ sym c.remove.ensures.value ∙ c.in-Some.is in
    let left : values_of c.take_out.new.attached.entries ≡ without c.args.what (values_of es) =
    ap (λ xs. values_of xs) c.take_out.ensures.entries
    ∙ left-one number_of_if es c.self.inside.places.entries c.self.invariant.placed c.self.invariant.ordered (if_number c.args.what) c.in-Some.order is
    ∙ without-has c.args.what (values_of es) in
    (λ i. record { attached = left i; reserved = c.self.inside.reserved.entries }) ∙ ap (λ (h : Held). record h { attached = without c.args.what h.attached }) c.self.view_is

pub returns-in_default : goal.returns-in_default
returns-in_default c =
    let es = c.self.inside.attached.entries in
    let none : told (if_number c.args.what) c.self.inside.places.entries ≡ None = ap (λ w. told w c.self.inside.places.entries) (sym c.if_number.ensures) ∙ sym c.remove.ensures.value ∙ c.in_default.is in
    let left : values_of es ≡ without c.args.what (values_of es) =
    sym (left-none number_of_if es c.self.inside.places.entries c.self.invariant.placed c.self.invariant.ordered (if_number c.args.what) none)
    ∙ without-has c.args.what (values_of es) in
    (λ i. record { attached = left i; reserved = c.self.inside.reserved.entries }) ∙ ap (λ (h : Held). record h { attached = without c.args.what h.attached }) c.self.view_is

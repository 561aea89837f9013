use Rattle.std.proofs.Common.{◌≡◌, None, Some, find, sym, ap, ◌∙◌}
use Rattle.std.specs.Map.{values_of}
use Rattle.std.specs.Option.{option_map}
use Rattle.vn_rules.specs.Named.{ifname_eq}
use Rattle.vn_ifnet.specs.declared.interfaces.Attached.{Attached}
use Rattle.vn_ifnet.specs.Names.{name_number}
use Rattle.vn_ifnet.specs.Stacks.{named}
use Rattle.vn_ifnet.specs.Kept.{number_of_name, told}
use Rattle.vn_ifnet.proofs.Indexed.{found-none, found-one, named-has}
use Rattle.vn_ifnet.proofs.interfaces.Interfaces.find.Goals as goal

pub returns-in_err-order : goal.returns-in_err-order
returns-in_err-order c =
    let es = c.self.inside.attached.entries in
    let none : told (name_number c.args.name) c.self.inside.names.entries ≡ None = ap (λ k. told k c.self.inside.names.entries) (sym c.name_number.ensures) ∙ sym c.in_err-order.ensures.value in
    let found : None ≡ find (λ (a : Attached). ifname_eq a.name c.args.name) (values_of es) =
    sym (found-none number_of_name es c.self.inside.names.entries c.self.invariant.named c.self.invariant.ordered (name_number c.args.name) none)
    ∙ ap (λ test. find test (values_of es)) (named-has c.args.name) in
    c.from_residual.ensures ∙ ap (option_map (λ (a : Attached). a.what)) found ∙ ap (named c.args.name) c.self.view_is

pub returns : goal.returns
returns c =
    let es = c.self.inside.attached.entries in
    let is : told (name_number c.args.name) c.self.inside.names.entries ≡ Some c.in_ok-order.order.now = ap (λ k. told k c.self.inside.names.entries) (sym c.name_number.ensures) ∙ sym c.in_ok-order.ensures.value in
    let found : Some c.in_ok-attached.attached.now ≡ find (λ (a : Attached). ifname_eq a.name c.args.name) (values_of es) =
    c.in_ok-attached.ensures.value
    ∙ sym (found-one number_of_name es c.self.inside.names.entries c.self.invariant.named c.self.invariant.ordered (name_number c.args.name) c.in_ok-order.order.now is)
    ∙ ap (λ test. find test (values_of es)) (named-has c.args.name) in
    ap (option_map (λ (a : Attached). a.what)) found ∙ ap (named c.args.name) c.self.view_is

use Rattle.std.proofs.Common.{◌≡◌, ℕ, ◌<◌, cond, List, ◌++◌, [], ◌∷◌, Option, None, Some, IfSome, sym, subst, ap, ◌∙◌}
use Rattle.std.specs.BTreeMap.{is_at}
use Rattle.std.specs.List.{AllByRecursion}
use Rattle.std.specs.Map.{keys_of, values_of, remove_entry}
use Rattle.std.specs.Ordering.{nat_cmp}
use Rattle.vn_ifnet.specs.declared.interfaces.Attached.{Attached}
use Rattle.vn_ifnet.specs.Names.{if_number}
use Rattle.vn_ifnet.specs.Stacks.{named, with_last}
use Rattle.vn_ifnet.specs.Kept.{IsIndex, number_of_if, told}
use Rattle.vn_ifnet.proofs.Entries.{none-below, remove-pushed}
use Rattle.vn_ifnet.proofs.Indexed.{free, index-come, values-come, without-has}
use Rattle.vn_ifnet.proofs.interfaces.Interfaces.attach.Goals as goal

-- the order that is given is behind all others
behind : (es : List (ℕ × Attached)) (given : Option ℕ) (n : ℕ) → given ≡ Some n → IfSome given (λ m. AllByRecursion (λ k. k < m) (keys_of es)) → AllByRecursion (λ k. k < n) (keys_of es)
behind es given n is all = subst (λ o. IfSome o (λ m. AllByRecursion (λ k. k < m) (keys_of es))) is all

pub put_in-requires-clause-free : goal.put_in-requires-clause-free
put_in-requires-clause-free c =
    free c.args.name c.self.inside.attached.entries c.self.inside.names.entries c.self.invariant.ordered c.self.invariant.named
    (ap (named c.args.name) c.self.view_is ∙ c.requires)

pub invariant_of-self-in-Ok-Some : goal.invariant_of-self-in-Ok-Some
invariant_of-self-in-Ok-Some c =
    let es = c.self.inside.attached.entries in
    let places = c.self.inside.places.entries in
    let before : told (if_number c.args.what) places ≡ Some c.in-Ok-Some.before = ap (λ w. told w places) (sym c.if_number.ensures) ∙ sym c.in-Ok-Some.ensures.old ∙ c.in-Ok-Some.field-0-is in
    record {
      ordered = c.take_out.ensures.ordered;
      named = c.take_out.ensures.index;
      placed = index-come number_of_if es places c.self.invariant.placed c.in_ok-order.order (record { what = c.args.what; name = c.args.name })
          (none-below c.in_ok-order.order es (behind es c.next_order.result c.in_ok-order.order c.in_ok-order.ensures.ok_part c.next_order.ensures)) (Some c.in-Ok-Some.before) before
          c.take_out.new.attached.entries c.insert.new.self.entries
          (λ k. c.take_out.ensures.found k ∙ ap (λ o. cond (is_at (nat_cmp c.in-Ok-Some.before) k) None o) (c.in_ok-put_in.ensures.found k))
          (λ v. c.in-Ok-Some.ensures.updates.0 v ∙ ap (λ q. cond (is_at (nat_cmp q) v) (Some c.in_ok-order.order) (told v places)) c.if_number.ensures);
    }

pub invariant_of-self-in-Ok-None : goal.invariant_of-self-in-Ok-None
invariant_of-self-in-Ok-None c =
    let es = c.self.inside.attached.entries in
    let places = c.self.inside.places.entries in
    let before : told (if_number c.args.what) places ≡ None = ap (λ w. told w places) (sym c.if_number.ensures) ∙ sym c.in-Ok-None.ensures.old ∙ c.in-Ok-None.field-0-is in
    record {
      ordered = c.in_ok-put_in.ensures.ordered;
      named = c.in_ok-put_in.ensures.index;
      placed = index-come number_of_if es places c.self.invariant.placed c.in_ok-order.order (record { what = c.args.what; name = c.args.name })
          (none-below c.in_ok-order.order es (behind es c.next_order.result c.in_ok-order.order c.in_ok-order.ensures.ok_part c.next_order.ensures)) None before
          c.put_in.new.attached.entries c.insert.new.self.entries
          (λ k. c.in_ok-put_in.ensures.found k)
          (λ v. c.in-Ok-None.ensures.updates.0 v ∙ ap (λ q. cond (is_at (nat_cmp q) v) (Some c.in_ok-order.order) (told v places)) c.if_number.ensures);
    }

pub invariant_of-self-in-Err : goal.invariant_of-self-in-Err
invariant_of-self-in-Err c =
    let es = c.self.inside.attached.entries in
    let back : c.take_out-in-Err.new.attached.entries ≡ es =
    c.take_out-in-Err.ensures.entries ∙ ap (λ xs. remove_entry (is_at (nat_cmp c.in_ok-order.order)) xs) c.in_ok-put_in.ensures.entries
    ∙ remove-pushed c.in_ok-order.order _ es (behind es c.next_order.result c.in_ok-order.order c.in_ok-order.ensures.ok_part c.next_order.ensures) in
    record {
      ordered = c.take_out-in-Err.ensures.ordered;
      named = c.take_out-in-Err.ensures.index;
      placed = subst (λ xs. IsIndex number_of_if xs c.insert.new.self.entries) (sym back) (subst (λ xs. IsIndex number_of_if es xs) (sym c.in-Err.ensures.err) c.self.invariant.placed);
    }

pub returns-in-Ok-Some-clause-attached : goal.returns-in-Ok-Some-clause-attached
returns-in-Ok-Some-clause-attached c =
    let es = c.self.inside.attached.entries in
    let places = c.self.inside.places.entries in
    let before : told (if_number c.args.what) places ≡ Some c.in-Ok-Some.before = ap (λ w. told w places) (sym c.if_number.ensures) ∙ sym c.in-Ok-Some.ensures.old ∙ c.in-Ok-Some.field-0-is in
    let values = values-come number_of_if es places c.self.invariant.placed c.in_ok-order.order (record { what = c.args.what; name = c.args.name })
    (none-below c.in_ok-order.order es (behind es c.next_order.result c.in_ok-order.order c.in_ok-order.ensures.ok_part c.next_order.ensures)) (Some c.in-Ok-Some.before) before
    c.self.invariant.ordered c.take_out.new.attached.entries
    (c.take_out.ensures.entries ∙ ap (λ xs. remove_entry (is_at (nat_cmp c.in-Ok-Some.before)) xs) c.in_ok-put_in.ensures.entries)
    ∙ ap (λ vs. vs ++ record { what = c.args.what; name = c.args.name } ∷ []) (without-has c.args.what (values_of es)) in
    (λ i. record { attached = values i; reserved = c.self.inside.reserved.entries }) ∙ ap (with_last c.args.what c.args.name) c.self.view_is

pub returns-in-Ok-None-clause-attached : goal.returns-in-Ok-None-clause-attached
returns-in-Ok-None-clause-attached c =
    let es = c.self.inside.attached.entries in
    let places = c.self.inside.places.entries in
    let before : told (if_number c.args.what) places ≡ None = ap (λ w. told w places) (sym c.if_number.ensures) ∙ sym c.in-Ok-None.ensures.old ∙ c.in-Ok-None.field-0-is in
    let values = values-come number_of_if es places c.self.invariant.placed c.in_ok-order.order (record { what = c.args.what; name = c.args.name })
    (none-below c.in_ok-order.order es (behind es c.next_order.result c.in_ok-order.order c.in_ok-order.ensures.ok_part c.next_order.ensures)) None before
    c.self.invariant.ordered c.put_in.new.attached.entries c.in_ok-put_in.ensures.entries
    ∙ ap (λ vs. vs ++ record { what = c.args.what; name = c.args.name } ∷ []) (without-has c.args.what (values_of es)) in
    (λ i. record { attached = values i; reserved = c.self.inside.reserved.entries }) ∙ ap (with_last c.args.what c.args.name) c.self.view_is

pub returns-in-Err-clause-kept : goal.returns-in-Err-clause-kept
returns-in-Err-clause-kept c =
    let es = c.self.inside.attached.entries in
    let back : c.take_out-in-Err.new.attached.entries ≡ es =
    c.take_out-in-Err.ensures.entries ∙ ap (λ xs. remove_entry (is_at (nat_cmp c.in_ok-order.order)) xs) c.in_ok-put_in.ensures.entries
    ∙ remove-pushed c.in_ok-order.order _ es (behind es c.next_order.result c.in_ok-order.order c.in_ok-order.ensures.ok_part c.next_order.ensures) in
    (λ i. record { attached = values_of (back i); reserved = c.self.inside.reserved.entries }) ∙ c.self.view_is

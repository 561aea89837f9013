use Rattle.std.proofs.Common.{Some, None, List, refl, sym, ap, ◌∙◌, subst}
use Rattle.std.specs.BTreeMap.{BTreeMap}
use Rattle.vn_types.specs.Paths.{Path}
use Rattle.vn_rules.specs.declared.outcome.Outcome.TheVariants.{Value}
use Rattle.vn_cells.specs.machine.Readers.{next_rule}
use Rattle.vn_kernel.specs.Fields.{fields}
use Rattle.vn_kernel.specs.Readers.{OpenReader}
use Rattle.vn_kernel.specs.Reading.{ReadsBy}
use Rattle.vn_kernel.proofs.ReaderSteps.{found-by, next-absent, next-answered}
use Rattle.vn_kernel.proofs.reading.next_line.Goals as goal

pub returns-in_default : goal.returns-in_default
returns-in_default c =
    subst (λ rs. ReadsBy (next_rule c.args.lane) c.args.path.now _ (fields c.args.state.now) (record (fields c.args.state.now) { readers = rs }))
    (sym (ap (λ (m : BTreeMap Path (List OpenReader)). m.entries) c.get_mut.follows.holds-at-none))
    (next-absent (fields c.args.state.now) c.requires c.args.path.now c.args.lane (found-by c.args.path.now c.args.state.now.readers.entries None c.in_default.ensures.value))

pub returns-in-Some-Some : goal.returns-in-Some-Some
returns-in-Some-Some c =
    next-answered (fields c.args.state.now) c.requires c.args.path.now c.args.lane c.in-Some.readers.now c.next.new.self c.in-Some.ensures.ordered c.in-Some.ensures.value
    c.next.ensures.left (Some (Some c.in-Some-Some.line)) (sym (c.in-Some-Some.is ∙ ap Some c.in-Some-Some.field-0-is) ∙ c.next.ensures.line) _ refl (c.get_mut.follows.lender c.next.new.self).entries (c.get_mut.follows.holds c.next.new.self).0

pub returns-in_ok-from_slice-in-Some-None : goal.returns-in_ok-from_slice-in-Some-None
returns-in_ok-from_slice-in-Some-None c =
    next-answered (fields c.args.state.now) c.requires c.args.path.now c.args.lane c.in-Some.readers.now c.next.new.self c.in-Some.ensures.ordered c.in-Some.ensures.value
    c.next.ensures.left (Some None) (sym (c.in-Some-None.is ∙ ap Some c.in-Some-None.field-0-is) ∙ c.next.ensures.line) _ (ap Value (sym c.in_ok-from_slice-in-Some-None.ensures)) (c.get_mut.follows.lender c.next.new.self).entries (c.get_mut.follows.holds c.next.new.self).0

pub returns-in-None : goal.returns-in-None
returns-in-None c =
    next-answered (fields c.args.state.now) c.requires c.args.path.now c.args.lane c.in-Some.readers.now c.next.new.self c.in-Some.ensures.ordered c.in-Some.ensures.value
    c.next.ensures.left None (sym c.in-None.is ∙ c.next.ensures.line) _ refl (c.get_mut.follows.lender c.next.new.self).entries (c.get_mut.follows.holds c.next.new.self).0

use Rattle.std.proofs.Common.{Some, None, List, refl, sym, true, false, ap, ◌∙◌, subst}
use Rattle.std.specs.BTreeMap.{BTreeMap}
use Rattle.vn_types.specs.Paths.{Path}
use Rattle.vn_cells.specs.machine.Readers.{close_rule}
use Rattle.vn_kernel.specs.Fields.{fields}
use Rattle.vn_kernel.specs.Readers.{OpenReader}
use Rattle.vn_kernel.specs.Reading.{ReadsBy}
use Rattle.vn_kernel.proofs.ReaderSteps.{close-absent, close-answered, found-by}
use Rattle.vn_kernel.proofs.reading.close_reader.Goals as goal

pub returns-in_default : goal.returns-in_default
returns-in_default c =
    subst (λ rs. ReadsBy (close_rule c.args.lane) c.args.path.now _ (fields c.args.state.now) (record (fields c.args.state.now) { readers = rs }))
    (sym (ap (λ (m : BTreeMap Path (List OpenReader)). m.entries) c.get_mut.follows.holds-at-none))
    (close-absent (fields c.args.state.now) c.requires c.args.path.now c.args.lane (found-by c.args.path.now c.args.state.now.readers.entries None c.in_default.ensures.value))

pub returns-then-close : goal.returns-then-close
returns-then-close c =
    close-answered (fields c.args.state.now) c.requires c.args.path.now c.args.lane c.in-Some.readers.now c.close.new.self c.in-Some.ensures.ordered c.in-Some.ensures.value
    c.close.ensures.left true (sym c.if-close.true ∙ c.close.ensures.had) _ refl (c.get_mut.follows.lender c.close.new.self).entries (c.get_mut.follows.holds c.close.new.self).0

pub returns : goal.returns
returns c =
    close-answered (fields c.args.state.now) c.requires c.args.path.now c.args.lane c.in-Some.readers.now c.close.new.self c.in-Some.ensures.ordered c.in-Some.ensures.value
    c.close.ensures.left false (sym c.if-close.false ∙ c.close.ensures.had) _ refl (c.get_mut.follows.lender c.close.new.self).entries (c.get_mut.follows.holds c.close.new.self).0

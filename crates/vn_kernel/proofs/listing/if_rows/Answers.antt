use Rattle.std.proofs.Common.{◌≡◌, List, [], ◌++◌, sym, subst, ◌∙◌}
use Rattle.std.specs.List.{AllByRecursion}
use Rattle.vn_ifnet.specs.declared.interfaces.Attached.{Attached}
use Rattle.vn_vmove.specs.Parts.{held}
use Rattle.vn_kernel.specs.Fields.{fields}
use Rattle.vn_kernel.specs.Rows.{IsAttached}
use Rattle.vn_kernel.proofs.listing.Attached.{all_attached, rows-whole}
use Rattle.vn_kernel.proofs.listing.if_rows.Goals as goal

pub loop-attached-init : goal.loop-attached-init
loop-attached-init c =
    let f = fields c.args.state.now in
    let all : c.into_iter-attached-iterator.result ≡ (held f.tables c.args.sid.0).attached = c.into_iter-attached-iterator.ensures.into_iter_gives ∙ c.in-Some.ensures in
    record {
      rows = λ i. c.new-rows.ensures i ++ rows-whole c.requires.stands c.args.sid.0 c.into_iter-attached-iterator.result all i;
      attached = subst (λ (xs : List Attached). AllByRecursion (IsAttached f c.args.sid.0) xs) (sym all) (all_attached c.requires.stands c.args.sid.0);
    }

pub returns-in_default : goal.returns-in_default
returns-in_default c = c.new-rows.ensures ∙ rows-whole c.requires.stands c.args.sid.0 [] (sym c.in_default.ensures)

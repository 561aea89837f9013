use Rattle.std.proofs.Common.{sym, ap, ◌∙◌, arith}
use Rattle.std.proofs.lemmas.List.{take_more}
use Rattle.vn_types.specs.Interfaces.{half_id_eq}
use Rattle.vn_cells.specs.machine.Listings.{addresses_on}
use Rattle.vn_kernel.specs.Rows.{kept_on}
use Rattle.vn_kernel.proofs.listing.Grouped.{grouped-more, kept-none}
use Rattle.vn_kernel.proofs.listing.group_addresses.Goals as goal

pub loop-addr-init : goal.loop-addr-init
loop-addr-init c = λ on. ap (kept_on on) c.new-groups.ensures.empty ∙ kept-none on

pub loop-addr-preserved : goal.loop-addr-preserved
loop-addr-preserved c = λ on.
    ap (kept_on on) c.in_ok-group.ensures ∙ grouped-more _ c.loop-addr.groups.entries _ c.loop-addr.invariant on
    ∙ ap (addresses_on half_id_eq on) (sym (take_more c.list-addr-items.result.now c.loop-addr.addr-index _ c.loop-addr-test.true))

use Rattle.std.proofs.Common.{◌++◌, ◌∷◌, [], List, ℕ, ap, ◌∙◌}
use Rattle.std.specs.BTreeMap.{BTreeMap}
use Rattle.std.proofs.lemmas.Result.{on_ok_weaker}
use Rattle.vn_kernel.specs.Rows.{Address}
use Rattle.vn_kernel.proofs.listing.Grouped.{group-absent, group-there}
use Rattle.vn_kernel.proofs.listing.group.Goals as goal

pub returns-in-Some : goal.returns-in-Some
returns-in-Some c =
    on_ok_weaker c.push.result
    (λ is. (c.get_mut.follows.holds c.push.new.self).0
    ∙ group-there c.args.addr c.args.groups.now.entries c.if_number-number.result c.in-Some.group.now c.push.new.self c.if_number-number.ensures c.in-Some.ensures.ordered c.in-Some.ensures.value is)
    c.push.ensures.ok

pub returns : goal.returns
returns c =
    c.in_ok-insert.ensures.entries
    ∙ group-absent c.args.addr c.args.groups.now.entries c.if_number-number.result _ c.push-2.new.self
    (ap (λ (m : BTreeMap ℕ (List Address)). m.entries) c.get_mut.follows.holds-at-none) c.if_number-number.ensures c.in_default.ensures.value
    (c.in_ok-push.ensures.ok ∙ ap (λ (es : List Address). es ++ (c.args.addr.ip, c.args.addr.len) ∷ []) c.in_ok-group.ensures)

use Rattle.std.proofs.Common.{◌≡◌, sym, ap, ◌∙◌}
use Rattle.std.specs.Map.{remove_entry}
use Rattle.std.specs.Option.{option_map}
use Rattle.std.specs.BTreeMap.{is_at}
use Rattle.vn_types.specs.declared.interface.HalfId.{HalfId}
use Rattle.vn_types.specs.Interfaces.{half_id_eq}
use Rattle.vn_rules.specs.Routes.{Routed, prefix_cmp, without_stranded}
use Rattle.vn_rules.proofs.RouteEdits.{are_routes-remove}
use Rattle.vn_route.proofs.Leaving.{fewer, stranded-removed, none-stranded}
use Rattle.vn_route.proofs.stranded.drop_stranded.Goals as goal

pub loop-to-smaller : goal.loop-to-smaller
loop-to-smaller c =
    let first = c.in-Some.ensures ∙ ap (option_map (λ (e : Routed HalfId). e.0)) (sym c.loop-to.invariant.next) in
    let less = stranded-removed half_id_eq c.args.on c.loop-to.routes.entries c.in-Some.to c.loop-to.invariant.right first in
    rw (c.remove.ensures.entries ∙ ap (λ k. remove_entry (is_at (prefix_cmp k)) c.loop-to.routes.entries) c.of.ensures)
    (fewer (is_at (prefix_cmp c.in-Some.to)) c.loop-to.routes.entries less.was_there)

pub loop-to-preserved : goal.loop-to-preserved
loop-to-preserved c =
    let first = c.in-Some.ensures ∙ ap (option_map (λ (e : Routed HalfId). e.0)) (sym c.loop-to.invariant.next) in
    let less = stranded-removed half_id_eq c.args.on c.loop-to.routes.entries c.in-Some.to c.loop-to.invariant.right first in
    let now : c.remove.new.self.entries ≡ remove_entry (is_at (prefix_cmp c.in-Some.to)) c.loop-to.routes.entries =
    c.remove.ensures.entries ∙ ap (λ k. remove_entry (is_at (prefix_cmp k)) c.loop-to.routes.entries) c.of.ensures in
    record {
      right = rw now (are_routes-remove _ _ c.loop-to.invariant.right);
      left = ap (without_stranded half_id_eq c.args.on) now ∙ less.same_stay ∙ c.loop-to.invariant.left;
      next = rw now less.next_behind;
    }

pub returns : goal.returns
returns c =
    none-stranded half_id_eq c.args.on c.loop-to.routes.entries (c.in_default.ensures ∙ ap (option_map (λ (e : Routed HalfId). e.0)) (sym c.loop-to.invariant.next))
    ∙ c.loop-to.invariant.left

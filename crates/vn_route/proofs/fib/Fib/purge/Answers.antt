use Rattle.std.proofs.Common.{rules, not, ap, ◌∙◌}
use Rattle.std.proofs.lemmas.Map.Made.{filter_same_pairs}
use Rattle.vn_types.specs.Interfaces.{half_id_eq, if_same}
use Rattle.vn_rules.specs.Routes.{target_if, after_purge_routes}
use Rattle.vn_rules.proofs.RouteRemoval.{are_routes-kept}
use Rattle.vn_route.proofs.fib.Fib.purge.Goals as goal

pub invariant_of-self : goal.invariant_of-self
invariant_of-self c =
    rw (filter_same_pairs _ (λ e. not (if_same half_id_eq (target_if e.1) c.args.on)) _ (λ k v b w f t. search rules) _ _ c.retain.ensures.filtered)
    (are_routes-kept (λ e. not (if_same half_id_eq (target_if e.1) c.args.on)) _ c.self.invariant)

pub returns : goal.returns
returns c =
    filter_same_pairs _ (λ e. not (if_same half_id_eq (target_if e.1) c.args.on)) _ (λ k v b w f t. search rules) _ _ c.retain.ensures.filtered
    ∙ ap (after_purge_routes half_id_eq c.args.on) c.self.view_is

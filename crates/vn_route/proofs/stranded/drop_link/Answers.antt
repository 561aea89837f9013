use Rattle.std.proofs.Common.{rules, tests, not}
use Rattle.std.proofs.lemmas.Map.Made.{filter_same_pairs}
use Rattle.vn_types.specs.Interfaces.{half_id_eq}
use Rattle.vn_rules.specs.Routes.{is_link_to}
use Rattle.vn_route.proofs.stranded.drop_link.Goals as goal

pub returns : goal.returns
returns c = filter_same_pairs _ (λ e. not (is_link_to half_id_eq c.args.to c.args.on e)) _ (λ k v b w f t. search (rules, tests)) _ _ c.retain.ensures.filtered

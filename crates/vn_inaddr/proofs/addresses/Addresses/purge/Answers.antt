use Rattle.std.proofs.Common.{rules, not, ap, ◌∙◌}
use Rattle.std.proofs.lemmas.Fn.{filter_same}
use Rattle.vn_types.specs.Interfaces.{half_id_eq, if_same}
use Rattle.vn_rules.specs.Addresses.{after_purge}
use Rattle.vn_inaddr.proofs.Lengths.{bounded-filter}
use Rattle.vn_inaddr.proofs.addresses.Addresses.purge.Goals as goal

pub invariant_of-self : goal.invariant_of-self
invariant_of-self c =
    bounded-filter (λ a. not (if_same half_id_eq a.on c.args.on)) _ _ (filter_same _ (λ a. not (if_same half_id_eq a.on c.args.on)) _ (λ a b f k. search rules) _ _ c.retain.ensures.filtered) c.self.invariant

pub returns : goal.returns
returns c =
    filter_same _ (λ a. not (if_same half_id_eq a.on c.args.on)) _ (λ a b f k. search rules) _ _ c.retain.ensures.filtered
    ∙ ap (after_purge half_id_eq c.args.on) c.self.view_is

use Rattle.std.proofs.Common.{rules, not, ap₂, ◌∙◌}
use Rattle.std.proofs.lemmas.Fn.{filter_same}
use Rattle.vn_types.specs.Interfaces.{half_id_eq}
use Rattle.vn_rules.specs.Addresses.{is_same, without_address}
use Rattle.vn_inaddr.proofs.Lengths.{bounded-filter}
use Rattle.vn_inaddr.proofs.addresses.Addresses.remove.Goals as goal

pub invariant_of-self : goal.invariant_of-self
invariant_of-self c =
    bounded-filter (λ b. not (is_same half_id_eq c.in-Some.addr b)) _ _ (filter_same _ (λ b. not (is_same half_id_eq c.in-Some.addr b)) _ (λ a b f k. search rules) _ _ c.retain.ensures.filtered) c.self.invariant

pub returns-clause-after : goal.returns-clause-after
returns-clause-after c =
    filter_same _ (λ b. not (is_same half_id_eq c.in-Some.addr b)) _ (λ a b f k. search rules) _ _ c.retain.ensures.filtered
    ∙ ap₂ (without_address half_id_eq) c.in-Some.ensures.found c.self.view_is

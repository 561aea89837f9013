use Rattle.std.proofs.Common.{rules, tests, ◌∙◌}
use Rattle.std.proofs.lemmas.Iterator.{YieldsList-from_slice}
use Rattle.std.proofs.lemmas.Iterator.Search.{find_from_yields_List}
use Rattle.vn_types.specs.Interfaces.{half_id_eq}
use Rattle.vn_rules.specs.Addresses.{is_at}
use Rattle.vn_inaddr.proofs.addresses.Addresses.address_of.Goals as goal

pub returns-clause-found : goal.returns-clause-found
returns-clause-found c =
    c.copied.ensures
    ∙ find_from_yields_List (is_at half_id_eq c.args.on c.args.ip) _ _ c.find.result c.find.ensures.ran (YieldsList-from_slice c.args.self.now cc) (λ x b q k. search (rules, tests))

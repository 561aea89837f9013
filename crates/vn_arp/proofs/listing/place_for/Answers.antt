use Rattle.std.proofs.Common.{rules, tests, sym, ◌∙◌}
use Rattle.std.proofs.lemmas.Iterator.{YieldsList-from_slice}
use Rattle.std.proofs.lemmas.Iterator.Search.{position_from_yields_List}
use Rattle.vn_arp.specs.Listing.{at_before}
use Rattle.vn_arp.proofs.Rows.{within, all-before}
use Rattle.vn_arp.proofs.listing.place_for.Goals as goal

pub returns-in-Some : goal.returns-in-Some
returns-in-Some c =
    (within (at_before c.args.at) c.args.order.now c.in-Some.place
    (sym c.in-Some.is ∙ position_from_yields_List (at_before c.args.at) c.position.new.self _ c.position.result c.position.ensures.ran (YieldsList-from_slice c.args.order.now cc) (λ x b q k. search (rules, tests)))).0

pub returns-in-None : goal.returns-in-None
returns-in-None c =
    all-before (at_before c.args.at) c.args.order.now
    (sym c.in-None.is ∙ position_from_yields_List (at_before c.args.at) c.position.new.self _ c.position.result c.position.ensures.ran (YieldsList-from_slice c.args.order.now cc) (λ x b q k. search (rules, tests)))

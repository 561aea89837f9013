use Rattle.std.proofs.Common.{rules, tests, ap, ◌∙◌}
use Rattle.std.specs.List.{find}
use Rattle.std.proofs.lemmas.Iterator.{YieldsList-from_slice}
use Rattle.std.proofs.lemmas.Iterator.Search.{find_from_yields_List}
use Rattle.vn_types.specs.Interfaces.{half_id_eq}
use Rattle.vn_arp.specs.Kept.{is_kept_at}
use Rattle.vn_arp.proofs.Edits.{found_entry}
use Rattle.vn_arp.proofs.neighbours.Neighbours.find.Goals as goal

pub returns : goal.returns
returns c =
    found_entry c.args.at.half c.args.at.ip c.args.self.now _ c.find.result
    (find_from_yields_List (is_kept_at half_id_eq c.args.at.half c.args.at.ip) c.find.new.self _ c.find.result c.find.ensures.ran (YieldsList-from_slice c.self.inside.entries.items cc) (λ x b q k. search (rules, tests))
    ∙ ap (find (is_kept_at half_id_eq c.args.at.half c.args.at.ip)) c.self.view_is)

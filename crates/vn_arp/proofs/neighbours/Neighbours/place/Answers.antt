use Rattle.std.proofs.Common.{rules, tests, ap, ◌∙◌}
use Rattle.std.specs.List.{position}
use Rattle.std.proofs.lemmas.Iterator.{YieldsList-from_slice}
use Rattle.std.proofs.lemmas.Iterator.Search.{position_from_yields_List}
use Rattle.vn_types.specs.Interfaces.{half_id_eq}
use Rattle.vn_arp.specs.Kept.{is_kept_at}
use Rattle.vn_arp.proofs.neighbours.Neighbours.place.Goals as goal

pub returns : goal.returns
returns c =
    position_from_yields_List (is_kept_at half_id_eq c.args.at.half c.args.at.ip) c.position.new.self _ c.position.result c.position.ensures.ran (YieldsList-from_slice c.self.inside.entries.items cc) (λ x b q k. search (rules, tests))
    ∙ ap (position (is_kept_at half_id_eq c.args.at.half c.args.at.ip)) c.self.view_is

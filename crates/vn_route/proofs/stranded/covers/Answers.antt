use Rattle.std.proofs.Common.{is_some, ap, ◌∙◌}
use Rattle.vn_types.specs.Interfaces.{half_id_eq}
use Rattle.vn_route.specs.Lengths.{as_route}
use Rattle.vn_route.proofs.Leaving.{covers-longest}
use Rattle.vn_route.proofs.stranded.covers.Goals as goal

pub returns : goal.returns
returns c = c.is_some.ensures ∙ ap is_some c.longest.ensures ∙ covers-longest half_id_eq as_route c.args.on c.args.ip c.args.routes.now.entries

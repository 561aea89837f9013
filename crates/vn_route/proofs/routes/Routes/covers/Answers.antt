use Rattle.std.proofs.Common.{rules}
use Rattle.vn_rules.specs.Routes.{covers}
use Rattle.vn_route.proofs.routes.Routes.covers.Goals as goal

pub returns-in-None : goal.returns-in-None
unfolding covers
returns-in-None c = search rules

use Rattle.std.proofs.Common.{is_some, ap, ◌∙◌}
use Rattle.std.specs.List.{list_any}
use Rattle.vn_epair.specs.Pairs.{is_named}
use Rattle.vn_epair.proofs.Names.{is-homed}
use Rattle.vn_epair.proofs.pairs.Pairs.is_homed.Goals as goal

pub returns : goal.returns
returns c =
    c.is_some.ensures
    ∙ ap is_some c.number.ensures
    ∙ is-homed c.self.inside.rows.items c.self.inside.names c.self.inside.line c.self.invariant c.args.home.0 c.args.unit
    ∙ ap (list_any (is_named c.args.home.0 c.args.unit)) c.self.view_is

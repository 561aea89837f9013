use Rattle.std.proofs.Common.{◌≡◌, true, not, ◌&&◌, sym, ap, ◌∙◌}
use Rattle.std.specs.List.{list_any}
use Rattle.vn_types.specs.declared.interface.IfName.TheVariants.{Epair}
use Rattle.vn_types.specs.declared.interface.Side.TheVariants.{A, B}
use Rattle.vn_epair.specs.Pairs.{is_named}
use Rattle.vn_epair.proofs.Names.{is-homed}
use Rattle.vn_epair.proofs.pairs.Pairs.lowest_free.Goals as goal

pub loop-home-init : goal.loop-home-init
loop-home-init g c = λ lower below.
    let homed : list_any (is_named c.args.home.0 lower) c.args.self.now ≡ true =
    sym (ap (list_any (is_named c.args.home.0 lower)) c.self.view_is)
    ∙ sym (is-homed c.self.inside.rows.items c.self.inside.names c.self.inside.line c.self.invariant c.args.home.0 lower)
    ∙ c.filled-unit.ensures lower below in
    ap (λ b. not b && not (g.S.Standing.stands c.args.standing.now c.args.home (Epair lower A)) && not (g.S.Standing.stands c.args.standing.now c.args.home (Epair lower B))) homed

use Rattle.std.proofs.Common.{Some, true, false, ap, sym, ◌∙◌}
use Rattle.std.specs.Option.{is_some, option_and_then}
use Rattle.vn_kernel.specs.Removal.{lent_half}
use Rattle.vn_kernel.proofs.removing.Lent.{at-place, gives, half-there}
use Rattle.vn_kernel.proofs.homecoming.lent_at.Goals as goal

pub home-requires : goal.home-requires
home-requires c =
    ap is_some (half-there c.requires c.args.sid.0 c.args.place c.in-Half.half (at-place c.requires c.args.sid.0 c.args.place (Some c.in_ok-at.field-0) c.in_ok-at.ensures ∙ ap Some c.in-Half.is)).1

pub returns-then-eq : goal.returns-then-eq
returns-then-eq c =
    sym (gives c.requires c.args.sid.0 c.args.place c.in-Half.half (at-place c.requires c.args.sid.0 c.args.place (Some c.in_ok-at.field-0) c.in_ok-at.ensures ∙ ap Some c.in-Half.is) c.home.result.0 c.home.ensures true (sym c.eq.ensures ∙ c.if-eq.true))

pub returns-in-Lo0 : goal.returns-in-Lo0
returns-in-Lo0 c =
    sym (ap (option_and_then (lent_half c.args.tables.now c.args.sid.0)) (at-place c.requires c.args.sid.0 c.args.place (Some c.in_ok-at.field-0) c.in_ok-at.ensures ∙ ap Some c.in-Lo0.is))

pub returns-else-eq : goal.returns-else-eq
returns-else-eq c =
    sym (gives c.requires c.args.sid.0 c.args.place c.in-Half.half (at-place c.requires c.args.sid.0 c.args.place (Some c.in_ok-at.field-0) c.in_ok-at.ensures ∙ ap Some c.in-Half.is) c.home.result.0 c.home.ensures false (sym c.eq.ensures ∙ c.if-eq.false))

use Rattle.std.proofs.Common.{ap, sym, ◌∙◌}
use Rattle.std.specs.List.{position}
use Rattle.vn_rules.specs.Sockets.{is_named}
use Rattle.vn_sock.specs.Kept.{are_named_apart}
use Rattle.vn_sock.proofs.Kept.{match-cleared, match-place, match-within}
use Rattle.vn_sock.proofs.PortFinds.{are-apart, told-place}
use Rattle.vn_sock.proofs.sockets.Sockets.place_of.Goals as goal

pub returns-clause-place : goal.returns-clause-place
returns-clause-place c =
    c.place.ensures ∙ told-place c.self.inside.names c.self.inside.ports c.self.inside.items.items c.self.invariant c.args.name.now ∙ ap (position (is_named c.args.name.now)) c.self.view_is

pub returns-clause-found : goal.returns-clause-found
returns-clause-found c =
    match-place c.args.name.now c.args.self.now c.place.result
    (c.place.ensures ∙ told-place c.self.inside.names c.self.inside.ports c.self.inside.items.items c.self.invariant c.args.name.now ∙ ap (position (is_named c.args.name.now)) c.self.view_is)

pub returns-clause-within : goal.returns-clause-within
returns-clause-within c =
    match-within (is_named c.args.name.now) c.args.self.now c.place.result
    (c.place.ensures ∙ told-place c.self.inside.names c.self.inside.ports c.self.inside.items.items c.self.invariant c.args.name.now ∙ ap (position (is_named c.args.name.now)) c.self.view_is)

pub returns-clause-absent : goal.returns-clause-absent
returns-clause-absent c =
    match-cleared c.args.name.now c.args.self.now c.place.result
    (c.place.ensures ∙ told-place c.self.inside.names c.self.inside.ports c.self.inside.items.items c.self.invariant c.args.name.now ∙ ap (position (is_named c.args.name.now)) c.self.view_is)

pub returns-clause-apart : goal.returns-clause-apart
returns-clause-apart c = ap are_named_apart (sym c.self.view_is) ∙ are-apart c.self.inside.names c.self.inside.ports c.self.inside.items.items c.self.invariant

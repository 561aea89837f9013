use Rattle.std.proofs.Common.{refl, sym, ◌∙◌}
use Rattle.vn_callout.specs.Stacks.{of as timers_of}
use Rattle.vn_arp.proofs.Edits.{for_ok}
use Rattle.vn_arp.proofs.Followed.{learnt, not_learnt}
use Rattle.vn_arp.proofs.neighbours.Neighbours.input.Goals as goal

pub returns-then-not-learns-clause-here : goal.returns-then-not-learns-clause-here
returns-then-not-learns-clause-here c =
    not_learnt c.args.self.now c.args.self.now (timers_of c.args.wheel.now c.args.sid.0) (timers_of c.args.wheel.now c.args.sid.0) c.args.half c.args.packet.now.spa c.args.now c.args.packet.now.sha c.args.target_is_mine
    (sym c.learns.ensures ∙ c.if-not-learns.true) refl refl

pub returns-clause-here : goal.returns-clause-here
returns-clause-here c =
    for_ok _ _ c.change.result
    (λ follows. learnt c.args.self.now c.change.new.self (timers_of c.args.wheel.now c.args.sid.0) (timers_of c.change.new.wheel c.args.sid.0) c.args.half c.args.packet.now.spa c.args.now c.args.packet.now.sha c.args.target_is_mine
    (sym c.learns.ensures ∙ c.if-not-learns.false) follows)
    c.change.ensures.here

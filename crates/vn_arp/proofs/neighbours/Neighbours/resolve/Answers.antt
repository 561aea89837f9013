use Rattle.std.proofs.Common.{◌≡◌, ◌+◌, ◌++◌, ◌∷◌, [], refl, sym, ap, ◌∙◌}
use Rattle.vn_rules.specs.declared.timer.TimerOf.TheVariants.{Arp}
use Rattle.vn_rules.specs.Arp.{holding, new_entry}
use Rattle.vn_rules.specs.Resolution.{request_time}
use Rattle.vn_rules.specs.Timers.{after_arm}
use Rattle.vn_callout.specs.Stacks.{of as timers_of}
use Rattle.vn_arp.specs.Kept.{IsPut, entries_of}
use Rattle.vn_arp.proofs.Edits.{Kept, knows_kept}
use Rattle.vn_arp.proofs.Followed.{held, held_first, unsettled}
use Rattle.vn_arp.proofs.neighbours.Neighbours.resolve.Goals as goal

pub returns-then-has-clause-here : goal.returns-then-has-clause-here
returns-then-has-clause-here c =
    unsettled c.args.self.now c.hold.new.self (timers_of c.args.wheel.now c.args.sid.0) (timers_of c.args.wheel.now c.args.sid.0) c.args.at.half c.args.at.ip c.args.now c.args.packet (sym c.hit.ensures ∙ c.in_default.is) (sym c.is_down.ensures ∙ c.if-is_down.false)
    (held c.args.self.now c.hold.new.self (timers_of c.args.wheel.now c.args.sid.0) (timers_of c.args.wheel.now c.args.sid.0) c.args.at.half c.args.at.ip c.args.now c.args.packet (sym c.has.ensures ∙ c.if-has.true) (IsPut.entries c.in_ok-dropped.ensures.held) refl)

pub returns-then-has-clause-knows : goal.returns-then-has-clause-knows
returns-then-has-clause-knows c =
    knows_kept c.args.at.half c.args.at.ip c.args.self.now c.hold.new.self (timers_of c.args.wheel.now c.args.sid.0) c.requires.knows (holding c.args.packet) c.in_ok-dropped.ensures.held

pub returns-clause-here : goal.returns-clause-here
returns-clause-here c =
    let entry : c.hold-2.new.self.entry ≡ holding c.args.packet (new_entry c.args.at.half c.args.at.ip) = ap (λ (k : Kept). k.entry) c.in_ok-hold.ensures.held ∙ ap (λ (k : Kept). holding c.args.packet k.entry) c.new-neighbour.ensures in
    unsettled c.args.self.now c.add.new.self (timers_of c.args.wheel.now c.args.sid.0) (timers_of c.add.new.wheel c.args.sid.0) c.args.at.half c.args.at.ip c.args.now c.args.packet (sym c.hit.ensures ∙ c.in_default.is) (sym c.is_down.ensures ∙ c.if-is_down.false)
    (held_first c.args.self.now c.add.new.self (timers_of c.args.wheel.now c.args.sid.0) (timers_of c.add.new.wheel c.args.sid.0) c.args.at.half c.args.at.ip c.args.now c.args.packet (sym c.has.ensures ∙ c.if-has.false)
    (c.in_ok-add.ensures.added ∙ ap (λ e. entries_of c.args.self.now ++ e ∷ []) entry) (c.in_ok-add.ensures.timed ∙ (λ i. after_arm (c.args.now + request_time) (Arp (entry i).half (entry i).ip) (timers_of c.args.wheel.now c.args.sid.0))))

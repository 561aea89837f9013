use Rattle.std.proofs.Common.{◌≡◌, true, rules, sym, ap, ◌∙◌}
use Rattle.vn_types.specs.declared.interface.HalfId.{HalfId}
use Rattle.vn_rules.specs.declared.ping.PingsOf.{PingsOf}
use Rattle.vn_rules.specs.Pings.{timers_without}
use Rattle.vn_callout.specs.Stacks.{of as timers_of}
use Rattle.vn_icmp.specs.Stacks.{of}
use Rattle.vn_icmp.proofs.Stopped.{none-stopped}
use Rattle.vn_icmp.proofs.pings.Pings.purge_stack.Goals as goal

pub returns-in_default-clause-stopped : goal.returns-in_default-clause-stopped
returns-in_default-clause-stopped c =
    sym (none-stopped (λ _. true) (timers_of c.args.wheel.now c.args.sid.0))
    ∙ ap (λ (p : PingsOf HalfId). timers_without (λ _. true) p.awaited (timers_of c.args.wheel.now c.args.sid.0)) (sym c.in_default.ensures.row)
    ∙ ap (λ rows. timers_without (λ _. true) (of rows c.args.sid.0).awaited (timers_of c.args.wheel.now c.args.sid.0)) c.self.view_is

pub returns-clause-stopped : goal.returns-clause-stopped
returns-clause-stopped c =
    let row : c.as_slice.result.now ≡ (of c.args.self.now c.args.sid.0).awaited = search rules in
    c.stop_timers.ensures.stopped ∙ ap (λ ps. timers_without (λ _. true) ps (timers_of c.args.wheel.now c.args.sid.0)) row

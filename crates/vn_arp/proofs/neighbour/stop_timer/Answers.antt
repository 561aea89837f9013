use Rattle.std.proofs.Common.{sym, ap, ◌∙◌}
use Rattle.vn_callout.specs.Stacks.{of as timers_of}
use Rattle.vn_arp.specs.Kept.{without_numbered}
use Rattle.vn_arp.proofs.Numbers.{none-stopped}
use Rattle.vn_arp.proofs.neighbour.stop_timer.Goals as goal

pub returns-in_default-clause-stopped : goal.returns-in_default-clause-stopped
returns-in_default-clause-stopped c =
    none-stopped (timers_of c.args.wheel.now c.args.sid.0)
    ∙ ap (λ arm. without_numbered arm (timers_of c.args.wheel.now c.args.sid.0)) (sym c.in_default.is)

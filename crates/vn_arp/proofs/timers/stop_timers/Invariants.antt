use Rattle.std.proofs.Common.{◌≡◌, drop}
use Rattle.vn_types.specs.PerStack.{ChangesOnly}
use Rattle.vn_callout.specs.Stacks.{of as timers_of}
use Rattle.vn_arp.specs.Kept.{without_gone}
use Rattle.vn_arp.proofs.timers.stop_timers.Given as goal

-- the timers of the entries to come are still to be stopped
abbrev pub invariant-loop-neighbour : goal.invariant-loop-neighbour
invariant-loop-neighbour g l = record {
  rest : without_gone (g.G.Gone.goes l.gone) (drop l.neighbour-index l.neighbours) (timers_of l.wheel l.sid.0)
      ≡ without_gone (g.G.Gone.goes l.gone) l.neighbours (timers_of l.initial.wheel l.sid.0);
  others : ChangesOnly l.sid.0 (timers_of l.initial.wheel) (timers_of l.wheel);
}

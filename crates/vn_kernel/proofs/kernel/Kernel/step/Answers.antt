use Rattle.std.proofs.Common.{Some, ap}
use Rattle.vn_kernel.specs.Fields.{fields}
use Rattle.vn_kernel.specs.Worlds.{world_of}
use Rattle.vn_kernel.proofs.Runs.{has_room, still_held, still_run}
use Rattle.vn_kernel.proofs.kernel.Kernel.step.Goals as goal

pub happen-requires-clause-room : goal.happen-requires-clause-room
happen-requires-clause-room c = has_room c.self.inside.spent (fields c.self.inside.state) c.self.inside.history c.if-self.false c.self.invariant

pub invariant_of-self-2 : goal.invariant_of-self-2
invariant_of-self-2 c =
    still_held c.self.inside.spent (fields c.self.inside.state) (fields c.happen.new.state) c.self.inside.history c.push.new.self c.args.event c.len-events.result c.if-self.false c.self.invariant
    c.in_ok-happen.ensures c.in_ok-push.ensures.ok c.len-events.ensures c.if-events-ge-EVENTS_MAX.false c.requires.valid c.requires.built

pub returns-clause-ran : goal.returns-clause-ran
returns-clause-ran c =
    ap Some (still_run c.self.inside.spent (world_of (fields c.self.inside.state)) (world_of (fields c.happen.new.state)) c.self.inside.history c.push.new.self c.args.event c.if-self.false
    c.self.invariant.machine.ran c.in_ok-happen.ensures.world c.in_ok-push.ensures.ok)

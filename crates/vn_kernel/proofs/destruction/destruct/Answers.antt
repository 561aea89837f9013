use Rattle.vn_kernel.proofs.Destructed.{destructs}
use Rattle.vn_kernel.proofs.destruction.destruct.Goals as goal

pub returns : goal.returns
returns c =
    destructs c.args.tables.now c.requires.sound c.args.sid.0 c.requires.alive c.requires.alone
    c.purge_stack.new.self c.purge_stack.ensures.purged c.purge_stack.ensures.others
    c.purge_stack.new.wheel c.purge_stack.ensures.other_timers
    c.stop_of_stack.new.self c.stop_of_stack.ensures.stopped c.stop_of_stack.ensures.others
    c.purge_stack-2.new.self c.purge_stack-2.ensures.purged c.purge_stack-2.ensures.others
    c.purge_interface.new.self c.purge_interface.ensures.purged c.purge_interface.ensures.others
    c.purge_interface-2.new.self c.purge_interface-2.ensures.purged c.purge_interface-2.ensures.others
    c.detach.new.self c.detach.ensures.detached c.detach.ensures.others
    c.remove.new.self c.remove.ensures.removed c.remove.ensures.others
    c.drop_instance.new.self c.drop_instance.ensures.dropped c.drop_instance.ensures.declared c.drop_instance.ensures.others
    c.remove-2.new.self c.remove-2.ensures.removed c.remove-2.ensures.others

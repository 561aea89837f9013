use Rattle.std.proofs.Common.{arith}
use Rattle.vn_kernel.proofs.Registering.{next-free, next-good}
use Rattle.vn_kernel.proofs.constructors.Constructors.new.Goals as goal

pub register-requires : goal.register-requires
register-requires c =
    next-free c.loop-constructor.constructor-index _ (omega arith) c.entry.result c.entry.ensures c.loop-constructor.table c.loop-constructor.invariant

pub loop-constructor-preserved : goal.loop-constructor-preserved
loop-constructor-preserved c =
    next-good c.loop-constructor.constructor-index _ (omega arith) c.entry.result c.entry.ensures c.loop-constructor.table c.loop-constructor.invariant
    c.register.new.table c.in_ok-register.ensures

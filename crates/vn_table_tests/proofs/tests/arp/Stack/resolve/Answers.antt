use Rattle.std.proofs.Common.{arith}
use Rattle.vn_arp.proofs.Armed.{armed-resolution}
use Rattle.vn_table_tests.proofs.tests.arp.Stack.resolve.Goals as goal

pub invariant_of-self : goal.invariant_of-self
invariant_of-self g c =
    (c.resolve-answer.ensures.knows, omega (arith, armed-resolution _ _ _ _ _ _ _ _ c.in-Ok.ensures.here, c.self.invariant.1))

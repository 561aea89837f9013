use Rattle.std.proofs.Common.{arith}
use Rattle.vn_arp.proofs.Armed.{armed-input}
use Rattle.vn_table_tests.proofs.tests.arp.Stack.input.Goals as goal

pub invariant_of-self : goal.invariant_of-self
invariant_of-self g c =
    (c.input-answer.ensures.knows, omega (arith, armed-input _ _ _ _ _ _ _ _ _ c.in-Ok.ensures.here, c.self.invariant.1))

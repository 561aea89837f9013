use Rattle.std.proofs.Common.{arith}
use Rattle.vn_table_tests.proofs.Unarmed.{unarmed-static}
use Rattle.vn_table_tests.proofs.tests.arp.Stack.set_static.Goals as goal

pub invariant_of-self : goal.invariant_of-self
invariant_of-self g c =
    (c.set_static-answer.ensures.knows, omega (arith, unarmed-static _ _ _ _ _ _ _ c.in-Ok.ensures.here, c.self.invariant.1))

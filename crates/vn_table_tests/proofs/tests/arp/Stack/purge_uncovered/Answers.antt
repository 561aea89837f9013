use Rattle.std.proofs.Common.{arith}
use Rattle.vn_table_tests.proofs.Unarmed.{unarmed-gone}
use Rattle.vn_table_tests.proofs.tests.arp.Stack.purge_uncovered.Goals as goal

pub invariant_of-self : goal.invariant_of-self
invariant_of-self c =
    (c.purge_uncovered.ensures.knows, omega (arith, unarmed-gone _ _ _ _ _ c.purge_uncovered.ensures.purged, c.self.invariant.1))

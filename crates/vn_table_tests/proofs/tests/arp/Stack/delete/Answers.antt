use Rattle.std.proofs.Common.{◌≡◌, List, Result, Ok, Err, OnOk, OnErr, ap, arith}
use Rattle.vn_types.specs.declared.address.Ip4.{Ip4}
use Rattle.vn_types.specs.declared.interface.HalfId.{HalfId}
use Rattle.vn_rules.specs.declared.timer.TimersOf.{TimersOf}
use Rattle.vn_rules.specs.Resolution.{after_arp_delete}
use Rattle.vn_arp.specs.Kept.{Follows}
use Rattle.vn_arp.proofs.Edits.{Kept}
use Rattle.vn_table_tests.proofs.Unarmed.{unarmed-delete}
use Rattle.vn_table_tests.proofs.tests.arp.Stack.delete.Goals as goal

-- whatever is answered
unarmed : {A E : Type 0} (r : Result A E) (rows new : List Kept) (t after : TimersOf HalfId) (ip : Ip4) → OnOk r (Follows (after_arp_delete ip) rows t new after) → OnErr r (after ≡ t) → after.armed ≡ t.armed
unarmed (Ok done) rows new t after ip follows same = unarmed-delete rows new t after ip follows
unarmed (Err errno) rows new t after ip follows same = ap (λ (u : TimersOf HalfId). u.armed) same

pub invariant_of-self : goal.invariant_of-self
invariant_of-self c =
    (c.delete.ensures.knows, omega (arith, unarmed c.delete.result _ _ _ _ _ c.delete.ensures.deleted c.delete.ensures.no_timer, c.self.invariant.1))

use Rattle.std.proofs.Common.{◌≡◌, None, rules, is_ok, sym, ap, ◌∙◌}
use Rattle.vn_types.specs.PerStack.{SameFor}
use Rattle.vn_loop.specs.Queues.{of, is_busy}
use Rattle.vn_loop.proofs.Busy.{busy-same, busy-new}
use Rattle.vn_loop.proofs.loops.Loops.make.Goals as goal

pub invariant_of-self : goal.invariant_of-self
invariant_of-self c =
    let same : SameFor None c.self.inside.stacks c.at_or_new.follows.lender-at-none =
    rw (c.in_err-loopback.was) at c.at_or_new.follows.holds-at-none in
    c.self.invariant ∙ sym (busy-same _ _ (λ q. ap is_busy (same q)))

pub invariant_of-self-2 : goal.invariant_of-self-2
invariant_of-self-2 c =
    let ends = c.at_or_new.follows.holds c.make.new.self (ap is_ok (c.in_ok-loopback.was)) in
    let was : of c.self.inside.stacks c.args.sid.0 ≡ None = search rules in
    c.self.invariant ∙ sym (busy-new c.args.sid.0 _ _ ends.others (ap is_busy was) (ap is_busy ends.here ∙ c.make.ensures.idle))

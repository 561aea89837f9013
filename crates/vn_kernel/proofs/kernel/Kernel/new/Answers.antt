use Rattle.std.proofs.Common.{Some, ap₂}
use Rattle.vn_kernel.specs.Fields.{fields}
use Rattle.vn_kernel.proofs.Runs.{opened_held}
use Rattle.vn_kernel.proofs.kernel.Kernel.new.Goals as goal

pub invariant_of-result : goal.invariant_of-result
invariant_of-result c = opened_held (fields c.in_ok-state.state) c.new-2.result c.in_ok-state.ensures c.new-2.ensures

pub returns : goal.returns
returns c = record {
  opened = ap₂ (λ w events. record { world = Some w; events = events }) c.in_ok-state.ensures.world c.new-2.ensures;
}

use Rattle.std.proofs.Common.{◌≡◌, map}
use Rattle.vn_kernel.proofs.removal.homed_pairs.Given as goal

abbrev pub invariant-loop-pair : goal.invariant-loop-pair
invariant-loop-pair l = l.pairs.items ≡ map (λ e. e.1.now) l.yielded

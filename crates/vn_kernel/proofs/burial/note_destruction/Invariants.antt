use Rattle.std.proofs.Common.{◌≡◌, drop, reverse, ◌≤◌, length}
use Rattle.vn_kernel.specs.Constructors.{constructors}
use Rattle.vn_kernel.specs.Destruction.{with_destructors}
use Rattle.vn_kernel.specs.Fields.{fields}
use Rattle.vn_kernel.proofs.burial.note_destruction.Given as goal

-- with the entries to come it is what it was with all of them
abbrev pub invariant-loop-place : goal.invariant-loop-place
invariant-loop-place l = record {
  noted : with_destructors l.fn.path l.initial.state.clock (drop l.place (reverse constructors)) (fields l.state)
      ≡ with_destructors l.fn.path l.initial.state.clock (drop 1 (reverse constructors)) (fields l.initial.state);
  clock : l.state.clock ≡ l.initial.state.clock;
  within : l.place ≤ length constructors;
}

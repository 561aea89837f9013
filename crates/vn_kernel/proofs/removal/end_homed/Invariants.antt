use Rattle.std.proofs.Common.{◌≡◌, drop}
use Rattle.vn_jail.specs.Tree.{path_at}
use Rattle.vn_kernel.specs.Fields.{fields}
use Rattle.vn_kernel.specs.Removal.{homed_numbers}
use Rattle.vn_kernel.proofs.removing.Ending.{Ending}
use Rattle.vn_kernel.proofs.removal.end_homed.Given as goal

-- the pairs to come are those that are homed there still
abbrev pub invariant-loop-pair : goal.invariant-loop-pair
invariant-loop-pair l = record {
  ending : Ending l.fn.sid.0 (fields l.initial.state) (fields l.state);
  left : homed_numbers (path_at l.initial.state.jails l.fn.sid.0) l.state.units.entries ≡ drop l.pair-index l.pair-items;
}

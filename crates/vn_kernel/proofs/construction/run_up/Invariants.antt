use Rattle.std.proofs.Common.{◌≡◌, ◌++◌, map, take}
use Rattle.vn_sysinit.specs.Rows.{constructor_names}
use Rattle.vn_kernel.proofs.Entered.{entered}
use Rattle.vn_kernel.specs.Construction.{HaveRun, BuildsOnly}
use Rattle.vn_kernel.proofs.construction.run_up.Given as goal

abbrev pub invariant-loop-constructor : goal.invariant-loop-constructor
invariant-loop-constructor l = record {
  built : HaveRun l.constructor-index l.sid.0 l.tables;
  rest : BuildsOnly l.sid.0 l.initial.tables l.tables;
  noted : l.entries ≡ l.initial.entries ++ map (entered l.clock) (take l.constructor-index constructor_names);
}

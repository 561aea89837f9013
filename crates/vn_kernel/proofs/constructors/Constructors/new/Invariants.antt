use Rattle.std.proofs.Common.{drop}
use Rattle.vn_sysinit.specs.Rows.{constructor_entries}
use Rattle.vn_kernel.proofs.Registering.{GivesTable}
use Rattle.vn_kernel.proofs.constructors.Constructors.new.Given as goal

abbrev pub invariant-loop-constructor : goal.invariant-loop-constructor
invariant-loop-constructor l = GivesTable (drop l.constructor-index constructor_entries) l.table

-- Why a value is not set.
use Rattle.std.specs.Prelude.{ℕ, Option, Some, None, if◌then◌else◌}
use Rattle.vn_rules.specs.declared.variable.Bounds.{Bounds}
use Rattle.vn_store.specs.declared.fault.SetFault.{SetFault}
use Rattle.vn_store.specs.declared.fault.SetFault.TheVariants.{Unknown, Range}
use Rattle.vn_rules.specs.Variables.{allows}

-- by the bounds of the variable, where it is declared
abbrev pub set_fault : Option Bounds → ℕ → Option SetFault
set_fault None value = Some Unknown
set_fault (Some bounds) value = if allows bounds value then None else Some Range

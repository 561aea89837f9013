-- What holds of every script whose history can happen holds of the one that an input spells.
use Rattle.std.proofs.Common.{◌≡◌, ℕ, List, Option, None, Some, Result, Ok, Err, IfOk, IfSome, refl}
use Rattle.vn_cells.specs.declared.script.Script.{Script}
use Rattle.vn_cells.specs.machine.Events.{IsValid}
use Rattle.vn_cells.specs.texts.Schedule.{serial_run}
use Rattle.vn_shell.specs.declared.script.Reason.{Reason}
use Rattle.vn_shell.specs.Grammar.{script_of}
use Rattle.vn_shell.proofs.ReadParts.{script_built, script_valid}
use Rattle.vnetsh.proofs.WholeRuns.{serial_valid}

module _ {P : Script → Type 0} (always : (script : Script) → IsValid (serial_run script) → P script) where
  -- of a script that was read
  in_read : (octets : List ℕ) → IfOk (script_of octets) P
  in_read octets = by (script_of octets) refl
    where
      by : (r : Result Script (ℕ × Reason)) → script_of octets ≡ r → IfOk r P
      by (Ok script) e = always script (serial_valid script (script_valid octets script e) (script_built octets script e))
      by (Err refusal) e = tt

  -- of an input that is told
  pub in_told : (input : Option (List ℕ)) → IfSome input (λ octets. IfOk (script_of octets) P)
  in_told None = tt
  in_told (Some octets) = in_read octets

-- What an input that is told is answered.
use Rattle.std.specs.Prelude.{◌≡◌, ◌⊎◌, ℕ, nat_le, List, length, if◌then◌else◌, IfSome, Option, Result, Ok, Err}
use Rattle.vn_cells.specs.declared.event.TheConstants.{EVENTS_MAX}
use Rattle.vn_cells.specs.declared.script.Script.{Script as AnyScript}
use Rattle.vn_cells.specs.texts.Schedule.{serial_run}
use Rattle.vn_shell.specs.declared.script.Reason.{Reason}
use Rattle.vn_shell.specs.Grammar.{script_of}
use Rattle.vnetsh.specs.declared.status.Status.{Status}
use Rattle.vnetsh.specs.declared.status.Status.TheVariants as status

-- the most octets of an input
abbrev pub input_max : ℕ
input_max = 4194304

-- the status of what an input means
abbrev pub status_of_script : Result AnyScript (ℕ × Reason) → Status
status_of_script (Ok script) =
    if nat_le (length (serial_run script)) EVENTS_MAX then status.Done else status.Long
status_of_script (Err refusal) = status.Script refusal.0 refusal.1

-- the status where memory is found and neither a read nor a write fails
abbrev pub status_of : List ℕ → Status
status_of input =
    if nat_le (length input) input_max then status_of_script (script_of input) else status.TooLong

-- the input decides the status, unless memory is wanting
abbrev pub IsDecided : Option (List ℕ) → Status → Type 0
IsDecided left result =
    IfSome left (λ input. (result ≡ status_of input) ⊎ (result ≡ status.NoMemory))

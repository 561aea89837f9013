-- How a call of the program ends: its exit status, its status line, and what its status says.
use Rattle.std.specs.Prelude.{◌≡◌, ◌⊎◌, ℕ, ◌<◌, length, List, Option, Err, IfSome}
use Rattle.std.specs.Io.KnownBytes.{Appends, Keeps}
use Rattle.vn_io.specs.Adapters.{Adapter}
use Rattle.vn_io.specs.Counts.{RoseByOne, Stayed}
use Rattle.vn_io.specs.Transfers.{AppendsPart}
use Rattle.vn_shell.specs.Grammar.{script_of}
use Rattle.vnetsh.specs.declared.status.Status.{Status}
use Rattle.vnetsh.specs.declared.status.Status.TheVariants as status
use Rattle.vnetsh.specs.Inputs.{input_max}
use Rattle.vnetsh.specs.Lines.{status_code, status_line}
use Rattle.vnetsh.specs.Outputs.{IsRunClean, IsRunIsolated, IsRunLong, IsRunShort, WritesPart, WritesRun}

-- what each status says of the input, and of the output before and after
abbrev pub Says : Status → Option (List ℕ) → Option (List ℕ) → Option (List ℕ) → Type 0
Says status.Done left old new =
    WritesRun left old new × IsRunIsolated left × IsRunClean left × IsRunShort left
Says status.Usage left old new = Keeps old new
Says (status.Script number why) left old new =
    IfSome left (λ input. script_of input ≡ Err (number, why)) × Keeps old new
Says status.ReadFault left old new = Keeps old new
Says status.WriteFault left old new = WritesPart left old new × IsRunShort left
Says status.NoMemory left old new = Keeps old new
Says status.TooLong left old new = IfSome left (λ input. input_max < length input) × Keeps old new
Says status.Long left old new = IsRunLong left × Keeps old new

-- a line was written whole; or a write failed after a part of it
abbrev pub TellsLine : List ℕ → Adapter → Adapter → Type 0
TellsLine line old new =
    (Appends old.known new.known line × Stayed old.faults new.faults)
    ⊎ (AppendsPart old.known new.known line × RoseByOne old.faults new.faults)

-- a call ended with a status: its exit status, what it says of input and output, and its line
pub record EndsWith (status : Status) (code : ℕ) (left old new : Option (List ℕ))
    (told telling : Adapter) : Type 0 where
  -- the exit status is that of the status
  pub coded : code ≡ status_code status
  -- the input, and the output before and after, are as the status says
  pub says : Says status left old new
  -- the status line went to its writer
  pub tells : TellsLine (status_line status) told telling

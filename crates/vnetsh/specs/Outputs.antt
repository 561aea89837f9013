-- What the run leaves that an input spells, and what holds of its history, where octets are told.
use Rattle.std.specs.Prelude.{ℕ, ◌<◌, ◌≤◌, List, length, Option, IfOk, IfSome, IsOkAnd}
use Rattle.std.specs.Io.KnownBytes.{Appends}
use Rattle.vn_cells.specs.declared.event.TheConstants.{EVENTS_MAX}
use Rattle.vn_cells.specs.keeping.Clean.{IsEachPrefixClean}
use Rattle.vn_cells.specs.sets.Isolation.{IsIsolated}
use Rattle.vn_cells.specs.texts.Schedule.{serial_run}
use Rattle.vn_cells.specs.texts.Text.{text}
use Rattle.vn_io.specs.Transfers.{AppendsPart}
use Rattle.vn_shell.specs.Grammar.{script_of}

-- the sink holds what it held, and then the text of the run of the script that the input spells
abbrev pub WritesRun : Option (List ℕ) → Option (List ℕ) → Option (List ℕ) → Type 0
WritesRun left old new =
    IfSome left (λ input. IsOkAnd (script_of input) (λ script.
    Appends old new (text (serial_run script))))

-- the sink holds what it held, and then a front part of that text, and not all of it
abbrev pub WritesPart : Option (List ℕ) → Option (List ℕ) → Option (List ℕ) → Type 0
WritesPart left old new =
    IfSome left (λ input. IsOkAnd (script_of input) (λ script.
    AppendsPart old new (text (serial_run script))))

-- that history has as many events as a history may have, or fewer
abbrev pub IsRunShort : Option (List ℕ) → Type 0
IsRunShort left =
    IfSome left (λ input. IfOk (script_of input) (λ script. length (serial_run script) ≤ EVENTS_MAX))

-- it has more
abbrev pub IsRunLong : Option (List ℕ) → Type 0
IsRunLong left =
    IfSome left (λ input. IsOkAnd (script_of input) (λ script. EVENTS_MAX < length (serial_run script)))

-- each cell of each set that is closed in that history is as in a run of the set's own events
abbrev pub IsRunIsolated : Option (List ℕ) → Type 0
IsRunIsolated left =
    IfSome left (λ input. IfOk (script_of input) (λ script. IsIsolated (serial_run script)))

-- at each prefix of that history no table, queue or timer names an interface that stands elsewhere
abbrev pub IsRunClean : Option (List ℕ) → Type 0
IsRunClean left =
    IfSome left (λ input. IfOk (script_of input) (λ script. IsEachPrefixClean (serial_run script)))

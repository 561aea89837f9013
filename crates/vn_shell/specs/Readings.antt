-- What a reader of scripts answers, and what a script has been read into.
use Rattle.std.specs.Prelude.{◌≡◌, ℕ, Bool, true, false, List, [], ◌∷◌, ◌++◌, Option, Some, None, Result, Ok, Err}
use Rattle.std.specs.List.{list_all}
use Rattle.vn_types.specs.Paths.{Path}
use Rattle.vn_cells.specs.declared.command.Command.{Command}
use Rattle.vn_cells.specs.declared.script.LaneLine.{LaneLine}
use Rattle.vn_cells.specs.declared.script.Part.{Part}
use Rattle.vn_cells.specs.declared.script.Part.TheVariants as part
use Rattle.vn_cells.specs.declared.script.Script.{Script}
use Rattle.vn_cells.specs.machine.Events.{is_built_line, is_valid_command}
use Rattle.vn_cells.specs.texts.Programs.{command_text}
use Rattle.vn_shell.specs.declared.fault.LineFault.{LineFault}
use Rattle.vn_shell.specs.declared.fault.LineFault.TheVariants as line_fault
use Rattle.vn_shell.specs.declared.item.Item.{Item}
use Rattle.vn_shell.specs.declared.item.Item.TheVariants as item
use Rattle.vn_shell.specs.declared.parts.Parts.{Parts}
use Rattle.vn_shell.specs.declared.script.Reason.{Reason}
use Rattle.vn_shell.specs.declared.script.ScriptFault.{ScriptFault}
use Rattle.vn_shell.specs.declared.script.ScriptFault.TheVariants as fault
use Rattle.vn_shell.specs.Commands.{command_of}
use Rattle.vn_shell.specs.Words.{words_of}
use Rattle.vn_shell.specs.Grammar.{phases, parts_after}

-- ---- answers

-- a line is refused for what it means, and want of memory says nothing of it
abbrev pub Fails : {A : Type 0} → LineFault → Result A Reason → Type 0
Fails (line_fault.Refused reason) meaning = meaning ≡ Err reason
Fails line_fault.NoMemory meaning = Unit {0}

-- what was read, as it is seen, is what is meant, unless memory ran out
abbrev pub GivesBy : {X A : Type 0} → (X → A) → Result X LineFault → Result A Reason → Type 0
GivesBy view (Ok x) meaning = meaning ≡ Ok (view x)
GivesBy view (Err e) meaning = Fails e meaning

-- the same, where what was read is seen as it is
abbrev pub Gives : {A : Type 0} → Result A LineFault → Result A Reason → Type 0
Gives result meaning = GivesBy (λ x. x) result meaning

-- the fault of a script whose line has this number
abbrev pub at_line : ℕ → LineFault → ScriptFault
at_line number (line_fault.Refused reason) = fault.Script number reason
at_line number line_fault.NoMemory = fault.NoMemory

-- a script is refused for what it means, and want of memory says nothing of it
abbrev pub Refuses : {A : Type 0} → Result A (ℕ × Reason) → ScriptFault → Type 0
Refuses meaning (fault.Script number reason) = meaning ≡ Err (number, reason)
Refuses meaning fault.NoMemory = Unit {0}

-- one line of it, which has this number
abbrev pub RefusesAt : {A : Type 0} → ℕ → Result A Reason → ScriptFault → Type 0
RefusesAt number meaning (fault.Script at reason) = (at ≡ number) × (meaning ≡ Err reason)
RefusesAt number meaning fault.NoMemory = Unit {0}

-- ---- commands

-- what is written of each command that can be given reads as that command
abbrev pub IsReadBack : Type 0
IsReadBack = (issuer : Path) (command : Command) → is_valid_command issuer command ≡ true
    → command_of (words_of (command_text command)) ≡ Some command

-- ---- parts, as they are read line by line

-- the parts where a phase ends
abbrev pub ended : Parts → List Part
ended read = read.parts ++ phases read.lines

-- the parts where a phase ends, and another part
abbrev pub ended_by : Parts → Part → Parts
ended_by read part = record { parts = ended read ++ part ∷ []; lines = [] }

-- the parts with an item more
unfoldable pub with_item : Parts → Item → Parts
with_item read (item.Lane line) = record read { lines = read.lines ++ line ∷ [] }
with_item read item.Phase = record { parts = ended read; lines = [] }
with_item read item.Settle = ended_by read part.Settle
with_item read (item.Sleep n) = ended_by read (part.Sleep n)

-- what a line means is put, where it is not skipped
abbrev pub IsPut : Result (Option Item) Reason → Parts → Parts → Type 0
IsPut (Ok None) old new = new ≡ old
IsPut (Ok (Some item)) old new = new ≡ with_item old item
IsPut (Err reason) old new = ⊥

-- the parts of a script's lines
abbrev pub parts_in : {E : Type 0} → Result (List Item) E → Result (List Part) E
parts_in (Ok items) = Ok (parts_after [] items)
parts_in (Err e) = Err e

-- ---- scripts

-- the lane lines of a part
abbrev pub lines_in : Part → List LaneLine
lines_in (part.Phase lines) = lines
lines_in _ = []

-- whether the program runs a line
abbrev pub is_built_lane : LaneLine → Bool
is_built_lane lane_line = is_built_line lane_line.line

-- whether it runs a part
abbrev pub is_built_part : Part → Bool
is_built_part (part.Phase lines) = list_all is_built_lane lines
is_built_part _ = false

-- whether it runs each part of a script
abbrev pub is_built_script : Script → Bool
is_built_script script = list_all is_built_part script.parts

-- the script that no line is in
abbrev pub no_parts : Script
no_parts = record { parts = [] }

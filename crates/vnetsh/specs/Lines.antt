-- The exit status of each status, and its line.
use Rattle.std.specs.Prelude.{ℕ, List, [], ◌++◌, codes, decimal}
use Rattle.vn_cells.specs.texts.Text.{line}
use Rattle.vn_shell.specs.declared.script.Reason.{Reason}
use Rattle.vn_shell.specs.declared.script.Reason.TheVariants as reason
use Rattle.vnetsh.specs.declared.status.Status.{Status}
use Rattle.vnetsh.specs.declared.status.Status.TheVariants as status

-- the exit status
abbrev pub status_code : Status → ℕ
status_code status.Done = 0
status_code status.Usage = 1
status_code (status.Script number why) = 2
status_code status.ReadFault = 3
status_code status.WriteFault = 4
status_code status.NoMemory = 5
status_code status.TooLong = 6
status_code status.Long = 7

-- the word for a reason
abbrev pub reason_text : (why : Reason) → List ℕ
reason_text reason.Text = codes "text"
reason_text reason.Lane = codes "lane"
reason_text reason.Path = codes "path"
reason_text reason.Command = codes "command"
reason_text reason.Depth = codes "depth"

-- the line of a refused script
abbrev pub refusal_line : ℕ → Reason → List ℕ
refusal_line number why =
    line (codes "script: line " ++ decimal number ++ codes ": " ++ reason_text why)

-- the status line with its end; success has none
abbrev pub status_line : Status → List ℕ
status_line status.Done = []
status_line status.Usage = line (codes "usage: vnetsh run|threads|replay|project CELLS|gen N")
status_line (status.Script number why) = refusal_line number why
status_line status.ReadFault = line (codes "read fault")
status_line status.WriteFault = line (codes "write fault")
status_line status.NoMemory = line (codes "out of memory")
status_line status.TooLong = line (codes "input too long")
status_line status.Long = line (codes "too many events")

-- `sysctl`: the words behind it (sysctl(8)).
use Rattle.std.specs.Prelude.{ℕ, ◌+◌, ◌==◌, List, [], ◌∷◌, take, drop, Option, Some, None, position}
use Rattle.std.specs.Option.{option_map, option_or}
use Rattle.vn_types.specs.NameWords.{name_of}
use Rattle.vn_types.specs.NumberWords.{number_of}
use Rattle.vn_types.specs.Octets.{equals}
use Rattle.vn_types.specs.Steps.{◌>>=◌}
use Rattle.vn_cells.specs.declared.command.Command.{Command}
use Rattle.vn_cells.specs.declared.command.Command.TheVariants as command

-- what stands before a place, and what stands behind it
abbrev pub around : List ℕ → ℕ → List ℕ × List ℕ
around word place = (take place word, drop (place + 1) word)

-- `NAME=N`, cut at the first `=`
unfoldable pub assignment_of : List ℕ → Option (List ℕ × ℕ)
assignment_of word = do
  parts ← option_map (around word) (position (λ c. c == equals) word)
  name ← name_of parts.0
  value ← number_of parts.1
  Some (name, value)

-- the command that sets a variable
abbrev pub setting : List ℕ × ℕ → Command
setting parts = command.SysctlSet parts.0 parts.1

-- `NAME` or `NAME=N`
unfoldable pub sysctl_of : List (List ℕ) → Option Command
sysctl_of (word ∷ []) =
    option_or (option_map command.SysctlGet (name_of word)) (option_map setting (assignment_of word))
sysctl_of _ = None

-- `netstat`: the words behind it (netstat(1)).
use Rattle.std.specs.Prelude.{ℕ, List, [], ◌∷◌, codes, if◌then◌else◌, Option, Some, None}
use Rattle.std.specs.Str.{bytes_eq}
use Rattle.vn_cells.specs.declared.command.Command.{Command}
use Rattle.vn_cells.specs.declared.command.Command.TheVariants as command

-- `-s`
unfoldable pub netstat_of : List (List ℕ) → Option Command
netstat_of (option ∷ []) = if bytes_eq option (codes "-s") then Some command.Stat else None
netstat_of _ = None

-- What a lane asks for at a path: a command, or a word on its own about a table or a reader.
use Rattle.std.specs.Prelude.{ℕ, ◌&&◌, List, [], ◌∷◌, codes, if◌then◌else◌, Option, Some, None}
use Rattle.std.specs.Option.{option_map, option_or}
use Rattle.std.specs.Str.{bytes_eq}
use Rattle.vn_cells.specs.declared.listing.Table.{Table}
use Rattle.vn_cells.specs.declared.listing.Table.TheVariants.{If, Route, Arp}
use Rattle.vn_cells.specs.declared.script.Line.{Line}
use Rattle.vn_cells.specs.declared.script.Line.TheVariants as line
use Rattle.vn_shell.specs.Commands.{command_of, named_depth}

-- `if`, `route` or `arp`
unfoldable pub table_of : List ℕ → Option Table
table_of word =
    if bytes_eq word (codes "if") then Some If
    else if bytes_eq word (codes "route") then Some Route
    else if bytes_eq word (codes "arp") then Some Arp
    else None

-- `ifconfig -a`, `netstat -rn` or `arp -an`
unfoldable pub listing_of : List ℕ → List ℕ → Option Table
listing_of program option =
    if bytes_eq program (codes "ifconfig") && bytes_eq option (codes "-a") then Some If
    else if bytes_eq program (codes "netstat") && bytes_eq option (codes "-rn") then Some Route
    else if bytes_eq program (codes "arp") && bytes_eq option (codes "-an") then Some Arp
    else None

-- `next`, `close` or `watch`
unfoldable pub step_of : List ℕ → Option Line
step_of word =
    if bytes_eq word (codes "next") then Some line.Next
    else if bytes_eq word (codes "close") then Some line.Close
    else if bytes_eq word (codes "watch") then Some line.Watch
    else None

-- a listing, a reader's step, or a watch
unfoldable pub reading_of : List (List ℕ) → Option Line
reading_of (word ∷ []) = step_of word
reading_of (word ∷ other ∷ []) =
    if bytes_eq word (codes "open") then option_map line.Open (table_of other)
    else option_map line.List (listing_of word other)
reading_of _ = None

-- what the words ask for
unfoldable pub request_of : List (List ℕ) → Option Line
request_of words = option_or (reading_of words) (option_map line.Cmd (command_of words))

-- how many labels the path has that a command names
abbrev pub depth_in : Line → ℕ
depth_in (line.Cmd command) = named_depth command
depth_in _ = 0

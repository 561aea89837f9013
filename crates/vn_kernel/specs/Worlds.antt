-- The world that stacks and pairs with numbers stand for.
use Rattle.std.specs.Prelude.{ℕ, ◌==◌, List, [], ◌∷◌, ◌++◌, map, Option, Some, None, unwrap_or, if◌then◌else◌}
use Rattle.vn_types.specs.Paths.{Path, Key, path_cmp}
use Rattle.vn_types.specs.Entries.{each, find, put}
use Rattle.vn_rules.specs.Renamed.{renamed}
use Rattle.vn_epair.specs.Halves.{End as EndOfNumber, Pair as PairOfNumber}
use Rattle.vn_epair.specs.Pairs.{pair_of as pair_of_number}
use Rattle.vn_jail.specs.declared.jail.Jail.{Jail}
use Rattle.vn_jail.specs.Tree.{at, is_alive, number_of, path_at}
use Rattle.vn_vmove.specs.Parts.{parts}
use Rattle.vn_cells.specs.declared.report.SectionText.{SectionText}
use Rattle.vn_cells.specs.declared.transcript.Entry.{Entry}
use Rattle.vn_cells.specs.declared.world.Children.{Children}
use Rattle.vn_cells.specs.declared.world.End.{End}
use Rattle.vn_cells.specs.declared.world.Live.{Live}
use Rattle.vn_cells.specs.declared.world.Pair.{Pair}
use Rattle.vn_cells.specs.declared.world.Reader.{Reader}
use Rattle.vn_cells.specs.declared.world.Stack.{Stack}
use Rattle.vn_cells.specs.declared.world.World.{World}
use Rattle.vn_kernel.specs.Fields.{Fields}
use Rattle.vn_kernel.specs.Naming.{name_of}
use Rattle.vn_kernel.specs.Readers.{reader_by}

-- ---- stacks

-- the limit on a jail's living descendants, and their number; host keeps neither
abbrev pub children_at : List Jail → ℕ → Option Children
children_at jails number =
    if number == 0 then None
    else Some (record { limit = (at jails number).limit; living = (at jails number).living })

-- what the stack of a number has
abbrev pub live_of : Fields → ℕ → Live
live_of f number = record {
  children = children_at f.jails number;
  parts = renamed (name_of f) (parts f.tables number);
}

-- the same of a path, where it lives
abbrev pub live_at : Fields → Path → Option Live
live_at f p = if is_alive p f.jails then Some (live_of f (number_of p f.jails)) else None

-- the open readers of a path
abbrev pub readers_of : Fields → Path → List Reader
readers_of f p = map reader_by (unwrap_or (find path_cmp p f.readers) [])

-- the stack of a path, by its transcript
unfoldable pub stack_of : Fields → Path → List Entry → Stack
stack_of f p entries = record { entries = entries; readers = readers_of f p; live = live_at f p }

-- ---- pairs

-- an end of a pair, at the path where it stands
abbrev pub end_by : List Jail → EndOfNumber → End
end_by jails end =
    record { at = path_at jails end.at; mac = end.mac; up = end.up; sent = end.sent }

-- a pair, by both ends
abbrev pub pair_by : List Jail → PairOfNumber → Pair
pair_by jails pair = record { a = end_by jails pair.a; b = end_by jails pair.b }

-- the pair of a number
unfoldable pub pair_of : Fields → Key → ℕ → Pair
pair_of f k number = pair_by f.jails (pair_of_number f.tables.pairs number)

-- ---- the world

-- each path that has a transcript with its stack, and each pair that exists
unfoldable pub world_of : Fields → World
world_of f = record {
  clock = f.clock;
  stacks = each (stack_of f) f.logs;
  pairs = each (pair_of f) f.units;
}

-- ---- entries

-- some entries more in the transcript of a path, which is listed then
unfoldable pub logged : Path → List Entry → List (Path × List Entry) → List (Path × List Entry)
logged p entries logs = put path_cmp p (unwrap_or (find path_cmp p logs) [] ++ entries) logs

-- an entry more
abbrev pub with_entry : Path → Entry → Fields → Fields
with_entry p entry f = record f { logs = logged p (entry ∷ []) f.logs }

-- the section of a path's transcript
abbrev pub section_by : Path × List Entry → SectionText
section_by log = record { path = log.0; entries = log.1 }

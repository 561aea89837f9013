-- The readers of a path: each lane has at most one there, which gives the lines of a table as they stood.
use Rattle.std.specs.Prelude.{ℕ, Bool, true, ◌==◌, not, List, [], ◌∷◌, ◌++◌, drop, map, filter, find, codes, Option, Some, None, if◌then◌else◌}
use Rattle.std.specs.Option.{is_some, is_none}
use Rattle.vn_types.specs.declared.errno.Errno.TheVariants as errno
use Rattle.vn_rules.specs.declared.outcome.Outcome.TheVariants.{Value}
use Rattle.vn_rules.specs.Rules.{Rule, done}
use Rattle.vn_cells.specs.declared.world.Reader.{Reader}

-- whether a reader is the lane's
abbrev pub is_reader_of : ℕ → Reader → Bool
is_reader_of lane reader = reader.lane == lane

-- the reader of a lane
unfoldable pub reader_of : ℕ → List Reader → Option Reader
reader_of lane readers = find (is_reader_of lane) readers

-- the lines that are left to it
abbrev pub lines_in : Option Reader → List (List ℕ)
lines_in None = []
lines_in (Some reader) = reader.lines

-- ---- opened: the lines of the table are kept

-- one reader more
abbrev pub with_reader : ℕ → List (List ℕ) → List Reader → List Reader
with_reader lane lines readers = readers ++ record { lane = lane; lines = lines } ∷ []

-- none where the stack is not alive, and a lane has one alone
unfoldable pub open_rule : ℕ → Option (List (List ℕ)) → List Reader → Rule (List Reader)
open_rule lane None readers = record { refusals = (true, errno.NoEnt) ∷ []; otherwise = done readers }
open_rule lane (Some lines) readers = record {
  refusals = (is_some (reader_of lane readers), errno.Exist) ∷ [];
  otherwise = done (with_reader lane lines readers);
}

-- ---- the next line, which is left no more

-- without its first line, where it is the lane's
unfoldable pub read_on : ℕ → Reader → Reader
read_on lane reader =
    if is_reader_of lane reader then record reader { lines = drop 1 reader.lines } else reader

-- the first of some lines, `end` past the last
abbrev pub line_or_end : List (List ℕ) → List ℕ
line_or_end [] = codes "end"
line_or_end (line ∷ lines) = line

-- a lane without a reader has no line
unfoldable pub next_rule : ℕ → List Reader → Rule (List Reader)
next_rule lane readers = record {
  refusals = (is_none (reader_of lane readers), errno.BadF) ∷ [];
  otherwise = record {
    left = map (read_on lane) readers;
    outcome = Value (line_or_end (lines_in (reader_of lane readers)));
  };
}

-- ---- closed

-- a lane without a reader has none to close
unfoldable pub close_rule : ℕ → List Reader → Rule (List Reader)
close_rule lane readers = record {
  refusals = (is_none (reader_of lane readers), errno.BadF) ∷ [];
  otherwise = done (filter (λ reader. not (is_reader_of lane reader)) readers);
}

-- Watches as text.
use Rattle.std.specs.Prelude.{ℕ, List, [], ◌∷◌, ◌++◌, codes, decimal, Option, Some, None}
use Rattle.std.specs.List.{flat_map}
use Rattle.vn_cells.specs.declared.listing.IfRow.{IfRow}
use Rattle.vn_cells.specs.declared.report.Watch.{Watch}
use Rattle.vn_cells.specs.machine.Listings.{if_line}
use Rattle.vn_cells.specs.texts.Text.{lane_event, line, then_word}

-- a line of a listing
abbrev pub listed_line : IfRow → List ℕ
listed_line row = line (codes "| " ++ if_line row)

-- the listing, or that the path was not alive
abbrev pub listed_text : Option (List IfRow) → List ℕ
listed_text None = line (codes "| dead")
listed_text (Some rows) = flat_map listed_line rows

-- who watched which path, and after how many events
abbrev pub moment_text : Watch → List ℕ
moment_text watch = line (then_word (lane_event (codes "watch ") watch.lane watch.path) (decimal watch.at))

-- a watch
abbrev pub watch_text : Watch → List ℕ
watch_text watch = moment_text watch ++ listed_text watch.rows

-- the watches of a run, nothing where there is none
unfoldable pub watches_text : List Watch → List ℕ
watches_text [] = []
watches_text (watch ∷ watches) = line (codes "== watches") ++ flat_map watch_text (watch ∷ watches)

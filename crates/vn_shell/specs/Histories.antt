-- Histories: what each line means, and what the lines mean together.
use Rattle.std.specs.Prelude.{◌≡◌, ℕ, ◌+◌, Bool, true, false, ◌&&◌, List, [], ◌∷◌, codes, if◌then◌else◌, Option, Some, None, Result, Ok, Err}
use Rattle.std.specs.List.{list_all}
use Rattle.std.specs.Option.{option_map}
use Rattle.std.specs.Str.{bytes_eq}
use Rattle.vn_cells.specs.declared.event.Event.{Event}
use Rattle.vn_cells.specs.machine.Events.{is_valid_event}
use Rattle.vn_cells.specs.texts.Text.{history_text}
use Rattle.vn_shell.specs.declared.history.HistoryFault.{HistoryFault}
use Rattle.vn_shell.specs.declared.history.HistoryFault.TheVariants as fault
use Rattle.vn_shell.specs.declared.history.HistoryLine.{HistoryLine}
use Rattle.vn_shell.specs.declared.history.HistoryLine.TheVariants.{Happened, Last}
use Rattle.vn_shell.specs.declared.history.TheConstants.{MOST_OCTETS}
use Rattle.vn_shell.specs.Events.{event_of}
use Rattle.vn_shell.specs.Grammar.{is_text}
use Rattle.vn_shell.specs.Words.{lines_of, words_of}

-- ---- lines

-- `history 1`
abbrev pub is_version : List ℕ → List ℕ → Bool
is_version word version = bytes_eq word (codes "history") && bytes_eq version (codes "1")

-- `== history 1`
abbrev pub is_first : List (List ℕ) → Bool
is_first (mark ∷ word ∷ version ∷ []) = bytes_eq mark (codes "==") && is_version word version
is_first _ = false

-- `== end`
abbrev pub is_last : List (List ℕ) → Bool
is_last (mark ∷ word ∷ []) = bytes_eq mark (codes "==") && bytes_eq word (codes "end")
is_last _ = false

-- the first line: at most 4,352 octets, and its words
unfoldable pub is_first_line : List ℕ → Bool
is_first_line line = is_text MOST_OCTETS line && is_first (words_of line)

-- what the words of a further line mean
unfoldable pub told_by : List (List ℕ) → Option HistoryLine
told_by words = if is_last words then Some Last else option_map Happened (event_of words)

-- what a further line means: at most 4,352 octets, and words
unfoldable pub history_line_of : List ℕ → Option HistoryLine
history_line_of line = if is_text MOST_OCTETS line then told_by (words_of line) else None

-- ---- histories: all events in their order, or the number of the first line that is refused

-- no line stands behind the last
abbrev pub nothing_behind : ℕ → List (List ℕ) → Result (List Event) ℕ
nothing_behind number [] = Ok []
nothing_behind number (line ∷ lines) = Err number

-- an event before others
abbrev pub with_event : Event → Result (List Event) ℕ → Result (List Event) ℕ
with_event event (Ok more) = Ok (event ∷ more)
with_event event (Err number) = Err number

-- a line with this number, the lines behind it, and what they mean if it is an event
abbrev pub with_line : ℕ → Option HistoryLine → List (List ℕ) → Result (List Event) ℕ → Result (List Event) ℕ
with_line number (Some (Happened event)) lines after = with_event event after
with_line number (Some Last) lines after = nothing_behind (number + 1) lines
with_line number None lines after = Err number

-- the lines behind the first line, where the next of them has this number: events, and a last line
unfoldable pub events_from : ℕ → List (List ℕ) → Result (List Event) ℕ
events_from number [] = Err number
events_from number (line ∷ lines) =
    with_line number (history_line_of line) lines (events_from (number + 1) lines)

-- a first line, and what stands behind it
unfoldable pub history_in : List (List ℕ) → Result (List Event) ℕ
history_in [] = Err 1
history_in (line ∷ lines) = if is_first_line line then events_from 2 lines else Err 1

-- what a text means
unfoldable pub history_of : List ℕ → Result (List Event) ℕ
history_of text = history_in (lines_of text)

-- ---- answers

-- a history is refused for what it means, and want of memory says nothing of it
abbrev pub RefusesHistory : Result (List Event) ℕ → HistoryFault → Type 0
RefusesHistory meaning (fault.BadHistory number) = meaning ≡ Err number
RefusesHistory meaning fault.NoMemory = Unit {0}

-- the text of each history whose events can happen reads as that history
abbrev pub IsHistoryReadBack : Type 0
IsHistoryReadBack = (events : List Event) → list_all is_valid_event events ≡ true → history_of (history_text events) ≡ Ok events

-- Events that were read can happen.
use Rattle.std.proofs.Common.{◌≡◌, ℕ, ◌+◌, ◌==◌, Bool, true, List, [], ◌∷◌, Option, Some, None, Result, Ok, Err, refl, sym, subst}
use Rattle.std.specs.Prelude.{codes, IfOk, IfSome}
use Rattle.std.specs.List.{list_all, slice_split}
use Rattle.std.specs.Str.{bytes_eq}
use Rattle.std.proofs.lemmas.Bool.{and_from}
use Rattle.vn_types.specs.declared.half.Half.{Half}
use Rattle.vn_types.specs.declared.interface.Side.{Side}
use Rattle.vn_types.specs.HalfWords.{half_of, half_parts, half_pieces}
use Rattle.vn_types.specs.InterfaceWords.{unit_side_of}
use Rattle.vn_types.specs.Octets.{slash}
use Rattle.vn_types.specs.Paths.{Path, is_path}
use Rattle.vn_types.specs.PathWords.{path_of}
use Rattle.vn_types.specs.Steps.{◌>>=◌}
use Rattle.vn_cells.specs.declared.command.Command.{Command}
use Rattle.vn_cells.specs.declared.event.Event.{Event}
use Rattle.vn_cells.specs.declared.event.Event.TheVariants as event
use Rattle.vn_cells.specs.machine.Bounds.{is_half, is_unit, is_wait}
use Rattle.vn_cells.specs.machine.Events.{is_at_path, is_lane, is_valid_command, is_valid_event}
use Rattle.vn_shell.specs.declared.history.HistoryLine.{HistoryLine}
use Rattle.vn_shell.specs.declared.history.HistoryLine.TheVariants.{Happened, Last}
use Rattle.vn_shell.specs.declared.history.TheConstants.{MOST_OCTETS}
use Rattle.vn_shell.specs.Commands.{command_of}
use Rattle.vn_shell.specs.Events.{done_of, event_of, happening_of, has_room, lane_event_of, run_of}
use Rattle.vn_shell.specs.Grammar.{is_text}
use Rattle.vn_shell.specs.Histories.{events_from, history_line_of, is_last, nothing_behind, told_by, with_event, with_line}
use Rattle.vn_shell.specs.Requests.{table_of}
use Rattle.vn_shell.specs.Words.{lane_of, such_that, wait_of, words_of}
use Rattle.vn_shell.proofs.Bounds.{path_in, such_number, unit_parts_in}
use Rattle.vn_shell.proofs.Commands.{Bounded, valid_below}
use Rattle.vn_shell.proofs.Found.{some_at, some_end, some_if, some_map, some_one, some_then, some_where}
use Rattle.vn_shell.proofs.Requests.{command_in}

abbrev CanHappen : Event → Type 0
CanHappen e = is_valid_event e ≡ true

-- ---- halves

abbrev IsUnit : ℕ × Side → Type 0
IsUnit u = is_unit u.0 ≡ true

abbrev IsHalf : Half → Type 0
IsHalf h = is_half h ≡ true

abbrev IsPath : Path → Type 0
IsPath p = is_path p ≡ true

unit_side_in : (word : List ℕ) → IfSome (unit_side_of word) IsUnit
unfolding unit_side_of
unit_side_in word = unit_parts_in _ _

half_parts_in : (home unit : List ℕ) → IfSome (half_parts home unit) IsHalf
unfolding half_parts
half_parts_in home unit =
    some_then IsUnit IsHalf (unit_side_of unit) _ (unit_side_in unit)
    (λ u h. some_then IsPath IsHalf (path_of home) _ (path_in home) (λ p i. and_from _ _ i h))

half_pieces_in : (pieces : List (List ℕ)) → IfSome (half_pieces pieces) IsHalf
unfolding half_pieces
half_pieces_in (home ∷ unit ∷ []) = half_parts_in home unit
half_pieces_in _ = tt

half_in : (word : List ℕ) → IfSome (half_of word) IsHalf
unfolding half_of
half_in word = half_pieces_in (slice_split (λ c. c == slash) word)

-- ---- events

run_in : (lane : ℕ) (path : Path) → is_at_path lane path ≡ true → (words : List (List ℕ)) → IfSome (run_of lane path words) CanHappen
unfolding is_valid_event
run_in lane path at words =
    some_map (λ (c : Command). is_valid_command path c ≡ true) CanHappen (command_of words >>= such_that (has_room path)) (event.Cmd lane path)
    (some_then Bounded (λ (c : Command). is_valid_command path c ≡ true) (command_of words) (such_that (has_room path)) (command_in words)
    (λ c h. some_where (λ (c : Command). is_valid_command path c ≡ true) (has_room path c) c (λ few. valid_below path c h few)))
    (λ c h. and_from _ _ at h)

done_in : (verb : List ℕ) (lane : ℕ) (path : Path) → is_at_path lane path ≡ true → (words : List (List ℕ)) → IfSome (done_of verb lane path words) CanHappen
unfolding done_of is_valid_event
done_in verb lane path at words =
    some_if CanHappen (bytes_eq verb (codes "cmd")) _ _ (run_in lane path at words)
    (some_if CanHappen (bytes_eq verb (codes "open")) _ _
    (some_one (λ table. Unit {0}) CanHappen table_of (event.Open lane path) (λ word. some_at (λ table. Unit {0}) (table_of word) (λ table e. tt)) (λ table h. at) words)
    (some_if CanHappen (bytes_eq verb (codes "next")) _ _ (some_end CanHappen words (Some (event.Next lane path)) at)
    (some_if CanHappen (bytes_eq verb (codes "close")) _ None (some_end CanHappen words (Some (event.Close lane path)) at) tt)))

lane_event_in : (verb : List ℕ) (words : List (List ℕ)) → IfSome (lane_event_of verb words) CanHappen
unfolding lane_event_of lane_of
lane_event_in verb [] = tt
lane_event_in verb (lane ∷ []) = tt
lane_event_in verb (lane ∷ path ∷ words) =
    some_then (λ n. is_lane n ≡ true) CanHappen (lane_of lane) _ (such_number is_lane lane)
    (λ n h. some_then IsPath CanHappen (path_of path) _ (path_in path) (λ p i. done_in verb n p (and_from _ _ h i) words))

event_in : (words : List (List ℕ)) → IfSome (event_of words) CanHappen
unfolding event_of happening_of is_valid_event wait_of
event_in [] = tt
event_in (verb ∷ words) =
    some_if CanHappen (bytes_eq verb (codes "tick")) _ _ (some_one (λ n. is_wait n ≡ true) CanHappen wait_of event.Tick (such_number is_wait) (λ n h. h) words)
    (some_if CanHappen (bytes_eq verb (codes "deliver")) _ _ (some_one IsHalf CanHappen half_of event.Deliver half_in (λ half h. h) words)
    (some_if CanHappen (bytes_eq verb (codes "loop")) _ _ (some_one IsPath CanHappen path_of event.LoopDeliver path_in (λ path h. h) words)
    (some_if CanHappen (bytes_eq verb (codes "fire")) _ _ (some_one IsPath CanHappen path_of event.Fire path_in (λ path h. h) words)
    (lane_event_in verb words))))

-- ---- lines

abbrev IsLine : HistoryLine → Type 0
IsLine (Happened e) = CanHappen e
IsLine Last = Unit {0}

told_in : (words : List (List ℕ)) → IfSome (told_by words) IsLine
unfolding told_by
told_in words =
    some_if IsLine (is_last words) (Some Last) _ tt (some_map CanHappen IsLine (event_of words) Happened (event_in words) (λ e h. h))

line_in : (line : List ℕ) → IfSome (history_line_of line) IsLine
unfolding history_line_of
line_in line = some_if IsLine (is_text MOST_OCTETS line) (told_by (words_of line)) None (told_in (words_of line)) tt

abbrev AllHappen : List Event → Type 0
AllHappen events = list_all is_valid_event events ≡ true

last_in : (n : ℕ) (lines : List (List ℕ)) → IfOk (nothing_behind n lines) AllHappen
last_in n [] = refl
last_in n (line ∷ lines) = tt

more_in : (e : Event) (r : Result (List Event) ℕ) → CanHappen e → IfOk r AllHappen → IfOk (with_event e r) AllHappen
more_in e (Ok more) h g = and_from _ _ h g
more_in e (Err n) h g = tt

with_in : (n : ℕ) (what : Option HistoryLine) (lines : List (List ℕ)) (after : Result (List Event) ℕ) → IfSome what IsLine → IfOk after AllHappen → IfOk (with_line n what lines after) AllHappen
with_in n (Some (Happened e)) lines after h g = more_in e after h g
with_in n (Some Last) lines after h g = last_in (n + 1) lines
with_in n None lines after h g = tt

events_in : (n : ℕ) (lines : List (List ℕ)) → IfOk (events_from n lines) AllHappen
unfolding events_from
events_in n [] = tt
events_in n (line ∷ lines) = with_in n (history_line_of line) lines (events_from (n + 1) lines) (line_in line) (events_in (n + 1) lines)

pub events_valid : (n : ℕ) (lines : List (List ℕ)) (events : List Event) → events_from n lines ≡ Ok events → AllHappen events
events_valid n lines events e = subst (λ r. IfOk r AllHappen) e (events_in n lines)

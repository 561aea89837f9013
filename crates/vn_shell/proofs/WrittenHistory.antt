-- A history reads as it is written.
use Rattle.std.proofs.Common.{◌≡◌, ℕ, ◌+◌, ◌^◌, ◌<◌, ◌≤◌, ◌==◌, Bool, true, false, cond, ◌&&◌, not, List, [], ◌∷◌, ◌++◌, length, Option, Some, None, Result, Ok, Err, refl, sym, ap, ap₂, append_assoc, length-append, ◌∙◌, arith}
use Rattle.std.specs.Prelude.{codes, decimal, nat_le}
use Rattle.std.specs.Char.{is_ascii_graphic}
use Rattle.std.specs.List.{list_all, flat_map}
use Rattle.std.specs.Option.{option_map}
use Rattle.std.proofs.lemmas.Bool.{and_parts, and_from, not-true, leb-true, le-leb, ltb-true}
use Rattle.std.proofs.lemmas.Bool.Decides.{nat_tests}
use Rattle.vn_types.specs.declared.half.Half.{Half}
use Rattle.vn_types.specs.HalfWords.{half_of, half_text}
use Rattle.vn_types.specs.InterfaceWords.{unit_side_text}
use Rattle.vn_types.specs.Octets.{newline, space, slash}
use Rattle.vn_types.specs.Paths.{Path, is_path, path_text}
use Rattle.vn_types.specs.PathWords.{path_of}
use Rattle.vn_types.specs.Steps.{◌>>=◌}
use Rattle.vn_types.proofs.Cuts.{lacks}
use Rattle.vn_types.proofs.HalfReading.{half_read_back}
use Rattle.vn_types.proofs.PathReading.{path_of-path_text}
use Rattle.vn_cells.specs.declared.command.Command.{Command}
use Rattle.vn_cells.specs.declared.command.Command.TheVariants as command
use Rattle.vn_cells.specs.declared.event.Event.{Event}
use Rattle.vn_cells.specs.declared.event.Event.TheVariants as event
use Rattle.vn_cells.specs.declared.listing.Table.{Table}
use Rattle.vn_cells.specs.declared.listing.Table.TheVariants.{If, Route, Arp}
use Rattle.vn_cells.specs.machine.Bounds.{is_half, is_ifname, is_unit, is_wait}
use Rattle.vn_cells.specs.machine.Events.{is_lane, is_named_path, is_valid_command, is_valid_event}
use Rattle.vn_cells.specs.texts.Text.{command_text, event_text, history_text, line, table_text}
use Rattle.vn_shell.specs.declared.history.HistoryLine.{HistoryLine}
use Rattle.vn_shell.specs.declared.history.HistoryLine.TheVariants.{Happened, Last}
use Rattle.vn_shell.specs.declared.history.TheConstants.{MOST_OCTETS}
use Rattle.vn_shell.specs.declared.lines.TheConstants.{MOST_LABELS}
use Rattle.vn_shell.specs.Commands.{command_of}
use Rattle.vn_shell.specs.Commands.Jail.{is_limit}
use Rattle.vn_shell.specs.Events.{done_of, event_of, happening_of, has_room, lane_event_of}
use Rattle.vn_shell.specs.Grammar.{is_printable, is_text}
use Rattle.vn_shell.specs.Histories.{events_from, history_in, history_line_of, history_of, is_first_line, told_by, with_event, with_line}
use Rattle.vn_shell.specs.Requests.{table_of}
use Rattle.vn_shell.specs.Words.{lane_of, lines_of, such_that, wait_of, words_of}
use Rattle.vn_shell.proofs.ByWords.{ReadsBack}
use Rattle.vn_shell.proofs.Histories.{events-cons}
use Rattle.vn_shell.proofs.Lengths.{command_at, end_at, labels_few, len4, len5, number_at, path_at}
use Rattle.vn_shell.proofs.Lists.{all_both, all_joined, all_weaker}
use Rattle.vn_shell.proofs.ReadBack.{number_back, number_word, path_word, such_back}
use Rattle.vn_shell.proofs.SpacedWords.{IsSpaced, is_between, is_graphic, spaced, words_spaced, lacks_all, path_graphic, end_graphic, filled_front}
use Rattle.vn_shell.proofs.Written.{command_back}

-- ---- lines

lines_line : (text rest : List ℕ) → lacks newline text ≡ true → lines_of (line text ++ rest) ≡ text ∷ lines_of rest
unfolding lines_of
lines_line [] rest h = refl
lines_line (c ∷ text) rest h =
    let at = and_parts (not (c == newline)) (lacks newline text) h in
    let other : (c == newline) ≡ false = not-true (c == newline) at.0 in
    rw (other, lines_line text rest at.1) refl

graphic_printable : (c : ℕ) → is_ascii_graphic c ≡ true → is_printable c ≡ true
graphic_printable c h = grind (arith, nat_tests)

word_printable : (word : List ℕ) → is_between word ≡ true → list_all is_printable word ≡ true
word_printable word h = all_weaker is_ascii_graphic is_printable graphic_printable word (and_parts _ _ h).0

spaced_printable : (words : List (List ℕ)) → list_all is_between words ≡ true → list_all is_printable (spaced words) ≡ true
spaced_printable words h = all_joined is_printable space refl words (all_weaker is_between (list_all is_printable) word_printable words h)

-- ---- events

-- what is written reads as the event, by its words
record IsTold (e : Event) : Type 0 where
  text : IsSpaced (event_text e)
  meant : told_by (text.word ∷ text.words) ≡ Some (Happened e)
  short : length (event_text e) ≤ 4352

wait_back : (n : ℕ) → is_wait n ≡ true → wait_of (decimal n) ≡ Some n
unfolding wait_of
wait_back n h = number_back is_wait n (omega (arith, leb-true n 86400000 (and_parts (nat_le 1 n) (nat_le n 86400000) h).1)) h

lane_small : (n : ℕ) → is_lane n ≡ true → n ≤ 8
lane_small n h = leb-true n 8 (and_parts (nat_le 1 n) (nat_le n 8) h).1

lane_back : (n : ℕ) → is_lane n ≡ true → lane_of (decimal n) ≡ Some n
unfolding lane_of
lane_back n h = number_back is_lane n (omega (arith, lane_small n h)) h

lane_word : (n : ℕ) → is_lane n ≡ true → is_between (decimal n) ≡ true
lane_word n h = number_word n (omega (arith, lane_small n h))

table_back : (table : Table) → table_of (table_text table) ≡ Some table
unfolding table_of
table_back If = refl
table_back Route = refl
table_back Arp = refl

table_word : (table : Table) → (is_between (table_text table) ≡ true) × (length (table_text table) ≤ 5)
table_word If = (refl, omega arith)
table_word Route = (refl, omega arith)
table_word Arp = (refl, omega arith)

unit_below : (half : Half) → is_half half ≡ true → half.unit < 2 ^ 32
unit_below half h = ltb-true half.unit (2 ^ 32) (and_parts (is_path half.home) (is_unit half.unit) h).1

half_word : (half : Half) → is_half half ≡ true → is_between (half_text half) ≡ true
unfolding half_text
half_word half h =
    and_from _ _
    (all_both is_ascii_graphic (path_text half.home) (slash ∷ unit_side_text half.unit half.side) (path_graphic half.home (and_parts (is_path half.home) (is_unit half.unit) h).0) (end_graphic half.unit half.side (unit_below half h)))
    (filled_front (path_text half.home) slash (unit_side_text half.unit half.side))

half_at : (half : Half) → is_half half ≡ true → length (half_text half) ≤ 158
unfolding half_text
half_at half h =
    omega (arith, length-append (path_text half.home) (slash ∷ unit_side_text half.unit half.side), path_at half.home (and_parts (is_path half.home) (is_unit half.unit) h).0, end_at half.unit half.side (unit_below half h))

half_back : (half : Half) → is_half half ≡ true → half_of (half_text half) ≡ Some half
half_back half h = half_read_back half (path_of-path_text half.home (and_parts (is_path half.home) (is_unit half.unit) h).0) (unit_below half h)

-- a command at a path where it can be given
named_room : (issuer path : Path) → is_named_path issuer path ≡ true → nat_le (length issuer + length path) 8 ≡ true
unfolding is_named_path
named_room issuer path h = (and_parts _ (nat_le (length issuer + length path) 8) h).1

room_for : (issuer : Path) (c : Command) → is_path issuer ≡ true → is_valid_command issuer c ≡ true → has_room issuer c ≡ true
unfolding is_valid_command
room_for issuer (command.JailCreate path limit) few h = named_room issuer path (and_parts (is_named_path issuer path) (is_limit limit) h).0
room_for issuer (command.JailRemove path) few h = named_room issuer path h
room_for issuer (command.Vnet name path) few h = named_room issuer path (and_parts (is_ifname name) (is_named_path issuer path) h).1
room_for issuer (command.VnetBack name path) few h = named_room issuer path (and_parts (is_ifname name) (is_named_path issuer path) h).1
room_for issuer _ few h = le-leb (length issuer + 0) 8 (omega (arith, labels_few issuer few))

-- a lane at a path
lane_at : (verb : List ℕ) (lane : ℕ) (path : Path) (rest : List ℕ) (n : ℕ) → is_lane lane ≡ true → is_path path ≡ true → length rest ≤ n → length ((verb ++ decimal lane ++ codes " " ++ path_text path) ++ rest) ≤ length verb + 157 + n
lane_at verb lane path rest n h g few =
    omega (arith, len5 verb (decimal lane) (codes " ") (path_text path) rest, number_at lane (omega (arith, lane_small lane h)), path_at path g, few)

-- and nothing behind it
step_at : (verb : List ℕ) (lane : ℕ) (path : Path) → is_lane lane ≡ true → is_path path ≡ true → length (verb ++ decimal lane ++ codes " " ++ path_text path) ≤ length verb + 157
step_at verb lane path h g =
    omega (arith, len4 verb (decimal lane) (codes " ") (path_text path), number_at lane (omega (arith, lane_small lane h)), path_at path g)

-- an event of one word
word_told : (e : Event) (verb word : List ℕ) → event_text e ≡ spaced (verb ∷ word ∷ []) → is_between verb ≡ true → is_between word ≡ true → told_by (verb ∷ word ∷ []) ≡ Some (Happened e)
    → length (event_text e) ≤ 4352 → IsTold e
word_told e verb word spelt shown filled meant short = record {
  text = record { word = verb; words = word ∷ []; spelt = spelt; between = and_from _ _ shown (and_from _ _ filled refl) };
  meant = meant;
  short = short;
}

-- an event of a lane at a path, and the words behind it
lane_told : (e : Event) (verb : List ℕ) (lane : ℕ) (path : Path) (words : List (List ℕ)) → is_lane lane ≡ true → is_path path ≡ true
    → event_text e ≡ spaced (verb ∷ decimal lane ∷ path_text path ∷ words) → is_between verb ≡ true → list_all is_between words ≡ true
    → told_by (verb ∷ decimal lane ∷ path_text path ∷ words) ≡ option_map Happened (lane_of (decimal lane) >>= λ n. path_of (path_text path) >>= λ q. done_of verb n q words)
    → done_of verb lane path words ≡ Some e → length (event_text e) ≤ 4352 → IsTold e
lane_told e verb lane path words h g spelt shown filled told done short = record {
  text = record { word = verb; words = decimal lane ∷ path_text path ∷ words; spelt = spelt; between = and_from _ _ shown (and_from _ _ (lane_word lane h) (and_from _ _ (path_word path g) filled)) };
  meant =
      told ∙ ap₂ (λ o p. option_map Happened (o >>= λ n. p >>= λ q. done_of verb n q words)) (lane_back lane h) (path_of-path_text path g) ∙ ap (option_map Happened) done;
  short = short;
}

cmd_told : (lane : ℕ) (path : Path) (c : Command) → is_lane lane ≡ true → is_path path ≡ true → is_valid_command path c ≡ true → IsTold (event.Cmd lane path c)
unfolding event_text told_by event_of happening_of lane_event_of done_of
cmd_told lane path c h g v =
    let b = command_back path c v in
    lane_told (event.Cmd lane path c) (codes "cmd") lane path (b.text.word ∷ b.text.words) h g
    (ap (λ t. (codes "cmd " ++ decimal lane ++ codes " " ++ path_text path) ++ space ∷ t) b.text.spelt ∙ simp append_assoc)
    refl b.text.between refl
    (ap (λ o. option_map (event.Cmd lane path) (o >>= such_that (has_room path))) b.meant ∙ ap (option_map (event.Cmd lane path)) (such_back (has_room path) c (room_for path c g v)))
    (omega (arith, lane_at (codes "cmd ") lane path (space ∷ command_text c) 4191 h g (omega (arith, command_at path c v))))

told : (e : Event) → is_valid_event e ≡ true → IsTold e
unfolding is_valid_event event_text told_by event_of happening_of lane_event_of done_of
told (event.Tick n) h =
    let few : n ≤ 86400000 = leb-true n 86400000 (and_parts (nat_le 1 n) (nat_le n 86400000) h).1 in
    word_told (event.Tick n) (codes "tick") (decimal n) refl refl (number_word n (omega (arith, few)))
    (ap (λ o. option_map Happened (option_map event.Tick o)) (wait_back n h)) (omega (arith, number_at n (omega (arith, few))))
told (event.Cmd lane path c) h =
    let at = and_parts (is_lane lane && is_path path) (is_valid_command path c) h in
    let one = and_parts (is_lane lane) (is_path path) at.0 in
    cmd_told lane path c one.0 one.1 at.1
told (event.Deliver half) h =
    word_told (event.Deliver half) (codes "deliver") (half_text half) refl refl (half_word half h)
    (ap (λ o. option_map Happened (option_map event.Deliver o)) (half_back half h)) (omega (arith, half_at half h))
told (event.LoopDeliver path) h =
    word_told (event.LoopDeliver path) (codes "loop") (path_text path) refl refl (path_word path h)
    (ap (λ o. option_map Happened (option_map event.LoopDeliver o)) (path_of-path_text path h)) (omega (arith, path_at path h))
told (event.Fire path) h =
    word_told (event.Fire path) (codes "fire") (path_text path) refl refl (path_word path h)
    (ap (λ o. option_map Happened (option_map event.Fire o)) (path_of-path_text path h)) (omega (arith, path_at path h))
told (event.Open lane path table) h =
    let at = and_parts (is_lane lane) (is_path path) h in
    lane_told (event.Open lane path table) (codes "open") lane path (table_text table ∷ []) at.0 at.1 (simp append_assoc) refl (and_from _ _ (table_word table).0 refl) refl
    (ap (option_map (event.Open lane path)) (table_back table))
    (omega (arith, lane_at (codes "open ") lane path (space ∷ table_text table) 6 at.0 at.1 (omega (arith, (table_word table).1))))
told (event.Next lane path) h =
    let at = and_parts (is_lane lane) (is_path path) h in
    lane_told (event.Next lane path) (codes "next") lane path [] at.0 at.1 (simp append_assoc) refl refl refl refl
    (omega (arith, step_at (codes "next ") lane path at.0 at.1))
told (event.Close lane path) h =
    let at = and_parts (is_lane lane) (is_path path) h in
    lane_told (event.Close lane path) (codes "close") lane path [] at.0 at.1 (simp append_assoc) refl refl refl refl
    (omega (arith, step_at (codes "close ") lane path at.0 at.1))

printable : (e : Event) → IsTold e → list_all is_printable (event_text e) ≡ true
printable e t = ap (list_all is_printable) t.text.spelt ∙ spaced_printable (t.text.word ∷ t.text.words) t.text.between

told_line : (e : Event) → IsTold e → history_line_of (event_text e) ≡ Some (Happened e)
unfolding history_line_of is_text
told_line e t =
    ap₂ (λ a b. cond (a && b) (told_by (words_of (event_text e))) None) (printable e t) (le-leb (length (event_text e)) 4352 t.short)
    ∙ ap told_by (words_spaced (event_text e) t.text) ∙ t.meant

event_lines : (e : Event) (rest : List ℕ) → IsTold e → lines_of (line (event_text e) ++ rest) ≡ event_text e ∷ lines_of rest
event_lines e rest t = lines_line (event_text e) rest (lacks_all is_printable newline refl (event_text e) (printable e t))

-- ---- histories

-- the lines behind the first
abbrev behind : List Event → List ℕ
behind events = flat_map (λ e. line (event_text e)) events ++ line (codes "== end")

last_line : history_line_of (codes "== end") ≡ Some Last
unfolding history_line_of is_text words_of told_by
last_line = refl

first_line : is_first_line (codes "== history 1") ≡ true
unfolding is_first_line is_text words_of
first_line = refl

end_lines : lines_of (line (codes "== end")) ≡ codes "== end" ∷ []
unfolding lines_of
end_lines = refl

events_back : (n : ℕ) (events : List Event) → list_all is_valid_event events ≡ true → events_from n (lines_of (behind events)) ≡ Ok events
events_back n [] h =
    ap (events_from n) end_lines ∙ events-cons n (codes "== end") [] ∙ ap (λ w. with_line n w [] (events_from (n + 1) [])) last_line
events_back n (e ∷ events) h =
    let at = and_parts (is_valid_event e) (list_all is_valid_event events) h in
    let t = told e at.0 in
    ap (λ text. events_from n (lines_of text)) (append_assoc (line (event_text e)) (flat_map (λ e. line (event_text e)) events) (line (codes "== end")))
    ∙ ap (events_from n) (event_lines e (behind events) t) ∙ events-cons n (event_text e) (lines_of (behind events))
    ∙ ap₂ (λ w r. with_line n w (lines_of (behind events)) r) (told_line e t) (events_back (n + 1) events at.1)

pub history_back : (events : List Event) → list_all is_valid_event events ≡ true → history_of (history_text events) ≡ Ok events
unfolding history_of history_in history_text
history_back events h =
    ap history_in (ap lines_of (append_assoc (line (codes "== history 1")) (flat_map (λ e. line (event_text e)) events) (line (codes "== end"))) ∙ lines_line (codes "== history 1") (behind events) refl)
    ∙ ap (λ b. cond b (events_from 2 (lines_of (behind events))) (Err 1)) first_line ∙ events_back 2 events h

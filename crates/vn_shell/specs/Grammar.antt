-- Scripts: what each line means, and what the lines mean together.
use Rattle.std.specs.Prelude.{ℕ, ◌+◌, Bool, true, false, ◌&&◌, ◌==◌, not, nat_le, List, [], ◌∷◌, ◌++◌, length, codes, if◌then◌else◌, Option, Some, None, Result, Ok, Err}
use Rattle.std.specs.List.{list_all}
use Rattle.std.specs.Option.{option_map, ok_or}
use Rattle.std.specs.Str.{bytes_eq}
use Rattle.vn_types.specs.Octets.{space, hash}
use Rattle.vn_types.specs.Paths.{Path}
use Rattle.vn_types.specs.PathWords.{path_of}
use Rattle.vn_cells.specs.declared.script.Line.{Line}
use Rattle.vn_cells.specs.declared.script.LaneLine.{LaneLine}
use Rattle.vn_cells.specs.declared.script.Part.{Part}
use Rattle.vn_cells.specs.declared.script.Part.TheVariants as part
use Rattle.vn_cells.specs.declared.script.Script.{Script}
use Rattle.vn_cells.specs.machine.Events.{is_built_line}
use Rattle.vn_shell.specs.declared.forms.Forms.{Forms}
use Rattle.vn_shell.specs.declared.forms.Forms.TheVariants.{All, Built}
use Rattle.vn_shell.specs.declared.item.Item.{Item}
use Rattle.vn_shell.specs.declared.item.Item.TheVariants as item
use Rattle.vn_shell.specs.declared.lines.TheConstants.{MOST_OCTETS, MOST_LABELS}
use Rattle.vn_shell.specs.declared.script.Reason.{Reason}
use Rattle.vn_shell.specs.declared.script.Reason.TheVariants as reason
use Rattle.vn_shell.specs.Requests.{request_of, depth_in}
use Rattle.vn_shell.specs.Words.{lane_of, wait_of, is_form}
unfoldable pub use Rattle.vn_shell.specs.Words.{lines_of, words_of}

infixl 10 ◌>>=◌
-- a step after one that was not refused
abbrev pub ◌>>=◌ : {A B : Type 0} → Result A Reason → (A → Result B Reason) → Result B Reason
(Ok x) >>= f = f x
(Err e) >>= f = Err e

-- ---- forms

-- whether a reader takes what a lane asks for
abbrev pub takes_line : Forms → Line → Bool
takes_line All line = true
takes_line Built line = is_built_line line

-- whether a reader takes lines between phases; the program runs none
abbrev pub takes_breaks : Forms → Bool
takes_breaks All = true
takes_breaks Built = false

-- ---- lines, each with the first reason to refuse it

-- `phase` or `settle`
abbrev pub end_of : List ℕ → Option Item
end_of word =
    if bytes_eq word (codes "phase") then Some item.Phase
    else if bytes_eq word (codes "settle") then Some item.Settle
    else None

-- `phase`, `settle`, or `sleep N` with N from 1 to 86,400,000
unfoldable pub break_of : List (List ℕ) → Option Item
break_of (word ∷ []) = end_of word
break_of (word ∷ wait ∷ []) =
    if bytes_eq word (codes "sleep") then option_map item.Sleep (wait_of wait) else None
break_of _ = None

-- a line between phases
unfoldable pub between : Forms → List (List ℕ) → Result (Option Item) Reason
between forms words = if takes_breaks forms then ok_or (option_map Some (break_of words)) reason.Command else Err reason.Command

-- the path of a lane's line, and the words behind it
unfoldable pub issuer_of : List (List ℕ) → Result (Path × List (List ℕ)) Reason
issuer_of [] = Err reason.Path
issuer_of (word ∷ words) = do
  path ← ok_or (path_of word) reason.Path
  Ok (path, words)

-- what is asked for, where the form is taken
unfoldable pub taken : Forms → List (List ℕ) → Result Line Reason
taken forms words = do
  line ← ok_or (request_of words) reason.Command
  if takes_line forms line then Ok line else Err reason.Command

-- what is asked for at a path: no path has more than 8 labels, seen from host
unfoldable pub asked_at : Forms → Path → List (List ℕ) → Result Line Reason
asked_at forms path words = do
  line ← taken forms words
  if nat_le (length path + depth_in line) MOST_LABELS then Ok line else Err reason.Depth

-- `LANE PATH REQUEST`
abbrev pub lane_line_of : Forms → List ℕ → List (List ℕ) → Result (Option Item) Reason
lane_line_of forms word words = do
  lane ← ok_or (lane_of word) reason.Lane
  issuer ← issuer_of words
  line ← asked_at forms issuer.0 issuer.1
  Ok (Some (item.Lane (record { lane = lane; path = issuer.0; line = line })))

-- a line between phases or one of a lane, and nothing where there is no word
unfoldable pub line_of_words : Forms → List (List ℕ) → Result (Option Item) Reason
line_of_words forms [] = Ok None
line_of_words forms (word ∷ words) =
    if is_form word then between forms (word ∷ words) else lane_line_of forms word words

-- from ` ` to `~`
abbrev pub is_printable : ℕ → Bool
is_printable c = nat_le space c && nat_le c 0x7e

-- such octets, and at most so many of them
unfoldable pub is_text : ℕ → List ℕ → Bool
is_text most line = list_all is_printable line && nat_le (length line) most

-- the first octet is `#`
unfoldable pub is_comment : List ℕ → Bool
is_comment [] = false
is_comment (c ∷ cs) = c == hash

-- what a line of at most 4,096 octets means, and nothing where it is skipped
unfoldable pub line_of : Forms → List ℕ → Result (Option Item) Reason
line_of forms line =
    if not (is_text MOST_OCTETS line) then Err reason.Text
    else if is_comment line then Ok None
    else line_of_words forms (words_of line)

-- ---- scripts: all lines in their order, or the first that is refused, with its number

-- an item before others
abbrev pub put_before : {E : Type 0} → Item → Result (List Item) E → Result (List Item) E
put_before item (Ok more) = Ok (item ∷ more)
put_before item (Err e) = Err e

-- a line before those after it
unfoldable pub with_line : ℕ → Result (Option Item) Reason
    → Result (List Item) (ℕ × Reason) → Result (List Item) (ℕ × Reason)
with_line number (Err reason) after = Err (number, reason)
with_line number (Ok None) after = after
with_line number (Ok (Some item)) after = put_before item after

-- what the lines mean, where the first of them has this number
unfoldable pub items_from : Forms → ℕ → List (List ℕ) → Result (List Item) (ℕ × Reason)
items_from forms number [] = Ok []
items_from forms number (line ∷ lines) = with_line number (line_of forms line) (items_from forms (number + 1) lines)

-- one phase, unless there is no lane line
unfoldable pub phases : List LaneLine → List Part
phases [] = []
phases (line ∷ lines) = part.Phase (line ∷ lines) ∷ []

-- the parts that items make, where a phase has these lines so far
unfoldable pub parts_after : List LaneLine → List Item → List Part
parts_after lines [] = phases lines
parts_after lines (item.Lane line ∷ items) = parts_after (lines ++ line ∷ []) items
parts_after lines (item.Phase ∷ items) = phases lines ++ parts_after [] items
parts_after lines (item.Settle ∷ items) = phases lines ++ part.Settle ∷ parts_after [] items
parts_after lines (item.Sleep n ∷ items) = phases lines ++ part.Sleep n ∷ parts_after [] items

-- the script of the items
abbrev pub in_script : {E : Type 0} → Result (List Item) E → Result Script E
in_script (Ok items) = Ok (record { parts = parts_after [] items })
in_script (Err e) = Err e

-- what a text means, where these forms are taken
unfoldable pub script_by : Forms → List ℕ → Result Script (ℕ × Reason)
script_by forms text = in_script (items_from forms 1 (lines_of text))

-- what it means where the program runs it
abbrev pub script_of : List ℕ → Result Script (ℕ × Reason)
script_of text = script_by Built text

-- and by the whole grammar
abbrev pub whole_script_of : List ℕ → Result Script (ℕ × Reason)
whole_script_of text = script_by All text

-- Lines of a text, words of a line, and what single words mean.
use Rattle.std.specs.Prelude.{ℕ, Bool, true, false, ◌||◌, ◌==◌, List, [], ◌∷◌, map, length, take, drop, codes, cond, if◌then◌else◌, Option, Some, None}
use Rattle.std.specs.Borrow.{Bor}
use Rattle.std.specs.List.{filter, slice_split, onto_first}
use Rattle.std.specs.Option.{option_map}
use Rattle.std.specs.Str.{bytes_eq}
use Rattle.vn_types.specs.NumberWords.{number_of}
use Rattle.vn_types.specs.Octets.{newline, space}
use Rattle.vn_types.specs.Paths.{Path, is_host}
use Rattle.vn_types.specs.PathWords.{path_of}
use Rattle.vn_types.specs.Steps.{◌>>=◌}
use Rattle.vn_cells.specs.machine.Bounds.{is_port, is_ttl, is_wait}
use Rattle.vn_cells.specs.machine.Events.{is_lane}

-- ---- lines and words

-- a line ends with a newline, or with the text
unfoldable pub lines_of : List ℕ → List (List ℕ)
lines_of [] = []
lines_of (c ∷ cs) = cond (c == newline) ([] ∷ lines_of cs) (onto_first c (lines_of cs))

-- whether a text has an octet
abbrev pub is_filled : List ℕ → Bool
is_filled [] = false
is_filled (c ∷ cs) = true

-- the pieces between spaces that are not empty
unfoldable pub words_of : List ℕ → List (List ℕ)
words_of line = filter is_filled (slice_split (λ c. c == space) line)

-- the words that a list of references points to
abbrev pub texts : List (Bor (List ℕ)) → List (List ℕ)
texts words = map (λ word. word.now) words

-- ---- words

-- what passes a test
abbrev pub such_that : {A : Type 0} → (A → Bool) → A → Option A
such_that test x = if test x then Some x else None

-- a number from 1 to 8
unfoldable pub lane_of : List ℕ → Option ℕ
lane_of word = number_of word >>= such_that is_lane

-- a number up to 65,535
unfoldable pub port_of : List ℕ → Option ℕ
port_of word = number_of word >>= such_that is_port

-- a number from 1 to 255
unfoldable pub ttl_of : List ℕ → Option ℕ
ttl_of word = number_of word >>= such_that is_ttl

-- milliseconds, from 1 to 86,400,000
unfoldable pub wait_of : List ℕ → Option ℕ
wait_of word = number_of word >>= such_that is_wait

-- a path with a label
abbrev pub below_host : Path → Option Path
below_host path = if is_host path then None else Some path

-- a path that a command may name: it is never `host`
unfoldable pub named_of : List ℕ → Option Path
named_of word = path_of word >>= below_host

-- the value, where no word is left
abbrev pub at_end : {A : Type 0} → List (List ℕ) → Option A → Option A
at_end [] value = value
at_end (word ∷ words) value = None

-- what one word means, where no other stands there
abbrev pub of_one : {A B : Type 0} → (List ℕ → Option A) → (A → B) → List (List ℕ) → Option B
of_one read make (word ∷ []) = option_map make (read word)
of_one read make _ = None

-- what two words mean, where no other stands there
abbrev pub of_two :
    {A B C : Type 0} → (List ℕ → Option A) → (List ℕ → Option B) → (A → B → C) → List (List ℕ) → Option C
of_two first second make (one ∷ two ∷ []) = do
  x ← first one
  y ← second two
  Some (make x y)
of_two first second make _ = None

-- the first words of lines that are not lane lines
unfoldable pub is_form : List ℕ → Bool
is_form word = bytes_eq word (codes "phase") || bytes_eq word (codes "settle") || bytes_eq word (codes "sleep")

-- what stands behind a beginning
abbrev pub behind : List ℕ → List ℕ → Option (List ℕ)
behind start word = if bytes_eq (take (length start) word) start then Some (drop (length start) word) else None

-- The labels in a path's text.
use Rattle.std.specs.Prelude.{ℕ, Bool, true, ◌&&◌, ◌==◌, List, [], ◌∷◌, length, take, drop, if◌then◌else◌}
use Rattle.std.specs.List.{list_any, slice_split}
use Rattle.std.specs.Str.{bytes_eq}
use Rattle.vn_types.specs.Octets.{dot}
use Rattle.vn_types.specs.Paths.{Path}

-- the pieces of a text between dots
unfoldable pub pieces : List ℕ → List (List ℕ)
pieces text = slice_split (λ c. c == dot) text

-- the labels with dots between, where host has the empty text
unfoldable pub labels_in : List ℕ → Path
labels_in [] = []
labels_in (c ∷ text) = pieces (c ∷ text)

-- the text before its last dot, and none where it has no dot
unfoldable pub before_last_dot : List ℕ → List ℕ
before_last_dot [] = []
before_last_dot (c ∷ text) = if list_any (λ d. d == dot) text then c ∷ before_last_dot text else []

-- what stands behind a text, where it ends there or with a dot
abbrev pub ends_or_dot : List ℕ → Bool
ends_or_dot [] = true
ends_or_dot (c ∷ text) = c == dot

-- whether the labels in the first text begin with those in the second
unfoldable pub is_text_under : List ℕ → List ℕ → Bool
is_text_under text [] = true
is_text_under text (c ∷ above) =
    bytes_eq (take (length (c ∷ above)) text) (c ∷ above)
    && ends_or_dot (drop (length (c ∷ above)) text)

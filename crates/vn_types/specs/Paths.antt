-- Paths, the names of pairs, and their order.
use Rattle.std.specs.Prelude.{ℕ, Bool, true, false, ◌&&◌, ◌==◌, nat_le, List, [], ◌∷◌, ◌++◌, length, map, codes}
use Rattle.std.specs.List.{list_all, starts_with, join_with_byte}
use Rattle.std.specs.Str.{bytes_eq}
use Rattle.std.specs.Cmp.Lexicographic.{pointwise, slice_cmp}
use Rattle.std.specs.Ordering.{nat_cmp, ordering_then}
use Rattle.std.specs.declared.cmp.Ordering.{Ordering}
use Rattle.vn_types.specs.declared.path_text.TheConstants.{MOST_LABELS}
use Rattle.vn_types.specs.Octets.{dot}
use Rattle.vn_types.specs.Words.{is_label}

-- a path is the list of its labels, and host is the empty one
abbrev pub Path : Type 0
Path = List (List ℕ)

-- a pair is named by its home and its unit
abbrev pub Key : Type 0
Key = Path × ℕ

-- whether two paths are one
unfoldable pub path_eq : Path → Path → Bool
path_eq = pointwise bytes_eq

-- whether two pairs have one home and one unit
unfoldable pub key_eq : Key → Key → Bool
key_eq a b = path_eq a.0 b.0 && (a.1 == b.1)

-- whether a path is that of the host
unfoldable pub is_host : Path → Bool
is_host [] = true
is_host (label ∷ labels) = false

-- at most 8 labels, each of them one
unfoldable pub is_path : Path → Bool
is_path p = list_all is_label p && nat_le (length p) MOST_LABELS

-- the labels with dots between, and nothing for host
unfoldable pub joined : Path → List ℕ
joined p = join_with_byte dot p

-- the text of a path
unfoldable pub path_text : Path → List ℕ
path_text [] = codes "host"
path_text (label ∷ labels) = joined (label ∷ labels)

-- host first, then by the octets of the text; the labels decide where no text does
unfoldable pub path_cmp : Path → Path → Ordering
path_cmp p q =
    ordering_then (slice_cmp nat_cmp (joined p) (joined q)) (slice_cmp (slice_cmp nat_cmp) p q)

-- by home, and then by unit
unfoldable pub key_cmp : Key → Key → Ordering
key_cmp a b = ordering_then (path_cmp a.0 b.0) (nat_cmp a.1 b.1)

-- the proper ancestors other than host, from the parent upwards
unfoldable pub above : Path → List Path
above [] = []
above (label ∷ []) = []
above (label ∷ next ∷ labels) = map (λ p. label ∷ p) (above (next ∷ labels)) ++ (label ∷ []) ∷ []

-- a path and its ancestors, but host
abbrev pub from : Path → List Path
from [] = []
from (label ∷ labels) = (label ∷ labels) ∷ above (label ∷ labels)

-- the first path, or host
abbrev pub first_or_host : List Path → Path
first_or_host [] = []
first_or_host (p ∷ ps) = p

-- the parent, which is host for a path of one label
abbrev pub parent : Path → Path
parent p = first_or_host (above p)

-- whether the first path is the second or below it
unfoldable pub is_under : Path → Path → Bool
is_under p q = starts_with bytes_eq p q

-- two texts with a dot between, where neither is empty
abbrev pub glued : List ℕ → List ℕ → List ℕ
glued [] q = q
glued (c ∷ p) [] = c ∷ p
glued (c ∷ p) (d ∷ q) = (c ∷ p) ++ dot ∷ d ∷ q

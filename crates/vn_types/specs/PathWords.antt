-- Paths as a user writes them, and the order of their texts.
use Rattle.std.specs.Prelude.{ℕ, List, [], ◌∷◌, Option, Some, None, if◌then◌else◌, codes}
use Rattle.std.specs.Str.{bytes_eq}
use Rattle.std.specs.Ordering.{nat_cmp}
use Rattle.std.specs.Cmp.Lexicographic.{slice_cmp}
use Rattle.std.specs.declared.cmp.Ordering.{Ordering}
use Rattle.std.specs.declared.cmp.Ordering.TheVariants.{Less, Equal, Greater}
use Rattle.vn_types.specs.Paths.{Path, is_path, path_text}
use Rattle.vn_types.specs.PathTexts.{pieces}

-- 1 to 8 labels with dots between
unfoldable pub labels_of : List ℕ → Option Path
labels_of text = if is_path (pieces text) then Some (pieces text) else None

-- `host`, or labels
unfoldable pub path_of : List ℕ → Option Path
path_of text = if bytes_eq text (codes "host") then Some [] else labels_of text

-- host first, then by the octets of the text
unfoldable pub text_order : Path → Path → Ordering
text_order [] [] = Equal
text_order [] (label ∷ labels) = Less
text_order (label ∷ labels) [] = Greater
text_order (label ∷ labels) (other ∷ others) =
    slice_cmp nat_cmp (path_text (label ∷ labels)) (path_text (other ∷ others))

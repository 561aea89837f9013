-- Sets of cells: the items of a word.
use Rattle.std.specs.Prelude.{ℕ, ◌+◌, Bool, ◌==◌, nat_eq, nat_le, List, [], ◌∷◌, ◌++◌, length, codes, if◌then◌else◌, Option, Some, None}
use Rattle.std.specs.List.{fold, list_any, slice_split}
use Rattle.std.specs.Option.{option_map, option_or}
use Rattle.vn_types.specs.NumberWords.{number_of}
use Rattle.vn_types.specs.Paths.{path_eq}
use Rattle.vn_types.specs.PathWords.{path_of}
use Rattle.vn_types.specs.Steps.{◌>>=◌}
use Rattle.vn_cells.specs.declared.cell.Cells.{Cells}
use Rattle.vn_cells.specs.machine.Bounds.{is_unit}
use Rattle.vn_shell.specs.declared.cells.CellItem.{CellItem}
use Rattle.vn_shell.specs.declared.cells.CellItem.TheVariants as item
use Rattle.vn_shell.specs.declared.cells.TheConstants.{MOST_CELLS}
use Rattle.vn_shell.specs.Words.{behind, such_that}

-- `,`
abbrev pub comma : ℕ
comma = 44

-- `host/N`, a pair of host
unfoldable pub host_pair_of : List ℕ → Option ℕ
host_pair_of text = behind (codes "host/") text >>= number_of >>= such_that is_unit

-- a path, or a pair of host
unfoldable pub cell_item_of : List ℕ → Option CellItem
cell_item_of text = option_or (option_map item.Stack (path_of text)) (option_map item.Pair (host_pair_of text))

-- all items, unless one of the texts is none
unfoldable pub items_of : List (List ℕ) → Option (List CellItem)
items_of [] = Some []
items_of (text ∷ texts) = do
  item ← cell_item_of text
  items ← items_of texts
  Some (item ∷ items)

-- a list with one more, which counts once
abbrev pub with_once : {A : Type 0} → (A → A → Bool) → List A → A → List A
with_once same xs x = if list_any (same x) xs then xs else xs ++ x ∷ []

-- a set with an item more
unfoldable pub with_item : Cells → CellItem → Cells
with_item set (item.Stack path) = record set { paths = with_once path_eq set.paths path }
with_item set (item.Pair unit) = record set { units = with_once nat_eq set.units unit }

-- how many cells are named
abbrev pub size : Cells → ℕ
size set = length set.paths + length set.units

-- at most 64
abbrev pub is_small : Cells → Bool
is_small set = nat_le (size set) MOST_CELLS

-- the set that names no cell
abbrev pub no_cells : Cells
no_cells = record { paths = []; units = [] }

-- the items between commas, at most 64 of them
unfoldable pub cells_of : List ℕ → Option Cells
cells_of word = items_of (slice_split (λ c. c == comma) word) >>= λ items. such_that is_small (fold with_item no_cells items)

-- ---- item by item

-- a set with what a text names
unfoldable pub with_text : Cells → List ℕ → Option Cells
with_text set text = cell_item_of text >>= λ item. such_that is_small (with_item set item)

-- A set of cells, item by item.
use Rattle.std.proofs.Common.{◌≡◌, ℕ, ◌+◌, ◌<◌, ◌≤◌, ◌==◌, Bool, true, false, cond, List, [], ◌∷◌, ◌++◌, length, Option, Some, None, refl, sym, ap, ◌∙◌, length-append, arith}
use Rattle.std.specs.Prelude.{nat_eq, nat_le}
use Rattle.std.specs.List.{fold, list_any, slice_split}
use Rattle.std.proofs.lemmas.Bool.{leb-true, le-leb}
use Rattle.std.proofs.lemmas.Bool.Decides.{nat_tests}
use Rattle.vn_types.specs.Paths.{path_eq}
use Rattle.vn_types.specs.Steps.{◌>>=◌}
use Rattle.vn_types.proofs.Options.{none_some}
use Rattle.vn_cells.specs.declared.cell.Cells.{Cells}
use Rattle.vn_shell.specs.declared.cells.CellItem.{CellItem}
use Rattle.vn_shell.specs.declared.cells.CellItem.TheVariants as item
use Rattle.vn_shell.specs.declared.cells.TheConstants.{MOST_CELLS}
use Rattle.vn_shell.specs.Cells.{cell_item_of, cells_of, comma, is_small, items_of, no_cells, size, with_item, with_once, with_text}
use Rattle.vn_shell.specs.Words.{such_that}

-- the set that these texts make of another
unfoldable pub cells_from : Cells → List (List ℕ) → Option Cells
cells_from set texts = items_of texts >>= λ items. such_that is_small (fold with_item set items)

pub cells_whole : (word : List ℕ) → cells_from no_cells (slice_split (λ c. c == comma) word) ≡ cells_of word
unfolding cells_from cells_of
cells_whole word = refl

once_longer : {A : Type 0} (same : A → A → Bool) (xs : List A) (x : A) → length xs ≤ length (with_once same xs x)
once_longer same xs x = by (list_any (same x) xs)
  where
    by : (b : Bool) → length xs ≤ length (cond b xs (xs ++ x ∷ []))
    by true = omega arith
    by false = omega (arith, length-append xs (x ∷ []))

item_larger : (set : Cells) (i : CellItem) → size set ≤ size (with_item set i)
unfolding with_item
item_larger set (item.Stack path) = omega (arith, once_longer path_eq set.paths path)
item_larger set (item.Pair unit) = omega (arith, once_longer nat_eq set.units unit)

items_larger : (set : Cells) (items : List CellItem) → size set ≤ size (fold with_item set items)
items_larger set [] = omega arith
items_larger set (i ∷ items) = omega (arith, item_larger set i, items_larger (with_item set i) items)

-- a set that has become too large stays so
stays_large : (set : Cells) (items : List CellItem) → is_small set ≡ false → such_that is_small (fold with_item set items) ≡ None
stays_large set items large = by (is_small (fold with_item set items)) refl
  where
    by : (b : Bool) → is_small (fold with_item set items) ≡ b → cond b (Some (fold with_item set items)) None ≡ None
    by true e = absurd (let few : size (fold with_item set items) ≤ MOST_CELLS = leb-true _ MOST_CELLS e in let small : is_small set ≡ true = le-leb (size set) MOST_CELLS (omega (arith, few, items_larger set items)) in cc)
    by false e = refl

-- one text more is read
pub text_read : (set larger : Cells) (text : List ℕ) (texts : List (List ℕ)) → Some larger ≡ with_text set text → cells_from set (text ∷ texts) ≡ cells_from larger texts
unfolding cells_from with_text items_of
text_read set larger text texts found = by (cell_item_of text) found
  where
    more : (i : CellItem) (o : Option (List CellItem)) (b : Bool) → Some larger ≡ cond b (Some (with_item set i)) None
        → ((o >>= λ items. Some (i ∷ items)) >>= λ items. such_that is_small (fold with_item set items)) ≡ (o >>= λ items. such_that is_small (fold with_item larger items))
    more i o true e = let same : larger ≡ with_item set i = cc in by_items o same
      where
        by_items : (o : Option (List CellItem)) → larger ≡ with_item set i
            → ((o >>= λ items. Some (i ∷ items)) >>= λ items. such_that is_small (fold with_item set items)) ≡ (o >>= λ items. such_that is_small (fold with_item larger items))
        by_items None same = refl
        by_items (Some items) same = ap (λ s. such_that is_small (fold with_item s items)) (sym same)
    more i o false e = absurd (none_some larger (sym e))

    by : (o : Option CellItem) → Some larger ≡ (o >>= λ item. such_that is_small (with_item set item))
        → ((o >>= λ item. items_of texts >>= λ items. Some (item ∷ items)) >>= λ items. such_that is_small (fold with_item set items)) ≡ (items_of texts >>= λ items. such_that is_small (fold with_item larger items))
    by None e = absurd (none_some larger (sym e))
    by (Some i) e = more i (items_of texts) (is_small (with_item set i)) e

-- or it is none, or one too many
pub text_refused : (set : Cells) (text : List ℕ) (texts : List (List ℕ)) → None ≡ with_text set text → None ≡ cells_from set (text ∷ texts)
unfolding cells_from with_text items_of
text_refused set text texts none = by (cell_item_of text) none
  where
    by_items : (i : CellItem) (o : Option (List CellItem)) → is_small (with_item set i) ≡ false
        → None ≡ ((o >>= λ items. Some (i ∷ items)) >>= λ items. such_that is_small (fold with_item set items))
    by_items i None large = refl
    by_items i (Some items) large = sym (stays_large (with_item set i) items large)

    full : (i : CellItem) (b : Bool) → is_small (with_item set i) ≡ b → None ≡ cond b (Some (with_item set i)) None
        → None ≡ ((items_of texts >>= λ items. Some (i ∷ items)) >>= λ items. such_that is_small (fold with_item set items))
    full i true e n = absurd (none_some (with_item set i) n)
    full i false e n = by_items i (items_of texts) e

    by : (o : Option CellItem) → None ≡ (o >>= λ item. such_that is_small (with_item set item))
        → None ≡ ((o >>= λ item. items_of texts >>= λ items. Some (item ∷ items)) >>= λ items. such_that is_small (fold with_item set items))
    by None n = refl
    by (Some i) n = full i (is_small (with_item set i)) refl n

-- the last text
pub text_last : (set : Cells) (text : List ℕ) → with_text set text ≡ cells_from set (text ∷ [])
unfolding cells_from with_text items_of
text_last set text = by (cell_item_of text)
  where
    by : (o : Option CellItem) → (o >>= λ item. such_that is_small (with_item set item))
        ≡ ((o >>= λ item. Some (item ∷ [])) >>= λ items. such_that is_small (fold with_item set items))
    by None = refl
    by (Some i) = refl

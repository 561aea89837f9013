-- The table of constructors: their names by the places at which they run (VNET(9), SYSINIT in FreeBSD's sys/kernel.h).
use Rattle.std.specs.Prelude.{ℕ, Bool, ◌==◌, ◌&&◌, ◌||◌, List, reverse}
use Rattle.std.specs.List.{list_any}
use Rattle.std.specs.Ordering.{nat_cmp, ordering_then}
use Rattle.std.specs.declared.cmp.Ordering.{Ordering}
use Rattle.std.specs.Str.{bytes_eq}
use Rattle.std.specs.Map.{keys_of, values_of}
use Rattle.std.specs.BTreeMap.{insert_entry}
use Rattle.std.specs.List.Sorted.{IsStrictlySortedBy}
use Rattle.vn_sysinit.specs.declared.entry.SysEntry.{SysEntry}

-- a subsystem, and the order within it
abbrev pub Place : Type 0
Place = ℕ × ℕ

-- by subsystem, and by order within one
abbrev pub place_cmp : Place → Place → Ordering
place_cmp a b = ordering_then (nat_cmp a.0 b.0) (nat_cmp a.1 b.1)

-- a name at its place
abbrev pub Row : Type 0
Row = Place × List ℕ

-- the row of an entry
abbrev pub row_of : SysEntry → Row
row_of entry = ((entry.subsystem, entry.order), entry.name)

-- whether two rows have one place or one name
abbrev pub clash : Row → Row → Bool
clash a b = ((a.0.0 == b.0.0) && (a.0.1 == b.0.1)) || bytes_eq a.1 b.1

-- whether the place or the name of an entry is registered
abbrev pub is_taken : SysEntry → List Row → Bool
is_taken entry rows = list_any (λ row. clash row (row_of entry)) rows

-- an entry more, at its place
abbrev pub with_entry : SysEntry → List Row → List Row
with_entry entry rows = insert_entry place_cmp rows (entry.subsystem, entry.order) entry.name

-- each place comes after those before it
abbrev pub AreInOrder : List Row → Type 0
AreInOrder rows = IsStrictlySortedBy place_cmp (keys_of rows)

-- the names in the order of construction
abbrev pub up_names : List Row → List (List ℕ)
up_names rows = values_of rows

-- the names in the order of destruction
abbrev pub down_names : List Row → List (List ℕ)
down_names rows = reverse (up_names rows)

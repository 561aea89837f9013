-- The constructors of a stack, registered in any order.
use Rattle.std.specs.Prelude.{◌≡◌, ℕ, List, [], ◌∷◌, map, reverse, Option, Some, None, option_map, if◌then◌else◌}
use Rattle.vn_types.specs.declared.interface.HalfId.{HalfId}
use Rattle.vn_rules.specs.Construction.{RowOf, constructor_rows, row_named}
use Rattle.vn_sysinit.specs.declared.entry.SysEntry.{SysEntry}
use Rattle.vn_sysinit.specs.Table.{Row, is_taken, with_entry, up_names, down_names}

-- the rows after some entries were registered in turn, where none was taken
abbrev pub registered : List SysEntry → List Row → Option (List Row)
registered [] rows = Some rows
registered (entry ∷ entries) rows =
    if is_taken entry rows then None else registered entries (with_entry entry rows)

-- the rows of the constructors, as the tables name halves
abbrev pub constructors : List (RowOf HalfId)
constructors = constructor_rows

-- the entry of a row
abbrev pub entry_of : RowOf HalfId → SysEntry
entry_of row = record { subsystem = row.subsystem; order = row.order; name = row.name }

-- the entries of the constructors
abbrev pub constructor_entries : List SysEntry
constructor_entries = map entry_of constructors

-- and their names
abbrev pub constructor_names : List (List ℕ)
constructor_names = map (λ (row : RowOf HalfId). row.name) constructors

-- registered in any order, no constructor is taken
pub record RunInTableOrder (entries : List SysEntry) : Type 0 where
  -- construction is in the table's order
  pub up : option_map up_names (registered entries []) ≡ Some constructor_names
  -- and destruction in its reverse
  pub down : option_map down_names (registered entries []) ≡ Some (reverse constructor_names)
  -- the names that come out name the rows of the table
  pub rows :
      option_map (λ rows. map row_named (up_names rows)) (registered entries [])
      ≡ Some (map Some constructors)

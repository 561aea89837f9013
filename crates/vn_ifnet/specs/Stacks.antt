-- What stands in each stack under which name, and which names are reserved.
use Rattle.std.specs.Prelude.{ℕ, Bool, true, false, ◌||◌, ◌==◌, not, List, [], ◌∷◌, ◌++◌, find, Option, Some, None}
use Rattle.std.specs.List.{filter}
use Rattle.std.specs.Map.{lookup}
use Rattle.std.specs.Option.{is_some, option_map}
use Rattle.vn_types.specs.declared.interface.HalfId.{HalfId}
use Rattle.vn_types.specs.declared.interface.IfName.{IfName}
use Rattle.vn_types.specs.declared.interface.IfOf.{IfOf}
use Rattle.vn_types.specs.Interfaces.{half_id_eq, if_same}
use Rattle.vn_types.specs.PerStack.{of as kept}
use Rattle.vn_rules.specs.Named.{ifname_eq}
use Rattle.vn_ifnet.specs.declared.interfaces.Attached.{Attached}
use Rattle.vn_ifnet.specs.Names.{name_number}

-- a name that is reserved, by its number, for a half
abbrev pub Reserved : Type 0
Reserved = ℕ × HalfId

-- what stands in one stack
pub record Held : Type 0 where
  -- in order of attachment
  pub attached : List Attached
  -- the names that are reserved, with the halves that have them
  pub reserved : List Reserved

-- no interface, and no name
abbrev pub nothing : Held
nothing = record { attached = []; reserved = [] }

-- what a stack has, by its number
abbrev pub of : List Held → ℕ → Held
of rows sid = kept nothing rows sid

-- the interface that stands under a name
abbrev pub named : IfName → Held → Option (IfOf HalfId)
named name held =
    option_map (λ (a : Attached). a.what) (find (λ (a : Attached). ifname_eq a.name name) held.attached)

-- what stands there, without an interface
abbrev pub without : IfOf HalfId → List Attached → List Attached
without what attached = filter (λ (a : Attached). not (if_same half_id_eq a.what what)) attached

-- an interface attached under a name, behind all others
abbrev pub with_last : IfOf HalfId → IfName → Held → Held
with_last what name held = record held {
  attached = without what held.attached ++ record { what = what; name = name } ∷ [];
}

-- the half for which a name is reserved
abbrev pub reserved_by : IfName → Held → Option HalfId
reserved_by name held = lookup (λ k. name_number name == k) held.reserved

-- whether a name is reserved by another half than that
abbrev pub is_another : Option HalfId → Option HalfId → Bool
is_another None but = false
is_another (Some half) None = true
is_another (Some half) (Some but) = not (half_id_eq half but)

-- whether the name stands there, or is reserved there by another half
abbrev pub is_taken : IfName → Option HalfId → Held → Bool
is_taken name but held = is_some (named name held) || is_another (reserved_by name held) but

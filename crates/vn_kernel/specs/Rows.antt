-- What the rows of a listing are made from.
use Rattle.std.specs.Prelude.{◌≡◌, ℕ, true, List, [], ◌∷◌, ◌++◌, unwrap_or}
use Rattle.std.specs.List.{list_any}
use Rattle.std.specs.Ordering.{nat_cmp}
use Rattle.vn_types.specs.declared.address.Ip4.{Ip4}
use Rattle.vn_types.specs.declared.interface.HalfId.{HalfId}
use Rattle.vn_types.specs.declared.interface.IfName.{IfName}
use Rattle.vn_types.specs.declared.interface.IfOf.{IfOf}
use Rattle.vn_types.specs.Entries.{find, put}
use Rattle.vn_types.specs.Interfaces.{half_id_eq, if_same}
use Rattle.vn_rules.specs.declared.address.AddrOf.{AddrOf}
use Rattle.vn_rules.specs.Named.{if_name}
use Rattle.vn_ifnet.specs.declared.interfaces.Attached.{Attached}
use Rattle.vn_ifnet.specs.Names.{if_number}
use Rattle.vn_vmove.specs.Parts.{parts}
use Rattle.vn_cells.specs.machine.Listings.{addresses_on}
use Rattle.vn_cells.specs.world.Names.{half_name}
use Rattle.vn_kernel.specs.Fields.{Fields}
use Rattle.vn_kernel.specs.Naming.{name_of}

-- the name under which a half stands, by its number
abbrev pub label_of : Fields → HalfId → IfName
label_of f h = half_name (name_of f h)

-- ---- the addresses of a stack by interface

-- an address with the length of its prefix
abbrev pub Address : Type 0
Address = Ip4 × ℕ

-- addresses under the number of their interface, in the order of their adding
abbrev pub Groups : Type 0
Groups = List (ℕ × List Address)

-- those of an interface
abbrev pub kept_on : IfOf HalfId → Groups → List Address
kept_on on groups = unwrap_or (find nat_cmp (if_number on) groups) []

-- an address more
unfoldable pub grouped : AddrOf HalfId → Groups → Groups
grouped a groups = put nat_cmp (if_number a.on) (kept_on a.on groups ++ (a.ip, a.len) ∷ []) groups

-- each interface has its addresses there
abbrev pub AreGrouped : List (AddrOf HalfId) → Groups → Type 0
AreGrouped addresses groups =
    (on : IfOf HalfId) → kept_on on groups ≡ addresses_on half_id_eq on addresses

-- ---- the interfaces of a stack

-- an interface stands in the stack, and under its own name
pub record IsAttached (f : Fields) (number : ℕ) (a : Attached) : Type 0 where
  -- it is listed there
  pub listed : list_any (if_same half_id_eq a.what) (parts f.tables number).interfaces ≡ true
  -- by the name that the machine tells
  pub named : a.name ≡ if_name (label_of f) a.what

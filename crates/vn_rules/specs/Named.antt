-- Interfaces under the names that users write (ifconfig(8)).
use Rattle.std.specs.Prelude.{Bool, true, false, ◌&&◌, ◌==◌, List, find, Option, Some, None}
use Rattle.vn_types.specs.declared.interface.IfName.{IfName}
use Rattle.vn_types.specs.declared.interface.IfName.TheVariants as ifname
use Rattle.vn_types.specs.declared.interface.IfOf.{IfOf}
use Rattle.vn_types.specs.declared.interface.IfOf.TheVariants.{Lo0, Half}
use Rattle.vn_types.specs.Interfaces.{side_eq}

-- whether two names are one
abbrev pub ifname_eq : IfName → IfName → Bool
ifname_eq ifname.Lo0 ifname.Lo0 = true
ifname_eq (ifname.Epair m s) (ifname.Epair n t) = (m == n) && side_eq s t
ifname_eq _ _ = false

-- whether it stands there and is lo0
abbrev pub is_lo0 : {N : Type 0} → Option (IfOf N) → Bool
is_lo0 None = false
is_lo0 (Some Lo0) = true
is_lo0 (Some (Half h)) = false

module _ {N : Type 0} (label : N → IfName) where
  -- the name under which an interface stands, by the names of halves
  abbrev pub if_name : IfOf N → IfName
  if_name Lo0 = ifname.Lo0
  if_name (Half h) = label h

  -- the interface of that name
  unfoldable pub interface_named : IfName → List (IfOf N) → Option (IfOf N)
  interface_named name ifs = find (λ on. ifname_eq (if_name on) name) ifs

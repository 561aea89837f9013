-- The listings of a stack, row by row and line by line (ifconfig(8), -a; netstat(1), -rn; arp(8), -an).
use Rattle.std.specs.Prelude.{ℕ, Bool, true, List, [], ◌∷◌, ◌++◌, map, filter, codes, decimal, Option, Some, None, if◌then◌else◌}
use Rattle.std.specs.List.{flat_map}
use Rattle.std.specs.Ordering.{nat_cmp, ordering_then, is_lt}
use Rattle.std.specs.Cmp.Lexicographic.{slice_cmp}
use Rattle.std.specs.declared.cmp.Ordering.{Ordering}
use Rattle.vn_types.specs.declared.address.Ip4.{Ip4}
use Rattle.vn_types.specs.declared.address.Mac.{Mac}
use Rattle.vn_types.specs.declared.interface.IfName.{IfName}
use Rattle.vn_types.specs.declared.interface.IfOf.{IfOf}
use Rattle.vn_types.specs.declared.interface.IfOf.TheVariants.{Lo0, Half as OfHalf}
use Rattle.vn_types.specs.AddressWords.{ip4_text, prefix_text, mac_text}
use Rattle.vn_types.specs.InterfaceWords.{ifname_text}
use Rattle.vn_types.specs.Interfaces.{if_same}
use Rattle.vn_types.specs.Octets.{space}
use Rattle.vn_rules.specs.declared.address.AddrOf.{AddrOf}
use Rattle.vn_rules.specs.declared.arp.ArpEntryOf.{ArpEntryOf}
use Rattle.vn_rules.specs.declared.arp.ArpState.{ArpState}
use Rattle.vn_rules.specs.declared.arp.ArpState.TheVariants.{Incomplete, Learnt, Static, Down}
use Rattle.vn_rules.specs.declared.route.TargetOf.{TargetOf}
use Rattle.vn_rules.specs.declared.route.TargetOf.TheVariants as target
use Rattle.vn_rules.specs.Named.{if_name}
use Rattle.vn_rules.specs.Routes.{Routed}
use Rattle.vn_rules.specs.Scenes.{SceneOf, link_of}
use Rattle.vn_cells.specs.declared.listing.ArpRow.{ArpRow}
use Rattle.vn_cells.specs.declared.listing.IfRow.{IfRow}
use Rattle.vn_cells.specs.declared.listing.RouteRow.{RouteRow}
use Rattle.vn_cells.specs.declared.listing.RowTarget.{RowTarget}
use Rattle.vn_cells.specs.declared.listing.RowTarget.TheVariants as row
use Rattle.vn_cells.specs.declared.listing.Rows.{Rows}
use Rattle.vn_cells.specs.declared.listing.Rows.TheVariants.{Ifs, Routes, Arps}
use Rattle.vn_cells.specs.declared.listing.Table.{Table}
use Rattle.vn_cells.specs.declared.listing.Table.TheVariants.{If, Route, Arp}

-- the most octets of a datagram on lo0
abbrev pub lo0_mtu : ℕ
lo0_mtu = 16384

-- the most octets of a datagram on a half (RFC 894)
abbrev pub half_mtu : ℕ
half_mtu = 1500

-- ---- the rows of a stack, by a test on halves and their names

module _ {N : Type 0} (same : N → N → Bool) where
  -- the addresses of an interface, in the order of their adding
  abbrev pub addresses_on : IfOf N → List (AddrOf N) → List (Ip4 × ℕ)
  addresses_on on addresses =
      map (λ (a : AddrOf N). (a.ip, a.len)) (filter (λ (a : AddrOf N). if_same same a.on on) addresses)

module _ {N : Type 0} (same : N → N → Bool) (label : N → IfName) where
  -- the row of an interface; lo0 is always up
  unfoldable pub if_row : SceneOf N → IfOf N → IfRow
  if_row s Lo0 = record {
    name = if_name label Lo0;
    up = true;
    mtu = lo0_mtu;
    mac = None;
    addrs = addresses_on same Lo0 s.parts.addresses;
  }
  if_row s (OfHalf h) = record {
    name = if_name label (OfHalf h);
    up = (link_of same h s).up;
    mtu = half_mtu;
    mac = Some (link_of same h s).mac;
    addrs = addresses_on same (OfHalf h) s.parts.addresses;
  }

  -- the interfaces, in the order of their attachment
  unfoldable pub if_rows : SceneOf N → List IfRow
  if_rows s = map (if_row s) s.parts.interfaces

module _ {N : Type 0} (label : N → IfName) where
  -- where a route leads
  abbrev pub row_target : TargetOf N → RowTarget
  row_target (target.Link on) = row.Link (if_name label on)
  row_target (target.Gateway via on) = row.Gateway via (label on)

  -- the routes, in the order of their networks and lengths
  unfoldable pub route_rows : SceneOf N → List RouteRow
  route_rows s =
      map (λ (e : Routed N). record { to = e.0; target = row_target e.1 }) s.parts.routes

  -- the row of a neighbour's address
  abbrev pub arp_row : ArpEntryOf N → ArpRow
  arp_row e = record { ip = e.ip; mac = e.mac; on = label e.half; state = e.state }

-- by address, then by the octets of the interface's name
abbrev pub arp_cmp : ArpRow → ArpRow → Ordering
arp_cmp a b =
    ordering_then (nat_cmp a.ip.0 b.ip.0)
    (slice_cmp nat_cmp (ifname_text a.on) (ifname_text b.on))

-- a row, before the first that it does not come after
unfoldable pub with_arp_row : ArpRow → List ArpRow → List ArpRow
with_arp_row row [] = row ∷ []
with_arp_row row (first ∷ rows) =
    if is_lt (arp_cmp first row) then first ∷ with_arp_row row rows else row ∷ first ∷ rows

-- the rows in that order
unfoldable pub in_arp_order : List ArpRow → List ArpRow
in_arp_order [] = []
in_arp_order (row ∷ rows) = with_arp_row row (in_arp_order rows)

module _ {N : Type 0} (label : N → IfName) where
  -- the neighbours' addresses
  unfoldable pub arp_rows : SceneOf N → List ArpRow
  arp_rows s = in_arp_order (map (arp_row label) s.parts.arp)

module _ {N : Type 0} (same : N → N → Bool) (label : N → IfName) where
  -- the rows of a table
  unfoldable pub rows_of : Table → SceneOf N → Rows
  rows_of If s = Ifs (if_rows same label s)
  rows_of Route s = Routes (route_rows label s)
  rows_of Arp s = Arps (arp_rows label s)

-- ---- the lines

-- `up` or `down`
abbrev pub up_text : Bool → List ℕ
up_text up = if up then codes "up" else codes "down"

-- a half's hardware address
abbrev pub ether_part : Option Mac → List ℕ
ether_part None = []
ether_part (Some mac) = codes " ether " ++ mac_text mac

-- an address with its own bits
abbrev pub address_part : Ip4 × ℕ → List ℕ
address_part a = space ∷ prefix_text (record { net = a.0; len = a.1 })

-- an interface
unfoldable pub if_line : IfRow → List ℕ
if_line r =
    ifname_text r.name ++ space ∷ up_text r.up ++ codes " mtu " ++ decimal r.mtu
    ++ ether_part r.mac ++ flat_map address_part r.addrs

-- to a network on an interface, or by a gateway beyond one
abbrev pub target_text : RowTarget → List ℕ
target_text (row.Link on) = codes "link " ++ ifname_text on
target_text (row.Gateway via on) = ip4_text via ++ space ∷ ifname_text on

-- a route
unfoldable pub route_line : RouteRow → List ℕ
route_line r = prefix_text r.to ++ space ∷ target_text r.target

-- a hardware address, `-` where none is known
abbrev pub mac_or_dash : Option Mac → List ℕ
mac_or_dash None = codes "-"
mac_or_dash (Some mac) = mac_text mac

-- how far the resolution has come
abbrev pub state_text : ArpState → List ℕ
state_text Incomplete = codes "incomplete"
state_text Learnt = codes "learnt"
state_text Static = codes "static"
state_text Down = codes "down"

-- a neighbour's address
unfoldable pub arp_line : ArpRow → List ℕ
arp_line r =
    ip4_text r.ip ++ space ∷ mac_or_dash r.mac ++ space ∷ ifname_text r.on ++ space ∷ state_text r.state

-- the lines of rows, one a row
unfoldable pub lines_of_rows : Rows → List (List ℕ)
lines_of_rows (Ifs rows) = map if_line rows
lines_of_rows (Routes rows) = map route_line rows
lines_of_rows (Arps rows) = map arp_line rows

-- the lines of a table
abbrev pub lines_of : {N : Type 0} → (N → N → Bool) → (N → IfName) → Table → SceneOf N → List (List ℕ)
lines_of same label table s = lines_of_rows (rows_of same label table s)

-- The addresses of a stack's interfaces, in order of adding (ifconfig(8)).
use Rattle.std.specs.Prelude.{ℕ, Bool, true, false, ◌==◌, ◌&&◌, ◌||◌, nat_le, not, List, [], ◌∷◌, ◌++◌, Option, Some, None, Result, slice_get}
use Rattle.std.specs.List.{list_any, filter, find}
use Rattle.std.specs.Option.{option_map, ok_or}
use Rattle.vn_types.specs.declared.address.Ip4.{Ip4}
use Rattle.vn_types.specs.declared.address.Prefix.{Prefix}
use Rattle.vn_types.specs.declared.errno.Errno.{Errno}
use Rattle.vn_types.specs.declared.errno.Errno.TheVariants.{Inval, Exist, AddrNotAvail}
use Rattle.vn_types.specs.declared.interface.IfOf.{IfOf}
use Rattle.vn_types.specs.declared.interface.IfOf.TheVariants.{Lo0, Half}
use Rattle.vn_types.specs.Interfaces.{if_same}
use Rattle.vn_types.specs.Refusals.{first_refusal}
use Rattle.vn_rules.specs.declared.address.AddrOf.{AddrOf}
use Rattle.vn_rules.specs.Networks.{network_of, directed_broadcast, is_no_host, is_loopback, lies_in}

module _ {N : Type 0} where
  -- whether the interface is a half, and not lo0
  abbrev pub is_half : IfOf N → Bool
  is_half Lo0 = false
  is_half (Half n) = true

  -- the network in which an address lies
  abbrev pub prefix_of : AddrOf N → Prefix
  prefix_of a = record { net = network_of a.ip a.len; len = a.len }

  -- whether a broadcast address belongs to its network: not where two hosts have all of it (RFC 3021), nor
  -- a host alone
  abbrev pub has_broadcast : AddrOf N → Bool
  has_broadcast a = nat_le a.len 30

  -- whether it is the first or the last address of its network
  abbrev pub is_end : AddrOf N → Bool
  is_end a = (a.ip.0 == (network_of a.ip a.len).0) || (a.ip.0 == (directed_broadcast a.ip a.len).0)

  -- whether its interface cannot have it: no host has it, a half would have a loopback address, it is of no
  -- network, or it stands for the network itself or all of its hosts
  abbrev pub is_unfit : AddrOf N → Bool
  is_unfit a =
      is_no_host a.ip || (is_half a.on && is_loopback a.ip) || (a.len == 0)
      || (has_broadcast a && is_end a)

  -- whether it is that address
  abbrev pub has_ip : Ip4 → AddrOf N → Bool
  has_ip ip a = a.ip.0 == ip.0

  -- whether the stack has the address
  abbrev pub local : Ip4 → List (AddrOf N) → Bool
  local ip addresses = list_any (has_ip ip) addresses

  -- why an address is not added
  abbrev pub add_refusal : AddrOf N → List (AddrOf N) → Option Errno
  add_refusal a addresses = first_refusal ((is_unfit a, Inval) ∷ (local a.ip addresses, Exist) ∷ [])

  -- one address more
  abbrev pub after_add : AddrOf N → List (AddrOf N) → List (AddrOf N)
  after_add a addresses = addresses ++ a ∷ []

  -- whether it is the directed broadcast address of the network of an address of a half
  abbrev pub is_broadcast_of : Ip4 → AddrOf N → Bool
  is_broadcast_of ip a =
      is_half a.on && has_broadcast a && ((directed_broadcast a.ip a.len).0 == ip.0)

  -- whether it is the directed broadcast address of a network that the stack has an address of
  abbrev pub broadcast : Ip4 → List (AddrOf N) → Bool
  broadcast ip addresses = list_any (is_broadcast_of ip) addresses

  -- the address at a place, counted from 0
  abbrev pub address_at : ℕ → List (AddrOf N) → Option (AddrOf N)
  address_at place addresses = slice_get addresses place

  -- the address without its length
  abbrev ip_of : Option (AddrOf N) → Option Ip4
  ip_of found = option_map (λ (a : AddrOf N). a.ip) found

module _ {N : Type 0} (same : N → N → Bool) where
  -- whether it is an address of the interface
  abbrev pub is_on : IfOf N → AddrOf N → Bool
  is_on on a = if_same same a.on on

  -- whether it is an address of the interface, of that network
  abbrev pub is_address_of : IfOf N → Prefix → AddrOf N → Bool
  is_address_of on to a = is_on on a && (a.len == to.len) && lies_in a.ip to

  -- whether it is that address of the interface
  abbrev pub is_at : IfOf N → Ip4 → AddrOf N → Bool
  is_at on ip a = is_on on a && has_ip ip a

  -- whether the interface has the address
  abbrev pub on_interface : IfOf N → Ip4 → List (AddrOf N) → Bool
  on_interface on ip addresses = list_any (is_at on ip) addresses

  -- that address of the interface, with its length
  abbrev pub address_of : IfOf N → Ip4 → List (AddrOf N) → Option (AddrOf N)
  address_of on ip addresses = find (is_at on ip) addresses

  -- whether interface, address and length are the same
  abbrev pub is_same : AddrOf N → AddrOf N → Bool
  is_same a b = is_at a.on a.ip b && (b.len == a.len)

  -- without that address, if there is one
  abbrev pub without_address : Option (AddrOf N) → List (AddrOf N) → List (AddrOf N)
  without_address None addresses = addresses
  without_address (Some a) addresses = filter (λ b. not (is_same a b)) addresses

  -- the address that is removed, or why none is
  abbrev pub remove_answer : IfOf N → Ip4 → List (AddrOf N) → Result (AddrOf N) Errno
  remove_answer on ip addresses = ok_or (address_of on ip addresses) AddrNotAvail

  -- without it
  abbrev pub after_remove : IfOf N → Ip4 → List (AddrOf N) → List (AddrOf N)
  after_remove on ip addresses = without_address (address_of on ip addresses) addresses

  -- without the addresses of the interface
  abbrev pub after_purge : IfOf N → List (AddrOf N) → List (AddrOf N)
  after_purge on addresses = filter (λ a. not (is_on on a)) addresses

  -- whether it is an address of the interface whose network has the hop
  abbrev pub reaches : IfOf N → Ip4 → AddrOf N → Bool
  reaches on hop a = is_on on a && lies_in hop (prefix_of a)

  -- the source of what the interface sends to the hop: its first address whose network has it
  abbrev pub source_for : IfOf N → Ip4 → List (AddrOf N) → Option Ip4
  source_for on hop addresses = ip_of (find (reaches on hop) addresses)

  -- the first address of the interface
  abbrev pub first : IfOf N → List (AddrOf N) → Option Ip4
  first on addresses = ip_of (find (is_on on) addresses)

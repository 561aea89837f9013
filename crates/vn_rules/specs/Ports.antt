-- Local ports of UDP sockets: when two are in conflict, and which is taken where none is asked for (RFC 768).
use Rattle.std.specs.Prelude.{ℕ, zero, suc, ◌+◌, Bool, true, false, ◌==◌, ◌&&◌, not, List, Option, Some, None}
use Rattle.std.specs.List.{list_any}
use Rattle.std.specs.Option.{option_map_or}
use Rattle.vn_types.specs.declared.address.Ip4.{Ip4}
use Rattle.vn_rules.specs.declared.socket.SocketOf.{SocketOf}

-- whether two local addresses take the same datagrams: one is unset, or both are one
abbrev pub overlaps : Option Ip4 → Option Ip4 → Bool
overlaps None b = true
overlaps (Some a) None = true
overlaps (Some a) (Some b) = a.0 == b.0

-- whether a local port is set, and is that one
abbrev pub is_port : ℕ → Option ℕ → Bool
is_port port None = false
is_port port (Some own) = own == port

-- the lowest of so many ports from one on for which the test passes
unfoldable pub first_port : ℕ → ℕ → (ℕ → Bool) → Option ℕ
first_port zero port is_free = None
first_port (suc more) port is_free =
    elim (is_free port) as (λ free. Option ℕ) [ true ↦ Some port | false ↦ first_port more (port + 1) is_free ]

module _ {N : Type 0} where
  -- whether a socket has the port, at an address that overlaps
  abbrev pub conflicts : Option Ip4 → ℕ → SocketOf N → Bool
  conflicts ip port s = is_port port s.port && overlaps s.ip ip

  -- whether two sockets are in conflict
  abbrev pub are_in_conflict : SocketOf N → SocketOf N → Bool
  are_in_conflict s t = option_map_or (λ port. conflicts s.ip port t) s.port false

  -- whether none of the other sockets has the port at an address that overlaps
  abbrev pub is_port_free : Option Ip4 → ℕ → List (SocketOf N) → Bool
  is_port_free ip port others = not (list_any (conflicts ip port) others)

  -- the lowest free port of the dynamic ones, 49152 to 65535 (RFC 6335, section 6)
  abbrev pub automatic_port : Option Ip4 → List (SocketOf N) → Option ℕ
  automatic_port ip others = first_port 16384 49152 (λ port. is_port_free ip port others)

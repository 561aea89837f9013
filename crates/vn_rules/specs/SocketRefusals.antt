-- Why a command on a UDP socket is refused (udp(4), bind(2), connect(2), send(2), recv(2)).
use Rattle.std.specs.Prelude.{ℕ, Bool, true, false, ◌==◌, ◌&&◌, not, is_some, is_none, List, [], ◌∷◌, Option, Some, None, Result, Ok, Err, slice_get}
use Rattle.std.specs.Option.{option_map_or, option_or}
use Rattle.std.specs.Result.{result_ok, is_err}
use Rattle.vn_types.specs.declared.address.Ip4.{Ip4}
use Rattle.vn_types.specs.declared.errno.Errno.{Errno}
use Rattle.vn_types.specs.declared.errno.Errno.TheVariants as errno
use Rattle.vn_types.specs.Errors.{errno_number}
use Rattle.vn_rules.specs.declared.socket.SocketOf.{SocketOf}
use Rattle.vn_rules.specs.Ports.{is_port_free, automatic_port}
use Rattle.vn_rules.specs.Sockets.{socket_named, others, port_at}

-- conditions in their order, each with its errno
abbrev pub Conditions : Type 0
Conditions = List (Bool × Errno)

-- whether the choice of a source was refused since the destination may not be sent to
abbrev pub is_bad : Result Ip4 Errno → Bool
is_bad (Ok source) = false
is_bad (Err e) = errno_number e == errno_number errno.Inval

module _ {N : Type 0} where
  -- `udp open`
  abbrev pub open_refusals : List ℕ → List (SocketOf N) → Conditions
  open_refusals name sockets = (is_some (socket_named name sockets), errno.Exist) ∷ []

  -- of a socket that is open
  abbrev pub of_open : (SocketOf N → Conditions) → Option (SocketOf N) → Conditions
  of_open conditions None = (true, errno.BadF) ∷ []
  of_open conditions (Some s) = conditions s

  -- `udp ttl`, `udp close`
  abbrev pub closed_refusals : List ℕ → List (SocketOf N) → Conditions
  closed_refusals name sockets = of_open (λ s. []) (socket_named name sockets)

  -- `udp bind` to an address or none, which may be the stack's, and a port
  abbrev pub bind_refusals : List ℕ → Option Ip4 → ℕ → Bool → List (SocketOf N) → Conditions
  bind_refusals name ip port is_local sockets =
      of_open
      (λ s.
      (is_some s.port, errno.Inval)
      ∷ (not is_local, errno.AddrNotAvail)
      ∷ (not (port == 0) && not (is_port_free ip port (others name sockets)), errno.AddrInUse)
      ∷ ((port == 0) && is_none (automatic_port ip (others name sockets)), errno.AddrNotAvail)
      ∷ [])
      (socket_named name sockets)

  -- `udp connect`, with the source that output would choose, or why it would choose none
  abbrev pub connect_refusals : List ℕ → ℕ → Result Ip4 Errno → List (SocketOf N) → Conditions
  connect_refusals name port source sockets =
      of_open
      (λ s.
      (is_some s.peer, errno.IsConn)
      ∷ (is_bad source, errno.Inval)
      ∷ (port == 0, errno.AddrNotAvail)
      ∷ (is_err source, errno.NetUnreach)
      ∷ (is_none (port_at (option_or s.ip (result_ok source)) s sockets), errno.AddrNotAvail)
      ∷ [])
      (socket_named name sockets)

  -- `udp send`, before output's own: the destination where one is given, and whether it may not be sent to
  abbrev pub send_refusals : List ℕ → Option (Ip4 × ℕ) → Bool → List (SocketOf N) → Conditions
  send_refusals name to is_bad sockets =
      of_open
      (λ s.
      (s.refused, errno.ConnRefused)
      ∷ (is_none to && is_none s.peer, errno.DestAddrReq)
      ∷ (is_some to && is_some s.peer, errno.IsConn)
      ∷ (is_some to && is_bad, errno.Inval)
      ∷ (option_map_or (λ (at : Ip4 × ℕ). at.1 == 0) to false, errno.AddrNotAvail)
      ∷ (is_none (port_at s.ip s sockets), errno.AddrNotAvail)
      ∷ [])
      (socket_named name sockets)

  -- `udp recv`
  abbrev pub recv_refusals : List ℕ → List (SocketOf N) → Conditions
  recv_refusals name sockets =
      of_open (λ s. (s.refused, errno.ConnRefused) ∷ (is_none (slice_get s.queue 0), errno.Again) ∷ []) (socket_named name sockets)

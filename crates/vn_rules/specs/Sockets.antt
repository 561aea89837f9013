-- The open UDP sockets of a stack, in order of opening (udp(4)).
use Rattle.std.specs.Prelude.{ℕ, Bool, true, false, not, ◌==◌, ◌&&◌, nat_le, List, [], ◌∷◌, ◌++◌, length, drop, map, Option, Some, None, slice_get, if◌then◌else◌}
use Rattle.std.specs.List.{list_any, filter, find, position, slice_set}
use Rattle.std.specs.Option.{option_map, option_map_or, option_and_then, option_or}
use Rattle.std.specs.Str.{bytes_eq}
use Rattle.vn_types.specs.declared.address.Ip4.{Ip4}
use Rattle.vn_types.specs.declared.interface.IfOf.{IfOf}
use Rattle.vn_types.specs.Interfaces.{if_same}
use Rattle.vn_rules.specs.declared.socket.GramOf.{GramOf}
use Rattle.vn_rules.specs.declared.socket.Peer.{Peer}
use Rattle.vn_rules.specs.declared.socket.SocketOf.{SocketOf}
use Rattle.vn_rules.specs.declared.socket.TheConstants.{RECEIVED_MAX}
use Rattle.vn_rules.specs.declared.parts.PartsOf.{PartsOf}
use Rattle.vn_rules.specs.Ports.{is_port, conflicts, automatic_port}

-- whether an address that may be unset is that one
abbrev pub is_ip : Ip4 → Option Ip4 → Bool
is_ip ip None = false
is_ip ip (Some own) = own.0 == ip.0

-- whether a peer is that address and port
abbrev pub is_peer : Ip4 → ℕ → Peer → Bool
is_peer ip port peer = (peer.ip.0 == ip.0) && (peer.port == port)

module _ {N : Type 0} where
  -- ---- by name

  -- whether it is the socket of that name
  abbrev pub is_named : List ℕ → SocketOf N → Bool
  is_named name s = bytes_eq name s.name

  -- the socket of that name
  abbrev pub socket_named : List ℕ → List (SocketOf N) → Option (SocketOf N)
  socket_named name sockets = find (is_named name) sockets

  -- all but the socket of that name
  abbrev pub others : List ℕ → List (SocketOf N) → List (SocketOf N)
  others name sockets = filter (λ s. not (is_named name s)) sockets

  -- the socket of that name is changed
  abbrev pub on_socket : List ℕ → (SocketOf N → SocketOf N) → List (SocketOf N) → List (SocketOf N)
  on_socket name f sockets = map (λ s. if is_named name s then f s else s) sockets

  -- ---- open, bind, connect, close

  -- a socket as it is opened
  abbrev pub new_socket : List ℕ → SocketOf N
  new_socket name =
      record { name = name; ip = None; port = None; peer = None; ttl = None; refused = false; queue = [] }

  -- one more, the last
  abbrev pub after_open : List ℕ → List (SocketOf N) → List (SocketOf N)
  after_open name sockets = sockets ++ new_socket name ∷ []

  -- the port that is asked for, or a free one where it is 0
  abbrev pub port_asked : Option Ip4 → ℕ → List (SocketOf N) → Option ℕ
  port_asked ip port others = if port == 0 then automatic_port ip others else Some port

  -- it has the address, or none, and the port
  abbrev pub after_bind : List ℕ → Option Ip4 → ℕ → List (SocketOf N) → List (SocketOf N)
  after_bind name ip port sockets =
      on_socket name (λ s. record s { ip = ip; port = port_asked ip port (others name sockets) }) sockets

  -- its port, or a free one at the address
  abbrev pub port_at : Option Ip4 → SocketOf N → List (SocketOf N) → Option ℕ
  port_at ip s sockets = option_or s.port (automatic_port ip (others s.name sockets))

  -- it has the peer, keeps its address and port, and else has the source and a free port
  abbrev pub connected : Ip4 → ℕ → Ip4 → List (SocketOf N) → SocketOf N → SocketOf N
  connected ip port source sockets s =
      let own = option_or s.ip (Some source) in
      record s { ip = own; port = port_at own s sockets; peer = Some (record { ip = ip; port = port }) }

  -- what it sends goes to that address and port, and what it hears comes from there
  abbrev pub after_connect : List ℕ → Ip4 → ℕ → Ip4 → List (SocketOf N) → List (SocketOf N)
  after_connect name ip port source sockets =
      on_socket name (connected ip port source sockets) sockets

  -- with that time to live
  abbrev pub with_ttl : List ℕ → ℕ → List (SocketOf N) → List (SocketOf N)
  with_ttl name ttl sockets = on_socket name (λ s. record s { ttl = Some ttl }) sockets

  -- without it
  abbrev pub after_close : List ℕ → List (SocketOf N) → List (SocketOf N)
  after_close name sockets = others name sockets

  -- ---- send and receive

  -- a datagram went out from the port: a socket without one has it from now on, with its address unset
  abbrev pub after_sent : List ℕ → ℕ → List (SocketOf N) → List (SocketOf N)
  after_sent name port sockets =
      on_socket name (λ s. record s { port = option_or s.port (Some port) }) sockets

  -- no error is pending
  abbrev pub cleared : List ℕ → List (SocketOf N) → List (SocketOf N)
  cleared name sockets = on_socket name (λ s. record s { refused = false }) sockets

  -- the datagram that was queued first
  abbrev pub first_gram : List ℕ → List (SocketOf N) → Option (GramOf N)
  first_gram name sockets = option_and_then (λ (s : SocketOf N). slice_get s.queue 0) (socket_named name sockets)

  -- without it
  abbrev pub after_recv : List ℕ → List (SocketOf N) → List (SocketOf N)
  after_recv name sockets = on_socket name (λ s. record s { queue = drop 1 s.queue }) sockets

  -- where a datagram goes: to the address and port that are given, or else to the peer
  abbrev pub destination : Option (Ip4 × ℕ) → SocketOf N → Option (Ip4 × ℕ)
  destination to s = option_or to (option_map (λ (peer : Peer). (peer.ip, peer.port)) s.peer)

  -- ---- datagrams and errors that come

  -- whether a socket hears a source: a connected one hears its peer alone
  abbrev pub hears : Ip4 → ℕ → SocketOf N → Bool
  hears src sport s = option_map_or (is_peer src sport) s.peer true

  -- whether a datagram is for the socket: its port is the destination's, its address too or unset
  abbrev pub qualifies : Ip4 → ℕ → Ip4 → ℕ → SocketOf N → Bool
  qualifies dst dport src sport s = conflicts (Some dst) dport s && hears src sport s

  -- the place of the socket that a datagram is for
  abbrev pub socket_for : Ip4 → ℕ → Ip4 → ℕ → List (SocketOf N) → Option ℕ
  socket_for dst dport src sport sockets = position (qualifies dst dport src sport) sockets

  -- whether its queue has room for no more
  abbrev pub is_queue_full : SocketOf N → Bool
  is_queue_full s = nat_le RECEIVED_MAX (length s.queue)

  -- one datagram more, where there is room
  abbrev pub queued : GramOf N → SocketOf N → SocketOf N
  queued g s = if is_queue_full s then s else record s { queue = s.queue ++ g ∷ [] }

  -- whether the socket at a place has no room
  abbrev pub is_full_at : ℕ → List (SocketOf N) → Bool
  is_full_at place sockets = option_map_or is_queue_full (slice_get sockets place) false

  -- the socket at a place has the datagram
  abbrev pub with_gram : ℕ → GramOf N → List (SocketOf N) → List (SocketOf N)
  with_gram place g sockets =
      option_map_or (λ s. slice_set sockets place (queued g s)) (slice_get sockets place) sockets

  -- whether the socket is the connected one from which a datagram between these addresses and ports went
  abbrev pub has_sent : Ip4 → ℕ → Ip4 → ℕ → SocketOf N → Bool
  has_sent src sport dst dport s =
      is_ip src s.ip && is_port sport s.port && option_map_or (is_peer dst dport) s.peer false

  -- whether there is one
  abbrev pub has_sender : Ip4 → ℕ → Ip4 → ℕ → List (SocketOf N) → Bool
  has_sender src sport dst dport sockets = list_any (has_sent src sport dst dport) sockets

  -- the port that it sent to is unreachable: its error is pending
  abbrev pub refused_by : Ip4 → ℕ → Ip4 → ℕ → List (SocketOf N) → List (SocketOf N)
  refused_by src sport dst dport sockets =
      map (λ s. if has_sent src sport dst dport s then record s { refused = true } else s) sockets

  -- ---- what goes with an address or an interface

  -- a socket with that local address loses address, port and peer; its queue and its pending error stay
  abbrev pub unbound : Ip4 → SocketOf N → SocketOf N
  unbound ip s =
      if is_ip ip s.ip then record s { ip = None; port = None; peer = None }
      else s

  -- each socket so
  unfoldable pub unbound_from : Ip4 → PartsOf N → PartsOf N
  unbound_from ip p = record p { sockets = map (unbound ip) p.sockets }

module _ {N : Type 0} (same : N → N → Bool) where
  -- a socket without the datagrams that came by the interface
  abbrev pub unheard : IfOf N → SocketOf N → SocketOf N
  unheard via s =
      record s { queue = filter (λ (g : GramOf N). not (if_same same g.via via)) s.queue }

  -- each socket so
  unfoldable pub without_grams_by : IfOf N → PartsOf N → PartsOf N
  without_grams_by via p = record p { sockets = map (unheard via) p.sockets }

-- Sockets under other names of halves: what is found, refused and changed goes through a renaming.
use Rattle.std.proofs.Common.{◌≡◌, ℕ, Bool, true, false, cond, not, List, [], ◌∷◌, ◌++◌, map, drop, Option, Some, None, refl, sym, ap, ◌∙◌}
use Rattle.std.specs.Prelude.{Result, nat_le, is_some, is_none, slice_get, ◌==◌, ◌&&◌}
use Rattle.std.specs.Option.{option_map, option_and_then, option_map_or, option_or}
use Rattle.std.specs.Result.{result_ok, is_err}
use Rattle.std.proofs.lemmas.List.{map-append, length-map}
use Rattle.std.proofs.lemmas.Option.{slice_get-map}
use Rattle.vn_types.specs.declared.address.Ip4.{Ip4}
use Rattle.vn_types.specs.declared.errno.Errno.{Errno}
use Rattle.vn_types.specs.declared.errno.Errno.TheVariants as errno
use Rattle.vn_types.proofs.ListMaps.{filter_map_same, any_map_same, find_map_same}
use Rattle.vn_rules.specs.declared.socket.GramOf.{GramOf}
use Rattle.vn_rules.specs.declared.socket.SocketOf.{SocketOf}
use Rattle.vn_rules.specs.declared.socket.TheConstants.{RECEIVED_MAX}
use Rattle.vn_rules.specs.Ports.{first_port, conflicts, is_port_free, automatic_port}
use Rattle.vn_rules.specs.Renamed.{as_gram, as_socket}
use Rattle.vn_rules.specs.Sockets.{is_named, socket_named, others, on_socket, new_socket, after_open, port_asked, after_bind, port_at, connected, after_connect, with_ttl, after_close, after_sent, cleared, first_gram, after_recv, qualifies, socket_for, is_queue_full, queued, is_full_at, with_gram, has_sent, has_sender, refused_by}
use Rattle.vn_rules.specs.SocketRefusals.{Conditions, open_refusals, of_open, closed_refusals, bind_refusals, is_bad, connect_refusals, send_refusals, recv_refusals}
use Rattle.vn_rules.proofs.ListEdits.{position_map_same, edit_map_same, option_map_or_same, edit_at_map_same}

module _ {N M : Type 0} (r : N → M) where
  abbrev renames : List (SocketOf N) → List (SocketOf M)
  renames sockets = map (as_socket r) sockets

  pub socket_named-renamed : (name : List ℕ) (sockets : List (SocketOf N)) → socket_named name (renames sockets) ≡ option_map (as_socket r) (socket_named name sockets)
  socket_named-renamed name sockets = find_map_same (as_socket r) (is_named name) (is_named name) (λ s. refl) sockets

  others-renamed : (name : List ℕ) (sockets : List (SocketOf N)) → others name (renames sockets) ≡ renames (others name sockets)
  others-renamed name sockets = filter_map_same (as_socket r) (λ s. not (is_named name s)) (λ s. not (is_named name s)) (λ s. refl) sockets

  module _ (name : List ℕ) (f : SocketOf N → SocketOf N) (g : SocketOf M → SocketOf M) (same : (s : SocketOf N) → g (as_socket r s) ≡ as_socket r (f s)) where
    on_socket-renamed : (sockets : List (SocketOf N)) → on_socket name g (renames sockets) ≡ renames (on_socket name f sockets)
    on_socket-renamed sockets = edit_map_same (as_socket r) (is_named name) (is_named name) (λ s. refl) f g same sockets

  -- ---- ports

  pub is_port_free-renamed : (ip : Option Ip4) (port : ℕ) (sockets : List (SocketOf N)) → is_port_free ip port (renames sockets) ≡ is_port_free ip port sockets
  is_port_free-renamed ip port sockets = ap not (any_map_same (as_socket r) (conflicts ip port) (conflicts ip port) (λ s. refl) sockets)

  pub automatic_port-renamed : (ip : Option Ip4) (sockets : List (SocketOf N)) → automatic_port ip (renames sockets) ≡ automatic_port ip sockets
  automatic_port-renamed ip sockets = λ i. first_port 16384 49152 (λ port. is_port_free-renamed ip port sockets i)

  free-renamed : (name : List ℕ) (ip : Option Ip4) (port : ℕ) (sockets : List (SocketOf N)) → is_port_free ip port (others name (renames sockets)) ≡ is_port_free ip port (others name sockets)
  free-renamed name ip port sockets = ap (is_port_free ip port) (others-renamed name sockets) ∙ is_port_free-renamed ip port (others name sockets)

  automatic-renamed : (name : List ℕ) (ip : Option Ip4) (sockets : List (SocketOf N)) → automatic_port ip (others name (renames sockets)) ≡ automatic_port ip (others name sockets)
  automatic-renamed name ip sockets = ap (automatic_port ip) (others-renamed name sockets) ∙ automatic_port-renamed ip (others name sockets)

  pub port_at-renamed : (ip : Option Ip4) (s : SocketOf N) (sockets : List (SocketOf N)) → port_at ip (as_socket r s) (renames sockets) ≡ port_at ip s sockets
  port_at-renamed ip s sockets = ap (option_or s.port) (automatic-renamed s.name ip sockets)

  -- ---- what is left

  pub after_open-renamed : (name : List ℕ) (sockets : List (SocketOf N)) → after_open name (renames sockets) ≡ renames (after_open name sockets)
  after_open-renamed name sockets = sym (map-append (as_socket r) sockets (new_socket name ∷ []))

  pub after_bind-renamed : (name : List ℕ) (ip : Option Ip4) (port : ℕ) (sockets : List (SocketOf N)) → after_bind name ip port (renames sockets) ≡ renames (after_bind name ip port sockets)
  after_bind-renamed name ip port sockets =
      on_socket-renamed name (λ s. record s { ip = ip; port = port_asked ip port (others name sockets) }) _
      (λ s i. record (as_socket r s) { ip = ip; port = cond (port == 0) (automatic-renamed name ip sockets i) (Some port) }) sockets

  pub after_connect-renamed : (name : List ℕ) (ip : Ip4) (port : ℕ) (source : Ip4) (sockets : List (SocketOf N)) → after_connect name ip port source (renames sockets) ≡ renames (after_connect name ip port source sockets)
  after_connect-renamed name ip port source sockets =
      on_socket-renamed name (connected ip port source sockets) (connected ip port source (renames sockets))
      (λ s i. record (as_socket r (connected ip port source sockets s)) { port = port_at-renamed (option_or s.ip (Some source)) s sockets i }) sockets

  pub with_ttl-renamed : (name : List ℕ) (ttl : ℕ) (sockets : List (SocketOf N)) → with_ttl name ttl (renames sockets) ≡ renames (with_ttl name ttl sockets)
  with_ttl-renamed name ttl sockets = on_socket-renamed name _ _ (λ s. refl) sockets

  pub after_close-renamed : (name : List ℕ) (sockets : List (SocketOf N)) → after_close name (renames sockets) ≡ renames (after_close name sockets)
  after_close-renamed name sockets = others-renamed name sockets

  pub after_sent-renamed : (name : List ℕ) (port : ℕ) (sockets : List (SocketOf N)) → after_sent name port (renames sockets) ≡ renames (after_sent name port sockets)
  after_sent-renamed name port sockets = on_socket-renamed name _ _ (λ s. refl) sockets

  pub cleared-renamed : (name : List ℕ) (sockets : List (SocketOf N)) → cleared name (renames sockets) ≡ renames (cleared name sockets)
  cleared-renamed name sockets = on_socket-renamed name _ _ (λ s. refl) sockets

  pub first_gram-renamed : (name : List ℕ) (sockets : List (SocketOf N)) → first_gram name (renames sockets) ≡ option_map (as_gram r) (first_gram name sockets)
  first_gram-renamed name sockets = ap (option_and_then (λ (s : SocketOf M). slice_get s.queue 0)) (socket_named-renamed name sockets) ∙ by (socket_named name sockets)
    where
      by : (o : Option (SocketOf N)) → option_and_then (λ (s : SocketOf M). slice_get s.queue 0) (option_map (as_socket r) o) ≡ option_map (as_gram r) (option_and_then (λ (s : SocketOf N). slice_get s.queue 0) o)
      by None = refl
      by (Some s) = slice_get-map (as_gram r) s.queue 0

  pub after_recv-renamed : (name : List ℕ) (sockets : List (SocketOf N)) → after_recv name (renames sockets) ≡ renames (after_recv name sockets)
  after_recv-renamed name sockets = on_socket-renamed name _ _ (λ s i. record (as_socket r s) { queue = rest s.queue i }) sockets
    where
      rest : (gs : List (GramOf N)) → drop 1 (map (as_gram r) gs) ≡ map (as_gram r) (drop 1 gs)
      rest [] = refl
      rest (g ∷ gs) = refl

  -- ---- datagrams and errors that come

  pub socket_for-renamed : (dst : Ip4) (dport : ℕ) (src : Ip4) (sport : ℕ) (sockets : List (SocketOf N)) → socket_for dst dport src sport (renames sockets) ≡ socket_for dst dport src sport sockets
  socket_for-renamed dst dport src sport sockets = position_map_same (as_socket r) (qualifies dst dport src sport) (qualifies dst dport src sport) (λ s. refl) sockets

  pub is_queue_full-renamed : (s : SocketOf N) → is_queue_full (as_socket r s) ≡ is_queue_full s
  is_queue_full-renamed s = ap (nat_le RECEIVED_MAX) (length-map s.queue (as_gram r))

  pub is_full_at-renamed : (place : ℕ) (sockets : List (SocketOf N)) → is_full_at place (renames sockets) ≡ is_full_at place sockets
  is_full_at-renamed place sockets =
      ap (λ o. option_map_or is_queue_full o false) (slice_get-map (as_socket r) sockets place) ∙ option_map_or_same (as_socket r) is_queue_full is_queue_full is_queue_full-renamed false (slice_get sockets place)

  queued-renamed : (g : GramOf N) (s : SocketOf N) → queued (as_gram r g) (as_socket r s) ≡ as_socket r (queued g s)
  queued-renamed g s = rw (is_queue_full-renamed s) (by (is_queue_full s))
    where
      by : (b : Bool) → cond b (as_socket r s) (record (as_socket r s) { queue = map (as_gram r) s.queue ++ as_gram r g ∷ [] }) ≡ as_socket r (cond b s (record s { queue = s.queue ++ g ∷ [] }))
      by true = refl
      by false = λ i. record (as_socket r s) { queue = sym (map-append (as_gram r) s.queue (g ∷ [])) i }

  pub with_gram-renamed : (place : ℕ) (g : GramOf N) (sockets : List (SocketOf N)) → with_gram place (as_gram r g) (renames sockets) ≡ renames (with_gram place g sockets)
  with_gram-renamed place g sockets = edit_at_map_same (as_socket r) (queued g) (queued (as_gram r g)) (queued-renamed g) place sockets

  pub has_sender-renamed : (src : Ip4) (sport : ℕ) (dst : Ip4) (dport : ℕ) (sockets : List (SocketOf N)) → has_sender src sport dst dport (renames sockets) ≡ has_sender src sport dst dport sockets
  has_sender-renamed src sport dst dport sockets = any_map_same (as_socket r) (has_sent src sport dst dport) (has_sent src sport dst dport) (λ s. refl) sockets

  pub refused_by-renamed : (src : Ip4) (sport : ℕ) (dst : Ip4) (dport : ℕ) (sockets : List (SocketOf N)) → refused_by src sport dst dport (renames sockets) ≡ renames (refused_by src sport dst dport sockets)
  refused_by-renamed src sport dst dport sockets =
      edit_map_same (as_socket r) (has_sent src sport dst dport) (has_sent src sport dst dport) (λ s. refl) (λ s. record s { refused = true }) (λ s. record s { refused = true }) (λ s. refl) sockets

  -- ---- refusals

  module _ (f : SocketOf N → Conditions) (g : SocketOf M → Conditions) (same : (s : SocketOf N) → g (as_socket r s) ≡ f s) where
    of_open-renamed : (name : List ℕ) (sockets : List (SocketOf N)) → of_open g (socket_named name (renames sockets)) ≡ of_open f (socket_named name sockets)
    of_open-renamed name sockets = ap (of_open g) (socket_named-renamed name sockets) ∙ by (socket_named name sockets)
      where
        by : (o : Option (SocketOf N)) → of_open g (option_map (as_socket r) o) ≡ of_open f o
        by None = refl
        by (Some s) = same s

  pub open_refusals-renamed : (name : List ℕ) (sockets : List (SocketOf N)) → open_refusals name (renames sockets) ≡ open_refusals name sockets
  open_refusals-renamed name sockets = ap (λ found. (found, errno.Exist) ∷ []) (ap is_some (socket_named-renamed name sockets) ∙ by (socket_named name sockets))
    where
      by : (o : Option (SocketOf N)) → is_some (option_map (as_socket r) o) ≡ is_some o
      by None = refl
      by (Some s) = refl

  pub closed_refusals-renamed : (name : List ℕ) (sockets : List (SocketOf N)) → closed_refusals name (renames sockets) ≡ closed_refusals name sockets
  closed_refusals-renamed name sockets = of_open-renamed _ _ (λ s. refl) name sockets

  pub bind_refusals-renamed : (name : List ℕ) (ip : Option Ip4) (port : ℕ) (is_local : Bool) (sockets : List (SocketOf N)) → bind_refusals name ip port is_local (renames sockets) ≡ bind_refusals name ip port is_local sockets
  bind_refusals-renamed name ip port is_local sockets =
      of_open-renamed _ _
      (λ s i.
      (is_some s.port, errno.Inval)
      ∷ (not is_local, errno.AddrNotAvail)
      ∷ (not (port == 0) && not (free-renamed name ip port sockets i), errno.AddrInUse)
      ∷ ((port == 0) && is_none (automatic-renamed name ip sockets i), errno.AddrNotAvail)
      ∷ [])
      name sockets

  pub connect_refusals-renamed : (name : List ℕ) (port : ℕ) (source : Result Ip4 Errno) (sockets : List (SocketOf N)) → connect_refusals name port source (renames sockets) ≡ connect_refusals name port source sockets
  connect_refusals-renamed name port source sockets =
      of_open-renamed _ _
      (λ s i.
      (is_some s.peer, errno.IsConn)
      ∷ (is_bad source, errno.Inval)
      ∷ (port == 0, errno.AddrNotAvail)
      ∷ (is_err source, errno.NetUnreach)
      ∷ (is_none (port_at-renamed (option_or s.ip (result_ok source)) s sockets i), errno.AddrNotAvail)
      ∷ [])
      name sockets

  pub send_refusals-renamed : (name : List ℕ) (to : Option (Ip4 × ℕ)) (is_bad : Bool) (sockets : List (SocketOf N)) → send_refusals name to is_bad (renames sockets) ≡ send_refusals name to is_bad sockets
  send_refusals-renamed name to is_bad sockets =
      of_open-renamed _ _
      (λ s i.
      (s.refused, errno.ConnRefused)
      ∷ (is_none to && is_none s.peer, errno.DestAddrReq)
      ∷ (is_some to && is_some s.peer, errno.IsConn)
      ∷ (is_some to && is_bad, errno.Inval)
      ∷ (option_map_or (λ (at : Ip4 × ℕ). at.1 == 0) to false, errno.AddrNotAvail)
      ∷ (is_none (port_at-renamed s.ip s sockets i), errno.AddrNotAvail)
      ∷ [])
      name sockets

  pub recv_refusals-renamed : (name : List ℕ) (sockets : List (SocketOf N)) → recv_refusals name (renames sockets) ≡ recv_refusals name sockets
  recv_refusals-renamed name sockets =
      of_open-renamed _ _
      (λ s. ap (λ none. (s.refused, errno.ConnRefused) ∷ (none, errno.Again) ∷ []) (by s.queue))
      name sockets
    where
      by : (gs : List (GramOf N)) → is_none (slice_get (map (as_gram r) gs) 0) ≡ is_none (slice_get gs 0)
      by [] = refl
      by (g ∷ gs) = refl

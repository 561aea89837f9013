-- How much each command near a stack adds to its counters, and how many timers it arms.
use Rattle.std.proofs.Common.{◌≡◌, ◌≤◌, ℕ, Bool, true, false, cond, List, [], ◌∷◌, length, Option, Some, None, unwrap_or, refl, subst, arith}
use Rattle.std.specs.Prelude.{filter}
use Rattle.std.specs.Option.{option_map_or}
use Rattle.vn_types.specs.declared.address.Ip4.{Ip4}
use Rattle.vn_types.specs.declared.address.Mac.{Mac}
use Rattle.vn_types.specs.declared.interface.IfOf.{IfOf}
use Rattle.vn_types.specs.declared.interface.IfOf.TheVariants.{Lo0, Half}
use Rattle.vn_rules.specs.declared.address.AddrOf.{AddrOf}
use Rattle.vn_rules.specs.declared.parts.PartsOf.{PartsOf}
use Rattle.vn_rules.specs.declared.socket.SocketOf.{SocketOf}
use Rattle.vn_rules.specs.declared.arp.ArpEntryOf.{ArpEntryOf}
use Rattle.vn_rules.specs.declared.arp.TheConstants.{HELD_MAX}
use Rattle.vn_rules.specs.Addresses.{is_on}
use Rattle.vn_rules.specs.Arp.{entry_of, held_for}
use Rattle.vn_rules.specs.Orders.{are_arp_entries}
use Rattle.vn_rules.specs.LinkCommands.{set_up}
use Rattle.vn_rules.specs.Pings.{awaiting}
use Rattle.vn_rules.specs.Resolution.{after_arp_set, after_static}
use Rattle.vn_rules.specs.Routes.{gateway_half}
use Rattle.vn_rules.specs.Rules.{Common, Rule}
use Rattle.vn_rules.specs.Scenes.{SceneOf, link_of}
use Rattle.vn_rules.specs.Sockets.{after_recv, after_sent, cleared, destination, socket_named}
use Rattle.vn_rules.proofs.LinkLaws.{set_up-parts}
use Rattle.vn_packets.specs.declared.outgoing.Outgoing.{Outgoing}
use Rattle.vn_packets.specs.AddressLinks.{announced_on, all_announced, come_up_on, up_rule}
use Rattle.vn_packets.specs.ArpCommands.{released_on, arp_set_rule}
use Rattle.vn_packets.specs.ArpPackets.{announced}
use Rattle.vn_packets.specs.Drops.{on_parts}
use Rattle.vn_packets.specs.Growth.{Grows}
use Rattle.vn_packets.specs.Output.{output_left, output_sent}
use Rattle.vn_packets.specs.PingCommand.{request_to, pinged, ping_rule}
use Rattle.vn_packets.specs.UdpCommands.{nowhere, on_sockets, is_refused, answers_error, unless_refused, recv_rule, source_to, connected_from, connect_rule, sending_port, sent_from, sending, send_rule}
use Rattle.vn_packets.proofs.ArpPacketGrowth.{announced-grows, entry-few, sent_datagrams-grows}
use Rattle.vn_packets.proofs.PacketGrowth.{output_left-grows}
use Rattle.vn_packets.proofs.SceneGrowth.{grows-refl, grows-then, grows-more, grows-armed, grows-either}

module _ {N : Type 0} where
  -- what commands leave that send nothing
  pub still-grows : (p q : PartsOf N) → q.drops ≡ p.drops → q.addresses ≡ p.addresses → q.timers.armed ≡ p.timers.armed → Grows 0 0 p q
  still-grows p q drops addresses armed = grows-armed {a = 0} p q drops addresses (omega (arith, armed))

  on_sockets-grows : (f : List (SocketOf N) → List (SocketOf N)) (s : SceneOf N) → Grows 0 0 s.parts (on_sockets f s).parts
  on_sockets-grows f s = still-grows s.parts (on_sockets f s).parts refl refl refl

  unless_refused-grows : {k a : ℕ} (name : List ℕ) (s : SceneOf N) (rule : Rule (SceneOf N)) → Grows k a s.parts rule.otherwise.left.parts
      → Grows k a s.parts (unless_refused name s rule).otherwise.left.parts
  unless_refused-grows {k} {a} name s rule grows = by (is_refused name s.parts.sockets)
    where
      by : (b : Bool) → Grows k a s.parts (cond b (answers_error name s) rule).otherwise.left.parts
      by true = grows-more s.parts (on_sockets (cleared name) s).parts (omega arith) (omega arith) (on_sockets-grows (cleared name) s)
      by false = grows

  pub recv_rule-grows : (name : List ℕ) (s : SceneOf N) → Grows 0 0 s.parts (recv_rule name s).otherwise.left.parts
  unfolding recv_rule
  recv_rule-grows name s = unless_refused-grows name s _ (on_sockets-grows (after_recv name) s)

module _ {N : Type 0} (same : N → N → Bool) where
  -- ---- addresses that are announced

  pub announced_on-grows : (on : Option (IfOf N)) (ip : Ip4) (s : SceneOf N) → Grows 1 0 s.parts (announced_on same on ip s).parts
  unfolding announced_on
  announced_on-grows None ip s = grows-more s.parts s.parts (omega arith) (omega arith) (grows-refl s.parts)
  announced_on-grows (Some Lo0) ip s = grows-more s.parts s.parts (omega arith) (omega arith) (grows-refl s.parts)
  announced_on-grows (Some (Half h)) ip s =
      grows-either s (announced same h ip s) s (link_of same h s).up (announced-grows same h ip s) (grows-more s.parts s.parts (omega arith) (omega arith) (grows-refl s.parts))

  all_announced-grows : (h : N) (addresses : List (AddrOf N)) (s : SceneOf N) → Grows (length addresses) 0 s.parts (all_announced same h addresses s).parts
  unfolding all_announced
  all_announced-grows h [] s = grows-refl s.parts
  all_announced-grows h (a ∷ addresses) s =
      let first : SceneOf N = announced same h a.ip s in
      grows-more s.parts (all_announced same h addresses first).parts (omega arith) (omega arith)
      (grows-then s.parts first.parts (all_announced same h addresses first).parts (announced-grows same h a.ip s) (all_announced-grows h addresses first))

  -- how many addresses an interface has, where it is a half
  abbrev pub addresses_of : Option (IfOf N) → List (AddrOf N) → ℕ
  addresses_of None addresses = 0
  addresses_of (Some Lo0) addresses = 0
  addresses_of (Some (Half h)) addresses = length (filter (is_on same (Half h)) addresses)

  come_up_on-grows : (on : Option (IfOf N)) (before s : SceneOf N) → Grows (addresses_of on s.parts.addresses) 0 s.parts (come_up_on same on before s).parts
  unfolding come_up_on
  come_up_on-grows None before s = grows-refl s.parts
  come_up_on-grows (Some Lo0) before s = grows-refl s.parts
  come_up_on-grows (Some (Half h)) before s =
      let addresses : List (AddrOf N) = filter (is_on same (Half h)) s.parts.addresses in
      grows-either s s (all_announced same h addresses s) (link_of same h before).up (grows-more s.parts s.parts (omega arith) (omega arith) (grows-refl s.parts)) (all_announced-grows h addresses s)

  pub up_rule-grows : (on : Option (IfOf N)) (s : SceneOf N) → Grows (addresses_of on s.parts.addresses) 0 s.parts (up_rule same on s).otherwise.left.parts
  unfolding up_rule
  up_rule-grows on s =
      let risen : SceneOf N = set_up same true on s in
      subst (λ (p : PartsOf N). Grows (addresses_of on p.addresses) 0 p (come_up_on same on s risen).parts) (set_up-parts same true on s) (come_up_on-grows on s risen)

  -- ---- arp -s

  held-few : (half : N) (ip : Ip4) (p : PartsOf N) → are_arp_entries p.arp ≡ true → length (held_for same half ip p.arp) ≤ HELD_MAX
  held-few half ip p right = by (entry_of same half ip p.arp) refl
    where
      by : (o : Option (ArpEntryOf N)) → entry_of same half ip p.arp ≡ o → length (option_map_or (λ (e : ArpEntryOf N). e.held) o []) ≤ HELD_MAX
      by None is = omega arith
      by (Some e) is = entry-few same half ip p right e is

  set-grows : (ip : Ip4) (mac : Mac) (p : PartsOf N) → Grows 0 0 p (after_arp_set same ip mac p)
  unfolding after_arp_set after_static
  set-grows ip mac p = by (gateway_half ip p.routes)
    where
      by : (o : Option N) → Grows 0 0 p (option_map_or (λ half. after_static same half ip mac p) o p)
      by None = grows-refl p
      by (Some half) = still-grows p (after_static same half ip mac p) refl refl refl

  released_on-grows : (o : Option N) (ip : Ip4) (mac : Mac) (before s : SceneOf N) → are_arp_entries before.parts.arp ≡ true → Grows 16 0 s.parts (released_on same o ip mac before s).parts
  released_on-grows None ip mac before s right = grows-more s.parts s.parts (omega arith) (omega arith) (grows-refl s.parts)
  released_on-grows (Some half) ip mac before s right =
      let few = held-few half ip before.parts right in
      grows-more s.parts (released_on same (Some half) ip mac before s).parts (omega (arith, few)) (omega arith) (sent_datagrams-grows same half mac (held_for same half ip before.parts.arp) s)

  pub arp_set_rule-grows : (ip : Ip4) (mac : Mac) (s : SceneOf N) → are_arp_entries s.parts.arp ≡ true → Grows 16 0 s.parts (arp_set_rule same ip mac s).otherwise.left.parts
  unfolding arp_set_rule
  arp_set_rule-grows ip mac s right =
      let set : SceneOf N = on_parts (after_arp_set same ip mac) s in
      grows-then s.parts set.parts (released_on same (gateway_half ip s.parts.routes) ip mac s set).parts (set-grows ip mac s.parts) (released_on-grows (gateway_half ip s.parts.routes) ip mac s set right)

  -- ---- what goes out

  pub ping_rule-grows : (common : Common) (ttl : Option ℕ) (ip : Ip4) (s : SceneOf N) → Grows 2 2 s.parts (ping_rule same common ttl ip s).otherwise.left.parts
  unfolding ping_rule pinged awaiting
  ping_rule-grows common ttl ip s =
      let send : Outgoing = request_to ip ttl s.parts in
      let left : SceneOf N = output_left same common send s in
      let how = output_sent same send s.parts in
      grows-then s.parts left.parts (awaiting common.clock how.src ip how.out left.parts) (output_left-grows same common send s)
      (grows-armed {a = 1} left.parts (awaiting common.clock how.src ip how.out left.parts) refl refl (omega arith))

  pub connect_rule-grows : (name : List ℕ) (ip : Ip4) (port : ℕ) (s : SceneOf N) → Grows 0 0 s.parts (connect_rule same name ip port s).otherwise.left.parts
  unfolding connect_rule
  connect_rule-grows name ip port s = on_sockets-grows (connected_from name ip port (source_to same ip s.parts)) s

  sending-grows : (common : Common) (name octets : List ℕ) (to : Option (Ip4 × ℕ)) (o : Option (SocketOf N)) (s : SceneOf N)
      → Grows 2 1 s.parts (sending same common name octets to o s).otherwise.left.parts
  sending-grows common name octets to None s = grows-more s.parts s.parts (omega arith) (omega arith) (grows-refl s.parts)
  sending-grows common name octets to (Some sock) s =
      let port = sending_port sock s in
      let out : Outgoing = sent_from same sock port (unwrap_or (destination to sock) nowhere) octets s.parts in
      let left : SceneOf N = output_left same common out s in
      grows-then s.parts left.parts (on_sockets (after_sent name port) left).parts (output_left-grows same common out s) (on_sockets-grows (after_sent name port) left)

  pub send_rule-grows : (common : Common) (name octets : List ℕ) (to : Option (Ip4 × ℕ)) (s : SceneOf N) → Grows 2 1 s.parts (send_rule same common name octets to s).otherwise.left.parts
  unfolding send_rule
  send_rule-grows common name octets to s = unless_refused-grows name s _ (sending-grows common name octets to (socket_named name s.parts.sockets) s)

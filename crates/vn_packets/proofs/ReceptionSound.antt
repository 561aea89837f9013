-- What comes to a stack leaves its scene sound.
use Rattle.std.proofs.Common.{◌≡◌, ℕ, ◌+◌, Bool, true, false, cond, ◌&&◌, ◌==◌, nat_le, List, [], ◌∷◌, length, Result, Ok, Err, refl, ap, ◌∙◌, arith}
use Rattle.std.specs.Bool.{Decides}
use Rattle.std.proofs.lemmas.Bool.{and_parts, and_from, leb-true, le-leb}
use Rattle.vn_types.specs.declared.interface.IfOf.{IfOf}
use Rattle.vn_types.specs.declared.interface.IfOf.TheVariants.{Lo0, Half}
use Rattle.vn_rules.specs.declared.parts.PartsOf.{PartsOf}
use Rattle.vn_rules.specs.declared.parts.TheConstants.{LOOPBACK_MAX}
use Rattle.vn_rules.specs.declared.ping.PingOf.{PingOf}
use Rattle.vn_rules.specs.Addresses.{is_half, local}
use Rattle.vn_rules.specs.Errors.{icmp_protocol}
use Rattle.vn_rules.specs.Interfaces.{named_ifs, is_among}
use Rattle.vn_rules.specs.Orders.{has_16_bits, keeps_orders}
use Rattle.vn_rules.specs.Pings.{is_timed_by, without_pings, without_ping}
use Rattle.vn_rules.specs.Rules.{Common}
use Rattle.vn_rules.specs.Scenes.{LinkOf, SceneOf, link_of, is_sound_scene}
use Rattle.vn_rules.specs.Sockets.{refused_by}
use Rattle.vn_rules.specs.Soundness.{names_own, binds_locally, sends_locally, times_pings, gave_arms, owns_timers, times_arp, covers_arp, founds_routes, is_sound_parts}
use Rattle.vn_rules.specs.Variables.{is_forwarding}
use Rattle.vn_rules.proofs.PingRemoval.{without_pings-sound}
use Rattle.vn_rules.proofs.SocketQueues.{refused_by-sound}
use Rattle.vn_ip4fmt.specs.declared.head.Ip4Head.{Ip4Head}
use Rattle.vn_icmpfmt.specs.declared.message.IcmpBad.{IcmpBad}
use Rattle.vn_icmpfmt.specs.Grammar.{icmp_of}
use Rattle.vn_icmpfmt.specs.Messages.{Message, echo}
use Rattle.vn_link.specs.declared.ethernet.EthBad.{EthBad}
use Rattle.vn_link.specs.Frames.{EthFrame, eth_of}
use Rattle.vn_packets.specs.declared.tally.Tally.TheVariants as tally
use Rattle.vn_packets.specs.ArpPackets.{arp_received}
use Rattle.vn_packets.specs.Datagrams.{ip4_type, arp_type, broadcast_mac, udp_protocol, message_octets, whole, body_of, header_in}
use Rattle.vn_packets.specs.Drops.{on_parts, lost}
use Rattle.vn_packets.specs.Errors.{ProtocolUnreachable, icmp_answer}
use Rattle.vn_packets.specs.Forwarding.{forwarded}
use Rattle.vn_packets.specs.Icmp.{HeardOf, Meaning, Asks, Replies, Fails, Refuses, Strange, nothing_told, meaning_of, echoed, icmp_meant, icmp_read, icmp_received}
use Rattle.vn_packets.specs.Reception.{mac_eq, is_dropped_at_once, unsupported, delivered_locally, passed_on, dispatched, datagram_received, looped_back, loop_received, frame_taken, accepts_frame, frame_read, frame_received}
use Rattle.vn_packets.specs.Udp.{udp_received}
use Rattle.vn_packets.proofs.SceneSound.{Keeps, keeps-refl, keeps-then, keeps-either, parts-sound, on_parts-keeps, lost-keeps}
use Rattle.vn_packets.proofs.ArpPacketSound.{arp_received-keeps}
use Rattle.vn_packets.proofs.ErrorSound.{answered_back-keeps, errored-keeps, forwarded-keeps}
use Rattle.vn_packets.proofs.UdpSound.{udp_received-keeps}

-- either of two receptions
module _ {N : Type 0} (same : N → N → Bool) where
  pub heard-either : (s : SceneOf N) (a b : HeardOf N) (test : Bool) → Keeps same s a.left → Keeps same s b.left → Keeps same s (cond test a b).left
  heard-either s a b true left right = left
  heard-either s a b false left right = right

module _ {N : Type 0} (same : N → N → Bool) (decides : (a b : N) → Decides (same a b) (a ≡ b)) where
  -- ---- ICMP messages

  ended-ifs : (ping : PingOf N) (p : PartsOf N) → (without_ping ping p).interfaces ≡ p.interfaces
  unfolding without_pings
  ended-ifs ping p = refl

  pub ended-keeps : (ping : PingOf N) (s : SceneOf N) → is_sound_scene same s ≡ true → Keeps same s (on_parts (without_ping ping) s)
  ended-keeps ping s sound =
      on_parts-keeps same (without_ping ping) s (without_pings-sound same (is_timed_by ping.arm) s.parts (parts-sound same s sound)) (ended-ifs ping s.parts) sound

  echoed-keeps : (common : Common) (head : Ip4Head) (m : Message) (s : SceneOf N) → is_sound_scene same s ≡ true → Keeps same s (echoed same common head m s)
  unfolding echoed
  echoed-keeps common head m s sound = answered_back-keeps same decides common (icmp_answer head.dst head.src (message_octets (echo 0 m.id m.seq m.rest))) s sound

  icmp_meant-keeps : (common : Common) (head : Ip4Head) (size : ℕ) (m : Message) (meaning : Meaning N) (s : SceneOf N) → is_sound_scene same s ≡ true
      → Keeps same s (icmp_meant same common head size m meaning s).left
  icmp_meant-keeps common head size m Asks s sound = echoed-keeps common head m s sound
  icmp_meant-keeps common head size m (Replies ping) s sound = ended-keeps ping s sound
  icmp_meant-keeps common head size m (Fails ping) s sound = ended-keeps ping s sound
  icmp_meant-keeps common head size m (Refuses src sport dst dport) s sound =
      on_parts-keeps same (λ p. record p { sockets = refused_by src sport dst dport p.sockets }) s (refused_by-sound same s.parts src sport dst dport (parts-sound same s sound)) refl sound
  icmp_meant-keeps common head size m Strange s sound = lost-keeps same tally.Icmp 1 s sound

  icmp_read-keeps : (common : Common) (head : Ip4Head) (size : ℕ) (read : Result Message IcmpBad) (s : SceneOf N) → is_sound_scene same s ≡ true
      → Keeps same s (icmp_read same common head size read s).left
  icmp_read-keeps common head size (Err bad) s sound = lost-keeps same tally.Icmp 1 s sound
  icmp_read-keeps common head size (Ok m) s sound = icmp_meant-keeps common head size m (meaning_of m head.src s.parts) s sound

  pub icmp_received-keeps : (common : Common) (datagram : List ℕ) (s : SceneOf N) → is_sound_scene same s ≡ true → Keeps same s (icmp_received same common datagram s).left
  unfolding icmp_received
  icmp_received-keeps common datagram s sound = icmp_read-keeps common (header_in datagram) (length (body_of datagram)) (icmp_of (body_of datagram)) s sound

  -- ---- datagrams that came by an interface which stands there

  module _ (common : Common) (via : IfOf N) (s : SceneOf N) (sound : is_sound_scene same s ≡ true) (among : is_among same s.parts.interfaces via ≡ true) where
    delivered_locally-keeps : (datagram : List ℕ) (is_broadcast : Bool) → Keeps same s (delivered_locally same common via datagram is_broadcast s).left
    unfolding delivered_locally
    delivered_locally-keeps datagram is_broadcast =
        heard-either same s (icmp_received same common datagram s)
        (cond ((header_in datagram).proto == udp_protocol) (nothing_told (udp_received same common via datagram is_broadcast s)) (nothing_told (unsupported same common via datagram is_broadcast s)))
        ((header_in datagram).proto == icmp_protocol) (icmp_received-keeps common datagram s sound)
        (heard-either same s (nothing_told (udp_received same common via datagram is_broadcast s)) (nothing_told (unsupported same common via datagram is_broadcast s)) ((header_in datagram).proto == udp_protocol)
        (udp_received-keeps same decides common via datagram is_broadcast s sound among)
        (keeps-then same s (lost tally.Ip 1 s) (unsupported same common via datagram is_broadcast s) (lost-keeps same tally.Ip 1 s sound) (errored-keeps same decides common via ProtocolUnreachable datagram is_broadcast (lost tally.Ip 1 s))))

    passed_on-keeps : (datagram : List ℕ) (is_broadcast : Bool) → Keeps same s (passed_on same common via datagram is_broadcast s)
    unfolding passed_on
    passed_on-keeps datagram is_broadcast =
        keeps-either same s (forwarded same common via datagram is_broadcast s) (lost tally.Ip 1 s) (is_half via && is_forwarding s.parts.variables)
        (forwarded-keeps same decides common via datagram is_broadcast s sound) (lost-keeps same tally.Ip 1 s sound)

    dispatched-keeps : (datagram : List ℕ) (is_broadcast : Bool) → Keeps same s (dispatched same common via datagram is_broadcast s).left
    dispatched-keeps datagram is_broadcast =
        heard-either same s (delivered_locally same common via datagram is_broadcast s) (nothing_told (passed_on same common via datagram is_broadcast s)) (local (header_in datagram).dst s.parts.addresses)
        (delivered_locally-keeps datagram is_broadcast) (passed_on-keeps datagram is_broadcast)

    pub datagram_received-keeps : (octets : List ℕ) (is_broadcast : Bool) → Keeps same s (datagram_received same common via octets is_broadcast s).left
    unfolding datagram_received
    datagram_received-keeps octets is_broadcast =
        heard-either same s (nothing_told (lost tally.Ip 1 s)) (dispatched same common via (whole octets) is_broadcast s) (is_dropped_at_once via octets s.parts)
        (lost-keeps same tally.Ip 1 s sound) (dispatched-keeps (whole octets) is_broadcast)

  -- ---- through lo0

  left : List (List ℕ) → PartsOf N → PartsOf N
  left more p = record p { loopback = more }

  left-sound : (datagram : List ℕ) (more : List (List ℕ)) (p : PartsOf N) → p.loopback ≡ datagram ∷ more → is_sound_parts same p ≡ true → is_sound_parts same (left more p) ≡ true
  unfolding left names_own named_ifs binds_locally sends_locally owns_timers times_pings times_arp covers_arp founds_routes gave_arms keeps_orders
  left-sound datagram more p is sound =
      let all = and_parts _ (keeps_orders p) sound in
      let orders = and_parts _ (has_16_bits p.ident) all.1 in
      let most = and_parts _ (nat_le (length p.loopback) LOOPBACK_MAX) orders.0 in
      let fits = leb-true (length p.loopback) LOOPBACK_MAX most.1 in
      let longer : length p.loopback ≡ length more + 1 = ap length is ∙ omega arith in
      and_from _ _ all.0 (and_from _ _ (and_from _ _ most.0 (le-leb (length more) LOOPBACK_MAX (omega (arith, fits, longer)))) orders.1)

  left-ifs : (more : List (List ℕ)) (p : PartsOf N) → (left more p).interfaces ≡ p.interfaces
  unfolding left
  left-ifs more p = refl

  pub loop_received-keeps : (common : Common) (s : SceneOf N) → is_sound_scene same s ≡ true → is_among same s.parts.interfaces Lo0 ≡ true → Keeps same s (loop_received same common s).left
  unfolding loop_received left
  loop_received-keeps common s sound among = by s.parts.loopback refl
    where
      by : (datagrams : List (List ℕ)) → s.parts.loopback ≡ datagrams → Keeps same s (looped_back same datagrams common s).left
      by [] is = keeps-refl same s sound
      by (datagram ∷ more) is =
          keeps-then same s (on_parts (left more) s) (datagram_received same common Lo0 datagram false (on_parts (left more) s)).left
          (on_parts-keeps same (left more) s (left-sound datagram more s.parts is (parts-sound same s sound)) (left-ifs more s.parts) sound)
          (λ sound_left. datagram_received-keeps common Lo0 (on_parts (left more) s) sound_left among datagram false)

  -- ---- frames to a half that stands there

  module _ (common : Common) (h : N) (s : SceneOf N) (sound : is_sound_scene same s ≡ true) (among : is_among same s.parts.interfaces (Half h) ≡ true) where
    frame_taken-keeps : (frame : EthFrame) → Keeps same s (frame_taken same common h frame s).left
    frame_taken-keeps frame =
        heard-either same s (nothing_told (arp_received same common h frame.payload s))
        (cond (frame.kind == ip4_type) (datagram_received same common (Half h) frame.payload (mac_eq frame.dst broadcast_mac) s) (nothing_told (lost tally.Link 1 s)))
        (frame.kind == arp_type) (arp_received-keeps same decides common h s sound among frame.payload)
        (heard-either same s (datagram_received same common (Half h) frame.payload (mac_eq frame.dst broadcast_mac) s) (nothing_told (lost tally.Link 1 s)) (frame.kind == ip4_type)
        (datagram_received-keeps common (Half h) s sound among frame.payload (mac_eq frame.dst broadcast_mac)) (lost-keeps same tally.Link 1 s sound))

    frame_read-keeps : (l : LinkOf N) (read : Result EthFrame EthBad) → Keeps same s (frame_read same l common h read s).left
    frame_read-keeps l (Err bad) = lost-keeps same tally.Link 1 s sound
    frame_read-keeps l (Ok frame) =
        heard-either same s (frame_taken same common h frame s) (nothing_told (lost tally.Link 1 s)) (accepts_frame l frame) (frame_taken-keeps frame) (lost-keeps same tally.Link 1 s sound)

    pub frame_received-keeps : (octets : List ℕ) → Keeps same s (frame_received same common h octets s).left
    unfolding frame_received
    frame_received-keeps octets = frame_read-keeps (link_of same h s) (eth_of octets)

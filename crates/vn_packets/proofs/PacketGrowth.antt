-- How much what is sent, what comes and what is due adds to the counters and timers of a stack.
use Rattle.std.proofs.Common.{◌≡◌, ℕ, ◌≤◌, Bool, true, false, cond, ◌&&◌, ◌==◌, List, [], ◌∷◌, length, Option, Some, None, Result, Ok, Err, is_some, refl, arith}
use Rattle.std.specs.Option.{option_map}
use Rattle.vn_types.specs.declared.address.Ip4.{Ip4}
use Rattle.vn_types.specs.declared.errno.Errno.{Errno}
use Rattle.vn_types.specs.declared.errno.Errno.TheVariants as errno
use Rattle.vn_types.specs.declared.interface.IfOf.{IfOf}
use Rattle.vn_types.specs.declared.interface.IfOf.TheVariants.{Lo0, Half}
use Rattle.vn_types.specs.Refusals.{first_refusal, unless}
use Rattle.vn_rules.specs.declared.parts.PartsOf.{PartsOf}
use Rattle.vn_rules.specs.declared.ping.PingOf.{PingOf}
use Rattle.vn_rules.specs.declared.socket.GramOf.{GramOf}
use Rattle.vn_rules.specs.declared.timer.TimerOf.TheVariants.{Arp, Ping}
use Rattle.vn_rules.specs.Addresses.{is_half, local}
use Rattle.vn_rules.specs.Errors.{icmp_protocol, may_answer}
use Rattle.vn_rules.specs.Orders.{are_arp_entries}
use Rattle.vn_rules.specs.Pings.{timed_by, without_pings, without_ping}
use Rattle.vn_rules.specs.Rules.{Common}
use Rattle.vn_rules.specs.Scenes.{SceneOf, link_of}
use Rattle.vn_rules.specs.Sockets.{is_full_at, with_gram, refused_by}
use Rattle.vn_rules.specs.Timers.{Timed, next_due}
use Rattle.vn_rules.specs.Variables.{is_forwarding}
use Rattle.vn_ip4fmt.specs.declared.head.Ip4Head.{Ip4Head}
use Rattle.vn_ip4fmt.specs.Checksum.{lowered}
use Rattle.vn_icmpfmt.specs.declared.message.IcmpBad.{IcmpBad}
use Rattle.vn_icmpfmt.specs.Grammar.{icmp_of}
use Rattle.vn_icmpfmt.specs.Messages.{Message, echo}
use Rattle.vn_link.specs.declared.ethernet.EthBad.{EthBad}
use Rattle.vn_link.specs.Frames.{EthFrame, eth_of}
use Rattle.vn_udpfmt.specs.Datagram.{refusal}
use Rattle.vn_packets.specs.declared.outgoing.Outgoing.{Outgoing}
use Rattle.vn_packets.specs.declared.tally.Tally.TheVariants as tally
use Rattle.vn_packets.specs.ArpPackets.{arp_received}
use Rattle.vn_packets.specs.Datagrams.{ip4_type, arp_type, broadcast_mac, udp_protocol, message_octets, whole, body_of, header_in}
use Rattle.vn_packets.specs.Drops.{on_parts, counted, lost}
use Rattle.vn_packets.specs.Errors.{Trouble, ProtocolUnreachable, PortUnreachable, error_about, icmp_answer, sent_or_dropped, answered_back, error_source, errored_from, errored}
use Rattle.vn_packets.specs.Fired.{timed_out, fired_for, fired}
use Rattle.vn_packets.specs.Forwarding.{troubles, way_of, forwarded_by, forwarded}
use Rattle.vn_packets.specs.Growth.{Grows}
use Rattle.vn_packets.specs.Icmp.{HeardOf, Meaning, Asks, Replies, Fails, Refuses, Strange, nothing_told, meaning_of, echoed, icmp_meant, icmp_read, icmp_received}
use Rattle.vn_packets.specs.Output.{WayOf, Nowhere, Looped, By, way_to, identified, looped, output_refusals, sent_along, next_datagram, output_left, output_sent, output}
use Rattle.vn_packets.specs.Reception.{mac_eq, is_dropped_at_once, unsupported, delivered_locally, passed_on, dispatched, datagram_received, looped_back, loop_received, frame_taken, accepts_frame, frame_read, frame_received}
use Rattle.vn_packets.specs.Udp.{gram_from, given, receiver, received_by, udp_received}
use Rattle.vn_packets.proofs.SceneGrowth.{grows-then, grows-more, grows-armed, grows-either, lost-grows}
use Rattle.vn_packets.proofs.ArpPacketGrowth.{carried-grows, arp_received-grows, arp_turned-grows}
use Rattle.vn_packets.proofs.TakenTimers.{without_due}

module _ {N : Type 0} where
  -- nothing at all
  still : {k a : ℕ} (p q : PartsOf N) → q.drops ≡ p.drops → q.addresses ≡ p.addresses → q.timers.armed ≡ p.timers.armed → Grows k a p q
  still p q drops addresses armed = grows-more p q (omega arith) (omega arith) (grows-armed {a = 0} p q drops addresses (omega (arith, armed)))

  heard-grows : {k a : ℕ} (s : SceneOf N) (x y : HeardOf N) (b : Bool) → Grows k a s.parts x.left.parts → Grows k a s.parts y.left.parts → Grows k a s.parts (cond b x y).left.parts
  heard-grows s x y true left right = left
  heard-grows s x y false left right = right

  ended-grows : {k a : ℕ} (ping : PingOf N) (s : SceneOf N) → Grows k a s.parts (on_parts (without_ping ping) s).parts
  unfolding without_pings
  ended-grows ping s = still s.parts (without_ping ping s.parts) refl refl refl

  given-grows : (place : ℕ) (gram : GramOf N) (s : SceneOf N) → Grows 3 1 s.parts (on_parts (given place gram) s).parts
  unfolding given
  given-grows place gram s = by (is_full_at place s.parts.sockets)
    where
      by : (b : Bool) → Grows 3 1 s.parts (cond b (counted tally.Full 1 s.parts) (record s.parts { sockets = with_gram place gram s.parts.sockets }))
      by true = grows-more s.parts (counted tally.Full 1 s.parts) (omega arith) (omega arith) (lost-grows tally.Full 1 s)
      by false = still s.parts (record s.parts { sockets = with_gram place gram s.parts.sockets }) refl refl refl

module _ {N : Type 0} (same : N → N → Bool) (common : Common) where
  -- ---- output

  sent_along-grows : (w : WayOf N) (datagram : List ℕ) (s : SceneOf N) → Grows 2 1 s.parts (sent_along same w common datagram s).parts
  sent_along-grows Nowhere datagram s = still s.parts s.parts refl refl refl
  sent_along-grows Looped datagram s = still s.parts (looped datagram s.parts) refl refl refl
  sent_along-grows (By h hop) datagram s = carried-grows same common h hop datagram s

  pub output_left-grows : (send : Outgoing) (s : SceneOf N) → Grows 2 1 s.parts (output_left same common send s).parts
  unfolding output_left
  output_left-grows send s =
      grows-more s.parts (output_left same common send s).parts (omega arith) (omega arith)
      (grows-then s.parts (identified s.parts) (output_left same common send s).parts (still {k = 0} {a = 0} s.parts (identified s.parts) refl refl refl)
      (sent_along-grows (way_to send.dst s.parts) (next_datagram same send s.parts) (on_parts identified s)))

  answered_back-grows : (send : Outgoing) (s : SceneOf N) → Grows 2 1 s.parts (answered_back same common send s).parts
  unfolding answered_back output
  answered_back-grows send s = by (first_refusal (output_refusals same errno.HostUnreach send s))
    where
      by : (o : Option Errno) → Grows 2 1 s.parts (sent_or_dropped (unless o (output_sent same send s.parts, output_left same common send s)) s).parts
      by None = output_left-grows send s
      by (Some e) = grows-more s.parts (lost tally.Icmp 1 s).parts (omega arith) (omega arith) (lost-grows tally.Icmp 1 s)

  errored-grows : (via : IfOf N) (trouble : Trouble) (datagram : List ℕ) (is_broadcast : Bool) (s : SceneOf N) → Grows 2 1 s.parts (errored same common via trouble datagram is_broadcast s).parts
  unfolding errored
  errored-grows via trouble datagram is_broadcast s =
      grows-either s (errored_from same (error_source same trouble (header_in datagram).dst via s.parts) common trouble datagram s) s (may_answer is_broadcast (header_in datagram).proto (body_of datagram))
      (by (error_source same trouble (header_in datagram).dst via s.parts)) (still s.parts s.parts refl refl refl)
    where
      by : (from : Option Ip4) → Grows 2 1 s.parts (errored_from same from common trouble datagram s).parts
      by None = still s.parts s.parts refl refl refl
      by (Some from) = answered_back-grows (icmp_answer from (header_in datagram).src (error_about trouble datagram)) s

  -- what is dropped with an error
  dropped-grows : (via : IfOf N) (trouble : Trouble) (datagram : List ℕ) (is_broadcast : Bool) (s t : SceneOf N) → Grows 1 0 s.parts t.parts
      → Grows 3 1 s.parts (errored same common via trouble datagram is_broadcast t).parts
  dropped-grows via trouble datagram is_broadcast s t one =
      grows-then s.parts t.parts (errored same common via trouble datagram is_broadcast t).parts one (errored-grows via trouble datagram is_broadcast t)

  one-drop : {k a : ℕ} (s t : SceneOf N) → 1 ≤ k → Grows 1 0 s.parts t.parts → Grows k a s.parts t.parts
  one-drop s t more one = grows-more s.parts t.parts more (omega arith) one

  forwarded-grows : (via : IfOf N) (datagram : List ℕ) (is_broadcast : Bool) (s : SceneOf N) → Grows 3 1 s.parts (forwarded same common via datagram is_broadcast s).parts
  unfolding forwarded
  forwarded-grows via datagram is_broadcast s = by (first_refusal (troubles same datagram (way_of datagram s) s))
    where
      by : (o : Option (Option Trouble)) → Grows 3 1 s.parts (forwarded_by same o (way_of datagram s) common via datagram is_broadcast s).parts
      by None = grows-more s.parts (sent_along same (way_of datagram s) common (lowered datagram) s).parts (omega arith) (omega arith) (sent_along-grows (way_of datagram s) (lowered datagram) s)
      by (Some None) = one-drop s (lost tally.Ip 1 s) (omega arith) (lost-grows tally.Ip 1 s)
      by (Some (Some trouble)) = dropped-grows via trouble datagram is_broadcast s (lost tally.Ip 1 s) (lost-grows tally.Ip 1 s)

  -- ---- datagrams

  icmp_meant-grows : (head : Ip4Head) (size : ℕ) (m : Message) (meaning : Meaning N) (s : SceneOf N) → Grows 3 1 s.parts (icmp_meant same common head size m meaning s).left.parts
  unfolding echoed
  icmp_meant-grows head size m Asks s =
      grows-more s.parts (echoed same common head m s).parts (omega arith) (omega arith) (answered_back-grows (icmp_answer head.dst head.src (message_octets (echo 0 m.id m.seq m.rest))) s)
  icmp_meant-grows head size m (Replies ping) s = ended-grows ping s
  icmp_meant-grows head size m (Fails ping) s = ended-grows ping s
  icmp_meant-grows head size m (Refuses src sport dst dport) s = still s.parts (record s.parts { sockets = refused_by src sport dst dport s.parts.sockets }) refl refl refl
  icmp_meant-grows head size m Strange s = one-drop s (lost tally.Icmp 1 s) (omega arith) (lost-grows tally.Icmp 1 s)

  icmp_received-grows : (datagram : List ℕ) (s : SceneOf N) → Grows 3 1 s.parts (icmp_received same common datagram s).left.parts
  unfolding icmp_received
  icmp_received-grows datagram s = by (icmp_of (body_of datagram))
    where
      by : (read : Result Message IcmpBad) → Grows 3 1 s.parts (icmp_read same common (header_in datagram) (length (body_of datagram)) read s).left.parts
      by (Err bad) = one-drop s (lost tally.Icmp 1 s) (omega arith) (lost-grows tally.Icmp 1 s)
      by (Ok m) = icmp_meant-grows (header_in datagram) (length (body_of datagram)) m (meaning_of m (header_in datagram).src s.parts) s

  module _ (via : IfOf N) (is_broadcast : Bool) (s : SceneOf N) where
    udp_received-grows : (datagram : List ℕ) → Grows 3 1 s.parts (udp_received same common via datagram is_broadcast s).parts
    unfolding udp_received received_by
    udp_received-grows datagram =
        let src = (header_in datagram).src in
        let dst = (header_in datagram).dst in
        let octets = body_of datagram in
        grows-either s (lost tally.Udp 1 s) (received_by same (receiver src dst octets s.parts) common via datagram is_broadcast s) (is_some (refusal src dst octets))
        (one-drop s (lost tally.Udp 1 s) (omega arith) (lost-grows tally.Udp 1 s)) (by (receiver src dst octets s.parts))
      where
        by : (o : Option ℕ) → Grows 3 1 s.parts (received_by same o common via datagram is_broadcast s).parts
        by None = dropped-grows via PortUnreachable datagram is_broadcast s (lost tally.Udp 1 s) (lost-grows tally.Udp 1 s)
        by (Some place) = given-grows place (gram_from (header_in datagram).src (body_of datagram) via) s

    delivered_locally-grows : (datagram : List ℕ) → Grows 3 1 s.parts (delivered_locally same common via datagram is_broadcast s).left.parts
    unfolding delivered_locally
    delivered_locally-grows datagram =
        heard-grows s (icmp_received same common datagram s)
        (cond ((header_in datagram).proto == udp_protocol) (nothing_told (udp_received same common via datagram is_broadcast s)) (nothing_told (unsupported same common via datagram is_broadcast s)))
        ((header_in datagram).proto == icmp_protocol) (icmp_received-grows datagram s)
        (heard-grows s (nothing_told (udp_received same common via datagram is_broadcast s)) (nothing_told (unsupported same common via datagram is_broadcast s)) ((header_in datagram).proto == udp_protocol)
        (udp_received-grows datagram) (dropped-grows via ProtocolUnreachable datagram is_broadcast s (lost tally.Ip 1 s) (lost-grows tally.Ip 1 s)))

    passed_on-grows : (datagram : List ℕ) → Grows 3 1 s.parts (passed_on same common via datagram is_broadcast s).parts
    unfolding passed_on
    passed_on-grows datagram =
        grows-either s (forwarded same common via datagram is_broadcast s) (lost tally.Ip 1 s) (is_half via && is_forwarding s.parts.variables)
        (forwarded-grows via datagram is_broadcast s) (one-drop s (lost tally.Ip 1 s) (omega arith) (lost-grows tally.Ip 1 s))

    pub datagram_received-grows : (octets : List ℕ) → Grows 3 1 s.parts (datagram_received same common via octets is_broadcast s).left.parts
    unfolding datagram_received
    datagram_received-grows octets =
        heard-grows s (nothing_told (lost tally.Ip 1 s)) (dispatched same common via (whole octets) is_broadcast s) (is_dropped_at_once via octets s.parts)
        (one-drop s (lost tally.Ip 1 s) (omega arith) (lost-grows tally.Ip 1 s))
        (heard-grows s (delivered_locally same common via (whole octets) is_broadcast s) (nothing_told (passed_on same common via (whole octets) is_broadcast s)) (local (header_in (whole octets)).dst s.parts.addresses)
        (delivered_locally-grows (whole octets)) (passed_on-grows (whole octets)))

  pub loop_received-grows : (s : SceneOf N) → Grows 3 1 s.parts (loop_received same common s).left.parts
  unfolding loop_received
  loop_received-grows s = by s.parts.loopback
    where
      by : (datagrams : List (List ℕ)) → Grows 3 1 s.parts (looped_back same datagrams common s).left.parts
      by [] = still s.parts s.parts refl refl refl
      by (datagram ∷ more) =
          grows-more s.parts after.left.parts (omega arith) (omega arith)
          (grows-then s.parts (record s.parts { loopback = more }) after.left.parts (still {k = 0} {a = 0} s.parts (record s.parts { loopback = more }) refl refl refl) (datagram_received-grows Lo0 false (on_parts (λ p. record p { loopback = more }) s) datagram))
        where
          after : HeardOf N
          after = datagram_received same common Lo0 datagram false (on_parts (λ p. record p { loopback = more }) s)

  -- ---- frames and timers

  module _ (s : SceneOf N) (right : are_arp_entries s.parts.arp ≡ true) where
    pub frame_received-grows : (h : N) (octets : List ℕ) → Grows 17 1 s.parts (frame_received same common h octets s).left.parts
    unfolding frame_received
    frame_received-grows h octets = by (eth_of octets)
      where
        link : Grows 17 1 s.parts (lost tally.Link 1 s).parts
        link = one-drop s (lost tally.Link 1 s) (omega arith) (lost-grows tally.Link 1 s)

        by : (read : Result EthFrame EthBad) → Grows 17 1 s.parts (frame_read same (link_of same h s) common h read s).left.parts
        by (Err bad) = link
        by (Ok frame) =
            heard-grows s (frame_taken same common h frame s) (nothing_told (lost tally.Link 1 s)) (accepts_frame (link_of same h s) frame)
            (heard-grows s (nothing_told (arp_received same common h frame.payload s))
            (cond (frame.kind == ip4_type) (datagram_received same common (Half h) frame.payload (mac_eq frame.dst broadcast_mac) s) (nothing_told (lost tally.Link 1 s))) (frame.kind == arp_type)
            (arp_received-grows same common h s right frame.payload)
            (heard-grows s (datagram_received same common (Half h) frame.payload (mac_eq frame.dst broadcast_mac) s) (nothing_told (lost tally.Link 1 s)) (frame.kind == ip4_type)
            (grows-more s.parts (datagram_received same common (Half h) frame.payload (mac_eq frame.dst broadcast_mac) s).left.parts (omega arith) (omega arith)
            (datagram_received-grows (Half h) (mac_eq frame.dst broadcast_mac) s frame.payload)) link))
            link

    taken-grows : (o : Option (Timed N)) → Grows 0 0 s.parts (without_due o s).parts
    taken-grows None = still s.parts (without_due None s).parts refl refl refl
    taken-grows (Some e) = still s.parts (without_due (Some e) s).parts refl refl refl

    pub fired-grows : Grows 16 1 s.parts (fired same common s).left.parts
    unfolding fired
    fired-grows = by (next_due common.clock s.parts.timers)
      where
        ended : (o : Option (PingOf N)) (t : SceneOf N) → Grows 16 1 t.parts (timed_out o t).left.parts
        ended None t = still t.parts t.parts refl refl refl
        ended (Some ping) t = ended-grows ping t

        by : (o : Option (Timed N)) → Grows 16 1 s.parts (fired_for same common (option_map (λ (e : Timed N). e.1) o) (without_due o s)).left.parts
        by None = still s.parts s.parts refl refl refl
        by (Some (at, Arp h ip)) =
            grows-then s.parts (without_due (Some (at, Arp h ip)) s).parts (fired_for same common (Some (Arp h ip)) (without_due (Some (at, Arp h ip)) s)).left.parts (taken-grows (Some (at, Arp h ip)))
            (arp_turned-grows same common h (without_due (Some (at, Arp h ip)) s) right ip)
        by (Some (at, Ping id arm)) =
            grows-then s.parts (without_due (Some (at, Ping id arm)) s).parts (fired_for same common (Some (Ping id arm)) (without_due (Some (at, Ping id arm)) s)).left.parts (taken-grows (Some (at, Ping id arm)))
            (ended (timed_by arm s.parts.pings) (without_due (Some (at, Ping id arm)) s))

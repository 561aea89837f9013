-- What comes to a stack, under other names of halves.
use Rattle.std.proofs.Common.{◌≡◌, ℕ, Bool, false, cond, not, ◌&&◌, ◌||◌, ◌==◌, List, [], ◌∷◌, Result, Ok, Err, refl, ap, ap₂, ◌∙◌}
use Rattle.vn_types.specs.declared.address.Ip4.{Ip4}
use Rattle.vn_types.specs.declared.interface.IfOf.{IfOf}
use Rattle.vn_types.specs.declared.interface.IfOf.TheVariants.{Lo0, Half}
use Rattle.vn_types.specs.Interfaces.{as_if}
use Rattle.vn_rules.specs.declared.parts.PartsOf.{PartsOf}
use Rattle.vn_rules.specs.Addresses.{local}
use Rattle.vn_rules.specs.Errors.{icmp_protocol}
use Rattle.vn_rules.specs.Networks.{is_no_host, is_loopback}
use Rattle.vn_rules.specs.Renamed.{renamed}
use Rattle.vn_rules.specs.Rules.{Common}
use Rattle.vn_rules.specs.Scenes.{LinkOf, SceneOf, link_of, as_link, renamed_scene}
use Rattle.vn_rules.specs.Variables.{is_forwarding}
use Rattle.vn_rules.proofs.AddressLaws.{is_half-renamed, local-renamed}
use Rattle.vn_rules.proofs.SceneLaws.{link_of-renamed}
use Rattle.vn_link.specs.declared.ethernet.EthBad.{EthBad}
use Rattle.vn_link.specs.Frames.{EthFrame, eth_of}
use Rattle.vn_packets.specs.declared.tally.Tally.TheVariants as tally
use Rattle.vn_packets.specs.ArpPackets.{arp_received}
use Rattle.vn_packets.specs.Datagrams.{ip4_type, arp_type, broadcast_mac, udp_protocol, reads, whole, is_fragment, header_in}
use Rattle.vn_packets.specs.Drops.{on_parts, lost}
use Rattle.vn_packets.specs.Errors.{ProtocolUnreachable, errored}
use Rattle.vn_packets.specs.Forwarding.{forwarded}
use Rattle.vn_packets.specs.Icmp.{nothing_told, icmp_received}
use Rattle.vn_packets.specs.Reception.{mac_eq, is_dropped_at_once, delivered_locally, passed_on, dispatched, datagram_received, looped_back, loop_received, frame_taken, accepts_frame, frame_read, frame_received}
use Rattle.vn_packets.specs.Renamed.{as_heard}
use Rattle.vn_packets.specs.Udp.{udp_received}
use Rattle.vn_packets.proofs.DropLaws.{choice, on_parts-renamed, lost-renamed}
use Rattle.vn_packets.proofs.ArpPacketLaws.{arp_received-renamed}
use Rattle.vn_packets.proofs.OutputLaws.{reach-so}
use Rattle.vn_packets.proofs.ErrorLaws.{errored-renamed}
use Rattle.vn_packets.proofs.ForwardingLaws.{forwarded-renamed}
use Rattle.vn_packets.proofs.IcmpLaws.{icmp_received-renamed}
use Rattle.vn_packets.proofs.UdpLaws.{udp_received-renamed}

module _ {N M : Type 0} (r : N → M) (at_n : N → N → Bool) (at_m : M → M → Bool) (faithful : (a b : N) → at_m (r a) (r b) ≡ at_n a b) where
  dropped-so : (via : IfOf N) (octets : List ℕ) (s : SceneOf N) → is_dropped_at_once (as_if r via) octets (renamed_scene r s).parts ≡ is_dropped_at_once via octets s.parts
  dropped-so via octets s =
      ap₂ (λ half far. not (reads octets) || is_fragment (header_in octets)
      || ((half && (is_loopback (header_in octets).src || is_loopback (header_in octets).dst)) || is_no_host (header_in octets).src || far))
      (is_half-renamed r via) (reach-so r (header_in octets).dst s)

  local-so : (ip : Ip4) (s : SceneOf N) → local ip (renamed_scene r s).parts.addresses ≡ local ip s.parts.addresses
  unfolding renamed_scene renamed
  local-so ip s = local-renamed r ip s.parts.addresses

  forwarding-so : (s : SceneOf N) → is_forwarding (renamed_scene r s).parts.variables ≡ is_forwarding s.parts.variables
  unfolding renamed_scene renamed
  forwarding-so s = refl

  -- ---- datagrams

  module _ (common : Common) (via : IfOf N) where
    module _ (datagram : List ℕ) (is_broadcast : Bool) (s : SceneOf N) where
      abbrev for_icmp : Bool
      for_icmp = (header_in datagram).proto == icmp_protocol

      abbrev for_udp : Bool
      for_udp = (header_in datagram).proto == udp_protocol

      strange-renamed : errored at_m common (as_if r via) ProtocolUnreachable datagram is_broadcast (lost tally.Ip 1 (renamed_scene r s))
          ≡ renamed_scene r (errored at_n common via ProtocolUnreachable datagram is_broadcast (lost tally.Ip 1 s))
      strange-renamed =
          ap (errored at_m common (as_if r via) ProtocolUnreachable datagram is_broadcast) (lost-renamed r tally.Ip 1 s)
          ∙ errored-renamed r at_n at_m faithful common via ProtocolUnreachable datagram is_broadcast (lost tally.Ip 1 s)

      delivered_locally-renamed : delivered_locally at_m common (as_if r via) datagram is_broadcast (renamed_scene r s) ≡ as_heard r (delivered_locally at_n common via datagram is_broadcast s)
      unfolding delivered_locally
      delivered_locally-renamed =
          choice (as_heard r) (icmp_received at_n common datagram s)
          (cond for_udp (nothing_told (udp_received at_n common via datagram is_broadcast s)) (nothing_told (errored at_n common via ProtocolUnreachable datagram is_broadcast (lost tally.Ip 1 s))))
          {b = for_icmp} refl (icmp_received-renamed r at_n at_m faithful common datagram s)
          (choice (as_heard r) (nothing_told (udp_received at_n common via datagram is_broadcast s)) (nothing_told (errored at_n common via ProtocolUnreachable datagram is_broadcast (lost tally.Ip 1 s)))
          {b = for_udp} refl (ap nothing_told (udp_received-renamed r at_n at_m faithful common via datagram is_broadcast s)) (ap nothing_told strange-renamed))

      passed_on-renamed : passed_on at_m common (as_if r via) datagram is_broadcast (renamed_scene r s) ≡ renamed_scene r (passed_on at_n common via datagram is_broadcast s)
      unfolding passed_on
      passed_on-renamed =
          choice (renamed_scene r) (forwarded at_n common via datagram is_broadcast s) (lost tally.Ip 1 s)
          (ap₂ ◌&&◌ (is_half-renamed r via) (forwarding-so s)) (forwarded-renamed r at_n at_m faithful common via datagram is_broadcast s) (lost-renamed r tally.Ip 1 s)

      dispatched-renamed : dispatched at_m common (as_if r via) datagram is_broadcast (renamed_scene r s) ≡ as_heard r (dispatched at_n common via datagram is_broadcast s)
      dispatched-renamed =
          choice (as_heard r) (delivered_locally at_n common via datagram is_broadcast s) (nothing_told (passed_on at_n common via datagram is_broadcast s))
          (local-so (header_in datagram).dst s) delivered_locally-renamed (ap nothing_told passed_on-renamed)

    pub datagram_received-renamed : (octets : List ℕ) (is_broadcast : Bool) (s : SceneOf N)
        → datagram_received at_m common (as_if r via) octets is_broadcast (renamed_scene r s) ≡ as_heard r (datagram_received at_n common via octets is_broadcast s)
    unfolding datagram_received
    datagram_received-renamed octets is_broadcast s =
        choice (as_heard r) (nothing_told (lost tally.Ip 1 s)) (dispatched at_n common via (whole octets) is_broadcast s)
        (dropped-so via octets s) (ap nothing_told (lost-renamed r tally.Ip 1 s)) (dispatched-renamed (whole octets) is_broadcast s)

  -- ---- through lo0

  left : {L : Type 0} → List (List ℕ) → PartsOf L → PartsOf L
  left more p = record p { loopback = more }

  left-renamed : (more : List (List ℕ)) (p : PartsOf N) → left more (renamed r p) ≡ renamed r (left more p)
  unfolding left renamed
  left-renamed more p = refl

  looped_back-renamed : (datagrams : List (List ℕ)) (common : Common) (s : SceneOf N) → looped_back at_m datagrams common (renamed_scene r s) ≡ as_heard r (looped_back at_n datagrams common s)
  unfolding left
  looped_back-renamed [] common s = refl
  looped_back-renamed (datagram ∷ more) common s =
      ap (datagram_received at_m common Lo0 datagram false) (on_parts-renamed r (left more) (left more) s (left-renamed more s.parts))
      ∙ datagram_received-renamed common Lo0 datagram false (on_parts (left more) s)

  waiting-so : (s : SceneOf N) → (renamed_scene r s).parts.loopback ≡ s.parts.loopback
  unfolding renamed_scene renamed
  waiting-so s = refl

  pub loop_received-renamed : (common : Common) (s : SceneOf N) → loop_received at_m common (renamed_scene r s) ≡ as_heard r (loop_received at_n common s)
  unfolding loop_received
  loop_received-renamed common s = ap (λ datagrams. looped_back at_m datagrams common (renamed_scene r s)) (waiting-so s) ∙ looped_back-renamed s.parts.loopback common s

  -- ---- frames

  module _ (common : Common) (h : N) where
    frame_taken-renamed : (frame : EthFrame) (s : SceneOf N) → frame_taken at_m common (r h) frame (renamed_scene r s) ≡ as_heard r (frame_taken at_n common h frame s)
    frame_taken-renamed frame s =
        choice (as_heard r) (nothing_told (arp_received at_n common h frame.payload s))
        (cond (frame.kind == ip4_type) (datagram_received at_n common (Half h) frame.payload (mac_eq frame.dst broadcast_mac) s) (nothing_told (lost tally.Link 1 s)))
        {b = frame.kind == arp_type} refl (ap nothing_told (arp_received-renamed r at_n at_m faithful common h frame.payload s))
        (choice (as_heard r) (datagram_received at_n common (Half h) frame.payload (mac_eq frame.dst broadcast_mac) s) (nothing_told (lost tally.Link 1 s))
        {b = frame.kind == ip4_type} refl (datagram_received-renamed common (Half h) frame.payload (mac_eq frame.dst broadcast_mac) s) (ap nothing_told (lost-renamed r tally.Link 1 s)))

    frame_read-renamed : (l : LinkOf N) (read : Result EthFrame EthBad) (s : SceneOf N) → frame_read at_m (as_link r l) common (r h) read (renamed_scene r s) ≡ as_heard r (frame_read at_n l common h read s)
    frame_read-renamed l (Err bad) s = ap nothing_told (lost-renamed r tally.Link 1 s)
    frame_read-renamed l (Ok frame) s =
        choice (as_heard r) (frame_taken at_n common h frame s) (nothing_told (lost tally.Link 1 s)) {b = accepts_frame l frame} refl (frame_taken-renamed frame s) (ap nothing_told (lost-renamed r tally.Link 1 s))

    pub frame_received-renamed : (octets : List ℕ) (s : SceneOf N) → frame_received at_m common (r h) octets (renamed_scene r s) ≡ as_heard r (frame_received at_n common h octets s)
    unfolding frame_received
    frame_received-renamed octets s =
        ap (λ l. frame_read at_m l common (r h) (eth_of octets) (renamed_scene r s)) (link_of-renamed r at_n at_m faithful h s) ∙ frame_read-renamed (link_of at_n h s) (eth_of octets) s

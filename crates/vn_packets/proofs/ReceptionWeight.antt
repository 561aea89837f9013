-- What comes makes a stack's scene lighter, together with the frame or the datagram that was taken.
use Rattle.std.proofs.Common.{◌≡◌, ℕ, ◌+◌, ◌-◌, ◌≤◌, nat_lt, Bool, true, false, cond, not, ◌&&◌, ◌||◌, ◌==◌, List, [], ◌∷◌, map, sum, length, drop, None, Result, Ok, Err, is_none, refl, sym, ap, subst, ◌∙◌, arith}
use Rattle.std.proofs.lemmas.Bool.{or_parts, not-false, eqb-true}
use Rattle.vn_types.proofs.RefusalLaws.{value-given}
use Rattle.vn_types.specs.declared.interface.IfOf.{IfOf}
use Rattle.vn_types.specs.declared.interface.IfOf.TheVariants.{Lo0, Half}
use Rattle.vn_types.specs.Ip4Header.{header_of, header_len}
use Rattle.vn_types.specs.Refusals.{first_refusal}
use Rattle.vn_rules.specs.declared.parts.PartsOf.{PartsOf}
use Rattle.vn_rules.specs.Addresses.{is_half, local}
use Rattle.vn_rules.specs.Errors.{icmp_protocol}
use Rattle.vn_rules.specs.Rules.{Common}
use Rattle.vn_rules.specs.Scenes.{LinkOf, SceneOf, link_of}
use Rattle.vn_rules.specs.Variables.{is_forwarding}
use Rattle.vn_link.specs.declared.arp.ArpBad.{ArpBad}
use Rattle.vn_link.specs.declared.arp.ArpPacket.{ArpPacket}
use Rattle.vn_link.specs.declared.ethernet.EthBad.{EthBad}
use Rattle.vn_link.specs.declared.ethernet.EthBad.TheVariants as eth
use Rattle.vn_link.specs.Frames as frames
use Rattle.vn_link.specs.Frames.{EthFrame, eth_of, frame_of}
use Rattle.vn_link.specs.Packets.{arp_of, arp_refusal, packet_of}
use Rattle.vn_packets.specs.declared.tally.Tally.TheVariants as tally
use Rattle.vn_packets.specs.ArpPackets.{request_op, is_stranger, arp_heard, arp_read, arp_received}
use Rattle.vn_packets.specs.Datagrams.{ip4_type, arp_type, broadcast_mac, udp_protocol, reads, whole, is_fragment, header_in}
use Rattle.vn_packets.specs.Drops.{on_parts, lost}
use Rattle.vn_packets.specs.Errors.{ProtocolUnreachable}
use Rattle.vn_packets.specs.Forwarding.{forwarded}
use Rattle.vn_packets.specs.Icmp.{HeardOf, nothing_told, icmp_received}
use Rattle.vn_packets.specs.Reception.{mac_eq, is_dropped_at_once, unsupported, delivered_locally, passed_on, dispatched, datagram_received, looped_back, loop_received, frame_taken, accepts_frame, frame_read, frame_received}
use Rattle.vn_packets.specs.Udp.{udp_received}
use Rattle.vn_packets.specs.Weighing.{HasOneLink, HasOneEntry, Weighs}
use Rattle.vn_packets.specs.Weight.{datagram_weight, is_request, packet_weight, payload_weight, frame_weight, parts_weight, scene_weight}
use Rattle.vn_packets.proofs.SceneWeight.{weighs-more, weighs-either, lost-weighs, weigh-cons}
use Rattle.vn_packets.proofs.PacketWeight.{arp_heard-weighs}
use Rattle.vn_packets.proofs.DeliveryWeight.{dropped, errored-weighs, forwarded-weighs, udp_received-weighs, icmp_received-weighs}
use Rattle.vn_packets.proofs.WeightOctets.{whole_weight, datagram-some, frame-some, whole-header, whole-weight}

module _ {N : Type 0} (same : N → N → Bool) where
  -- either of two receptions
  heard-weighs : {k : ℕ} (s : SceneOf N) (x y : HeardOf N) (b : Bool) → Weighs same k s x.left → Weighs same k s y.left → Weighs same k s (cond b x y).left
  heard-weighs s x y true left right = left
  heard-weighs s x y false left right = right

  heard-by : {k : ℕ} (s : SceneOf N) (x y : HeardOf N) (b : Bool) → (b ≡ true → Weighs same k s x.left) → (b ≡ false → Weighs same k s y.left) → Weighs same k s (cond b x y).left
  heard-by s x y true left right = left refl
  heard-by s x y false left right = right refl

  -- ---- datagrams

  module _ (common : Common) (via : IfOf N) (is_broadcast : Bool) (s : SceneOf N) (one : HasOneLink same s) (entry : HasOneEntry same s.parts) where
    module _ (datagram : List ℕ) (header : 20 ≤ header_len datagram) (fits : header_len datagram ≤ length datagram) where
      is-proto : (n : ℕ) → ((header_in datagram).proto == n) ≡ true → (header_of datagram).proto ≡ n
      unfolding header_in
      is-proto n is = eqb-true (header_of datagram).proto n is

      delivered_locally-weighs : Weighs same (whole_weight datagram - 1) s (delivered_locally same common via datagram is_broadcast s).left
      unfolding delivered_locally
      delivered_locally-weighs =
          heard-by s (icmp_received same common datagram s) (cond ((header_in datagram).proto == udp_protocol) (nothing_told (udp_received same common via datagram is_broadcast s)) (nothing_told (unsupported same common via datagram is_broadcast s)))
          ((header_in datagram).proto == icmp_protocol) (λ is. icmp_received-weighs same common s one entry datagram (is-proto icmp_protocol is))
          (λ _. heard-weighs s (nothing_told (udp_received same common via datagram is_broadcast s)) (nothing_told (unsupported same common via datagram is_broadcast s)) ((header_in datagram).proto == udp_protocol)
          (udp_received-weighs same common s one entry via datagram is_broadcast) (errored-weighs same common s one entry via datagram is_broadcast ProtocolUnreachable tally.Ip))

      passed_on-weighs : Weighs same (whole_weight datagram - 1) s (passed_on same common via datagram is_broadcast s)
      unfolding passed_on
      passed_on-weighs =
          weighs-either same s (forwarded same common via datagram is_broadcast s) (lost tally.Ip 1 s) (is_half via && is_forwarding s.parts.variables)
          (forwarded-weighs same common s one entry via datagram is_broadcast header fits) (dropped same s (lost tally.Ip 1 s) (lost-weighs same tally.Ip 1 s))

      dispatched-weighs : Weighs same (whole_weight datagram - 1) s (dispatched same common via datagram is_broadcast s).left
      dispatched-weighs =
          heard-weighs s (delivered_locally same common via datagram is_broadcast s) (nothing_told (passed_on same common via datagram is_broadcast s)) (local (header_in datagram).dst s.parts.addresses) delivered_locally-weighs passed_on-weighs

    reading : (octets : List ℕ) → is_dropped_at_once via octets s.parts ≡ false → reads octets ≡ true
    reading octets is = not-false (reads octets) (or_parts (not (reads octets)) _ (or_parts (not (reads octets) || is_fragment (header_in octets)) _ is).0).0

    pub datagram_received-weighs : (octets : List ℕ) → Weighs same (datagram_weight octets - 1) s (datagram_received same common via octets is_broadcast s).left
    unfolding datagram_received
    datagram_received-weighs octets =
        heard-by s (nothing_told (lost tally.Ip 1 s)) (dispatched same common via (whole octets) is_broadcast s) (is_dropped_at_once via octets s.parts)
        (λ is. dropped same s (lost tally.Ip 1 s) (lost-weighs same tally.Ip 1 s))
        (λ is. let r = reading octets is in
        let h = whole-header octets r in
        weighs-more same s (dispatched same common via (whole octets) is_broadcast s).left (let e = whole-weight octets r in omega (arith, e)) (dispatched-weighs (whole octets) h.0 h.1))

  -- ---- through lo0

  left-weight : (datagram : List ℕ) (more : List (List ℕ)) (p : PartsOf N) → p.loopback ≡ datagram ∷ more → parts_weight (record p { loopback = more }) + datagram_weight datagram ≡ parts_weight p
  unfolding parts_weight
  left-weight datagram more p is = let all = ap (λ ds. sum (map datagram_weight ds)) is in let parts = weigh-cons datagram_weight datagram more in omega (arith, all, parts)

  -- a datagram that was taken makes the scene lighter
  pub loop_received-lighter : (common : Common) (s : SceneOf N) (datagram : List ℕ) (more : List (List ℕ)) → HasOneLink same s → HasOneEntry same s.parts → s.parts.loopback ≡ datagram ∷ more
      → scene_weight (loop_received same common s).left + 1 ≤ scene_weight s
  unfolding loop_received scene_weight
  loop_received-lighter common s datagram more one entry is =
      subst (λ ds. scene_weight (looped_back same ds common s).left + 1 ≤ scene_weight s) (sym is)
      (let next = (datagram_received-weighs common Lo0 false (on_parts (λ p. record p { loopback = more }) s) one entry datagram).weight in
      let taken_out = left-weight datagram more s.parts is in
      let some = datagram-some datagram in
      omega (arith, next, taken_out, some))

  -- ---- frames

  module _ (common : Common) (h : N) (s : SceneOf N) (one : HasOneLink same s) (entry : HasOneEntry same s.parts) where
    arp_read-weighs : (octets : List ℕ) (read : Result ArpPacket ArpBad) → arp_of octets ≡ read → Weighs same (packet_weight octets - 1) s (arp_read same common h read s)
    arp_read-weighs octets (Err bad) is = dropped same s (lost tally.Arp 1 s) (lost-weighs same tally.Arp 1 s)
    arp_read-weighs octets (Ok packet) is =
        weighs-either same s (lost tally.Arp 1 s) (arp_heard same common h packet s) (is_stranger same h packet.spa s.parts) (dropped same s (lost tally.Arp 1 s) (lost-weighs same tally.Arp 1 s))
        (weighs-more same s (arp_heard same common h packet s) (enough (packet.op == request_op) asks) (arp_heard-weighs same common h packet s one))
      where
        two : (arp_refusal octets ≡ None) × (packet_of octets ≡ packet)
        two = value-given (arp_refusal octets) (packet_of octets) packet is

        asks : is_request octets ≡ (packet.op == request_op)
        asks = (λ i. is_none (two.0 i) && ((two.1 i).op == request_op))

        enough : (b : Bool) → is_request octets ≡ b → cond {A = ℕ} b 1 0 ≤ packet_weight octets - 1
        enough true e = let w : packet_weight octets ≡ 2 = ap (λ b. cond {A = ℕ} b 2 1) e in omega (arith, w)
        enough false e = omega arith

    arp_received-weighs : (octets : List ℕ) → Weighs same (packet_weight octets - 1) s (arp_received same common h octets s)
    unfolding arp_received
    arp_received-weighs octets = arp_read-weighs octets (arp_of octets) refl

    frame_taken-weighs : (frame : EthFrame) → Weighs same (payload_weight frame.kind frame.payload - 1) s (frame_taken same common h frame s).left
    frame_taken-weighs frame =
        heard-by s (nothing_told (arp_received same common h frame.payload s))
        (cond (frame.kind == ip4_type) (datagram_received same common (Half h) frame.payload (mac_eq frame.dst broadcast_mac) s) (nothing_told (lost tally.Link 1 s))) (frame.kind == arp_type)
        (λ is. weighs-more same s (arp_received same common h frame.payload s) (let w : payload_weight frame.kind frame.payload ≡ packet_weight frame.payload = ap (λ k. payload_weight k frame.payload) (eqb-true frame.kind arp_type is) in omega (arith, w)) (arp_received-weighs frame.payload))
        (λ _. heard-by s (datagram_received same common (Half h) frame.payload (mac_eq frame.dst broadcast_mac) s) (nothing_told (lost tally.Link 1 s)) (frame.kind == ip4_type)
        (λ is. weighs-more same s (datagram_received same common (Half h) frame.payload (mac_eq frame.dst broadcast_mac) s).left
        (let w : payload_weight frame.kind frame.payload ≡ datagram_weight frame.payload = ap (λ k. payload_weight k frame.payload) (eqb-true frame.kind ip4_type is) in omega (arith, w))
        (datagram_received-weighs common (Half h) (mac_eq frame.dst broadcast_mac) s one entry frame.payload))
        (λ _. dropped same s (lost tally.Link 1 s) (lost-weighs same tally.Link 1 s)))

    whole-frame : (octets : List ℕ) (frame : EthFrame) → eth_of octets ≡ Ok frame → frame_weight octets ≡ payload_weight frame.kind frame.payload
    unfolding frame_weight
    whole-frame octets frame is =
        ap (λ b. cond b 1 (payload_weight (frames.header_of octets).type_code (drop frames.header_size octets))) (long (nat_lt (length octets) frames.header_size) two.0)
        ∙ ap (λ (f : EthFrame). payload_weight f.kind f.payload) two.1
      where
        two : (first_refusal ((nat_lt (length octets) frames.header_size, eth.Short) ∷ []) ≡ None) × (frame_of octets ≡ frame)
        two = value-given (first_refusal ((nat_lt (length octets) frames.header_size, eth.Short) ∷ [])) (frame_of octets) frame is

        long : (b : Bool) → first_refusal ((b, eth.Short) ∷ []) ≡ None → b ≡ false
        long true none = absurd (cc)
        long false none = refl

    frame_read-weighs : (octets : List ℕ) (l : LinkOf N) (read : Result EthFrame EthBad) → eth_of octets ≡ read → Weighs same (frame_weight octets - 1) s (frame_read same l common h read s).left
    frame_read-weighs octets l (Err bad) is = dropped same s (lost tally.Link 1 s) (lost-weighs same tally.Link 1 s)
    frame_read-weighs octets l (Ok frame) is =
        heard-weighs s (frame_taken same common h frame s) (nothing_told (lost tally.Link 1 s)) (accepts_frame l frame)
        (weighs-more same s (frame_taken same common h frame s).left (let w = whole-frame octets frame is in omega (arith, w)) (frame_taken-weighs frame)) (dropped same s (lost tally.Link 1 s) (lost-weighs same tally.Link 1 s))

    -- a frame that was taken from its sender makes the scene lighter
    pub frame_received-lighter : (octets : List ℕ) → scene_weight (frame_received same common h octets s).left + 1 ≤ scene_weight s + frame_weight octets
    unfolding frame_received
    frame_received-lighter octets =
        let next = (frame_read-weighs octets (link_of same h s) (eth_of octets) refl).weight in
        let some = frame-some octets in
        omega (arith, next, some)

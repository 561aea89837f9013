-- The packets of address resolution under other names of halves.
use Rattle.std.proofs.Common.{◌≡◌, ℕ, Bool, not, ◌&&◌, ◌||◌, ◌==◌, List, [], ◌∷◌, Option, Some, None, Result, Ok, Err, unwrap_or, refl, ap, ap₂, ◌∙◌}
use Rattle.std.specs.Option.{option_map}
use Rattle.vn_types.specs.declared.address.Ip4.{Ip4}
use Rattle.vn_types.specs.declared.address.Mac.{Mac}
use Rattle.vn_types.specs.declared.interface.IfOf.TheVariants.{Half}
use Rattle.vn_rules.specs.declared.arp.ArpEntryOf.{ArpEntryOf}
use Rattle.vn_rules.specs.Addresses.{on_interface}
use Rattle.vn_rules.specs.Arp.{entry_of, hit}
use Rattle.vn_rules.specs.Renamed.{as_arp, renamed}
use Rattle.vn_rules.specs.Resolution as resolution
use Rattle.vn_rules.specs.Resolution.{TurnOf, Ask, GivesUp, Removed, turn_of, asks, drops_oldest, after_hold, after_input, after_turn}
use Rattle.vn_rules.specs.Rules.{Common}
use Rattle.vn_rules.specs.Scenes.{LinkOf, SceneOf, renamed_scene}
use Rattle.vn_rules.proofs.AddressLaws.{local-renamed, on_interface-renamed, source_for-renamed}
use Rattle.vn_rules.proofs.ArpLaws.{entry_of-renamed, hit-renamed}
use Rattle.vn_rules.proofs.ResolutionLaws.{asks-renamed, drops_oldest-renamed, after_hold-renamed, released-renamed, after_input-renamed, after_turn-renamed}
use Rattle.vn_rules.proofs.SceneLaws.{link_of-renamed}
use Rattle.vn_rules.proofs.SoundRenamed.{covers-renamed}
use Rattle.vn_link.specs.declared.arp.ArpBad.{ArpBad}
use Rattle.vn_link.specs.declared.arp.ArpPacket.{ArpPacket}
use Rattle.vn_link.specs.Packets.{arp_of}
use Rattle.vn_packets.specs.declared.tally.Tally.TheVariants as tally
use Rattle.vn_packets.specs.ArpPackets.{request_op, request, gratuitous, reply, unset_ip, arp_frame, mac_of, sent_arp, asking_source, requested, announced, sent_datagram, sent_datagrams, requested_if, waits, held, carried_by, carried, is_stranger, replied_if, is_target, waiting, learnt, arp_heard, arp_read, arp_received, turn_told, arp_turned}
use Rattle.vn_packets.specs.Datagrams.{ip4_type, broadcast_mac, frame_with}
use Rattle.vn_packets.specs.Drops.{on_parts, lost, lost_if}
use Rattle.vn_packets.specs.Links.{sent}
use Rattle.vn_packets.proofs.DropLaws.{choice, on_parts-renamed, lost-renamed, lost_if-renamed}
use Rattle.vn_packets.proofs.SentLaws.{sent-renamed}

module _ {N M : Type 0} (r : N → M) (at_n : N → N → Bool) (at_m : M → M → Bool) (faithful : (a b : N) → at_m (r a) (r b) ≡ at_n a b) where
  -- ---- what is sent

  pub mac_of-renamed : (h : N) (s : SceneOf N) → mac_of at_m (r h) (renamed_scene r s) ≡ mac_of at_n h s
  mac_of-renamed h s = ap (λ (l : LinkOf M). l.mac) (link_of-renamed r at_n at_m faithful h s)

  asking_source-renamed : (h : N) (ip : Ip4) (s : SceneOf N) → asking_source at_m (r h) ip (renamed_scene r s).parts ≡ asking_source at_n h ip s.parts
  unfolding renamed_scene renamed
  asking_source-renamed h ip s = ap (λ o. unwrap_or o unset_ip) (source_for-renamed r at_n at_m faithful (Half h) ip s.parts.addresses)

  pub requested-renamed : (h : N) (ip : Ip4) (s : SceneOf N) → requested at_m (r h) ip (renamed_scene r s) ≡ renamed_scene r (requested at_n h ip s)
  unfolding requested
  requested-renamed h ip s =
      ap₂ (λ mac from. sent at_m (r h) (arp_frame broadcast_mac (request mac from ip)) (renamed_scene r s)) (mac_of-renamed h s) (asking_source-renamed h ip s)
      ∙ sent-renamed r at_n at_m faithful h (arp_frame broadcast_mac (request (mac_of at_n h s) (asking_source at_n h ip s.parts) ip)) s

  pub announced-renamed : (h : N) (ip : Ip4) (s : SceneOf N) → announced at_m (r h) ip (renamed_scene r s) ≡ renamed_scene r (announced at_n h ip s)
  unfolding announced
  announced-renamed h ip s =
      ap (λ mac. sent at_m (r h) (arp_frame broadcast_mac (gratuitous mac ip)) (renamed_scene r s)) (mac_of-renamed h s)
      ∙ sent-renamed r at_n at_m faithful h (arp_frame broadcast_mac (gratuitous (mac_of at_n h s) ip)) s

  pub sent_datagram-renamed : (h : N) (to : Mac) (datagram : List ℕ) (s : SceneOf N) → sent_datagram at_m (r h) to datagram (renamed_scene r s) ≡ renamed_scene r (sent_datagram at_n h to datagram s)
  unfolding sent_datagram
  sent_datagram-renamed h to datagram s =
      ap (λ mac. sent at_m (r h) (frame_with to mac ip4_type datagram) (renamed_scene r s)) (mac_of-renamed h s)
      ∙ sent-renamed r at_n at_m faithful h (frame_with to (mac_of at_n h s) ip4_type datagram) s

  pub sent_datagrams-renamed : (h : N) (to : Mac) (datagrams : List (List ℕ)) (s : SceneOf N) → sent_datagrams at_m (r h) to datagrams (renamed_scene r s) ≡ renamed_scene r (sent_datagrams at_n h to datagrams s)
  unfolding sent_datagrams
  sent_datagrams-renamed h to [] s = refl
  sent_datagrams-renamed h to (datagram ∷ more) s =
      ap (sent_datagrams at_m (r h) to more) (sent_datagram-renamed h to datagram s) ∙ sent_datagrams-renamed h to more (sent_datagram at_n h to datagram s)

  -- ---- a datagram waits

  requested_if-renamed : {b c : Bool} → b ≡ c → (h : N) (ip : Ip4) (s : SceneOf N) → requested_if at_m b (r h) ip (renamed_scene r s) ≡ renamed_scene r (requested_if at_n c h ip s)
  requested_if-renamed test h ip s = choice (renamed_scene r) (requested at_n h ip s) s test (requested-renamed h ip s) refl

  -- what the entries tell of an address
  entries-so : (h : N) (ip : Ip4) (s : SceneOf N)
      → (asks at_m (r h) ip (renamed_scene r s).parts.arp ≡ asks at_n h ip s.parts.arp) × (drops_oldest at_m (r h) ip (renamed_scene r s).parts.arp ≡ drops_oldest at_n h ip s.parts.arp)
      × (hit at_m (r h) ip (renamed_scene r s).parts.arp ≡ hit at_n h ip s.parts.arp)
  unfolding renamed_scene renamed
  entries-so h ip s =
      (asks-renamed r at_n at_m faithful h ip s.parts.arp, drops_oldest-renamed r at_n at_m faithful h ip s.parts.arp, hit-renamed r at_n at_m faithful h ip s.parts.arp)

  pub held-renamed : (common : Common) (h : N) (ip : Ip4) (datagram : List ℕ) (s : SceneOf N) → held at_m common (r h) ip datagram (renamed_scene r s) ≡ renamed_scene r (held at_n common h ip datagram s)
  unfolding held
  held-renamed common h ip datagram s =
      ap (λ t. requested_if at_m (asks at_m (r h) ip (renamed_scene r s).parts.arp) (r h) ip (lost_if (drops_oldest at_m (r h) ip (renamed_scene r s).parts.arp) tally.Full t))
      (on_parts-renamed r (after_hold at_n common.clock h ip datagram) (after_hold at_m common.clock (r h) ip datagram) s (after_hold-renamed r at_n at_m faithful h ip common.clock datagram s.parts))
      ∙ ap (requested_if at_m (asks at_m (r h) ip (renamed_scene r s).parts.arp) (r h) ip) (lost_if-renamed r (entries-so h ip s).1 tally.Full (waits at_n common h ip datagram s))
      ∙ requested_if-renamed (entries-so h ip s).0 h ip (lost_if (drops_oldest at_n h ip s.parts.arp) tally.Full (waits at_n common h ip datagram s))

  carried_by-renamed : (o : Option Mac) (common : Common) (h : N) (ip : Ip4) (datagram : List ℕ) (s : SceneOf N) → carried_by at_m o common (r h) ip datagram (renamed_scene r s) ≡ renamed_scene r (carried_by at_n o common h ip datagram s)
  carried_by-renamed None common h ip datagram s = held-renamed common h ip datagram s
  carried_by-renamed (Some mac) common h ip datagram s = sent_datagram-renamed h mac datagram s

  pub carried-renamed : (common : Common) (h : N) (ip : Ip4) (datagram : List ℕ) (s : SceneOf N) → carried at_m common (r h) ip datagram (renamed_scene r s) ≡ renamed_scene r (carried at_n common h ip datagram s)
  unfolding carried
  carried-renamed common h ip datagram s =
      ap (λ o. carried_by at_m o common (r h) ip datagram (renamed_scene r s)) (entries-so h ip s).2
      ∙ carried_by-renamed (hit at_n h ip s.parts.arp) common h ip datagram s

  -- ---- a packet comes

  stranger-so : (h : N) (ip : Ip4) (s : SceneOf N) → is_stranger at_m (r h) ip (renamed_scene r s).parts ≡ is_stranger at_n h ip s.parts
  unfolding renamed_scene renamed
  stranger-so h ip s = ap₂ (λ own covered. own || not covered) (local-renamed r ip s.parts.addresses) (covers-renamed r at_n at_m faithful (Half h) ip s.parts.routes)

  replied_if-renamed : {b c : Bool} → b ≡ c → (h : N) (packet : ArpPacket) (s : SceneOf N) → replied_if at_m b (r h) packet (renamed_scene r s) ≡ renamed_scene r (replied_if at_n c h packet s)
  replied_if-renamed test h packet s =
      choice (renamed_scene r) (sent_arp at_n h packet.sha (reply (mac_of at_n h s) packet) s) s test
      (ap (λ mac. sent at_m (r h) (arp_frame packet.sha (reply mac packet)) (renamed_scene r s)) (mac_of-renamed h s)
      ∙ sent-renamed r at_n at_m faithful h (arp_frame packet.sha (reply (mac_of at_n h s) packet)) s)
      refl

  target-so : (h : N) (ip : Ip4) (s : SceneOf N) → on_interface at_m (Half (r h)) ip (renamed_scene r s).parts.addresses ≡ on_interface at_n (Half h) ip s.parts.addresses
  unfolding renamed_scene renamed
  target-so h ip s = on_interface-renamed r at_n at_m faithful (Half h) ip s.parts.addresses

  waiting-so : (h : N) (ip : Ip4) (s : SceneOf N) → resolution.released at_m (r h) ip (renamed_scene r s).parts.arp ≡ resolution.released at_n h ip s.parts.arp
  unfolding renamed_scene renamed
  waiting-so h ip s = released-renamed r at_n at_m faithful h ip s.parts.arp

  module _ (common : Common) (h : N) (packet : ArpPacket) (s : SceneOf N) where
    pub arp_heard-renamed : arp_heard at_m common (r h) packet (renamed_scene r s) ≡ renamed_scene r (arp_heard at_n common h packet s)
    unfolding arp_heard
    arp_heard-renamed =
        ap₂ (λ here held. replied_if at_m (here && (packet.op == request_op)) (r h) packet (sent_datagrams at_m (r h) packet.sha held (on_parts (after_input at_m common.clock (r h) packet.spa packet.sha here) (renamed_scene r s))))
        (target-so h packet.tpa s) (waiting-so h packet.spa s)
        ∙ ap (λ t. replied_if at_m ((is_target at_n h packet s) && (packet.op == request_op)) (r h) packet (sent_datagrams at_m (r h) packet.sha (waiting at_n h packet s) t))
        (on_parts-renamed r (after_input at_n common.clock h packet.spa packet.sha (is_target at_n h packet s)) (after_input at_m common.clock (r h) packet.spa packet.sha (is_target at_n h packet s)) s (after_input-renamed r at_n at_m faithful h packet.spa common.clock packet.sha (is_target at_n h packet s) s.parts))
        ∙ ap (replied_if at_m ((is_target at_n h packet s) && (packet.op == request_op)) (r h) packet) (sent_datagrams-renamed h packet.sha (waiting at_n h packet s) (learnt at_n common h packet s))
        ∙ replied_if-renamed {b = (is_target at_n h packet s) && (packet.op == request_op)} refl h packet (sent_datagrams at_n h packet.sha (waiting at_n h packet s) (learnt at_n common h packet s))

  arp_read-renamed : (common : Common) (h : N) (read : Result ArpPacket ArpBad) (s : SceneOf N) → arp_read at_m common (r h) read (renamed_scene r s) ≡ renamed_scene r (arp_read at_n common h read s)
  arp_read-renamed common h (Err bad) s = lost-renamed r tally.Arp 1 s
  arp_read-renamed common h (Ok packet) s =
      choice (renamed_scene r) (lost tally.Arp 1 s) (arp_heard at_n common h packet s) (stranger-so h packet.spa s) (lost-renamed r tally.Arp 1 s) (arp_heard-renamed common h packet s)

  pub arp_received-renamed : (common : Common) (h : N) (octets : List ℕ) (s : SceneOf N) → arp_received at_m common (r h) octets (renamed_scene r s) ≡ renamed_scene r (arp_received at_n common h octets s)
  unfolding arp_received
  arp_received-renamed common h octets s = arp_read-renamed common h (arp_of octets) s

  -- ---- an entry's timer

  turn-so : (h : N) (ip : Ip4) (s : SceneOf N) → option_map turn_of (entry_of at_m (r h) ip (renamed_scene r s).parts.arp) ≡ option_map turn_of (entry_of at_n h ip s.parts.arp)
  unfolding renamed_scene renamed
  turn-so h ip s = ap (option_map turn_of) (entry_of-renamed r at_n at_m faithful h ip s.parts.arp) ∙ by (entry_of at_n h ip s.parts.arp)
    where
      by : (o : Option (ArpEntryOf N)) → option_map turn_of (option_map (as_arp r) o) ≡ option_map turn_of o
      by None = refl
      by (Some e) = refl

  turn_told-renamed : (h : N) (ip : Ip4) (turn : Option TurnOf) (s : SceneOf N) → turn_told at_m (r h) ip turn (renamed_scene r s) ≡ renamed_scene r (turn_told at_n h ip turn s)
  turn_told-renamed h ip None s = refl
  turn_told-renamed h ip (Some Ask) s = requested-renamed h ip s
  turn_told-renamed h ip (Some (GivesUp held)) s = lost-renamed r tally.Arp held s
  turn_told-renamed h ip (Some Removed) s = refl

  pub arp_turned-renamed : (common : Common) (h : N) (ip : Ip4) (s : SceneOf N) → arp_turned at_m common (r h) ip (renamed_scene r s) ≡ renamed_scene r (arp_turned at_n common h ip s)
  unfolding arp_turned
  arp_turned-renamed common h ip s =
      ap₂ (turn_told at_m (r h) ip) (turn-so h ip s)
      (on_parts-renamed r (after_turn at_n common.clock h ip) (after_turn at_m common.clock (r h) ip) s (after_turn-renamed r at_n at_m faithful h ip common.clock s.parts))
      ∙ turn_told-renamed h ip (option_map turn_of (entry_of at_n h ip s.parts.arp)) (on_parts (after_turn at_n common.clock h ip) s)

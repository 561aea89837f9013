-- The packets of address resolution leave a scene sound.
use Rattle.std.proofs.Common.{◌≡◌, ℕ, ◌+◌, Bool, true, false, cond, ◌&&◌, ◌||◌, ◌==◌, List, [], ◌∷◌, Option, Some, None, Result, Ok, Err, refl}
use Rattle.std.specs.Bool.{Decides}
use Rattle.std.specs.Option.{option_map, option_map_or}
use Rattle.std.proofs.lemmas.Bool.{or_parts, not-false}
use Rattle.vn_types.specs.declared.address.Ip4.{Ip4}
use Rattle.vn_types.specs.declared.address.Mac.{Mac}
use Rattle.vn_types.specs.declared.interface.IfOf.TheVariants.{Half}
use Rattle.vn_rules.specs.declared.arp.ArpEntryOf.{ArpEntryOf}
use Rattle.vn_rules.specs.declared.arp.ArpState.TheVariants.{Learnt}
use Rattle.vn_rules.specs.declared.parts.PartsOf.{PartsOf}
use Rattle.vn_rules.specs.Addresses.{local}
use Rattle.vn_rules.specs.Arp.{entry_of, hit, is_down, with_entry, holding, resolved, without_entries}
use Rattle.vn_rules.specs.Interfaces.{is_among}
use Rattle.vn_rules.specs.Resolution.{TurnOf, Ask, GivesUp, Removed, request_time, learnt_time, turn_of, turned, timed_entry, untimed, asks, drops_oldest, merges, adds, after_hold, after_input, after_turn}
use Rattle.vn_rules.specs.Routes.{covers}
use Rattle.vn_rules.specs.Rules.{Common}
use Rattle.vn_rules.specs.Scenes.{SceneOf, is_sound_scene}
use Rattle.vn_rules.specs.Soundness.{is_sound_but}
use Rattle.vn_rules.proofs.ArpKept.{after_input-sound, after_hold-sound}
use Rattle.vn_rules.proofs.ArpRemoved.{after_turn-sound}
use Rattle.vn_rules.proofs.LinkLaws.{are_queues}
use Rattle.vn_link.specs.declared.arp.ArpBad.{ArpBad}
use Rattle.vn_link.specs.declared.arp.ArpPacket.{ArpPacket}
use Rattle.vn_link.specs.Packets.{arp_of}
use Rattle.vn_packets.specs.declared.tally.Tally.TheVariants as tally
use Rattle.vn_packets.specs.ArpPackets.{request_op, request, gratuitous, reply, arp_frame, mac_of, sent_arp, asking_source, requested, announced, sent_datagram, sent_datagrams, requested_if, waits, held, carried_by, carried, is_stranger, replied_if, is_target, waiting, learnt, arp_heard, arp_read, arp_received, turn_told, arp_turned}
use Rattle.vn_packets.specs.Datagrams.{ip4_type, broadcast_mac, frame_with}
use Rattle.vn_packets.specs.Drops.{on_parts, lost, lost_if}
use Rattle.vn_packets.proofs.SceneSound.{Keeps, keeps-refl, keeps-then, keeps-either, keeps-by, parts-sound, scene-sound, on_parts-keeps, lost-keeps, lost_if-keeps, sent-keeps}

module _ {N : Type 0} (same : N → N → Bool) where
  -- ---- what is sent

  pub requested-keeps : (h : N) (ip : Ip4) (s : SceneOf N) → is_sound_scene same s ≡ true → Keeps same s (requested same h ip s)
  unfolding requested
  requested-keeps h ip s sound = sent-keeps same h (arp_frame broadcast_mac (request (mac_of same h s) (asking_source same h ip s.parts) ip)) s sound

  pub announced-keeps : (h : N) (ip : Ip4) (s : SceneOf N) → is_sound_scene same s ≡ true → Keeps same s (announced same h ip s)
  unfolding announced
  announced-keeps h ip s sound = sent-keeps same h (arp_frame broadcast_mac (gratuitous (mac_of same h s) ip)) s sound

  pub sent_datagram-keeps : (h : N) (to : Mac) (datagram : List ℕ) (s : SceneOf N) → is_sound_scene same s ≡ true → Keeps same s (sent_datagram same h to datagram s)
  unfolding sent_datagram
  sent_datagram-keeps h to datagram s sound = sent-keeps same h (frame_with to (mac_of same h s) ip4_type datagram) s sound

  pub sent_datagrams-keeps : (h : N) (to : Mac) (datagrams : List (List ℕ)) (s : SceneOf N) → is_sound_scene same s ≡ true → Keeps same s (sent_datagrams same h to datagrams s)
  unfolding sent_datagrams
  sent_datagrams-keeps h to [] s sound = keeps-refl same s sound
  sent_datagrams-keeps h to (datagram ∷ more) s sound =
      keeps-then same s (sent_datagram same h to datagram s) (sent_datagrams same h to more (sent_datagram same h to datagram s)) (sent_datagram-keeps h to datagram s sound)
      (sent_datagrams-keeps h to more (sent_datagram same h to datagram s))

  requested_if-keeps : (b : Bool) (h : N) (ip : Ip4) (s : SceneOf N) → is_sound_scene same s ≡ true → Keeps same s (requested_if same b h ip s)
  requested_if-keeps b h ip s sound = keeps-either same s (requested same h ip s) s b (requested-keeps h ip s sound) (keeps-refl same s sound)

  replied_if-keeps : (b : Bool) (h : N) (packet : ArpPacket) (s : SceneOf N) → is_sound_scene same s ≡ true → Keeps same s (replied_if same b h packet s)
  replied_if-keeps b h packet s sound =
      keeps-either same s (sent_arp same h packet.sha (reply (mac_of same h s) packet) s) s b (sent-keeps same h (arp_frame packet.sha (reply (mac_of same h s) packet)) s sound) (keeps-refl same s sound)

  -- ---- the interfaces stay

  hold-ifs : (now : ℕ) (h : N) (ip : Ip4) (datagram : List ℕ) (p : PartsOf N) → (after_hold same now h ip datagram p).interfaces ≡ p.interfaces
  unfolding after_hold
  hold-ifs now h ip datagram p = by (asks same h ip p.arp)
    where
      by : (b : Bool) → (cond b (timed_entry same (now + request_time) h ip (holding datagram) p) (record p { arp = with_entry same h ip (holding datagram) p.arp })).interfaces ≡ p.interfaces
      by true = refl
      by false = refl

  input-ifs : (now : ℕ) (h : N) (ip : Ip4) (mac : Mac) (is_target : Bool) (p : PartsOf N) → (after_input same now h ip mac is_target p).interfaces ≡ p.interfaces
  unfolding after_input
  input-ifs now h ip mac is_target p = by (merges same h ip p.arp || adds same h ip is_target p.arp)
    where
      by : (b : Bool) → (cond b (timed_entry same (now + learnt_time) h ip (resolved Learnt mac) (untimed same h ip p)) p).interfaces ≡ p.interfaces
      by true = refl
      by false = refl

  turned-ifs : (now : ℕ) (h : N) (ip : Ip4) (p : PartsOf N) (turn : TurnOf) → (turned same now h ip p turn).interfaces ≡ p.interfaces
  unfolding without_entries
  turned-ifs now h ip p Ask = refl
  turned-ifs now h ip p (GivesUp held) = refl
  turned-ifs now h ip p Removed = refl

  turn-ifs : (now : ℕ) (h : N) (ip : Ip4) (p : PartsOf N) → (after_turn same now h ip p).interfaces ≡ p.interfaces
  unfolding after_turn
  turn-ifs now h ip p = by (entry_of same h ip p.arp)
    where
      by : (o : Option (ArpEntryOf N)) → (option_map_or (λ (e : ArpEntryOf N). turned same now h ip p (turn_of e)) o p).interfaces ≡ p.interfaces
      by None = refl
      by (Some e) = turned-ifs now h ip p (turn_of e)

module _ {N : Type 0} (same : N → N → Bool) (decides : (a b : N) → Decides (same a b) (a ≡ b)) where
  -- ---- a datagram waits, for an address that the half covers and that is not down

  module _ (common : Common) (h : N) (ip : Ip4) (datagram : List ℕ) (s : SceneOf N) (sound : is_sound_scene same s ≡ true)
      (among : is_among same s.parts.interfaces (Half h) ≡ true) (covered : covers same (Half h) ip s.parts.routes ≡ true) (up : is_down same h ip s.parts.arp ≡ false) where
    pub held-keeps : hit same h ip s.parts.arp ≡ None → Keeps same s (held same common h ip datagram s)
    unfolding held
    held-keeps unknown =
        keeps-then same s (waits same common h ip datagram s) (requested_if same (asks same h ip s.parts.arp) h ip (lost_if (drops_oldest same h ip s.parts.arp) tally.Full (waits same common h ip datagram s)))
        (on_parts-keeps same (after_hold same common.clock h ip datagram) s (after_hold-sound same decides h ip s.parts (parts-sound same s sound) among covered common.clock datagram unknown up) (hold-ifs same common.clock h ip datagram s.parts) sound)
        (λ is. keeps-then same (waits same common h ip datagram s) (lost_if (drops_oldest same h ip s.parts.arp) tally.Full (waits same common h ip datagram s)) (requested_if same (asks same h ip s.parts.arp) h ip (lost_if (drops_oldest same h ip s.parts.arp) tally.Full (waits same common h ip datagram s)))
        (lost_if-keeps same (drops_oldest same h ip s.parts.arp) tally.Full (waits same common h ip datagram s) is)
        (requested_if-keeps same (asks same h ip s.parts.arp) h ip (lost_if (drops_oldest same h ip s.parts.arp) tally.Full (waits same common h ip datagram s))))

    pub carried-keeps : Keeps same s (carried same common h ip datagram s)
    unfolding carried
    carried-keeps = by (hit same h ip s.parts.arp) refl
      where
        by : (o : Option Mac) → hit same h ip s.parts.arp ≡ o → Keeps same s (carried_by same o common h ip datagram s)
        by None is = held-keeps is
        by (Some mac) is = sent_datagram-keeps same h mac datagram s sound

  -- ---- a packet comes to a half that stands there

  module _ (common : Common) (h : N) (s : SceneOf N) (sound : is_sound_scene same s ≡ true) (among : is_among same s.parts.interfaces (Half h) ≡ true) where
    pub arp_heard-keeps : (packet : ArpPacket) → covers same (Half h) packet.spa s.parts.routes ≡ true → Keeps same s (arp_heard same common h packet s)
    unfolding arp_heard
    arp_heard-keeps packet covered =
        keeps-then same s (learnt same common h packet s) (replied_if same ((is_target same h packet s) && (packet.op == request_op)) h packet (sent_datagrams same h packet.sha (waiting same h packet s) (learnt same common h packet s)))
        (on_parts-keeps same (after_input same common.clock h packet.spa packet.sha (is_target same h packet s)) s (after_input-sound same decides h packet.spa s.parts (parts-sound same s sound) among covered common.clock packet.sha (is_target same h packet s))
        (input-ifs same common.clock h packet.spa packet.sha (is_target same h packet s) s.parts) sound)
        (λ is. keeps-then same (learnt same common h packet s) (sent_datagrams same h packet.sha (waiting same h packet s) (learnt same common h packet s)) (replied_if same ((is_target same h packet s) && (packet.op == request_op)) h packet (sent_datagrams same h packet.sha (waiting same h packet s) (learnt same common h packet s)))
        (sent_datagrams-keeps same h packet.sha (waiting same h packet s) (learnt same common h packet s) is)
        (replied_if-keeps same ((is_target same h packet s) && (packet.op == request_op)) h packet (sent_datagrams same h packet.sha (waiting same h packet s) (learnt same common h packet s))))

    covered-by : (ip : Ip4) → is_stranger same h ip s.parts ≡ false → covers same (Half h) ip s.parts.routes ≡ true
    covered-by ip known = not-false (covers same (Half h) ip s.parts.routes) (or_parts (local ip s.parts.addresses) _ known).1

    arp_read-keeps : (read : Result ArpPacket ArpBad) → Keeps same s (arp_read same common h read s)
    arp_read-keeps (Err bad) = lost-keeps same tally.Arp 1 s sound
    arp_read-keeps (Ok packet) =
        keeps-by same s (lost tally.Arp 1 s) (arp_heard same common h packet s) (is_stranger same h packet.spa s.parts)
        (λ is. lost-keeps same tally.Arp 1 s sound) (λ is. arp_heard-keeps packet (covered-by packet.spa is))

    pub arp_received-keeps : (octets : List ℕ) → Keeps same s (arp_received same common h octets s)
    unfolding arp_received
    arp_received-keeps octets = arp_read-keeps (arp_of octets)

  -- ---- an entry's timer, which was taken out

  turn_told-keeps : (h : N) (ip : Ip4) (turn : Option TurnOf) (s : SceneOf N) → is_sound_scene same s ≡ true → Keeps same s (turn_told same h ip turn s)
  turn_told-keeps h ip None s sound = keeps-refl same s sound
  turn_told-keeps h ip (Some Ask) s sound = requested-keeps same h ip s sound
  turn_told-keeps h ip (Some (GivesUp held)) s sound = lost-keeps same tally.Arp held s sound
  turn_told-keeps h ip (Some Removed) s sound = keeps-refl same s sound

  pub arp_turned-keeps : (common : Common) (h : N) (ip : Ip4) (s : SceneOf N) → is_sound_but same h ip s.parts ≡ true → are_queues same s.links ≡ true → Keeps same s (arp_turned same common h ip s)
  unfolding arp_turned
  arp_turned-keeps common h ip s sound short =
      let turned_scene = on_parts (after_turn same common.clock h ip) s in
      keeps-then same s turned_scene (turn_told same h ip (option_map turn_of (entry_of same h ip s.parts.arp)) turned_scene)
      (record {
        sound = scene-sound same turned_scene (after_turn-sound same decides s.parts h ip sound common.clock) short;
        interfaces = turn-ifs same common.clock h ip s.parts;
      })
      (turn_told-keeps h ip (option_map turn_of (entry_of same h ip s.parts.arp)) turned_scene)

-- How much the packets of address resolution add to the counters and timers of a stack.
use Rattle.std.proofs.Common.{◌≡◌, ℕ, ◌+◌, ◌≤◌, nat_lt, nat_le, Bool, true, false, cond, ◌&&◌, ◌||◌, ◌==◌, List, [], ◌∷◌, length, Option, Some, None, Result, Ok, Err, is_none, is_some, refl, ap, subst, arith}
use Rattle.std.specs.Option.{option_map, option_map_or}
use Rattle.std.proofs.lemmas.Bool.{and_parts, leb-true, eqb-true}
use Rattle.vn_types.specs.declared.address.Ip4.{Ip4}
use Rattle.vn_types.specs.declared.address.Mac.{Mac}
use Rattle.vn_rules.specs.declared.arp.ArpEntryOf.{ArpEntryOf}
use Rattle.vn_rules.specs.declared.arp.ArpState.{ArpState}
use Rattle.vn_rules.specs.declared.arp.ArpState.TheVariants.{Incomplete, Learnt, Static, Down}
use Rattle.vn_rules.specs.declared.arp.TheConstants.{HELD_MAX, REQUESTS_MAX}
use Rattle.vn_rules.specs.declared.parts.PartsOf.{PartsOf}
use Rattle.vn_rules.specs.Arp.{is_entry_at, entry_of, held_for, hit, with_entry, holding, resolved, without_entries}
use Rattle.vn_rules.specs.Orders.{is_right_in, are_arp_entries}
use Rattle.vn_rules.specs.Resolution as resolution
use Rattle.vn_rules.specs.Resolution.{TurnOf, Ask, GivesUp, Removed, request_time, learnt_time, turn_in, turn_of, turned, timed_entry, untimed, asks, drops_oldest, merges, adds, after_hold, after_input, after_turn}
use Rattle.vn_rules.specs.Rules.{Common}
use Rattle.vn_rules.specs.Scenes.{SceneOf}
use Rattle.vn_rules.proofs.ListTests.{find_all}
use Rattle.vn_link.specs.declared.arp.ArpBad.{ArpBad}
use Rattle.vn_link.specs.declared.arp.ArpPacket.{ArpPacket}
use Rattle.vn_link.specs.Packets.{arp_of}
use Rattle.vn_packets.specs.declared.tally.Tally.TheVariants as tally
use Rattle.vn_packets.specs.ArpPackets.{request_op, request, gratuitous, reply, arp_frame, mac_of, sent_arp, asking_source, requested, announced, sent_datagram, sent_datagrams, requested_if, waits, held, carried_by, carried, is_stranger, replied_if, is_target, waiting, learnt, arp_heard, arp_read, arp_received, turn_told, arp_turned}
use Rattle.vn_packets.specs.Datagrams.{ip4_type, broadcast_mac, frame_with}
use Rattle.vn_packets.specs.Drops.{on_parts, lost, lost_if}
use Rattle.vn_packets.specs.Growth.{Grows}
use Rattle.vn_packets.proofs.SceneGrowth.{grows-refl, grows-then, grows-more, grows-armed, grows-either, lost-grows, lost_if-grows, sent-grows}

module _ {N : Type 0} (same : N → N → Bool) where
  -- ---- what is sent

  pub requested-grows : (h : N) (ip : Ip4) (s : SceneOf N) → Grows 1 0 s.parts (requested same h ip s).parts
  unfolding requested
  requested-grows h ip s = sent-grows same h (arp_frame broadcast_mac (request (mac_of same h s) (asking_source same h ip s.parts) ip)) s

  pub announced-grows : (h : N) (ip : Ip4) (s : SceneOf N) → Grows 1 0 s.parts (announced same h ip s).parts
  unfolding announced
  announced-grows h ip s = sent-grows same h (arp_frame broadcast_mac (gratuitous (mac_of same h s) ip)) s

  pub sent_datagram-grows : (h : N) (to : Mac) (datagram : List ℕ) (s : SceneOf N) → Grows 1 0 s.parts (sent_datagram same h to datagram s).parts
  unfolding sent_datagram
  sent_datagram-grows h to datagram s = sent-grows same h (frame_with to (mac_of same h s) ip4_type datagram) s

  pub sent_datagrams-grows : (h : N) (to : Mac) (datagrams : List (List ℕ)) (s : SceneOf N) → Grows (length datagrams) 0 s.parts (sent_datagrams same h to datagrams s).parts
  unfolding sent_datagrams
  sent_datagrams-grows h to [] s = grows-refl s.parts
  sent_datagrams-grows h to (datagram ∷ more) s =
      let next = sent_datagram same h to datagram s in
      grows-more s.parts (sent_datagrams same h to more next).parts (omega arith) (omega arith)
      (grows-then s.parts next.parts (sent_datagrams same h to more next).parts (sent_datagram-grows h to datagram s) (sent_datagrams-grows h to more next))

  requested_if-grows : (b : Bool) (h : N) (ip : Ip4) (s : SceneOf N) → Grows 1 0 s.parts (requested_if same b h ip s).parts
  requested_if-grows b h ip s =
      grows-either s (requested same h ip s) s b (requested-grows h ip s) (grows-more s.parts s.parts (omega arith) (omega arith) (grows-refl s.parts))

  replied_if-grows : (b : Bool) (h : N) (packet : ArpPacket) (s : SceneOf N) → Grows 1 0 s.parts (replied_if same b h packet s).parts
  replied_if-grows b h packet s =
      grows-either s (sent_arp same h packet.sha (reply (mac_of same h s) packet) s) s b
      (sent-grows same h (arp_frame packet.sha (reply (mac_of same h s) packet)) s) (grows-more s.parts s.parts (omega arith) (omega arith) (grows-refl s.parts))

  -- ---- what is armed

  hold-grows : (now : ℕ) (h : N) (ip : Ip4) (datagram : List ℕ) (p : PartsOf N) → Grows 0 1 p (after_hold same now h ip datagram p)
  unfolding after_hold
  hold-grows now h ip datagram p = by (asks same h ip p.arp)
    where
      by : (b : Bool) → Grows 0 1 p (cond b (timed_entry same (now + request_time) h ip (holding datagram) p) (record p { arp = with_entry same h ip (holding datagram) p.arp }))
      by true = grows-armed p (timed_entry same (now + request_time) h ip (holding datagram) p) refl refl (omega arith)
      by false = grows-armed p (record p { arp = with_entry same h ip (holding datagram) p.arp }) refl refl (omega arith)

  input-grows : (now : ℕ) (h : N) (ip : Ip4) (mac : Mac) (is_target : Bool) (p : PartsOf N) → Grows 0 1 p (after_input same now h ip mac is_target p)
  unfolding after_input
  input-grows now h ip mac is_target p = by (merges same h ip p.arp || adds same h ip is_target p.arp)
    where
      by : (b : Bool) → Grows 0 1 p (cond b (timed_entry same (now + learnt_time) h ip (resolved Learnt mac) (untimed same h ip p)) p)
      by true = grows-armed p (timed_entry same (now + learnt_time) h ip (resolved Learnt mac) (untimed same h ip p)) refl refl (omega arith)
      by false = grows-armed p p refl refl (omega arith)

  turned-grows : (now : ℕ) (h : N) (ip : Ip4) (p : PartsOf N) (turn : TurnOf) → Grows 0 1 p (turned same now h ip p turn)
  unfolding without_entries
  turned-grows now h ip p Ask = grows-armed p (turned same now h ip p Ask) refl refl (omega arith)
  turned-grows now h ip p (GivesUp n) = grows-armed p (turned same now h ip p (GivesUp n)) refl refl (omega arith)
  turned-grows now h ip p Removed = grows-armed p (turned same now h ip p Removed) refl refl (omega arith)

  turn-grows : (now : ℕ) (h : N) (ip : Ip4) (p : PartsOf N) → Grows 0 1 p (after_turn same now h ip p)
  unfolding after_turn
  turn-grows now h ip p = by (entry_of same h ip p.arp)
    where
      by : (o : Option (ArpEntryOf N)) → Grows 0 1 p (option_map_or (λ (e : ArpEntryOf N). turned same now h ip p (turn_of e)) o p)
      by None = grows-armed p p refl refl (omega arith)
      by (Some e) = turned-grows now h ip p (turn_of e)

  -- ---- a datagram waits

  pub held-grows : (common : Common) (h : N) (ip : Ip4) (datagram : List ℕ) (s : SceneOf N) → Grows 2 1 s.parts (held same common h ip datagram s).parts
  unfolding held
  held-grows common h ip datagram s =
      let dropped = lost_if (drops_oldest same h ip s.parts.arp) tally.Full (waits same common h ip datagram s) in
      grows-more s.parts (requested_if same (asks same h ip s.parts.arp) h ip dropped).parts (omega arith) (omega arith)
      (grows-then s.parts dropped.parts (requested_if same (asks same h ip s.parts.arp) h ip dropped).parts
      (grows-then s.parts (waits same common h ip datagram s).parts dropped.parts (hold-grows common.clock h ip datagram s.parts) (lost_if-grows (drops_oldest same h ip s.parts.arp) tally.Full (waits same common h ip datagram s)))
      (requested_if-grows (asks same h ip s.parts.arp) h ip dropped))

  pub carried-grows : (common : Common) (h : N) (ip : Ip4) (datagram : List ℕ) (s : SceneOf N) → Grows 2 1 s.parts (carried same common h ip datagram s).parts
  unfolding carried
  carried-grows common h ip datagram s = by (hit same h ip s.parts.arp)
    where
      by : (o : Option Mac) → Grows 2 1 s.parts (carried_by same o common h ip datagram s).parts
      by None = held-grows common h ip datagram s
      by (Some mac) = grows-more s.parts (sent_datagram same h mac datagram s).parts (omega arith) (omega arith) (sent_datagram-grows h mac datagram s)

  -- ---- as many datagrams wait for a neighbour as an entry may hold

  count : TurnOf → ℕ
  count Ask = 0
  count (GivesUp m) = m
  count Removed = 0

  most : Option TurnOf → ℕ
  most None = 0
  most (Some turn) = count turn

  turn-most : (state : ArpState) (requests waiting : ℕ) → waiting ≤ HELD_MAX → count (turn_in state requests waiting) ≤ HELD_MAX
  unfolding count
  turn-most Incomplete requests waiting few = asked (nat_lt requests REQUESTS_MAX)
    where
      asked : (b : Bool) → count (cond b Ask (GivesUp waiting)) ≤ HELD_MAX
      asked true = omega arith
      asked false = few
  turn-most Learnt requests waiting few = omega arith
  turn-most Static requests waiting few = omega arith
  turn-most Down requests waiting few = omega arith

  module _ (h : N) (ip : Ip4) (p : PartsOf N) (right : are_arp_entries p.arp ≡ true) where
    few : (state : ArpState) (e : ArpEntryOf N) → is_right_in state e ≡ true → length e.held ≤ HELD_MAX
    few Incomplete e is =
        leb-true (length e.held) HELD_MAX (and_parts (is_none e.mac && nat_lt 0 e.requests && nat_le e.requests REQUESTS_MAX) (nat_le (length e.held) HELD_MAX) is).1
    few Learnt e is = let none = eqb-true (length e.held) 0 (and_parts (is_some e.mac) (length e.held == 0) is).1 in omega (arith, none)
    few Static e is = let none = eqb-true (length e.held) 0 (and_parts (is_some e.mac) (length e.held == 0) is).1 in omega (arith, none)
    few Down e is = let none = eqb-true (length e.held) 0 (and_parts (is_none e.mac) (length e.held == 0) is).1 in omega (arith, none)

    pub entry-few : (e : ArpEntryOf N) → entry_of same h ip p.arp ≡ Some e → length e.held ≤ HELD_MAX
    unfolding are_arp_entries
    entry-few e found = few e.state e (find_all (is_entry_at same h ip) (λ (e : ArpEntryOf N). is_right_in e.state e) p.arp e found right)

    pub waiting-few : length (resolution.released same h ip p.arp) ≤ HELD_MAX
    waiting-few = by (merges same h ip p.arp)
      where
        at : (o : Option (ArpEntryOf N)) → entry_of same h ip p.arp ≡ o → length (option_map_or (λ (e : ArpEntryOf N). e.held) o []) ≤ HELD_MAX
        at None is = omega arith
        at (Some e) is = entry-few e is

        by : (b : Bool) → length (cond b (held_for same h ip p.arp) []) ≤ HELD_MAX
        by true = at (entry_of same h ip p.arp) refl
        by false = omega arith

    turn-few : (n : ℕ) → option_map turn_of (entry_of same h ip p.arp) ≡ Some (GivesUp n) → n ≤ HELD_MAX
    unfolding most count
    turn-few n is = by (entry_of same h ip p.arp) refl is
      where
        by : (o : Option (ArpEntryOf N)) → entry_of same h ip p.arp ≡ o → option_map turn_of o ≡ Some (GivesUp n) → n ≤ HELD_MAX
        by None found is = absurd (cc)
        by (Some e) found is = subst (λ m. m ≤ HELD_MAX) (ap most is) (turn-most e.state e.requests (length e.held) (entry-few e found))

  -- ---- a packet comes

  module _ (common : Common) (h : N) (s : SceneOf N) (right : are_arp_entries s.parts.arp ≡ true) where
    arp_heard-grows : (packet : ArpPacket) → Grows 17 1 s.parts (arp_heard same common h packet s).parts
    unfolding arp_heard
    arp_heard-grows packet =
        let few = waiting-few h packet.spa s.parts right in
        let sent_on = sent_datagrams same h packet.sha (waiting same h packet s) (learnt same common h packet s) in
        grows-more s.parts (replied_if same ((is_target same h packet s) && (packet.op == request_op)) h packet sent_on).parts (omega (arith, few)) (omega arith)
        (grows-then s.parts sent_on.parts (replied_if same ((is_target same h packet s) && (packet.op == request_op)) h packet sent_on).parts
        (grows-then s.parts (learnt same common h packet s).parts sent_on.parts (input-grows common.clock h packet.spa packet.sha (is_target same h packet s) s.parts) (sent_datagrams-grows h packet.sha (waiting same h packet s) (learnt same common h packet s)))
        (replied_if-grows ((is_target same h packet s) && (packet.op == request_op)) h packet sent_on))

    lost-17 : Grows 17 1 s.parts (lost tally.Arp 1 s).parts
    lost-17 = grows-more s.parts (lost tally.Arp 1 s).parts (omega arith) (omega arith) (lost-grows tally.Arp 1 s)

    arp_read-grows : (read : Result ArpPacket ArpBad) → Grows 17 1 s.parts (arp_read same common h read s).parts
    arp_read-grows (Err bad) = lost-17
    arp_read-grows (Ok packet) = grows-either s (lost tally.Arp 1 s) (arp_heard same common h packet s) (is_stranger same h packet.spa s.parts) lost-17 (arp_heard-grows packet)

    pub arp_received-grows : (octets : List ℕ) → Grows 17 1 s.parts (arp_received same common h octets s).parts
    unfolding arp_received
    arp_received-grows octets = arp_read-grows (arp_of octets)

    -- ---- an entry's timer

    pub arp_turned-grows : (ip : Ip4) → Grows 16 1 s.parts (arp_turned same common h ip s).parts
    unfolding arp_turned
    arp_turned-grows ip = by (option_map turn_of (entry_of same h ip s.parts.arp)) refl
      where
        turned_scene : SceneOf N
        turned_scene = on_parts (after_turn same common.clock h ip) s

        after : {k : ℕ} (t : SceneOf N) → k ≤ 16 → Grows k 0 turned_scene.parts t.parts → Grows 16 1 s.parts t.parts
        after t less g = grows-more s.parts t.parts (omega (arith, less)) (omega arith) (grows-then s.parts turned_scene.parts t.parts (turn-grows common.clock h ip s.parts) g)

        by : (o : Option TurnOf) → option_map turn_of (entry_of same h ip s.parts.arp) ≡ o → Grows 16 1 s.parts (turn_told same h ip o turned_scene).parts
        by None is = after turned_scene (omega arith) (grows-refl turned_scene.parts)
        by (Some Ask) is = after (requested same h ip turned_scene) (omega arith) (requested-grows h ip turned_scene)
        by (Some (GivesUp n)) is = after (lost tally.Arp n turned_scene) (turn-few h ip s.parts right n is) (lost-grows tally.Arp n turned_scene)
        by (Some Removed) is = after turned_scene (omega arith) (grows-refl turned_scene.parts)

-- Entries and timers of a stack change by a rule, and frames go out.
use Rattle.std.proofs.Common.{◌≡◌, ◌≢◌, ℕ, ◌≤◌, Bool, true, false, ◌&&◌, ◌==◌, List, ◌∷◌, length, drop, Some, None, refl, sym, ap, subst, ◌∙◌, ⊎_elim, arith}
use Rattle.std.specs.Prelude.{slice_get}
use Rattle.std.proofs.lemmas.Bool.{cases_eq, not-false, or_parts}
use Rattle.vn_types.specs.declared.address.Ip4.{Ip4}
use Rattle.vn_types.specs.declared.address.Mac.{Mac}
use Rattle.vn_types.specs.declared.interface.HalfId.{HalfId}
use Rattle.vn_types.specs.declared.interface.IfOf.TheVariants.{Half}
use Rattle.vn_types.specs.Interfaces.{half_id_eq}
use Rattle.vn_types.specs.PerStack.{ChangesOnly}
use Rattle.vn_types.proofs.InterfaceNames.{half_id_eq-Decides}
use Rattle.vn_rules.specs.declared.parts.PartsOf.{PartsOf}
use Rattle.vn_rules.specs.declared.timer.TimersOf.{TimersOf}
use Rattle.vn_rules.specs.Addresses.{local, on_interface}
use Rattle.vn_rules.specs.Resolution.{after_input, released}
use Rattle.vn_rules.specs.Routes.{covers}
use Rattle.vn_rules.specs.Scenes.{SceneOf}
use Rattle.vn_rules.specs.declared.arp.TheConstants.{HELD_MAX}
use Rattle.vn_rules.specs.Soundness.{is_sound_parts, times_arp}
use Rattle.vn_rules.proofs.SoundFacts.{facts_from_sound}
use Rattle.vn_rules.proofs.ArpKept.{after_input-sound}
use Rattle.vn_link.specs.declared.arp.ArpPacket.{ArpPacket}
use Rattle.vn_packets.specs.ArpPackets.{arp_heard, is_stranger, is_target, learnt, mac_of, replied_if, reply, request_op, sent_arp, sent_datagram, sent_datagrams, waiting}
use Rattle.vn_packets.specs.Drops.{on_parts}
use Rattle.vn_packets.specs.Growth.{Grows}
use Rattle.vn_packets.proofs.ArpPacketGrowth.{sent_datagram-grows, sent_datagrams-grows, waiting-few}
use Rattle.vn_arp.specs.Kept.{Follows, KeptOf, KnowsArms, entries_of}
use Rattle.vn_arp.specs.Stacks.{of as arp_of}
use Rattle.vn_callout.specs.Stacks.{of as timers_of}
use Rattle.vn_vmove.specs.declared.tables.Tables.{Tables}
use Rattle.vn_vmove.specs.Leaving.{KnowsTimers}
use Rattle.vn_vmove.specs.Parts.{lives, pair_at, parts}
use Rattle.vn_vmove.specs.Sound.{IsSound, stands_at}
use Rattle.vn_vmove.specs.Tallies.{drops_of}
use Rattle.vn_vmove.proofs.Names.{listed-stands}
use Rattle.vn_vmove.proofs.Walk.{drop_here, drop_none}
use Rattle.vn_ipcore.specs.Scenes.{HasRoom, HasRoomFor, Replaces, scene_of}
use Rattle.vn_ipcore.proofs.Announced.{counts_rise}
use Rattle.vn_ipcore.proofs.Back.{ChangesWithin, goes_on, replaces_as, replaces_same, replaces_then}
use Rattle.vn_ipcore.proofs.Parted.{Parted, replaces_parted}
use Rattle.vn_ipcore.proofs.Sent.{lives-where}

abbrev Parts : Type 0
Parts = PartsOf HalfId

-- ---- entries and timers

-- the tables with other entries and timers
abbrev pub resolved : Tables → List (List (KeptOf HalfId)) → List (TimersOf HalfId) → Tables
resolved t arp wheel = record t { arp = arp; wheel = wheel }

module _ {t : Tables} (s : IsSound t) (q : ℕ) (alive : lives t q ≡ true) (rule : Parts → Parts) (arp : List (List (KeptOf HalfId))) (wheel : List (TimersOf HalfId))
    (follows : Follows rule (arp_of t.arp q) (timers_of t.wheel q) (arp_of arp q) (timers_of wheel q)) (knows : KnowsArms half_id_eq (arp_of arp q) (timers_of wheel q))
    (others : ChangesOnly q (arp_of t.arp) (arp_of arp)) (other_timers : ChangesOnly q (timers_of t.wheel) (timers_of wheel)) where
  arms : (r : ℕ) → KnowsTimers t r → KnowsTimers (resolved t arp wheel) r
  arms r known = ⊎_elim at off (cases_eq r q)
    where
      at : r ≡ q → KnowsTimers (resolved t arp wheel) r
      at is = subst (KnowsTimers (resolved t arp wheel)) (sym is) knows

      off : r ≢ q → KnowsTimers (resolved t arp wheel) r
      off ne = subst (λ (x : List (KeptOf HalfId) × TimersOf HalfId). KnowsArms half_id_eq x.0 x.1) (λ i. (sym (others.others r ne) i, sym (other_timers.others r ne) i)) known

  parted : Parted t (resolved t arp wheel) q
  parted = record {
    others = record { others = λ r ne i. record (parts t r) { arp = entries_of (others.others r ne i); timers = other_timers.others r ne i } };
    lives = λ r. refl;
    instances = λ r. refl;
    loopbacks = λ r. refl;
    declared = refl;
    arms = arms;
  }

  pub replaces_resolved : is_sound_parts half_id_eq (rule (parts t q)) ≡ true → Replaces q (on_parts rule (scene_of t q)) t (resolved t arp wheel)
  replaces_resolved keeps = replaces_parted s (resolved t arp wheel) q alive parted rule (follows.parts (parts t q)) keeps

-- what is learnt of a sender on a network of the half leaves the tables sound
pub learnt-sound : {t : Tables} (s : IsSound t) (q : ℕ) (h : HalfId) → stands_at q h.side (pair_at t h.pair) ≡ true → (ip : Ip4) → is_stranger half_id_eq h ip (parts t q) ≡ false
    → (now : ℕ) (mac : Mac) (is_target : Bool) → is_sound_parts half_id_eq (after_input half_id_eq now h ip mac is_target (parts t q)) ≡ true
learnt-sound {t} s q h stands ip known now mac is_target =
    after_input-sound half_id_eq half_id_eq-Decides h ip (parts t q) (s.tables q (lives-where s q h stands)) (listed-stands s q h ∙ stands)
    (not-false (covers half_id_eq (Half h) ip (parts t q).routes) (or_parts (local ip (parts t q).addresses) _ known).1) now mac is_target

-- ---- datagrams go out one after another

-- what is left to send leads to the same end
pub record IsSending (q : ℕ) (h : HalfId) (to : Mac) (all : List (List ℕ)) (left : List (List ℕ)) (start now : Tables) : Type 0 where
  pub replaces : ChangesWithin q start now
  pub same : sent_datagrams half_id_eq h to left (scene_of now q) ≡ sent_datagrams half_id_eq h to all (scene_of start q)
  pub room : HasRoomFor (length left) now q

pub sending_first : {t : Tables} → IsSound t → (q : ℕ) (h : HalfId) (to : Mac) (all : List (List ℕ)) → HasRoomFor (length all) t q → IsSending q h to all all t t
sending_first s q h to all room = record { replaces = replaces_same s q; same = refl; room = room }

module _ {q : ℕ} {h : HalfId} {to : Mac} {all left : List (List ℕ)} {start now : Tables} (way : IsSending q h to all left start now) where
  pub sending_room : (x : List ℕ) → slice_get left 0 ≡ Some x → HasRoomFor 1 now q
  sending_room x is what =
      let room = way.room what in
      let longer : length left ≡ length (x ∷ drop 1 left) = ap length (drop_here left 0 x is) in
      omega (arith, room, longer)

  pub sending_more : (later : Tables) (x : List ℕ) → slice_get left 0 ≡ Some x → Replaces q (sent_datagram half_id_eq h to x (scene_of now q)) now later → IsSending q h to all (drop 1 left) start later
  unfolding sent_datagrams scene_of
  sending_more later x is more = record {
    replaces = goes_on way.replaces more;
    same = ap (sent_datagrams half_id_eq h to (drop 1 left)) more.here ∙ ap (λ xs. sent_datagrams half_id_eq h to xs (scene_of now q)) (sym (drop_here left 0 x is)) ∙ way.same;
    room = λ what.
        let rise = counts_rise 1 (parts now q).drops (parts later q).drops grows.drops what in
        let room = way.room what in
        let longer : length left ≡ length (x ∷ drop 1 left) = ap length (drop_here left 0 x is) in
        omega (arith, rise, room, longer);
  }
    where
      grows : Grows 1 0 (scene_of now q).parts (scene_of later q).parts
      grows = subst (λ (s : SceneOf HalfId). Grows 1 0 (scene_of now q).parts s.parts) (sym more.here) (sent_datagram-grows half_id_eq h to x (scene_of now q))

  pub sending_last : slice_get left 0 ≡ None → Replaces q (sent_datagrams half_id_eq h to all (scene_of start q)) start now
  unfolding sent_datagrams
  sending_last none = replaces_as (scene_of now q) (sent_datagrams half_id_eq h to all (scene_of start q))
      (ap (λ xs. sent_datagrams half_id_eq h to xs (scene_of now q)) (sym (drop_none left 0 none)) ∙ way.same) way.replaces

-- ---- a sender is learnt

module _ {t : Tables} (s : IsSound t) (q : ℕ) (h : HalfId) (stands : stands_at q h.side (pair_at t h.pair) ≡ true) (packet : ArpPacket) (now : ℕ) (is_mine : Bool)
    (known : is_stranger half_id_eq h packet.spa (parts t q) ≡ false) (arp : List (List (KeptOf HalfId))) (wheel : List (TimersOf HalfId))
    (follows : Follows (after_input half_id_eq now h packet.spa packet.sha is_mine) (arp_of t.arp q) (timers_of t.wheel q) (arp_of arp q) (timers_of wheel q))
    (knows : KnowsArms half_id_eq (arp_of arp q) (timers_of wheel q)) (others : ChangesOnly q (arp_of t.arp) (arp_of arp)) (other_timers : ChangesOnly q (timers_of t.wheel) (timers_of wheel)) where
  pub replaces_learnt : Replaces q (on_parts (after_input half_id_eq now h packet.spa packet.sha is_mine) (scene_of t q)) t (resolved t arp wheel)
  replaces_learnt = replaces_resolved s q (lives-where s q h stands) (after_input half_id_eq now h packet.spa packet.sha is_mine) arp wheel follows knows others other_timers
      (learnt-sound s q h stands packet.spa known now packet.sha is_mine)

module _ {t : Tables} (s : IsSound t) (q : ℕ) (h : HalfId) (stands : stands_at q h.side (pair_at t h.pair) ≡ true) (ip : Ip4) (room : HasRoom t q)
    (release : List (List ℕ)) (is : release ≡ released half_id_eq h ip (parts t q).arp) where
  few : length release ≤ HELD_MAX
  few =
      let most = waiting-few half_id_eq h ip (parts t q) (facts_from_sound half_id_eq (times_arp half_id_eq) (parts t q) (s.tables q (lives-where s q h stands))).arp in
      subst (λ (xs : List (List ℕ)). length xs ≤ HELD_MAX) (sym is) most

  -- there is room for what is sent then
  pub room_released : HasRoomFor (length release) t q
  room_released what = let below = room what in omega (arith, few, below)

  -- and for a reply
  pub room_replied : (u v : Tables) (to : Mac) → (parts u q).drops ≡ (parts t q).drops → Replaces q (sent_datagrams half_id_eq h to release (scene_of u q)) u v → HasRoomFor 1 v q
  unfolding scene_of
  room_replied u v to same second what =
      let below = room what in
      let rise = counts_rise (length release) (scene_of u q).parts.drops (scene_of v q).parts.drops grows.drops what in
      let equal : drops_of what (parts u q).drops ≡ drops_of what (parts t q).drops = ap (drops_of what) same in
      omega (arith, few, below, rise, equal)
    where
      grows : Grows (length release) 0 (scene_of u q).parts (scene_of v q).parts
      grows = subst (λ (x : SceneOf HalfId). Grows (length release) 0 (scene_of u q).parts x.parts) (sym second.here) (sent_datagrams-grows half_id_eq h to release (scene_of u q))

-- ---- a packet

module _ {t : Tables} (q : ℕ) (h : HalfId) (packet : ArpPacket) (now : ℕ) (is_mine : Bool) (release : List (List ℕ)) (replies : Bool)
    (mine_is : is_mine ≡ on_interface half_id_eq (Half h) packet.tpa (parts t q).addresses) (release_is : release ≡ released half_id_eq h packet.spa (parts t q).arp)
    (replies_is : replies ≡ (is_mine && (packet.op == request_op))) {u v : Tables}
    (first : Replaces q (on_parts (after_input half_id_eq now h packet.spa packet.sha is_mine) (scene_of t q)) t u)
    (second : Replaces q (sent_datagrams half_id_eq h packet.sha release (scene_of u q)) u v) where
  abbrev heard : SceneOf HalfId
  heard = arp_heard half_id_eq (record { clock = now }) h packet (scene_of t q)

  abbrev released_on : SceneOf HalfId
  released_on = sent_datagrams half_id_eq h packet.sha (waiting half_id_eq h packet (scene_of t q)) (learnt half_id_eq (record { clock = now }) h packet (scene_of t q))

  sent_so : sent_datagrams half_id_eq h packet.sha release (scene_of u q) ≡ released_on
  unfolding scene_of
  sent_so =
      ap (λ xs. sent_datagrams half_id_eq h packet.sha xs (scene_of u q)) release_is
      ∙ ap (sent_datagrams half_id_eq h packet.sha (released half_id_eq h packet.spa (parts t q).arp))
      (first.here ∙ ap (λ m. on_parts (after_input half_id_eq now h packet.spa packet.sha m) (scene_of t q)) mine_is)

  both : Replaces q released_on t v
  both = replaces_as (sent_datagrams half_id_eq h packet.sha release (scene_of u q)) released_on sent_so
      (replaces_then q (on_parts (after_input half_id_eq now h packet.spa packet.sha is_mine) (scene_of t q)) (sent_datagrams half_id_eq h packet.sha release (scene_of u q)) t u v first second)

  test_is : replies ≡ (is_target half_id_eq h packet (scene_of t q) && (packet.op == request_op))
  unfolding scene_of
  test_is = replies_is ∙ ap (λ m. m && (packet.op == request_op)) mine_is

  pub heard_silent : replies ≡ false → Replaces q heard t v
  unfolding arp_heard
  heard_silent none = replaces_as released_on heard (ap (λ b. replied_if half_id_eq b h packet released_on) (sym none ∙ test_is)) both

  pub heard_replied : replies ≡ true → (w : Tables) → Replaces q (sent_arp half_id_eq h packet.sha (reply (mac_of half_id_eq h (scene_of v q)) packet) (scene_of v q)) v w → Replaces q heard t w
  unfolding arp_heard
  heard_replied one w third =
      replaces_as (sent_arp half_id_eq h packet.sha (reply (mac_of half_id_eq h (scene_of v q)) packet) (scene_of v q)) heard
      (ap (λ s. sent_arp half_id_eq h packet.sha (reply (mac_of half_id_eq h s) packet) s) both.here ∙ ap (λ b. replied_if half_id_eq b h packet released_on) (sym one ∙ test_is))
      (replaces_then q released_on (sent_arp half_id_eq h packet.sha (reply (mac_of half_id_eq h (scene_of v q)) packet) (scene_of v q)) t v w both third)

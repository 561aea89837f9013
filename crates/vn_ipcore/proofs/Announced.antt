-- The addresses of a half are announced one after another.
use Rattle.std.proofs.Common.{◌≡◌, ℕ, ◌+◌, ◌-◌, ◌≤◌, ◌<◌, ◌^◌, Bool, true, false, cond, List, ◌∷◌, length, take, drop, Some, None, refl, sym, ap, subst, ◌∙◌, arith}
use Rattle.std.specs.Prelude.{filter, slice_get}
use Rattle.std.specs.List.{list_all}
use Rattle.std.proofs.lemmas.Option.{slice_get_within}
use Rattle.vn_types.specs.declared.address.Ip4.{Ip4}
use Rattle.vn_types.specs.declared.address.Mac.{Mac}
use Rattle.vn_types.specs.declared.interface.HalfId.{HalfId}
use Rattle.vn_types.specs.declared.interface.IfOf.TheVariants.{Half}
use Rattle.vn_types.specs.Interfaces.{half_id_eq}
use Rattle.vn_rules.specs.declared.address.AddrOf.{AddrOf}
use Rattle.vn_rules.specs.declared.parts.Drops.{Drops}
use Rattle.vn_rules.specs.Addresses.{is_on}
use Rattle.vn_rules.specs.Scenes.{SceneOf}
use Rattle.vn_packets.specs.declared.tally.Tally.{Tally}
use Rattle.vn_packets.specs.declared.tally.Tally.TheVariants.{Arp, Full, Icmp, Ip, Link, Udp}
use Rattle.vn_packets.specs.AddressLinks.{all_announced}
use Rattle.vn_packets.specs.ArpPackets.{announced, arp_frame, gratuitous}
use Rattle.vn_packets.specs.Datagrams.{broadcast_mac}
use Rattle.vn_packets.specs.Growth.{CountsGrow, Grows}
use Rattle.vn_packets.specs.Links.{sent}
use Rattle.vn_packets.proofs.ArpPacketGrowth.{announced-grows}
use Rattle.vn_packets.proofs.SceneGrowth.{counts-same, counts-then, grows-either, grows-more, grows-refl}
use Rattle.vn_epair.specs.Pairs.{half_of}
use Rattle.vn_vmove.specs.declared.tables.Tables.{Tables}
use Rattle.vn_vmove.specs.Parts.{parts}
use Rattle.vn_vmove.specs.Sound.{IsSound}
use Rattle.vn_vmove.specs.Tallies.{drops_of}
use Rattle.vn_vmove.proofs.Founded.{sound-addresses}
use Rattle.vn_vmove.proofs.Walk.{drop_here, drop_none, few-seen, is_word, seen-more}
use Rattle.vn_ipcore.specs.Announcing.{announced_of}
use Rattle.vn_ipcore.specs.Scenes.{HasRoom, HasRoomFor, Replaces, StandsIn, scene_of}
use Rattle.vn_ipcore.proofs.Back.{ChangesWithin, goes_on, replaces_as, replaces_same}
use Rattle.vn_ipcore.proofs.Sent.{sent_own}

abbrev Addresses : Type 0
Addresses = List (AddrOf HalfId)

-- ---- how far it is

-- those of the half
abbrev pub own : HalfId → Addresses → Addresses
own h addresses = filter (is_on half_id_eq (Half h)) addresses

-- from the place on, what is left to announce leads to the same end
pub record IsOnWay (q : ℕ) (h : HalfId) (place : ℕ) (start now : Tables) : Type 0 where
  pub replaces : ChangesWithin q start now
  pub addresses : (parts now q).addresses ≡ (parts start q).addresses
  pub left : all_announced half_id_eq h (own h (drop place (parts start q).addresses)) (scene_of now q)
      ≡ all_announced half_id_eq h (own h (parts start q).addresses) (scene_of start q)
  pub counts : CountsGrow place (parts start q).drops (parts now q).drops
  pub seen : list_all is_word (take place (parts start q).addresses) ≡ true

pub at_first : {t : Tables} → IsSound t → (q : ℕ) (h : HalfId) → IsOnWay q h 0 t t
at_first {t} s q h = record { replaces = replaces_same s q; addresses = refl; left = refl; counts = counts-same (parts t q).drops (parts t q).drops refl; seen = refl }

-- ---- one address more

-- the frame that tells it went out
pub told : {t u : Tables} {q : ℕ} {h : HalfId} → StandsIn q h t → (ip : Ip4) (mac : Mac) → mac ≡ (half_of t.pairs h).mac
    → (frame : List ℕ) → frame ≡ arp_frame broadcast_mac (gratuitous mac ip) → Replaces q (sent half_id_eq h frame (scene_of t q)) t u
    → Replaces q (announced half_id_eq h ip (scene_of t q)) t u
unfolding announced
told here ip = sent_own here (λ (mac : Mac). arp_frame broadcast_mac (gratuitous mac ip))

own-grows : (h : HalfId) (a : AddrOf HalfId) (s : SceneOf HalfId) → Grows 1 0 s.parts (announced_of h a s).parts
own-grows h a s = grows-either s (announced half_id_eq h a.ip s) s (is_on half_id_eq (Half h) a) (announced-grows half_id_eq h a.ip s)
    (grows-more s.parts s.parts (omega arith) (omega arith) (grows-refl s.parts))

own-first : (h : HalfId) (a : AddrOf HalfId) (rest : Addresses) (s : SceneOf HalfId) → all_announced half_id_eq h (own h rest) (announced_of h a s) ≡ all_announced half_id_eq h (own h (a ∷ rest)) s
unfolding all_announced
own-first h a rest s = by (is_on half_id_eq (Half h) a)
  where
    by : (b : Bool) → all_announced half_id_eq h (own h rest) (cond b (announced half_id_eq h a.ip s) s) ≡ all_announced half_id_eq h (cond b (a ∷ own h rest) (own h rest)) s
    by true = refl
    by false = refl

module _ {q : ℕ} {h : HalfId} {place : ℕ} {start now : Tables} (way : IsOnWay q h place start now) where
  abbrev addresses_of : Addresses
  addresses_of = (parts start q).addresses

  module _ (later : Tables) (a : AddrOf HalfId) (is : slice_get (parts now q).addresses place ≡ Some a) (word : is_word a ≡ true) (more : Replaces q (announced_of h a (scene_of now q)) now later) where
    is_there : slice_get addresses_of place ≡ Some a
    is_there = ap (λ xs. slice_get xs place) (sym way.addresses) ∙ is

    grows : Grows 1 0 (parts now q) (parts later q)
    unfolding scene_of
    grows = subst (λ (s : SceneOf HalfId). Grows 1 0 (parts now q) s.parts) (sym more.here) (own-grows h a (scene_of now q))

    pub one_more : IsOnWay q h (place + 1) start later
    one_more = record {
      replaces = goes_on way.replaces more;
      addresses = grows.addresses ∙ way.addresses;
      left = ap (all_announced half_id_eq h (own h (drop (place + 1) addresses_of))) more.here
          ∙ own-first h a (drop (place + 1) addresses_of) (scene_of now q)
          ∙ ap (λ xs. all_announced half_id_eq h (own h xs) (scene_of now q)) (sym (drop_here addresses_of place a is_there))
          ∙ way.left;
      counts = counts-then (parts start q).drops (parts now q).drops (parts later q).drops way.counts grows.drops;
      seen = seen-more addresses_of place a is_there way.seen word;
    }

  -- none is left
  pub at_last : slice_get (parts now q).addresses place ≡ None → Replaces q (all_announced half_id_eq h (own h addresses_of) (scene_of start q)) start now
  unfolding all_announced
  at_last none = replaces_as (scene_of now q) (all_announced half_id_eq h (own h addresses_of) (scene_of start q))
      (ap (λ xs. all_announced half_id_eq h (own h xs) (scene_of now q)) (sym (drop_none addresses_of place (ap (λ xs. slice_get xs place) (sym way.addresses) ∙ none))) ∙ way.left) way.replaces

-- ---- what is counted

pub counts_rise : (most : ℕ) (d e : Drops) → CountsGrow most d e → (what : Tally) → drops_of what e ≤ drops_of what d + most
counts_rise most d e g Link = g.link
counts_rise most d e g Arp = g.arp
counts_rise most d e g Ip = g.ip
counts_rise most d e g Icmp = g.icmp
counts_rise most d e g Udp = g.udp
counts_rise most d e g Full = g.full

-- there is room for one more
pub still_room : {q : ℕ} {h : HalfId} {place : ℕ} {start now : Tables} → IsOnWay q h place start now → HasRoom start q → place ≤ 2 ^ 32 → HasRoomFor 1 now q
still_room {q} {h} {place} {start} {now} way room few what =
    let rise = counts_rise place (parts start q).drops (parts now q).drops way.counts what in
    let below = room what in
    omega (arith, rise, below, few)

pub room_for_one : (t : Tables) (q : ℕ) → HasRoom t q → HasRoomFor 1 t q
room_for_one t q room what = let below = room what in omega (arith, below)

-- the walk goes over no more places than there are addresses
pub few_places : {q : ℕ} {h : HalfId} {place : ℕ} {start now : Tables} → IsSound start → IsOnWay q h place start now → (a : AddrOf HalfId)
    → slice_get (parts now q).addresses place ≡ Some a → place ≤ 2 ^ 32
few_places {q} {h} {place} {start} {now} sound way a is =
    few-seen (parts start q).addresses place a (sound-addresses start sound q) (ap (λ xs. slice_get xs place) (sym way.addresses) ∙ is) way.seen

-- and comes nearer to their end
pub nearer : {q : ℕ} {h : HalfId} {place : ℕ} {start now later : Tables} → IsOnWay q h place start now → IsOnWay q h (place + 1) start later → (a : AddrOf HalfId)
    → slice_get (parts now q).addresses place ≡ Some a → length (parts later q).addresses - (place + 1) < length (parts now q).addresses - place
nearer {q} {h} {place} {start} {now} {later} way next a is =
    let within = slice_get_within (parts now q).addresses place a is in
    let same : length (parts later q).addresses ≡ length (parts now q).addresses = ap length (next.addresses ∙ sym way.addresses) in
    omega (arith, within, same)

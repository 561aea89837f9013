-- In sound tables each half that a stack's tables name stands there.
use Rattle.std.proofs.Common.{◌≡◌, ℕ, ◌==◌, Bool, true, false, ◌&&◌, ◌||◌, List, [], ◌∷◌, ◌++◌, Option, Some, None, refl, sym, ap, ◌∙◌}
use Rattle.std.specs.List.{list_all, list_any, filter_map, cons_option}
use Rattle.std.specs.Option.{option_map_or}
use Rattle.std.proofs.lemmas.Bool.{and_from, and_parts}
use Rattle.std.proofs.lemmas.List.Folds.{list_all-append}
use Rattle.vn_types.specs.declared.address.Ip4.{Ip4}
use Rattle.vn_types.specs.declared.interface.HalfId.{HalfId}
use Rattle.vn_types.specs.declared.interface.IfOf.{IfOf}
use Rattle.vn_types.specs.declared.interface.IfOf.TheVariants.{Lo0, Half}
use Rattle.vn_types.specs.Interfaces.{half_id_eq, if_same}
use Rattle.vn_types.proofs.InterfaceNames.{half_id_eq-Decides}
use Rattle.vn_types.proofs.ListMaps.{any_map_same}
use Rattle.vn_rules.specs.declared.arp.ArpEntryOf.{ArpEntryOf}
use Rattle.vn_rules.specs.declared.timer.TimerOf.TheVariants.{Arp, Ping}
use Rattle.vn_rules.specs.Interfaces.{halves_in, if_half, is_among, named_ifs, timer_half}
use Rattle.vn_rules.specs.Named.{if_name, ifname_eq}
use Rattle.vn_rules.specs.Renamed.{renamed}
use Rattle.vn_rules.specs.Soundness.{has_owner, is_sound_parts, owns_timers, times_arp}
use Rattle.vn_rules.specs.Timers.{Timed}
use Rattle.vn_rules.proofs.Kept.{IsIn, all_in}
use Rattle.vn_rules.proofs.Named.{NamesPass, names_from, own_names}
use Rattle.vn_rules.proofs.NamedHalves.{renamed-agree}
use Rattle.vn_rules.proofs.SoundFacts.{SoundFacts, facts_from_sound}
use Rattle.vn_ifnet.specs.declared.interfaces.Attached.{Attached}
use Rattle.vn_vmove.specs.declared.tables.Tables.{Tables}
use Rattle.vn_vmove.specs.Parts.{held, lives, pair_at, parts}
use Rattle.vn_vmove.specs.Sound.{IsSound, is_rightly_named, name_in, stands_at}
use Rattle.vn_vmove.proofs.Deciding.{if-refl}
use Rattle.vn_vmove.proofs.Listing.{listed-count}

-- where each thing passes, so does each half that some have
all_mapped : {X Y : Type 0} (h : X → Option Y) (t : Y → Bool) (xs : List X) → list_all (λ x. option_map_or t (h x) true) xs ≡ true → list_all t (filter_map h xs) ≡ true
all_mapped h t [] all = refl
all_mapped {X} {Y} h t (x ∷ xs) all =
    let parts = and_parts (option_map_or t (h x) true) (list_all (λ x. option_map_or t (h x) true) xs) all in by (h x) parts.0 (all_mapped h t xs parts.1)
  where
    by : (o : Option Y) → option_map_or t o true ≡ true → list_all t (filter_map h xs) ≡ true → list_all t (cons_option o (filter_map h xs)) ≡ true
    by None here more = more
    by (Some y) here more = and_from (t y) (list_all t (filter_map h xs)) here more

-- what is attached is rightly named where its half is called as before
pub rightly-same : (t u : Tables) (a : Attached) → ((g : HalfId) → a.what ≡ Half g → name_in u g ≡ name_in t g) → is_rightly_named u a ≡ is_rightly_named t a
rightly-same t u a same = ap (ifname_eq a.name) (called a.what same)
  where
    called : (on : IfOf HalfId) → ((g : HalfId) → on ≡ Half g → name_in u g ≡ name_in t g) → if_name (name_in u) on ≡ if_name (name_in t) on
    called Lo0 same = refl
    called (Half g) same = same g refl

module _ {t : Tables} (s : IsSound t) (q : ℕ) where
  -- whether a half stands there
  abbrev pub stands : HalfId → Bool
  stands h = stands_at q h.side (pair_at t h.pair)

  abbrev if_stands : IfOf HalfId → Bool
  if_stands on = option_map_or stands (if_half on) true

  -- what is attached stands there
  pub attached-stands : (a : Attached) → IsIn a (held t q).attached → (g : HalfId) → a.what ≡ Half g → stands g ≡ true
  attached-stands a in_list g e = sym (listed-count (Half g) (parts t q).interfaces (stands g) (s.listed q (Half g)))
      ∙ any_map_same (λ (x : Attached). x.what) (λ (x : Attached). if_same half_id_eq (Half g) x.what) (if_same half_id_eq (Half g)) (λ x. refl) (held t q).attached
      ∙ in_list (λ (x : Attached). if_same half_id_eq (Half g) x.what) (ap (if_same half_id_eq (Half g)) e ∙ if-refl (Half g))

  listed-stands : (on : IfOf HalfId) → list_any (if_same half_id_eq on) (parts t q).interfaces ≡ true → if_stands on ≡ true
  listed-stands Lo0 e = refl
  listed-stands (Half h) e = sym (listed-count (Half h) (parts t q).interfaces (stands h) (s.listed q (Half h))) ∙ e

  interfaces-stand : list_all if_stands (parts t q).interfaces ≡ true
  interfaces-stand = all_in (λ on. true) if_stands (parts t q).interfaces
      (λ on in_list e. listed-stands on (in_list (if_same half_id_eq on) (if-refl on))) (all_true (parts t q).interfaces)
    where
      all_true : (ons : List (IfOf HalfId)) → list_all (λ on. true) ons ≡ true
      all_true [] = refl
      all_true (on ∷ ons) = all_true ons

  owner-stands : (half : HalfId) (ip : Ip4) (entries : List (ArpEntryOf HalfId)) → list_any (λ (a : ArpEntryOf HalfId). half_id_eq half a.half && (ip.0 == a.ip.0)) entries ≡ true
      → list_all (λ (a : ArpEntryOf HalfId). stands a.half) entries ≡ true → stands half ≡ true
  owner-stands half ip [] owned all = cc
  owner-stands half ip (a ∷ entries) owned all =
      let parts = and_parts (stands a.half) (list_all (λ (a : ArpEntryOf HalfId). stands a.half) entries) all in
      by (half_id_eq half a.half) refl (ip.0 == a.ip.0) owned parts.0 (λ more. owner-stands half ip entries more parts.1)
    where
      by : (b : Bool) → half_id_eq half a.half ≡ b → (c : Bool) → ((b && c) || list_any (λ (a : ArpEntryOf HalfId). half_id_eq half a.half && (ip.0 == a.ip.0)) entries) ≡ true
          → stands a.half ≡ true → (list_any (λ (a : ArpEntryOf HalfId). half_id_eq half a.half && (ip.0 == a.ip.0)) entries ≡ true → stands half ≡ true) → stands half ≡ true
      by true e c owned here more = ap stands ((half_id_eq-Decides half a.half).0 e) ∙ here
      by false e c owned here more = more owned

  module _ (sound : is_sound_parts half_id_eq (parts t q) ≡ true) where
    facts : SoundFacts half_id_eq (times_arp half_id_eq) (parts t q)
    facts = facts_from_sound half_id_eq (times_arp half_id_eq) (parts t q) sound

    -- what is named is listed
    named : NamesPass (is_among half_id_eq (parts t q).interfaces) (parts t q)
    named = own_names half_id_eq (times_arp half_id_eq) (parts t q) facts

    named-stand : list_all if_stands (named_ifs (parts t q)) ≡ true
    named-stand = all_in (is_among half_id_eq (parts t q).interfaces) if_stands (named_ifs (parts t q)) (λ on in_list. listed-stands on)
        (names_from (is_among half_id_eq (parts t q).interfaces) (parts t q) named)

    timed-stand : list_all (λ (e : Timed HalfId). option_map_or stands (timer_half e.1) true) (parts t q).timers.standing ≡ true
    unfolding owns_timers
    timed-stand = all_in (has_owner half_id_eq (parts t q)) (λ (e : Timed HalfId). option_map_or stands (timer_half e.1) true) (parts t q).timers.standing
        (λ e in_list. by e) facts.owned
      where
        entries : list_all (λ (a : ArpEntryOf HalfId). stands a.half) (parts t q).arp ≡ true
        entries = all_in (λ (a : ArpEntryOf HalfId). is_among half_id_eq (parts t q).interfaces (Half a.half)) (λ (a : ArpEntryOf HalfId). stands a.half) (parts t q).arp
            (λ a in_list. listed-stands (Half a.half)) named.arp

        by : (e : Timed HalfId) → has_owner half_id_eq (parts t q) e ≡ true → option_map_or stands (timer_half e.1) true ≡ true
        by (at, Arp half ip) owned = owner-stands half ip (parts t q).arp owned entries
        by (at, Ping id arm) owned = refl

    sound-stand : list_all stands (halves_in (parts t q)) ≡ true
    unfolding halves_in
    sound-stand = list_all-append stands (filter_map if_half (parts t q).interfaces ++ filter_map if_half (named_ifs (parts t q))) (filter_map (λ (e : Timed HalfId). timer_half e.1) (parts t q).timers.standing)
        ∙ and_from _ _
        (list_all-append stands (filter_map if_half (parts t q).interfaces) (filter_map if_half (named_ifs (parts t q)))
        ∙ and_from _ _ (all_mapped if_half stands (parts t q).interfaces interfaces-stand) (all_mapped if_half stands (named_ifs (parts t q)) named-stand))
        (all_mapped (λ (e : Timed HalfId). timer_half e.1) stands (parts t q).timers.standing timed-stand)

  -- names that agree on what stands somewhere give the tables there the same names
  pub same-named : {N : Type 0} (r u : HalfId → N) → ((h : HalfId) → stands h ≡ true → r h ≡ u h) → renamed r (parts t q) ≡ renamed u (parts t q)
  unfolding renamed halves_in named_ifs
  same-named r u agree = by (lives t q) refl
    where
      by : (b : Bool) → lives t q ≡ b → renamed r (parts t q) ≡ renamed u (parts t q)
      by true alive = renamed-agree stands r u agree (parts t q) (sound-stand (s.tables q alive))
      by false dead = ap (renamed r) (s.bare q dead) ∙ sym (ap (renamed u) (s.bare q dead))

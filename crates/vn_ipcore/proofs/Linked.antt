-- A half that stands in the stack changes: the scene, and that all stays sound.
use Rattle.std.proofs.Common.{◌≡◌, ℕ, ◌==◌, Bool, true, false, cond, List, length, map, Option, Some, IfSome, refl, sym, ap, ◌∙◌, subst}
use Rattle.std.specs.Prelude.{count_by}
use Rattle.std.specs.List.{list_all}
use Rattle.std.proofs.lemmas.Simd.{map-map}
use Rattle.vn_types.specs.declared.interface.HalfId.{HalfId}
use Rattle.vn_types.specs.declared.interface.IfName.{IfName}
use Rattle.vn_types.specs.declared.interface.IfName.TheVariants.{Epair}
use Rattle.vn_types.specs.declared.interface.IfOf.{IfOf}
use Rattle.vn_types.specs.declared.interface.IfOf.TheVariants.{Lo0, Half}
use Rattle.vn_types.specs.declared.interface.Side.{Side}
use Rattle.vn_types.specs.declared.interface.Side.TheVariants.{A, B}
use Rattle.vn_types.specs.Interfaces.{half_id_eq, if_same, side_eq}
use Rattle.vn_types.specs.PerStack.{ChangesOnly}
use Rattle.vn_types.proofs.InterfaceNames.{half_id_eq-Decides}
use Rattle.vn_types.proofs.PerStackLaws.{unchanged}
use Rattle.vn_rules.specs.Named.{if_name, ifname_eq}
use Rattle.vn_rules.specs.Scenes.{LinkOf, is_queue, on_link, own_link}
use Rattle.vn_epair.specs.Halves.{End, Pair}
use Rattle.vn_epair.specs.Pairs.{end_of, of as number_of, with_end}
use Rattle.vn_ifnet.specs.declared.interfaces.Attached.{Attached}
use Rattle.vn_ifnet.specs.Stacks.{is_another, reserved_by}
use Rattle.vn_vmove.specs.declared.tables.Tables.{Tables}
use Rattle.vn_vmove.specs.Moves.{half_on}
use Rattle.vn_vmove.specs.Parts.{held, lives, pair_at, parts}
use Rattle.vn_vmove.specs.Sound.{IsHomedAs, IsSound, half_name, is_rightly_named, name_in, stands_at, times, times_listed}
use Rattle.vn_vmove.proofs.Deciding.{other_side}
use Rattle.vn_vmove.proofs.Edits.{each_pair, kept_of, some_map, stays_so}
use Rattle.vn_ipcore.specs.Scenes.{Replaces, halves_of, link_by, link_with, scene_of}
use Rattle.vn_ipcore.proofs.Back.{IsNear, Near, NearEnd, NearPair, is_near, near_end, replaces}
use Rattle.vn_ipcore.proofs.Seen.{link-half}

-- ---- a pair of which one end is another

own-end : (side : Side) (end : End) (pair : Pair) → end_of side (with_end side end pair) ≡ end
own-end A end pair = refl
own-end B end pair = refl

other-end : (side far : Side) (end : End) (pair : Pair) → side_eq side far ≡ false → end_of side (with_end far end pair) ≡ end_of side pair
other-end A A end pair e = cc
other-end A B end pair e = refl
other-end B A end pair e = refl
other-end B B end pair e = cc

-- what holds of the new end, and of the ends before, holds of both ends
each_end : (side far : Side) (end : End) (pair : Pair) (P : Side → End → Type 0) → P far end → P side (end_of side pair) → P side (end_of side (with_end far end pair))
each_end A A end pair P new old = new
each_end A B end pair P new old = old
each_end B A end pair P new old = old
each_end B B end pair P new old = new

-- its home and its unit stay
pub named : (P : ℕ → ℕ → Type 0) (side : Side) (end : End) (pair : Pair) → P pair.home pair.unit → P (with_end side end pair).home (with_end side end pair).unit
named P A end pair holds = holds
named P B end pair holds = holds

module _ {t : Tables} (s : IsSound t) (h : HalfId) (pair : Pair) (is : pair_at t h.pair ≡ Some pair)
    (end : End) (at : end.at ≡ (end_of h.side pair).at) (short : is_queue end.sent ≡ true)
    (new : List (Option Pair)) (here : number_of new h.pair ≡ Some (with_end h.side end pair)) (others : ChangesOnly h.pair (pair_at t) (number_of new)) where
  abbrev changed : Pair
  changed = with_end h.side end pair

  abbrev after : Tables
  after = record t { pairs = new }

  -- what holds of each pair, for the half of a side
  each : (P : HalfId → Pair → Type 0) (side : Side) → P (half_on side h.pair) changed
      → ((g : HalfId) → IfSome (pair_at t g.pair) (P g)) → (n : ℕ) → IfSome (pair_at after n) (P (half_on side n))
  each P side holds all n = each_pair h.pair (Some changed) (pair_at t) (number_of new) here others
      (λ m. P (half_on side m)) holds (λ m. all (half_on side m)) n

  -- what held of the pair, for the half of that side
  before : (P : HalfId → Pair → Type 0) (side : Side) → ((g : HalfId) → IfSome (pair_at t g.pair) (P g)) → P (half_on side h.pair) pair
  before P side all = subst (λ o. IfSome o (P (half_on side h.pair))) is (all (half_on side h.pair))

  kept : {X : Type 0} (f : Option Pair → X) (n : ℕ) → (n ≡ h.pair → f (Some changed) ≡ f (Some pair)) → f (pair_at after n) ≡ f (pair_at t n)
  kept f n same = kept_of h.pair (Some changed) (pair_at t) (number_of new) here others f n (λ e. same e ∙ ap f (sym is))

  at_kept : (side : Side) → (end_of side changed).at ≡ (end_of side pair).at
  at_kept side = each_end side h.side end pair (λ d e. e.at ≡ (end_of d pair).at) at refl

  stands_kept : (q : ℕ) (g : HalfId) → stands_at q g.side (pair_at after g.pair) ≡ stands_at q g.side (pair_at t g.pair)
  stands_kept q g = kept (stands_at q g.side) g.pair (λ e. ap (λ r. r == q) (at_kept g.side))

  name_kept : (g : HalfId) → name_in after g ≡ name_in t g
  name_kept g = kept (λ o. half_name o g.side) g.pair (λ e. named (λ home unit. Epair unit g.side ≡ Epair pair.unit g.side) h.side end pair refl)

  -- ---- soundness

  listed : (q : ℕ) (on : IfOf HalfId) → count_by (if_same half_id_eq on) (parts t q).interfaces ≡ times_listed after q on
  listed q Lo0 = s.listed q Lo0
  listed q (Half g) = s.listed q (Half g) ∙ ap times (sym (stands_kept q g))

  abbrev lives_at : HalfId → Pair → Type 0
  lives_at k p = lives t (end_of k.side p).at ≡ true

  places : (g : HalfId) → IfSome (pair_at after g.pair) (lives_at g)
  places g = each lives_at g.side (ap (lives t) (at_kept g.side) ∙ before lives_at g.side s.places) s.places g.pair

  abbrev lives_home : HalfId → Pair → Type 0
  lives_home k p = lives t p.home ≡ true

  homes : (n : ℕ) → IfSome (pair_at after n) (λ p. lives t p.home ≡ true)
  homes n = each lives_home A (named (λ home unit. lives t home ≡ true) h.side end pair (before lives_home A (λ g. s.homes g.pair))) (λ g. s.homes g.pair) n

  names : (q : ℕ) → list_all (is_rightly_named after) (held t q).attached ≡ true
  names q = (λ i. list_all (λ (a : Attached). ifname_eq a.name (if_name (λ g. name_kept g i) a.what)) (held t q).attached) ∙ s.names q

  homed_after : (q : ℕ) (n : IfName) (side : Side) (m : ℕ) → IsHomedAs q n side (pair_at t m) → IsHomedAs q n side (pair_at after m)
  homed_after q n side = stays_so h.pair (Some changed) (pair_at t) (number_of new) here others (λ m. IsHomedAs q n side)
      (λ home. named (λ at_home unit. (at_home ≡ q) × (Epair unit side ≡ n)) h.side end pair (subst (IsHomedAs q n side) is home))

  reserved : (q : ℕ) (n : IfName) → IfSome (reserved_by n (held t q)) (λ g. IsHomedAs q n g.side (pair_at after g.pair))
  reserved q n = some_map (reserved_by n (held t q)) (λ g. IsHomedAs q n g.side (pair_at t g.pair)) (λ g. IsHomedAs q n g.side (pair_at after g.pair))
      (λ g. homed_after q n g.side g.pair) (s.reserved q n)

  abbrev is_reserved : HalfId → Pair → Type 0
  is_reserved k p = reserved_by (Epair p.unit k.side) (held t p.home) ≡ Some k

  homed : (g : HalfId) → IfSome (pair_at after g.pair) (is_reserved g)
  homed g = each is_reserved g.side
      (named (λ home unit. reserved_by (Epair unit g.side) (held t home) ≡ Some (half_on g.side h.pair)) h.side end pair (before is_reserved g.side s.homed)) s.homed g.pair

  abbrev is_apart : HalfId → Pair → Type 0
  is_apart k p = is_another (reserved_by (Epair p.unit k.side) (held t (end_of k.side p).at)) (Some k) ≡ false

  apart : (g : HalfId) → IfSome (pair_at after g.pair) (is_apart g)
  apart g = each is_apart g.side
      (named (λ home unit. is_another (reserved_by (Epair unit g.side) (held t (end_of g.side changed).at)) (Some (half_on g.side h.pair)) ≡ false) h.side end pair
      (ap (λ r. is_another (reserved_by (Epair pair.unit g.side) (held t r)) (Some (half_on g.side h.pair))) (at_kept g.side) ∙ before is_apart g.side s.apart)) s.apart g.pair

  abbrev is_short : HalfId → Pair → Type 0
  is_short k p = is_queue (end_of k.side p).sent ≡ true

  queues : (g : HalfId) → IfSome (pair_at after g.pair) (is_short g)
  queues g = each is_short g.side (each_end g.side h.side end pair (λ d e. is_queue e.sent ≡ true) short (before is_short g.side s.queues)) s.queues g.pair

  -- another end that stands where the one before stood leaves the tables sound
  pub sound_linked : IsSound after
  sound_linked = record {
    tables = s.tables;
    bare = s.bare;
    instances = s.instances;
    loopbacks = s.loopbacks;
    declared = s.declared;
    listed = listed;
    places = places;
    homes = homes;
    names = names;
    once = λ q g k a b same. s.once q g k (sym (stands_kept q g) ∙ a) (sym (stands_kept q k) ∙ b) (sym (name_kept g) ∙ same ∙ name_kept k);
    reserved = reserved;
    homed = homed;
    apart = apart;
    arms = s.arms;
    queues = queues;
  }

  -- ---- the scene where it stands

  module _ (q : ℕ) (stands : (end_of h.side pair).at ≡ q) (numbers : length new ≡ length t.pairs) where
    near_pair : NearPair q pair changed
    near_pair = record {
      home = named (λ home unit. home ≡ pair.home) h.side end pair refl;
      unit = named (λ home unit. unit ≡ pair.unit) h.side end pair refl;
      ends = λ side. each_end side h.side end pair (λ d e. NearEnd q (end_of d pair) e) (record { at = at; off = λ ne. absurd (ne stands) }) (near_end q (end_of side pair));
    }

    near_at : (n : ℕ) → IsNear q (pair_at t n) (pair_at after n)
    near_at n = stays_so h.pair (Some changed) (pair_at t) (number_of new) here others (λ m. IsNear q (pair_at t m))
        (λ same. subst (λ o. IsNear q o (Some changed)) (sym is) near_pair) n (is_near q (pair_at t n))

    near : Near q t after
    near = record { others = unchanged q (parts t); interfaces = refl; pairs = near_at; lives = λ r. refl; numbers = numbers }

    module _ (f : LinkOf HalfId → LinkOf HalfId) (own : link_with h end ≡ f (link_with h (end_of h.side pair))) where
      abbrev link_before : HalfId → LinkOf HalfId
      link_before g = link_by g (pair_at t g.pair)

      abbrev link_now : HalfId → LinkOf HalfId
      link_now g = link_by g (pair_at after g.pair)

      own_now : link_now h ≡ f (link_before h)
      own_now = ap (link_by h) here ∙ ap (link_with h) (own-end h.side end pair) ∙ own ∙ ap (λ o. f (link_by h o)) (sym is)

      link-now : (g : HalfId) → link_now g ≡ own_link half_id_eq h f (link_before g)
      link-now g = by (half_id_eq g h) refl ∙ ap (λ k. cond (half_id_eq k h) (f (link_before g)) (link_before g)) (sym (link-half g (pair_at t g.pair)))
        where
          by : (b : Bool) → half_id_eq g h ≡ b → link_now g ≡ cond b (f (link_before g)) (link_before g)
          by true e = subst (λ k. link_now k ≡ f (link_before k)) (sym ((half_id_eq-Decides g h).0 e)) own_now
          by false e = kept (link_by g) g.pair (λ n. ap (link_with g) (other-end g.side h.side end pair (other_side g h n e)))

      here_linked : scene_of after q ≡ on_link half_id_eq h f (scene_of t q)
      unfolding scene_of on_link
      here_linked =
          let halves = halves_of (parts t q).interfaces in
          (λ i. record (scene_of t q) { links = map (λ g. link-now g i) halves })
          ∙ (λ i. record (scene_of t q) { links = sym (map-map (own_link half_id_eq h f) link_before halves) i })

      pub replaces_linked : Replaces q (on_link half_id_eq h f (scene_of t q)) t after
      replaces_linked = replaces sound_linked q t (on_link half_id_eq h f (scene_of t q)) near here_linked

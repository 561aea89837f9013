-- A half that moves in sound tables: they stay sound, and become what is said of a move.
use Rattle.std.proofs.Common.{◌≡◌, ◌≢◌, ℕ, ◌==◌, Bool, true, false, not, List, [], ◌∷◌, ◌++◌, length, Option, Some, None, IfSome, refl, sym, ap, ap₂, ◌∙◌, subst}
use Rattle.std.specs.Prelude.{if◌then◌else◌}
use Rattle.std.specs.List.{list_all}
use Rattle.std.specs.Option.{option_map}
use Rattle.std.proofs.lemmas.Bool.{both_ways, eqb-true, not_from_true}
use Rattle.vn_types.specs.declared.interface.HalfId.{HalfId}
use Rattle.vn_types.specs.declared.interface.IfName.{IfName}
use Rattle.vn_types.specs.declared.interface.IfName.TheVariants.{Epair}
use Rattle.vn_types.specs.declared.interface.IfOf.{IfOf}
use Rattle.vn_types.specs.declared.interface.IfOf.TheVariants.{Lo0, Half}
use Rattle.vn_types.specs.declared.interface.Side.{Side}
use Rattle.vn_types.specs.declared.interface.Side.TheVariants.{A}
use Rattle.vn_types.specs.Interfaces.{half_id_eq, if_same, side_eq}
use Rattle.vn_types.specs.PerStack.{ChangesOnly}
use Rattle.vn_types.proofs.InterfaceNames.{half_id_eq-Decides, side_eq-Decides}
use Rattle.vn_rules.specs.declared.parts.PartsOf.{PartsOf}
use Rattle.vn_rules.specs.Construction.{bare_parts}
use Rattle.vn_rules.specs.Interfaces.{is_among, named_ifs, with_interface, without_interface}
use Rattle.vn_rules.specs.Named.{if_name, ifname_eq}
use Rattle.vn_rules.specs.Purge.{purged}
use Rattle.vn_rules.specs.Scenes.{is_queue}
use Rattle.vn_rules.specs.Soundness.{is_sound_parts}
use Rattle.vn_rules.proofs.ListTests.{all_filter, all_push}
use Rattle.vn_epair.specs.Halves.{Pair}
use Rattle.vn_epair.specs.Pairs.{end_of, of as pair_of}
use Rattle.vn_ifnet.specs.declared.interfaces.Attached.{Attached}
use Rattle.vn_ifnet.specs.Stacks.{Held, is_another, of as held_of, reserved_by, without}
use Rattle.vn_vmove.specs.declared.tables.Tables.{Tables}
use Rattle.vn_vmove.specs.Moves.{moved, placed_at}
use Rattle.vn_vmove.specs.Nets.{Becomes, attached, detached, net_of, on_stack}
use Rattle.vn_vmove.specs.Parts.{held, lives, pair_at, parts}
use Rattle.vn_vmove.specs.Places.{IsFree, come, left}
use Rattle.vn_vmove.specs.Sound.{IsHomedAs, IsSound, half_name, is_rightly_named, name_in, stands_at, times, times_listed}
use Rattle.vn_vmove.proofs.Listing.{count, cut, cut-other, put, put-other, put-own, what-last, what_of, without-none}
use Rattle.vn_vmove.proofs.Left.{cut-gone, left-right, what-left}
use Rattle.vn_vmove.proofs.Placed.{placed-name, placed-queue, placed-stands}
use Rattle.vn_vmove.proofs.Edits.{cut-sound, each_pair, kept_of, linked, put-sound, reserved-same, some_map, stays_so}
use Rattle.vn_vmove.proofs.Forgotten.{off}
use Rattle.vn_vmove.proofs.Deciding.{apart, eq-sym, name-refl, other_side, pick}

module _ {t : Tables} (s : IsSound t) (h : HalfId) (from to : ℕ) (pair : Pair) (is : pair_at t h.pair ≡ Some pair) (at : (end_of h.side pair).at ≡ from)
    (name : IfName) (called : name_in t h ≡ name) (free : IsFree t h to) (live : lives t to ≡ true)
    (forgotten : is_among half_id_eq (named_ifs (parts t from)) (Half h) ≡ false)
    (ifs : List Held) (pairs : List (Option Pair))
    (attached_so : (q : ℕ) → (held_of ifs q).attached ≡ come h name to q (left h from q (held t q).attached))
    (reserved_so : (q : ℕ) → (held_of ifs q).reserved ≡ (held t q).reserved)
    (placed : pair_of pairs h.pair ≡ Some (placed_at h.side to pair))
    (others : ChangesOnly h.pair (pair_at t) (pair_of pairs)) where
  abbrev after : Tables
  after = linked t ifs pairs

  -- ---- interfaces

  interfaces : (q : ℕ) → (parts after q).interfaces ≡ put h (q == to) (cut h (q == from) (parts t q).interfaces)
  interfaces q = ap what_of (attached_so q) ∙ by (q == to)
    where
      by : (b : Bool) → what_of (if b then without (Half h) (left h from q (held t q).attached) ++ record { what = Half h; name = name } ∷ [] else left h from q (held t q).attached)
          ≡ put h b (cut h (q == from) (parts t q).interfaces)
      by true = what-last h name (left h from q (held t q).attached)
          ∙ ap (with_interface (Half h)) (ap (without_interface half_id_eq (Half h)) (what-left s h from pair is at q) ∙ without-none h (cut h (q == from) (parts t q).interfaces) (cut-gone s h from pair is at q))
      by false = what-left s h from pair is at q

  parts_after : (q : ℕ) → parts after q ≡ record (parts t q) { interfaces = put h (q == to) (cut h (q == from) (parts t q).interfaces) }
  parts_after q = ap (λ i. record (parts t q) { interfaces = i }) (interfaces q)

  tables : (q : ℕ) → lives t q ≡ true → is_sound_parts half_id_eq (parts after q) ≡ true
  tables q alive = ap (is_sound_parts half_id_eq) (parts_after q) ∙ by (q == from) refl
    where
      by : (c : Bool) → (q == from) ≡ c → is_sound_parts half_id_eq (record (parts t q) { interfaces = put h (q == to) (cut h c (parts t q).interfaces) }) ≡ true
      by c e = put-sound h (q == to) (record (parts t q) { interfaces = cut h c (parts t q).interfaces })
          (cut-sound h c (parts t q) (λ f. ap (λ r. is_among half_id_eq (named_ifs (parts t r)) (Half h)) (eqb-true q from (e ∙ f)) ∙ forgotten) (s.tables q alive))

  live_from : lives t from ≡ true
  live_from = ap (lives t) (sym at) ∙ subst (λ o. IfSome o (λ pair. lives t (end_of h.side pair).at ≡ true)) is (s.places h)

  bare : (q : ℕ) → lives t q ≡ false → parts after q ≡ bare_parts
  bare q dead =
      parts_after q
      ∙ ap₂ (λ b c. record (parts t q) { interfaces = put h b (cut h c (parts t q).interfaces) }) (apart q to (elsewhere to live)) (apart q from (elsewhere from live_from))
      ∙ s.bare q dead
    where
      elsewhere : (r : ℕ) → lives t r ≡ true → q ≢ r
      elsewhere r alive e = both_ways (lives t q) dead (ap (lives t) e ∙ alive)

  -- ---- pairs

  -- what holds of each pair, for the half of a side
  each : (P : HalfId → Pair → Type 0) (side : Side) → P (record { pair = h.pair; side = side }) (placed_at h.side to pair)
      → ((g : HalfId) → IfSome (pair_at t g.pair) (P g)) → (n : ℕ) → IfSome (pair_at after n) (P (record { pair = n; side = side }))
  each P side here all n = each_pair h.pair (Some (placed_at h.side to pair)) (pair_at t) (pair_of pairs) placed others
      (λ m. P (record { pair = m; side = side })) here (λ m. all (record { pair = m; side = side })) n

  -- what held of the pair, for the half of that side
  before : (P : HalfId → Pair → Type 0) (side : Side) → ((g : HalfId) → IfSome (pair_at t g.pair) (P g)) → P (record { pair = h.pair; side = side }) pair
  before P side all = subst (λ o. IfSome o (P (record { pair = h.pair; side = side }))) is (all (record { pair = h.pair; side = side }))

  kept : {A : Type 0} (f : Option Pair → A) (n : ℕ) → (n ≡ h.pair → f (Some (placed_at h.side to pair)) ≡ f (Some pair)) → f (pair_at after n) ≡ f (pair_at t n)
  kept f n same = kept_of h.pair (Some (placed_at h.side to pair)) (pair_at t) (pair_of pairs) placed others f n (λ e. same e ∙ ap f (sym is))

  -- each half of the pair is placed: the one that moved, and the other
  each_side : (P : Side → ℕ → Type 0) → P h.side to → ((side : Side) → P side (end_of side pair).at) → (side : Side) → P side (end_of side (placed_at h.side to pair)).at
  each_side P moves stays side = subst (P side) (sym (placed-stands side h.side to pair)) (by (side_eq side h.side) refl)
    where
      by : (b : Bool) → side_eq side h.side ≡ b → P side (if b then to else (end_of side pair).at)
      by true e = subst (λ d. P d to) (sym ((side_eq-Decides side h.side).0 e)) moves
      by false e = stays side

  places : (g : HalfId) → IfSome (pair_at after g.pair) (λ pair. lives t (end_of g.side pair).at ≡ true)
  places g = each (λ k p. lives t (end_of k.side p).at ≡ true) g.side
      (each_side (λ side r. lives t r ≡ true) live (λ side. before (λ k p. lives t (end_of k.side p).at ≡ true) side s.places) g.side) s.places g.pair

  homes : (n : ℕ) → IfSome (pair_at after n) (λ pair. lives t pair.home ≡ true)
  homes n = each (λ k p. lives t p.home ≡ true) A
      (placed-name (λ home unit. lives t home ≡ true) h.side to pair (before (λ k p. lives t p.home ≡ true) A (λ g. s.homes g.pair))) (λ g. s.homes g.pair) n

  queues : (g : HalfId) → IfSome (pair_at after g.pair) (λ pair. is_queue (end_of g.side pair).sent ≡ true)
  queues g = each (λ k p. is_queue (end_of k.side p).sent ≡ true) g.side (placed-queue g.side h.side to pair) s.queues g.pair

  -- ---- names

  name_after : (g : HalfId) → name_in after g ≡ name_in t g
  name_after g = kept (λ o. half_name o g.side) g.pair (λ e. placed-name (λ home unit. Epair unit g.side ≡ Epair pair.unit g.side) h.side to pair refl)

  names : (q : ℕ) → list_all (is_rightly_named after) (held after q).attached ≡ true
  names q =
      (λ i. list_all (λ (a : Attached). ifname_eq a.name (if_name (λ g. name_after g i) a.what)) (held after q).attached)
      ∙ ap (list_all (is_rightly_named t)) (attached_so q) ∙ by (q == to)
    where
      by : (b : Bool) → list_all (is_rightly_named t) (if b then without (Half h) (left h from q (held t q).attached) ++ record { what = Half h; name = name } ∷ []
          else left h from q (held t q).attached) ≡ true
      by true = all_push (is_rightly_named t) (record { what = Half h; name = name }) (without (Half h) (left h from q (held t q).attached))
          (all_filter (λ (a : Attached). not (if_same half_id_eq a.what (Half h))) (is_rightly_named t) (left h from q (held t q).attached) (left-right s h from pair is at q))
          (ap (ifname_eq name) called ∙ name-refl name)
      by false = left-right s h from pair is at q

  reserved_after : (q : ℕ) (n : IfName) → reserved_by n (held after q) ≡ reserved_by n (held t q)
  reserved_after q n = reserved-same (held after q) (held t q) (reserved_so q) n

  homed_after : (q : ℕ) (n : IfName) (side : Side) (m : ℕ) → IsHomedAs q n side (pair_at t m) → IsHomedAs q n side (pair_at after m)
  homed_after q n side = stays_so h.pair (Some (placed_at h.side to pair)) (pair_at t) (pair_of pairs) placed others (λ m. IsHomedAs q n side)
      (λ home. placed-name (λ at_home unit. (at_home ≡ q) × (Epair unit side ≡ n)) h.side to pair (subst (IsHomedAs q n side) is home))

  reserved : (q : ℕ) (n : IfName) → IfSome (reserved_by n (held after q)) (λ g. IsHomedAs q n g.side (pair_at after g.pair))
  reserved q n = some_map (reserved_by n (held after q)) (λ g. IsHomedAs q n g.side (pair_at t g.pair)) (λ g. IsHomedAs q n g.side (pair_at after g.pair))
      (λ g. homed_after q n g.side g.pair) (subst (λ o. IfSome o (λ g. IsHomedAs q n g.side (pair_at t g.pair))) (sym (reserved_after q n)) (s.reserved q n))

  homed : (g : HalfId) → IfSome (pair_at after g.pair) (λ pair. reserved_by (Epair pair.unit g.side) (held after pair.home) ≡ Some g)
  homed g = each (λ k p. reserved_by (Epair p.unit k.side) (held after p.home) ≡ Some k) g.side
      (placed-name (λ home unit. reserved_by (Epair unit g.side) (held after home) ≡ Some (record { pair = h.pair; side = g.side })) h.side to pair
      (before (λ k p. reserved_by (Epair p.unit k.side) (held after p.home) ≡ Some k) g.side all)) all g.pair
    where
      all : (k : HalfId) → IfSome (pair_at t k.pair) (λ p. reserved_by (Epair p.unit k.side) (held after p.home) ≡ Some k)
      all k = some_map (pair_at t k.pair) (λ p. reserved_by (Epair p.unit k.side) (held t p.home) ≡ Some k) (λ p. reserved_by (Epair p.unit k.side) (held after p.home) ≡ Some k)
          (λ p e. reserved_after p.home (Epair p.unit k.side) ∙ e) (s.homed k)

  -- where it comes, its name is reserved for no other
  free_there : is_another (reserved_by (Epair pair.unit h.side) (held after to)) (Some h) ≡ false
  free_there = ap (λ o. is_another o (Some h)) (reserved_after to (Epair pair.unit h.side)) ∙ by (reserved_by (Epair pair.unit h.side) (held t to)) (s.reserved to (Epair pair.unit h.side))
    where
      by : (o : Option HalfId) → IfSome o (λ g. IsHomedAs to (Epair pair.unit h.side) g.side (pair_at t g.pair)) → is_another o (Some h) ≡ false
      by None home = refl
      by (Some g) home = not_from_true (half_id_eq g h) ((half_id_eq-Decides g h).1 (free.own g
          (subst (λ n. IsHomedAs to n g.side (pair_at t g.pair)) (ap (λ o. half_name o h.side) (sym is)) home)))

  apart_after : (g : HalfId) → IfSome (pair_at after g.pair) (λ pair. is_another (reserved_by (Epair pair.unit g.side) (held after (end_of g.side pair).at)) (Some g) ≡ false)
  apart_after g = each (λ k p. is_another (reserved_by (Epair p.unit k.side) (held after (end_of k.side p).at)) (Some k) ≡ false) g.side
      (placed-name (λ home unit. is_another (reserved_by (Epair unit g.side) (held after (end_of g.side (placed_at h.side to pair)).at)) (Some (record { pair = h.pair; side = g.side })) ≡ false)
      h.side to pair
      (each_side (λ side r. is_another (reserved_by (Epair pair.unit side) (held after r)) (Some (record { pair = h.pair; side = side })) ≡ false) free_there
      (λ side. before (λ k p. is_another (reserved_by (Epair p.unit k.side) (held after (end_of k.side p).at)) (Some k) ≡ false) side all) g.side))
      all g.pair
    where
      all : (k : HalfId) → IfSome (pair_at t k.pair) (λ p. is_another (reserved_by (Epair p.unit k.side) (held after (end_of k.side p).at)) (Some k) ≡ false)
      all k = some_map (pair_at t k.pair) (λ p. is_another (reserved_by (Epair p.unit k.side) (held t (end_of k.side p).at)) (Some k) ≡ false)
          (λ p. is_another (reserved_by (Epair p.unit k.side) (held after (end_of k.side p).at)) (Some k) ≡ false)
          (λ p e. ap (λ o. is_another o (Some k)) (reserved_after (end_of k.side p).at (Epair p.unit k.side)) ∙ e) (s.apart k)

  -- ---- where halves stand

  stands-if : (side : Side) (b : Bool) → side_eq side h.side ≡ b → (end_of side (placed_at h.side to pair)).at ≡ (if b then to else (end_of side pair).at)
  stands-if side b e = placed-stands side h.side to pair ∙ ap (λ c. if c then to else (end_of side pair).at) e

  stands-other : (q : ℕ) (g : HalfId) → half_id_eq g h ≡ false → stands_at q g.side (pair_at after g.pair) ≡ stands_at q g.side (pair_at t g.pair)
  stands-other q g e = kept (stands_at q g.side) g.pair (λ n. ap (λ r. r == q) (stands-if g.side false (other_side g h n e)))

  stands-own : (q : ℕ) → stands_at q h.side (pair_at after h.pair) ≡ (to == q)
  stands-own q = ap (stands_at q h.side) placed ∙ ap (λ r. r == q) (stands-if h.side true ((side_eq-Decides h.side h.side).1 refl))

  half_listed : (q : ℕ) (g : HalfId) (b : Bool) → half_id_eq g h ≡ b → count (Half g) (parts after q).interfaces ≡ times (stands_at q g.side (pair_at after g.pair))
  half_listed q g true e = subst (λ (k : HalfId). count (Half k) (parts after q).interfaces ≡ times (stands_at q k.side (pair_at after k.pair))) (sym ((half_id_eq-Decides g h).0 e))
      (ap (count (Half h)) (interfaces q) ∙ put-own h (q == to) (cut h (q == from) (parts t q).interfaces) (cut-gone s h from pair is at q) ∙ ap times (eq-sym q to ∙ sym (stands-own q)))
  half_listed q g false e =
      ap (count (Half g)) (interfaces q) ∙ put-other h (Half g) (q == to) (cut h (q == from) (parts t q).interfaces) e
      ∙ cut-other h (Half g) (q == from) (parts t q).interfaces e ∙ s.listed q (Half g) ∙ ap times (sym (stands-other q g e))

  listed : (q : ℕ) (on : IfOf HalfId) → count on (parts after q).interfaces ≡ times_listed after q on
  listed q Lo0 =
      ap (count Lo0) (interfaces q) ∙ put-other h Lo0 (q == to) (cut h (q == from) (parts t q).interfaces) refl
      ∙ cut-other h Lo0 (q == from) (parts t q).interfaces refl ∙ s.listed q Lo0
  listed q (Half g) = half_listed q g (half_id_eq g h) refl

  -- a half that stands where it is the one that moved stands at the end of the move
  arrived : (q : ℕ) (g : HalfId) → g ≡ h → stands_at q g.side (pair_at after g.pair) ≡ true → q ≡ to
  arrived q g same e = sym (eqb-true to q (sym (stands-own q) ∙ ap (λ (k : HalfId). stands_at q k.side (pair_at after k.pair)) (sym same) ∙ e))

  once : (q : ℕ) (g k : HalfId) → stands_at q g.side (pair_at after g.pair) ≡ true → stands_at q k.side (pair_at after k.pair) ≡ true
      → name_in after g ≡ name_in after k → g ≡ k
  once q g k a b same = by (half_id_eq g h) refl (half_id_eq k h) refl
    where
      called_same : name_in t g ≡ name_in t k
      called_same = sym (name_after g) ∙ same ∙ name_after k

      -- one that stayed stands where the other came, and has its name
      meets : (x y : HalfId) → x ≡ h → half_id_eq y h ≡ false → stands_at q x.side (pair_at after x.pair) ≡ true → stands_at q y.side (pair_at after y.pair) ≡ true
          → name_in t y ≡ name_in t x → y ≡ h
      meets x y own other there here n = free.alone y
          (ap (λ r. stands_at r y.side (pair_at t y.pair)) (sym (arrived q x own there)) ∙ sym (stands-other q y other) ∙ here)
          (n ∙ ap (name_in t) own)

      by : (c : Bool) → half_id_eq g h ≡ c → (d : Bool) → half_id_eq k h ≡ d → g ≡ k
      by true e true f = (half_id_eq-Decides g h).0 e ∙ sym ((half_id_eq-Decides k h).0 f)
      by true e false f = let own = (half_id_eq-Decides g h).0 e in own ∙ sym (meets g k own f a b (sym called_same))
      by false e true f = let own = (half_id_eq-Decides k h).0 f in meets k g own e b a called_same ∙ sym own
      by false e false f = s.once q g k (sym (stands-other q g e) ∙ a) (sym (stands-other q k f) ∙ b) called_same

  pub moved-sound : IsSound after
  moved-sound = assumption (tables, bare, listed, places, homes, names, once, reserved, homed, apart_after, queues)

  -- from the tables before the purge
  pub moved-becomes : (old : Tables) → Becomes (on_stack from (purged half_id_eq h) (net_of old)) old t → length pairs ≡ length t.pairs
      → Becomes (moved h from to (net_of old)) old after
  unfolding moved
  moved-becomes old purge numbers = record {
    parts = λ q. parts_after q ∙ ap (λ (p : PartsOf HalfId). record p { interfaces = put h (q == to) (cut h (q == from) p.interfaces) }) (purge.parts q) ∙ by (parts old q) (q == to) (q == from);
    pairs = λ n. pairs_so n;
    lives = purge.lives;
    numbers = numbers ∙ purge.numbers;
  }
    where
      by : (p : PartsOf HalfId) (b c : Bool) → record (off h c p) { interfaces = put h b (cut h c (off h c p).interfaces) }
          ≡ (if b then attached h (if c then detached h p else p) else (if c then detached h p else p))
      by p true true = refl
      by p true false = refl
      by p false true = refl
      by p false false = refl

      pairs_so : (n : ℕ) → pair_at after n ≡ (if n == h.pair then option_map (placed_at h.side to) (pair_at old n) else pair_at old n)
      pairs_so n = pick n h.pair (option_map (placed_at h.side to) (pair_at old n)) (pair_at old n) (pair_at after n)
          (λ e. ap (pair_at after) e ∙ placed ∙ ap (option_map (placed_at h.side to)) (sym is ∙ ap (pair_at t) (sym e) ∙ purge.pairs n))
          (λ ne. others.others n ne ∙ purge.pairs n)

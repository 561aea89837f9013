-- A frame that comes to a half: it is taken from its sender, and heard where the half stands.
use Rattle.std.proofs.Common.{◌≡◌, ℕ, Bool, true, false, ◌&&◌, List, [], ◌∷◌, drop, length, Option, Some, None, refl, sym, ap, ◌∙◌, subst, arith}
use Rattle.std.specs.Prelude.{if◌then◌else◌, nat_le}
use Rattle.std.specs.List.{list_all}
use Rattle.std.specs.Option.{is_some, option_map}
use Rattle.std.proofs.lemmas.Bool.{and_parts, and_from}
use Rattle.vn_types.specs.declared.half.Half.{Half}
use Rattle.vn_types.specs.declared.interface.IfOf.TheVariants.{Lo0, Half as OfHalf}
use Rattle.vn_types.specs.declared.interface.Side.{Side}
use Rattle.vn_types.specs.declared.interface.Side.TheVariants.{A, B}
use Rattle.vn_types.specs.PathOrder.{path_eq-Decides}
use Rattle.vn_types.proofs.Options.{some_same}
use Rattle.vn_rules.specs.Rules.{Common}
use Rattle.vn_rules.specs.Scenes.{SceneOf, is_queue}
use Rattle.vn_rules.specs.declared.parts.TheConstants.{SENT_MAX}
use Rattle.vn_packets.specs.Fired.{fired}
use Rattle.vn_packets.specs.Reception.{loop_received}
use Rattle.vn_packets.proofs.FiredSound.{fired-keeps}
use Rattle.vn_packets.proofs.ReceptionSound.{frame_received-keeps, loop_received-keeps}
use Rattle.vn_cells.specs.declared.cell.Cells.{Cells}
use Rattle.vn_cells.specs.declared.event.Event.{Event}
use Rattle.vn_cells.specs.declared.event.Event.TheVariants as event
use Rattle.vn_cells.specs.declared.world.Pair.{Pair}
use Rattle.vn_cells.specs.declared.world.Reader.{Reader}
use Rattle.vn_cells.specs.declared.world.World.{World}
use Rattle.vn_cells.specs.world.Names.{Path, Key, key_eq, key_of, half_eq}
use Rattle.vn_cells.specs.world.World.{stack_at, pair_at, end_of, ifs_of, place, each_pair}
use Rattle.vn_cells.specs.machine.Local.{Here, act_by, heard_in, fired_in, heard_where, hearing}
use Rattle.vn_cells.specs.machine.Queues.{arrival_at, arrival, frames_to, taken, without_frame}
use Rattle.vn_cells.specs.machine.Step.{received, delivered}
use Rattle.vn_cells.specs.sets.Sets.{in_set, in_stacks, in_pairs, place_decider}
use Rattle.vn_cells.specs.keeping.Sound.{IsSound}
use Rattle.vn_cells.specs.keeping.Standing.{stands_at, has_queues}
use Rattle.vn_laws.specs.Relations.{Alike, Belongs}
use Rattle.vn_laws.proofs.edits.Alike.{alike-each_pair}
use Rattle.vn_laws.proofs.edits.Cells.{pair_at-each_pair, clock-each_pair, ordered_pairs-each_pair}
use Rattle.vn_laws.proofs.edits.Names.{half_eq-Decides}
use Rattle.vn_laws.proofs.edits.Owned.{owns-member}
use Rattle.vn_laws.proofs.edits.Shapes.{shape-none, shape_standing}
use Rattle.vn_laws.proofs.edits.Standing.{SameStanding, SamePlaces, places, same_stands, standing-same, named-same, belongs-same}
use Rattle.vn_laws.proofs.edits.Trees.{SameTree, tree-same}
use Rattle.vn_laws.proofs.local.Acted.{KeepsTables, sound_scene, sound_after, standing-act_by, clock-act_by, sound-act_by}
use Rattle.vn_laws.proofs.local.Alike.{alike-local}
use Rattle.vn_laws.proofs.local.Listed.{lists_in, half-listed, half-standing}
use Rattle.vn_laws.proofs.local.Near.{sound_from}

-- ---- queues

-- one of two tests is another
first : {a b : Bool} (c : Bool) → (a ≡ true → b ≡ true) → (a && c) ≡ true → (b && c) ≡ true
first {a} {b} c f e = let parts = and_parts a c e in and_from b c (f parts.0) parts.1

second : (a : Bool) {b c : Bool} → (b ≡ true → c ≡ true) → (a && b) ≡ true → (a && c) ≡ true
second a {b} {c} f e = let parts = and_parts a b e in and_from a c parts.0 (f parts.1)

-- a queue that has lost its first is no longer than before
shorter : (most : ℕ) (queue : List (List ℕ)) → nat_le (length queue) most ≡ true → nat_le (length (drop 1 queue)) most ≡ true
shorter most [] e = e
shorter most (frame ∷ more) e = grind (arith, e)

-- ---- a frame is taken

module _ (h : Half) (w : World) where
  pair_taken : (k : Key)
      → pair_at (taken h w) k ≡ option_map (λ pair. if key_eq k (key_of h) then without_frame h.side pair else pair) (pair_at w k)
  unfolding taken
  pair_taken k = pair_at-each_pair (λ q pair. if key_eq q (key_of h) then without_frame h.side pair else pair) w k

  places-frame : (side : Side) (b : Bool) (o : Option Pair)
      → places (option_map (λ pair. if b then without_frame side pair else pair) o) ≡ places o
  places-frame side b None = refl
  places-frame side false (Some pair) = refl
  places-frame A true (Some pair) = refl
  places-frame B true (Some pair) = refl

  places-taken : SamePlaces w (taken h w)
  places-taken = record { of = λ k. ap places (pair_taken k) ∙ places-frame h.side (key_eq k (key_of h)) (pair_at w k) }

  pub standing-taken : SameStanding w (taken h w)
  unfolding taken each_pair stack_at
  standing-taken = record {
    alive = λ p. refl;
    ifs = λ p. refl;
    pairs = places-taken;
    ordered = ordered_pairs-each_pair _ w;
  }

  tree-taken : SameTree w (taken h w)
  unfolding taken each_pair stack_at
  tree-taken = record { trees = λ p. refl; ordered = λ o. o }

  queues-frame : (side : Side) (b : Bool) (o : Option Pair) → has_queues o ≡ true
      → has_queues (option_map (λ pair. if b then without_frame side pair else pair) o) ≡ true
  queues-frame side b None e = e
  queues-frame side false (Some pair) e = e
  queues-frame A true (Some pair) e = second (is_queue pair.a.sent) (shorter SENT_MAX pair.b.sent) e
  queues-frame B true (Some pair) e = first (is_queue pair.b.sent) (shorter SENT_MAX pair.a.sent) e

  pub sound-taken : IsSound w → IsSound (taken h w)
  unfolding taken each_pair stack_at
  sound-taken s = record {
    standing = standing-same s.standing standing-taken s.standing.tables
        (λ k. ap has_queues (pair_taken k) ∙ queues-frame h.side (key_eq k (key_of h)) (pair_at w k) (s.standing.queues k));
    tree = tree-same s.tree tree-taken;
    names = named-same s.names places-taken;
  }

  clock-taken : (taken h w).clock ≡ w.clock
  unfolding taken
  clock-taken = clock-each_pair _ w

-- ---- and heard

-- where the half stands that a frame comes to
stands-there : (h : Half) (o : Option Pair) (p : Path) (frame : List ℕ) → arrival h o ≡ Some (p, frame) → stands_at p h.side o ≡ true
stands-there h None p frame is = absurd (cc)
stands-there h (Some pair) p frame is = by (frames_to h.side pair) is
  where
    at : Path
    at = (end_of h.side pair).at

    by : (frames : List (List ℕ)) → arrival_at at frames ≡ Some (p, frame) → stands_at p h.side (Some pair) ≡ true
    by [] is = absurd (cc)
    by (came ∷ more) is = (path_eq-Decides at p).1 (ap (λ (x : Path × List ℕ). x.0) (some_same (at, came) (p, frame) is))

-- what is true of a world as it was, and where a frame that came is heard
pub either_heard : (P : World → Type 0) (h : Half) (w : World) → P w
    → ((p : Path) (frame : List ℕ) → arrival h (pair_at w (key_of h)) ≡ Some (p, frame) → P (act_by (hearing h frame) (taken h w) p (event.Deliver h)))
    → P (delivered h w)
unfolding delivered received
either_heard P h w none some = by (arrival h (pair_at w (key_of h))) refl
  where
    by : (o : Option (Path × List ℕ)) → arrival h (pair_at w (key_of h)) ≡ o → P (received o h w)
    by None is = none
    by (Some (p, frame)) is = some p frame is

standing-trans : {u v w : World} → SameStanding u v → SameStanding v w → SameStanding u w
standing-trans b t = record {
  alive = λ q. t.alive q ∙ b.alive q;
  ifs = λ q. t.ifs q ∙ b.ifs q;
  pairs = record { of = λ k. t.pairs.of k ∙ b.pairs.of k };
  ordered = λ o. t.ordered (b.ordered o);
}

-- a scene where the half stands is left sound
hearing-tables : (h : Half) (frame : List ℕ) (common : Common) (p : Path) (here : Here) (event : Event) → lists_in (OfHalf h) here.scene ≡ true
    → KeepsTables (hearing h frame) common p here event
unfolding hearing
hearing-tables h frame common p here event listed sound = by here.scene listed sound
  where
    by : (o : Option (SceneOf Half)) → lists_in (OfHalf h) o ≡ true → sound_scene o ≡ true
        → sound_after o (hearing h frame common p (record here { scene = o }) event).scene ≡ true
    by None listed sound = refl
    by (Some s) listed sound = sound_from (frame_received-keeps half_eq half_eq-Decides common h s sound listed frame)

-- ---- what comes through lo0, and timers

pub looped-tables : (common : Common) (o : Option (SceneOf Half)) (readers : List Reader) → lists_in Lo0 o ≡ true → sound_scene o ≡ true
    → sound_after o (heard_where (λ s. heard_in (loop_received half_eq common s)) (record { scene = o; readers = readers })).scene ≡ true
looped-tables common None readers lo0 sound = refl
looped-tables common (Some s) readers lo0 sound = sound_from (loop_received-keeps half_eq half_eq-Decides common s sound lo0)

pub fired-tables : (common : Common) (o : Option (SceneOf Half)) (readers : List Reader) → sound_scene o ≡ true
    → sound_after o (heard_where (λ s. fired_in (fired half_eq common s)) (record { scene = o; readers = readers })).scene ≡ true
fired-tables common None readers sound = refl
fired-tables common (Some s) readers sound = sound_from (fired-keeps half_eq half_eq-Decides common s sound)

-- ---- the world after a delivery

module _ (h : Half) (w : World) where
  pub standing-delivered : SameStanding w (delivered h w)
  standing-delivered =
      either_heard (SameStanding w) h w (shape_standing (shape-none w))
      (λ p frame is. standing-trans (standing-taken h w) (standing-act_by (hearing h frame) (taken h w) p (event.Deliver h)))

  pub sound-delivered : IsSound w → IsSound (delivered h w)
  sound-delivered s =
      either_heard IsSound h w s
      (λ p frame is. let left = sound-taken h w s in
      sound-act_by (hearing h frame) left p (event.Deliver h)
      (hearing-tables h frame _ p _ (event.Deliver h) (half-listed left p h (same_stands (standing-taken h w).pairs p h ∙ stands-there h (pair_at w (key_of h)) p frame is))))

  pub clock-delivered : (delivered h w).clock ≡ w.clock
  clock-delivered =
      either_heard (λ v. v.clock ≡ w.clock) h w refl
      (λ p frame is. clock-act_by (hearing h frame) (taken h w) p (event.Deliver h) ∙ clock-taken h w)

-- in a set that has the stack where the half stands, whatever comes is the same in both worlds
module _ {set : Cells} {v w : World} (a : Alike set v w) (b : Belongs set v) (s : IsSound v) (h : Half) where
  alike-heard : (p : Path) (frame : List ℕ) → in_stacks set p ≡ true
      → Alike set (act_by (hearing h frame) (taken h v) p (event.Deliver h)) (act_by (hearing h frame) (taken h w) p (event.Deliver h))
  unfolding taken
  alike-heard p frame inside = alike-local (alike-each_pair a _) (hearing h frame) (belongs-same b (standing-taken h v)) p (event.Deliver h) inside

  alike-received : (o : Option (Path × List ℕ)) → ((p : Path) (frame : List ℕ) → o ≡ Some (p, frame) → in_stacks set p ≡ true)
      → Alike set (received o h v) (received o h w)
  unfolding received
  alike-received None inside = a
  alike-received (Some (p, frame)) inside = alike-heard p frame (inside p frame refl)

  -- the pair exists, and where the half stands is of the set
  pub alike-delivered : is_some (pair_at v (key_of h)) ≡ true → list_all (in_set set) (place_decider (place h (pair_at v (key_of h)))) ≡ true
      → Alike set (delivered h v) (delivered h w)
  unfolding delivered in_set
  alike-delivered there all = by (pair_at v (key_of h)) refl there all
    where
      by : (o : Option Pair) → pair_at v (key_of h) ≡ o → is_some o ≡ true → list_all (in_set set) (place_decider (place h o)) ≡ true
          → Alike set (received (arrival h (pair_at v (key_of h))) h v) (received (arrival h (pair_at w (key_of h))) h w)
      by None is there all = absurd (cc)
      by (Some pair) is there all =
          let p : Path = (end_of h.side pair).at in
          let inside : in_stacks set p ≡ true = (and_parts _ true all).0 in
          let stands : stands_at p h.side (pair_at v (key_of h)) ≡ true = ap (stands_at p h.side) is ∙ (path_eq-Decides p p).1 refl in
          let own : in_pairs set (key_of h) ≡ true = owns-member set h (ifs_of (stack_at v p)) (b.halves p inside) (half-standing s p h stands) in
          subst (λ x. Alike set (received (arrival h (pair_at v (key_of h))) h v) (received (arrival h x) h w)) (a.pairs (key_of h) own)
          (alike-received (arrival h (pair_at v (key_of h)))
          (λ q frame came. ap (in_stacks set) (same_place q frame came is) ∙ inside))
        where
          same_place : (q : Path) (frame : List ℕ) → arrival h (pair_at v (key_of h)) ≡ Some (q, frame) → pair_at v (key_of h) ≡ Some pair → q ≡ (end_of h.side pair).at
          same_place q frame came is =
              sym ((path_eq-Decides (end_of h.side pair).at q).0 (ap (stands_at q h.side) (sym is) ∙ stands-there h (pair_at v (key_of h)) q frame came))

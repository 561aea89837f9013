-- A half that moves: each world stays sound, and nothing is left behind.
use Rattle.std.proofs.Common.{◌≡◌, Bool, true, false, ◌&&◌, Option, Some, None, refl, sym, ap, ◌∙◌, subst, ◌⊎◌, inl, inr}
use Rattle.std.specs.Prelude.{if◌then◌else◌}
use Rattle.std.specs.Option.{option_map, is_some}
use Rattle.std.proofs.lemmas.Bool.{and_from}
use Rattle.vn_types.specs.declared.half.Half.{Half}
use Rattle.vn_types.specs.declared.interface.IfOf.TheVariants.{Lo0, Half as OfHalf}
use Rattle.vn_types.specs.declared.interface.Side.{Side}
use Rattle.vn_types.specs.Interfaces.{side_eq}
use Rattle.vn_types.specs.PathOrder.{path_eq-Decides}
use Rattle.vn_types.proofs.InterfaceNames.{side_eq-Decides}
use Rattle.vn_types.proofs.PathNames.{key_eq-Decides}
use Rattle.vn_rules.specs.Soundness.{is_sound_parts}
use Rattle.vn_cells.specs.declared.world.Pair.{Pair}
use Rattle.vn_cells.specs.declared.world.Stack.{Stack}
use Rattle.vn_cells.specs.declared.world.World.{World}
use Rattle.vn_cells.specs.world.Names.{Path, Key, If, key_of, half_eq, path_eq, key_eq, is_under}
use Rattle.vn_cells.specs.world.World.{stack_at, pair_at, is_alive, ifs_of, end_of, place}
use Rattle.vn_cells.specs.commands.Moves.{placed_at, moved}
use Rattle.vn_cells.specs.keeping.Standing.{passes, stands_at, is_placed, times, times_listed, has_queues}
use Rattle.vn_cells.specs.keeping.Sound.{IsSound, IsNamed}
use Rattle.vn_cells.specs.keeping.Moved.{forgets, is_emptied}
use Rattle.vn_laws.specs.Relations.{Leaves, IsGone}
use Rattle.vn_laws.proofs.edits.Names.{half_eq-Decides, key_eq-refl}
use Rattle.vn_laws.proofs.edits.Paths.{path_eq-sym}
use Rattle.vn_laws.proofs.edits.Trees.{tree-same, alive_tree}
use Rattle.vn_laws.proofs.pairs.Listed.{count, has-count}
use Rattle.vn_laws.proofs.moves.Ends.{shifted, placed-own, placed-other, place_other, stands_other, stands_own, stands_apart, emptied-own, emptied-kept, queues_shifted}
use Rattle.vn_laws.proofs.moves.Moved.{moved_stack, moved_pair, moved_tree, moved_order, relived_ifs, relisted, relived_sound, relived_forgets, relived_own, count-other, count-own}

-- no other half stands there under the half's name, and no other pair of that unit is homed there
pub record IsFree (v : World) (h : Half) (to : Path) : Type 0 where
  pub none : (g : Half) → stands_at to g.side (pair_at v (key_of g)) ≡ true → g.unit ≡ h.unit → g.side ≡ h.side → g ≡ h
  pub home : is_some (pair_at v (to, h.unit)) ≡ true → h.home ≡ to

-- ---- a half that stands in a stack goes to another that lives

module _ {v : World} (s : IsSound v) (h : Half) (from to : Path) (lives : is_alive v to ≡ true) (at : stands_at from h.side (pair_at v (key_of h)) ≡ true) where
  lives_there : (q : Path) → path_eq q to ≡ true → is_alive v q ≡ true
  lives_there q e = ap (is_alive v) ((path_eq-Decides q to).0 e) ∙ lives

  pub moved_ifs : (q : Path) → ifs_of (stack_at (moved h from to v) q) ≡ relisted h (path_eq q to) (path_eq q from) (ifs_of (stack_at v q))
  moved_ifs q = ap ifs_of (moved_stack h from to v q) ∙ relived_ifs h (path_eq q to) (path_eq q from) (stack_at v q) (lives_there q)

  not_there : (q : Path) → path_eq q from ≡ false → count (OfHalf h) (ifs_of (stack_at v q)) ≡ 0
  not_there q e = s.standing.listed q (OfHalf h) ∙ ap times (stands_apart q from h.side (pair_at v (key_of h)) at e)

  listed_own : (q : Path) → count (OfHalf h) (relisted h (path_eq q to) (path_eq q from) (ifs_of (stack_at v q))) ≡ times (stands_at q h.side (option_map (shifted h to (key_of h)) (pair_at v (key_of h))))
  listed_own q = count-own h (path_eq q to) (path_eq q from) (ifs_of (stack_at v q)) (not_there q) ∙ ap times (path_eq-sym q to ∙ sym (stands_own q h from to (pair_at v (key_of h)) at))

  half_moved : (q : Path) (g : Half) → count (OfHalf g) (ifs_of (stack_at (moved h from to v) q)) ≡ times (stands_at q g.side (pair_at (moved h from to v) (key_of g)))
  half_moved q g = ap (count (OfHalf g)) (moved_ifs q) ∙ by (half_eq g h) refl ∙ ap (λ o. times (stands_at q g.side o)) (sym (moved_pair h from to v (key_of g)))
    where
      by : (b : Bool) → half_eq g h ≡ b → count (OfHalf g) (relisted h (path_eq q to) (path_eq q from) (ifs_of (stack_at v q))) ≡ times (stands_at q g.side (option_map (shifted h to (key_of g)) (pair_at v (key_of g))))
      by true e = subst (λ (g : Half). count (OfHalf g) (relisted h (path_eq q to) (path_eq q from) (ifs_of (stack_at v q))) ≡ times (stands_at q g.side (option_map (shifted h to (key_of g)) (pair_at v (key_of g))))) (sym ((half_eq-Decides g h).0 e)) (listed_own q)
      by false e = count-other h (path_eq q to) (path_eq q from) (OfHalf g) (ifs_of (stack_at v q)) e ∙ s.standing.listed q (OfHalf g) ∙ ap times (sym (stands_other q g h to (pair_at v (key_of g)) e))

  listed_moved : (q : Path) (on : If) → count on (ifs_of (stack_at (moved h from to v) q)) ≡ times_listed (moved h from to v) q on
  listed_moved q Lo0 =
      ap (count Lo0) (moved_ifs q) ∙ count-other h (path_eq q to) (path_eq q from) Lo0 (ifs_of (stack_at v q)) refl
      ∙ s.standing.listed q Lo0 ∙ ap times (sym (alive_tree (moved_tree h from to v) q))
  listed_moved q (OfHalf g) = half_moved q g

  places_moved : is_under to h.home ≡ true → (k : Key) (side : Side) (o : Option Pair) → is_placed v k side o ≡ true → is_placed (moved h from to v) k side (option_map (shifted h to k) o) ≡ true
  places_moved under k side None e = refl
  places_moved under k side (Some pair) e = by (key_eq k (key_of h)) refl (side_eq side h.side) refl
    where
      same : is_placed (moved h from to v) k side (Some pair) ≡ true
      same = ap (λ b. b && is_under (end_of side pair).at k.0) (alive_tree (moved_tree h from to v) (end_of side pair).at) ∙ e

      by : (b : Bool) → key_eq k (key_of h) ≡ b → (c : Bool) → side_eq side h.side ≡ c → is_placed (moved h from to v) k side (Some (if b then placed_at h.side to pair else pair)) ≡ true
      by true f true i =
          ap (λ r. is_alive (moved h from to v) r && is_under r k.0) (ap (λ s. (end_of s (placed_at h.side to pair)).at) ((side_eq-Decides side h.side).0 i) ∙ placed-own h.side to pair)
          ∙ and_from _ _ (alive_tree (moved_tree h from to v) to ∙ lives) (ap (λ (q : Key). is_under to q.0) ((key_eq-Decides k (key_of h)).0 f) ∙ under)
      by true f false i = ap (λ r. is_alive (moved h from to v) r && is_under r k.0) (placed-other side h.side to pair i) ∙ same
      by false f c i = same

  -- the name is free where it goes
  named-moved : IsFree v h to → IsNamed (moved h from to v)
  named-moved free = record { once = λ p g k a b unit side. once p g k (half_eq g h) refl (half_eq k h) refl a b unit side; reserved = λ p g a e. reserved p g (half_eq g h) refl a (sym (some_moved (p, g.unit)) ∙ e) }
    where
      some_moved : (k : Key) → is_some (pair_at (moved h from to v) k) ≡ is_some (pair_at v k)
      some_moved k = ap is_some (moved_pair h from to v k) ∙ by (pair_at v k)
        where
          by : (o : Option Pair) → is_some (option_map (shifted h to k) o) ≡ is_some o
          by None = refl
          by (Some pair) = refl

      as_before : (p : Path) (g : Half) → half_eq g h ≡ false → stands_at p g.side (pair_at (moved h from to v) (key_of g)) ≡ true → stands_at p g.side (pair_at v (key_of g)) ≡ true
      as_before p g e a = sym (stands_other p g h to (pair_at v (key_of g)) e) ∙ sym (ap (stands_at p g.side) (moved_pair h from to v (key_of g))) ∙ a

      at_to : (p : Path) (g : Half) → g ≡ h → stands_at p g.side (pair_at (moved h from to v) (key_of g)) ≡ true → p ≡ to
      at_to p g e a =
          let there : stands_at p h.side (pair_at (moved h from to v) (key_of h)) ≡ true = ap (λ (k : Half). stands_at p k.side (pair_at (moved h from to v) (key_of k))) (sym e) ∙ a in
          sym ((path_eq-Decides to p).0 (sym (stands_own p h from to (pair_at v (key_of h)) at) ∙ sym (ap (stands_at p h.side) (moved_pair h from to v (key_of h))) ∙ there))

      once : (p : Path) (g k : Half) (x : Bool) → half_eq g h ≡ x → (y : Bool) → half_eq k h ≡ y → stands_at p g.side (pair_at (moved h from to v) (key_of g)) ≡ true → stands_at p k.side (pair_at (moved h from to v) (key_of k)) ≡ true
          → g.unit ≡ k.unit → g.side ≡ k.side → g.home ≡ k.home
      once p g k true e true f a b unit side = ap (λ (z : Half). z.home) ((half_eq-Decides g h).0 e ∙ sym ((half_eq-Decides k h).0 f))
      once p g k true e false f a b unit side =
          let same : g ≡ h = (half_eq-Decides g h).0 e in
          let there : stands_at to k.side (pair_at v (key_of k)) ≡ true = ap (λ r. stands_at r k.side (pair_at v (key_of k))) (sym (at_to p g same a)) ∙ as_before p k f b in
          ap (λ (z : Half). z.home) (same ∙ sym (free.none k there (sym unit ∙ ap (λ (z : Half). z.unit) same) (sym side ∙ ap (λ (z : Half). z.side) same)))
      once p g k false e true f a b unit side =
          let same : k ≡ h = (half_eq-Decides k h).0 f in
          let there : stands_at to g.side (pair_at v (key_of g)) ≡ true = ap (λ r. stands_at r g.side (pair_at v (key_of g))) (sym (at_to p k same b)) ∙ as_before p g e a in
          ap (λ (z : Half). z.home) (free.none g there (unit ∙ ap (λ (z : Half). z.unit) same) (side ∙ ap (λ (z : Half). z.side) same) ∙ sym same)
      once p g k false e false f a b unit side = s.names.once p g k (as_before p g e a) (as_before p k f b) unit side

      reserved : (p : Path) (g : Half) (x : Bool) → half_eq g h ≡ x → stands_at p g.side (pair_at (moved h from to v) (key_of g)) ≡ true → is_some (pair_at v (p, g.unit)) ≡ true → g.home ≡ p
      reserved p g true e a some =
          let same : g ≡ h = (half_eq-Decides g h).0 e in
          let there : p ≡ to = at_to p g same a in
          ap (λ (z : Half). z.home) same ∙ free.home (ap (λ n. is_some (pair_at v (to, n))) (ap (λ (z : Half). z.unit) (sym same)) ∙ ap (λ r. is_some (pair_at v (r, g.unit))) (sym there) ∙ some) ∙ sym there
      reserved p g false e a some = s.names.reserved p g (as_before p g e a) some

  pub sound-moved : is_under to h.home ≡ true → IsFree v h to → IsSound (moved h from to v)
  sound-moved under free = record {
    standing = record {
      places = λ k side. ap (is_placed (moved h from to v) k side) (moved_pair h from to v k) ∙ places_moved under k side (pair_at v k) (s.standing.places k side);
      listed = listed_moved;
      tables = λ q. ap (λ (t : Stack). passes (is_sound_parts half_eq) t.live) (moved_stack h from to v q)
          ∙ relived_sound h (path_eq q to) (path_eq q from) (stack_at v q) (s.standing.tables q);
      queues = λ k. ap has_queues (moved_pair h from to v k) ∙ queues_shifted h to k (pair_at v k) (s.standing.queues k);
      pairs_ordered = moved_order h from to v s.standing.pairs_ordered;
    };
    tree = tree-same s.tree (moved_tree h from to v);
    names = named-moved free;
  }

  gone_own : IsGone h (moved h from to v)
  gone_own = record {
    emptied = ap (is_emptied h) (moved_pair h from to v (key_of h)) ∙ by (pair_at v (key_of h));
    forgotten = λ q. ap (λ (t : Stack). passes (forgets h) t.live) (moved_stack h from to v q)
        ∙ relived_own h (path_eq q to) (path_eq q from) (stack_at v q) (s.standing.tables q) (λ e. has-count (OfHalf h) (ifs_of (stack_at v q)) false (not_there q e));
  }
    where
      by : (o : Option Pair) → is_emptied h (option_map (shifted h to (key_of h)) o) ≡ true
      by None = refl
      by (Some pair) = ap (λ b. is_emptied h (Some (if b then placed_at h.side to pair else pair))) (key_eq-refl (key_of h)) ∙ emptied-own h.side h to pair refl

  pub leaves-moved : Leaves v (moved h from to v)
  leaves-moved = record {
    moved = λ g. by g (half_eq g h) refl;
    kept = λ g gone. record {
      emptied = ap (is_emptied g) (moved_pair h from to v (key_of g)) ∙ kept g (pair_at v (key_of g)) gone.emptied;
      forgotten = λ q. ap (λ (t : Stack). passes (forgets g) t.live) (moved_stack h from to v q) ∙ relived_forgets h (path_eq q to) (path_eq q from) g (stack_at v q) (gone.forgotten q);
    };
  }
    where
      by : (g : Half) (b : Bool) → half_eq g h ≡ b → (place g (pair_at (moved h from to v) (key_of g)) ≡ place g (pair_at v (key_of g))) ⊎ IsGone g (moved h from to v)
      by g true e = inr (subst (λ (k : Half). IsGone k (moved h from to v)) (sym ((half_eq-Decides g h).0 e)) gone_own)
      by g false e = inl (ap (place g) (moved_pair h from to v (key_of g)) ∙ place_other g h to (pair_at v (key_of g)) e)

      kept : (g : Half) (o : Option Pair) → is_emptied g o ≡ true → is_emptied g (option_map (shifted h to (key_of g)) o) ≡ true
      kept g None e = refl
      kept g (Some pair) e = pick (key_eq (key_of g) (key_of h))
        where
          pick : (b : Bool) → is_emptied g (Some (if b then placed_at h.side to pair else pair)) ≡ true
          pick true = emptied-kept g h.side to pair e
          pick false = e

-- A stack to which no half is lent and below which nothing lives dies: the world stays sound, and nothing is left
-- behind.
use Rattle.std.proofs.Common.{◌≡◌, ◌-◌, Bool, true, false, ◌&&◌, not, [], Option, Some, None, refl, sym, ap, ◌∙◌, arith, ◌⊎◌, inl, inr}
use Rattle.std.specs.Prelude.{if◌then◌else◌, count_by}
use Rattle.std.specs.Option.{is_some}
use Rattle.std.specs.List.{list_any}
use Rattle.std.proofs.lemmas.Bool.{and_parts, and_from, true≢false}
use Rattle.vn_types.specs.declared.half.Half.{Half}
use Rattle.vn_types.specs.declared.interface.IfOf.TheVariants.{Lo0, Half as OfHalf}
use Rattle.vn_types.specs.declared.interface.Side.{Side}
use Rattle.vn_types.specs.declared.interface.Side.TheVariants.{A, B}
use Rattle.vn_types.specs.PathOrder.{path_eq-Decides}
use Rattle.vn_rules.specs.Soundness.{is_sound_parts}
use Rattle.vn_cells.specs.declared.world.Pair.{Pair}
use Rattle.vn_cells.specs.declared.world.Stack.{Stack}
use Rattle.vn_cells.specs.declared.world.World.{World}
use Rattle.vn_cells.specs.world.Names.{Path, Key, If, key_of, half_eq, if_eq, half_on, path_eq, is_host, is_under, is_below, above, parent}
use Rattle.vn_cells.specs.world.World.{stack_at, pair_at, is_alive, ifs_in, ifs_of, end_of, place}
use Rattle.vn_cells.specs.commands.Jails.{recount_above, one_less}
use Rattle.vn_cells.specs.commands.Removal.{killed}
use Rattle.vn_cells.specs.keeping.Standing.{passes, stands_at, is_placed, times, times_listed, has_queues}
use Rattle.vn_cells.specs.keeping.Sound.{IsSound, living_below, counts_right}
use Rattle.vn_cells.specs.keeping.Moved.{forgets, is_emptied}
use Rattle.vn_laws.specs.Relations.{Leaves, IsGone}
use Rattle.vn_laws.specs.Removals.{HomeAlone}
use Rattle.vn_laws.proofs.edits.Paths.{path_eq-sym, below-parent, above-below, parent_host}
use Rattle.vn_laws.proofs.edits.Cells.{Ordered}
use Rattle.vn_laws.proofs.edits.Counts.{one_living_less, same_living_but}
use Rattle.vn_laws.proofs.edits.Standing.{named-fewer, stood-if, existed-if, queues-if}
use Rattle.vn_laws.proofs.pairs.Listed.{has-count}
use Rattle.vn_laws.proofs.pairs.Cut.{forgets_there}
use Rattle.vn_laws.proofs.jails.Counted.{recounted, recounted_right}
use Rattle.vn_laws.proofs.jails.Home.{stands}
use Rattle.vn_laws.proofs.edits.Fine.{Fine}
use Rattle.vn_laws.proofs.jails.Killed.{killed_stack, killed_pair, killed_ordered, killed_pairs}
use Rattle.vn_laws.proofs.jails.Own.{OwnOnly, NoneHomed}
use Rattle.vn_laws.proofs.edits.Shapes.{with_live}

-- ---- it dies

-- where halves that stand in a stack are all homed there, and nothing lives below, its pairs stand nowhere else
pub home_alone : {v : World} → IsSound v → (q : Path) → ((r : Path) → is_alive v r ≡ true → is_below r q ≡ false) → HomeAlone q v
home_alone {v} s q lowest k pair home e = (at A, at B)
  where
    at : (side : Side) → (end_of side pair).at ≡ q
    at side =
        let placed : (is_alive v (end_of side pair).at && is_under (end_of side pair).at k.0) ≡ true = ap (is_placed v k side) (sym e) ∙ s.standing.places k side in
        let under : is_under (end_of side pair).at q ≡ true = ap (is_under (end_of side pair).at) (sym ((path_eq-Decides k.0 q).0 home)) ∙ (and_parts (is_alive v (end_of side pair).at) (is_under (end_of side pair).at k.0) placed).1 in
        by (path_eq (end_of side pair).at q) refl under (lowest (end_of side pair).at ((and_parts (is_alive v (end_of side pair).at) (is_under (end_of side pair).at k.0) placed).0))
      where
        by : (b : Bool) → path_eq (end_of side pair).at q ≡ b → is_under (end_of side pair).at q ≡ true → is_below (end_of side pair).at q ≡ false → (end_of side pair).at ≡ q
        by true f under not_below = (path_eq-Decides (end_of side pair).at q).0 f
        by false f under not_below = absurd (true≢false (sym (and_from _ _ under (ap not (path_eq-sym q (end_of side pair).at ∙ f))) ∙ not_below))

module _ {v w : World} (s : IsSound v) (q : Path) (alive : is_alive v q ≡ true) (top : is_host q ≡ false) (lowest : (r : Path) → is_alive v r ≡ true → is_below r q ≡ false)
    (own : (h : Half) → stands v q h ≡ true → path_eq h.home q ≡ true) (o : OwnOnly q v w) (none : NoneHomed q w) where
  buried_stack : (r : Path) → path_eq r q ≡ false → stack_at (killed q w) r ≡ recount_above q one_less r (stack_at v r)
  buried_stack r e = killed_stack q w r ∙ ap (λ b. if b then record (stack_at w r) { live = None } else recount_above q one_less r (stack_at w r)) e ∙ ap (recount_above q one_less r) (o.stacks r e)

  buried_none : (r : Path) → path_eq r q ≡ true → (stack_at (killed q w) r).live ≡ None
  buried_none r e = ap (λ (t : Stack). t.live) (killed_stack q w r ∙ ap (λ b. if b then record (stack_at w r) { live = None } else recount_above q one_less r (stack_at w r)) e)

  buried_pair : (k : Key) → pair_at (killed q w) k ≡ (if path_eq k.0 q then None else pair_at v k)
  buried_pair k = killed_pair q w k ∙ by (path_eq k.0 q) refl
    where
      by : (b : Bool) → path_eq k.0 q ≡ b → pair_at w k ≡ (if b then None else pair_at v k)
      by true e = none k e
      by false e = o.pairs k e

  pub buried_alive : (r : Path) → is_alive (killed q w) r ≡ (is_alive v r && not (path_eq r q))
  buried_alive r = by (path_eq r q) refl
    where
      by : (b : Bool) → path_eq r q ≡ b → is_alive (killed q w) r ≡ (is_alive v r && not b)
      by true e = ap is_some (buried_none r e) ∙ grind arith
      by false e = ap (λ (t : Stack). is_some t.live) (buried_stack r e) ∙ recounted is_some (λ live c. refl) (list_any (path_eq r) (above q)) one_less (stack_at v r) ∙ grind arith

  -- a half of a pair that is homed there stood nowhere else
  elsewhere : (r : Path) (h : Half) → path_eq r q ≡ false → path_eq h.home q ≡ true → stands v r h ≡ false
  elsewhere r h e home = by (pair_at v (key_of h)) refl
    where
      at_q : (side : Side) (pair : Pair) → pair_at v (key_of h) ≡ Some pair → (end_of side pair).at ≡ q
      at_q A pair f = (home_alone s q lowest (key_of h) pair home f).0
      at_q B pair f = (home_alone s q lowest (key_of h) pair home f).1

      by : (x : Option Pair) → pair_at v (key_of h) ≡ x → stands_at r h.side x ≡ false
      by None f = refl
      by (Some pair) f = ap (λ p. path_eq p r) (at_q h.side pair f) ∙ path_eq-sym q r ∙ e

  -- a half of another pair does not stand there
  not_there : (h : Half) → path_eq h.home q ≡ false → stands v q h ≡ false
  not_there h e = by (stands v q h) refl
    where
      by : (b : Bool) → stands v q h ≡ b → b ≡ false
      by false f = refl
      by true f = absurd (true≢false (sym (own h f) ∙ e))

  ifs_elsewhere : (r : Path) → path_eq r q ≡ false → ifs_of (stack_at (killed q w) r) ≡ ifs_of (stack_at v r)
  ifs_elsewhere r e =
      ap ifs_of (buried_stack r e) ∙ recounted ifs_in (λ live c. refl) (list_any (path_eq r) (above q)) one_less (stack_at v r)

  listed_buried : (r : Path) (on : If) → count_by (if_eq on) (ifs_of (stack_at (killed q w) r)) ≡ times_listed (killed q w) r on
  listed_buried r Lo0 = by (path_eq r q) refl ∙ ap times (sym (buried_alive r))
    where
      by : (b : Bool) → path_eq r q ≡ b → count_by (if_eq Lo0) (ifs_of (stack_at (killed q w) r)) ≡ times (is_alive v r && not b)
      by true e = ap (λ l. count_by (if_eq Lo0) (ifs_of (with_live l))) (buried_none r e) ∙ ap times (sym (dead (is_alive v r)))
        where
          dead : (a : Bool) → (a && not true) ≡ false
          dead a = grind arith
      by false e = ap (count_by (if_eq Lo0)) (ifs_elsewhere r e) ∙ s.standing.listed r Lo0 ∙ ap times (sym (lives (is_alive v r)))
        where
          lives : (a : Bool) → (a && not false) ≡ a
          lives a = grind arith
  listed_buried r (OfHalf h) = by (path_eq r q) refl (path_eq h.home q) refl ∙ ap (λ x. times (stands_at r h.side x)) (sym (buried_pair (key_of h)))
    where
      same : path_eq r q ≡ false → count_by (if_eq (OfHalf h)) (ifs_of (stack_at (killed q w) r)) ≡ times (stands v r h)
      same e = ap (count_by (if_eq (OfHalf h))) (ifs_elsewhere r e) ∙ s.standing.listed r (OfHalf h)

      by : (b : Bool) → path_eq r q ≡ b → (c : Bool) → path_eq h.home q ≡ c
          → count_by (if_eq (OfHalf h)) (ifs_of (stack_at (killed q w) r)) ≡ times (stands_at r h.side (if c then None else pair_at v (key_of h)))
      by true e true f = ap (λ l. count_by (if_eq (OfHalf h)) (ifs_of (with_live l))) (buried_none r e)
      by true e false f =
          ap (λ l. count_by (if_eq (OfHalf h)) (ifs_of (with_live l))) (buried_none r e)
          ∙ ap times (sym (ap (λ p. stands v p h) ((path_eq-Decides r q).0 e) ∙ not_there h f))
      by false e true f = same e ∙ ap times (elsewhere r h e f)
      by false e false f = same e

  placed_buried : (k : Key) (side : Side) → is_placed (killed q w) k side (pair_at (killed q w) k) ≡ true
  placed_buried k side = ap (is_placed (killed q w) k side) (buried_pair k) ∙ by (path_eq k.0 q) refl (pair_at v k) refl (s.standing.places k side)
    where
      by : (b : Bool) → path_eq k.0 q ≡ b → (x : Option Pair) → pair_at v k ≡ x → is_placed v k side x ≡ true → is_placed (killed q w) k side (if b then None else x) ≡ true
      by true e x f h = refl
      by false e None f h = refl
      by false e (Some pair) f h =
          let apart : path_eq (end_of side pair).at q ≡ false = ap (stands_at q side) (sym f) ∙ not_there (half_on side k) e in
          and_from _ _ (buried_alive (end_of side pair).at ∙ and_from _ _ (and_parts _ _ h).0 (ap not apart)) (and_parts _ _ h).1

  -- the parent of who still lives is not who died
  parents_buried : (r : Path) → is_alive (killed q w) r ≡ true → is_alive (killed q w) (parent r) ≡ true
  parents_buried r e =
      let both = sym (buried_alive r) ∙ e in
      buried_alive (parent r) ∙ and_from _ _ (s.tree.parents r (and_parts _ _ both).0) (ap not (by (path_eq (parent r) q) refl (is_host r) refl (and_parts _ _ both).0))
    where
      by : (b : Bool) → path_eq (parent r) q ≡ b → (c : Bool) → is_host r ≡ c → is_alive v r ≡ true → b ≡ false
      by false f c g h = refl
      by true f false g h = absurd (true≢false (sym (below-parent r g) ∙ ap (λ p. is_below r p) ((path_eq-Decides (parent r) q).0 f) ∙ lowest r h))
      by true f true g h = absurd (true≢false (sym (ap is_host (sym ((path_eq-Decides (parent r) q).0 f)) ∙ parent_host r g) ∙ top))

  buried_ordered : Ordered (killed q w)
  buried_ordered = killed_ordered q w (o.ordered s.tree.stacks_ordered)

  counted_buried : (r : Path) → counts_right (living_below (killed q w) r) r (stack_at (killed q w) r).live ≡ true
  counted_buried r = by (path_eq r q) refl
    where
      number : is_host r ≡ false → (b : Bool) → is_below q r ≡ b → (if b then living_below v r - 1 else living_below v r) ≡ living_below (killed q w) r
      number h true e = let n = one_living_less v (killed q w) q s.tree.stacks_ordered buried_ordered alive buried_alive r e in omega arith
      number h false e = sym (same_living_but v (killed q w) q s.tree.stacks_ordered buried_ordered alive buried_alive r e)

      by : (b : Bool) → path_eq r q ≡ b → counts_right (living_below (killed q w) r) r (stack_at (killed q w) r).live ≡ true
      by true e = ap (counts_right (living_below (killed q w) r) r) (buried_none r e)
      by false e =
          ap (λ (t : Stack). counts_right (living_below (killed q w) r) r t.live) (buried_stack r e)
          ∙ recounted_right (list_any (path_eq r) (above q)) one_less (living_below v r) (living_below (killed q w) r) r (stack_at v r)
          (λ h. number h (list_any (path_eq r) (above q)) (sym (above-below q r h))) (s.tree.counted r)

  sound-buried : IsSound (killed q w)
  unfolding is_host
  sound-buried = record {
    standing = record {
      places = placed_buried;
      listed = listed_buried;
      tables = λ r. tables r (path_eq r q) refl;
      queues = λ k. ap has_queues (buried_pair k) ∙ queues-if (path_eq k.0 q) (pair_at v k) (s.standing.queues k);
      pairs_ordered = killed_pairs q w (o.pairs_ordered s.standing.pairs_ordered);
    };
    tree = record {
      host = buried_alive [] ∙ and_from _ _ s.tree.host (ap not (host_apart (path_eq [] q) refl));
      parents = parents_buried;
      counted = counted_buried;
      stacks_ordered = buried_ordered;
    };
    names = named-fewer s.names (record { stood = λ p h e. stood-if p h.side (path_eq h.home q) (pair_at v (key_of h)) (sym (ap (stands_at p h.side) (buried_pair (key_of h))) ∙ e); existed = λ k e. existed-if (path_eq k.0 q) (pair_at v k) (sym (ap is_some (buried_pair k)) ∙ e) });
  }
    where
      tables : (r : Path) (b : Bool) → path_eq r q ≡ b → passes (is_sound_parts half_eq) (stack_at (killed q w) r).live ≡ true
      tables r true e = ap (passes (is_sound_parts half_eq)) (buried_none r e)
      tables r false e =
          ap (λ (t : Stack). passes (is_sound_parts half_eq) t.live) (buried_stack r e)
          ∙ recounted (passes (is_sound_parts half_eq)) (λ live c. refl) (list_any (path_eq r) (above q)) one_less (stack_at v r) ∙ s.standing.tables r

      host_apart : (b : Bool) → path_eq [] q ≡ b → b ≡ false
      host_apart false e = refl
      host_apart true e = absurd (true≢false (ap is_host ((path_eq-Decides [] q).0 e) ∙ top))

  forgets_buried : (g : Half) (r : Path) → (path_eq r q ≡ false → passes (forgets g) (stack_at v r).live ≡ true) → passes (forgets g) (stack_at (killed q w) r).live ≡ true
  forgets_buried g r f = by (path_eq r q) refl
    where
      by : (b : Bool) → path_eq r q ≡ b → passes (forgets g) (stack_at (killed q w) r).live ≡ true
      by true e = ap (passes (forgets g)) (buried_none r e)
      by false e = ap (λ (t : Stack). passes (forgets g) t.live) (buried_stack r e) ∙ recounted (passes (forgets g)) (λ live c. refl) (list_any (path_eq r) (above q)) one_less (stack_at v r) ∙ f e

  leaves-buried : Leaves v (killed q w)
  leaves-buried = record {
    moved = λ g. by g (path_eq g.home q) refl;
    kept = λ g old. record {
      emptied = ap (is_emptied g) (buried_pair (key_of g)) ∙ kept g (path_eq g.home q) old.emptied;
      forgotten = λ r. forgets_buried g r (λ e. old.forgotten r);
    };
  }
    where
      kept : (g : Half) (b : Bool) → is_emptied g (pair_at v (key_of g)) ≡ true → is_emptied g (if b then None else pair_at v (key_of g)) ≡ true
      kept g true e = refl
      kept g false e = e

      by : (g : Half) (b : Bool) → path_eq g.home q ≡ b → (place g (pair_at (killed q w) (key_of g)) ≡ place g (pair_at v (key_of g))) ⊎ IsGone g (killed q w)
      by g false e = inl (ap (place g) (buried_pair (key_of g)) ∙ ap (λ b. place g (if b then None else pair_at v (key_of g))) e)
      by g true e = inr (record {
        emptied = ap (is_emptied g) (buried_pair (key_of g)) ∙ ap (λ b. is_emptied g (if b then None else pair_at v (key_of g))) e;
        forgotten = λ r. forgets_buried g r (λ f. forgets_there g (stack_at v r) (s.standing.tables r)
            (has-count (OfHalf g) (ifs_of (stack_at v r)) false (s.standing.listed r (OfHalf g) ∙ ap times (elsewhere r g f e))));
      })

  pub fine-buried : Fine v (killed q w)
  fine-buried = record { sound = sound-buried; leaves = leaves-buried }

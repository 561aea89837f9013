-- A jail that is made: the world stays sound, nothing is left behind, and what belongs to a set with the jail still does.
use Rattle.std.proofs.Common.{◌≡◌, ℕ, ◌+◌, Bool, true, false, cond, ◌&&◌, ◌||◌, ◌==◌, not, List, [], ◌∷◌, length, Option, Some, None, refl, sym, ap, ◌∙◌, subst, arith, inl}
use Rattle.std.specs.Prelude.{if◌then◌else◌, filter, count_by}
use Rattle.std.specs.Option.{is_some}
use Rattle.std.specs.List.{list_any}
use Rattle.std.specs.Map.{keys_of}
use Rattle.std.proofs.lemmas.Bool.{and_parts, or_right, not-true, true≢false, false_from_ne_true}
use Rattle.vn_types.specs.declared.half.Half.{Half}
use Rattle.vn_types.specs.declared.interface.Side.{Side}
use Rattle.vn_types.specs.declared.interface.IfOf.TheVariants.{Lo0, Half as OfHalf}
use Rattle.vn_types.specs.PathOrder.{path_eq-Decides}
use Rattle.vn_types.proofs.Ancestors.{passes-above, is_host-is}
use Rattle.vn_rules.specs.declared.parts.PartsOf.{PartsOf}
use Rattle.vn_rules.specs.Interfaces.{named_ifs}
use Rattle.vn_rules.specs.Construction.{constructed_parts}
use Rattle.vn_rules.proofs.Constructed.{constructed_parts-sound}
use Rattle.vn_rules.specs.Soundness.{is_sound_parts}
use Rattle.vn_cells.specs.declared.cell.Cells.{Cells}
use Rattle.vn_cells.specs.declared.world.Live.{Live}
use Rattle.vn_cells.specs.declared.world.Pair.{Pair}
use Rattle.vn_cells.specs.declared.world.Stack.{Stack}
use Rattle.vn_cells.specs.declared.world.World.{World}
use Rattle.vn_cells.specs.world.Names.{Path, Key, If, key_of, path_eq, is_host, is_under, is_below, above, parent, if_eq, half_eq}
use Rattle.vn_cells.specs.world.World.{stack_at, pair_at, is_alive, ifs_in, ifs_of, end_of}
use Rattle.vn_cells.specs.commands.Jails.{recount_above, created}
use Rattle.vn_cells.specs.sets.Sets.{in_stacks}
use Rattle.vn_cells.specs.keeping.Standing.{passes, has_queues, stands_at, is_placed, times, times_listed}
use Rattle.vn_cells.specs.keeping.Sound.{IsSound, living_below, counts_right}
use Rattle.vn_cells.specs.keeping.Moved.{forgets, is_emptied}
use Rattle.vn_laws.specs.Relations.{Belongs, Leaves, owns_ifs}
use Rattle.vn_laws.proofs.edits.Cells.{path_eq-same}
use Rattle.vn_laws.proofs.edits.Counts.{one_living_less, same_living_but}
use Rattle.vn_laws.proofs.edits.Standing.{SamePlaces, places, still_placed, named-same, same_place}
use Rattle.vn_laws.proofs.jails.Counted.{recounted, recounted_right}
use Rattle.vn_laws.proofs.jails.Created.{more, fresh, created_stack, created_pair, created_ordered, created_pairs, created_alive}
use Rattle.vn_laws.proofs.edits.Paths.{above-below, path_eq-sym}
use Rattle.vn_laws.proofs.edits.Tests.{either}

-- a stack that was just constructed names no half
pub new_forgets : (h : Half) → forgets h constructed_parts ≡ true
unfolding named_ifs
new_forgets h = refl

-- ---- numbers

none_filtered : (f : Path → Bool) → ((q : Path) → f q ≡ false) → (qs : List Path) → length (filter f qs) ≡ 0
none_filtered f none [] = refl
none_filtered f none (q ∷ qs) = by (f q) (none q) (none_filtered f none qs)
  where
    by : (b : Bool) → b ≡ false → length (filter f qs) ≡ 0 → length (cond b (q ∷ filter f qs) (filter f qs)) ≡ 0
    by true e ih = cc
    by false e ih = ih

pub none_below : (w : World) (p : Path) → ((q : Path) → is_alive w q ≡ true → is_below q p ≡ false) → living_below w p ≡ 0
unfolding living_below
none_below w p none = none_filtered (λ q. is_alive w q && is_below q p) (λ q. by q (is_alive w q) refl) (keys_of w.stacks)
  where
    by : (q : Path) (b : Bool) → is_alive w q ≡ b → (b && is_below q p) ≡ false
    by q true e = none q e
    by q false e = refl

live_none : (o : Option Live) → is_some o ≡ false → o ≡ None
live_none None e = refl
live_none (Some live) e = cc

module _ {v : World} (s : IsSound v) (clock : ℕ) (p : Path) (limit : ℕ) (dead : is_alive v p ≡ false)
    (parent_lives : is_alive v (parent p) ≡ true) where
  abbrev w : World
  w = created clock p limit v

  -- what is true of the new jail, and was true of every stack, is true of every stack
  each : (P : Path → Option Live → Type 0) → ((q : Path) → path_eq q p ≡ true → P q (fresh clock limit (stack_at v q)).live)
      → ((q : Path) → P q (recount_above p more q (stack_at v q)).live) → (q : Path) → P q (stack_at w q).live
  each P new old q = subst (λ (t : Stack). P q t.live) (sym (created_stack clock p limit v q)) (by (path_eq q p) refl)
    where
      by : (b : Bool) → path_eq q p ≡ b
          → P q (if b then fresh clock limit (recount_above p more q (stack_at v q)) else recount_above p more q (stack_at v q)).live
      by true e = new q e
      by false e = old q

  same_places : SamePlaces v w
  same_places = record { of = λ k. ap places (created_pair clock p limit v k) }

  lives : (q : Path) → is_alive v q ≡ true → is_alive w q ≡ true
  lives q h = created_alive clock p limit v q ∙ or_right (path_eq q p) (is_alive v q) h

  alive_new : is_alive w p ≡ true
  alive_new = created_alive clock p limit v p ∙ ap (λ b. b || is_alive v p) (path_eq-same p)

  not_host : is_host p ≡ false
  not_host = false_from_ne_true (is_host p) (λ e. true≢false (sym s.tree.host ∙ ap (is_alive v) (sym (is_host-is p e)) ∙ dead))

  before : (q : Path) → is_alive v q ≡ (is_alive w q && not (path_eq q p))
  before q = by (path_eq q p) refl ∙ ap (λ b. b && not (path_eq q p)) (sym (created_alive clock p limit v q))
    where
      by : (b : Bool) → path_eq q p ≡ b → is_alive v q ≡ ((b || is_alive v q) && not b)
      by true e = ap (is_alive v) ((path_eq-Decides q p).0 e) ∙ dead
      by false e = grind arith

  -- nobody lives below the new jail
  no_child : (q : Path) → is_alive w q ≡ true → is_below q p ≡ false
  no_child q e = false_from_ne_true (is_below q p) (λ f.
      let apart : path_eq q p ≡ false = path_eq-sym q p ∙ not-true _ (and_parts _ _ f).1 in
      let alive : is_alive v q ≡ true = either _ _ (sym (created_alive clock p limit v q) ∙ e) apart in
      true≢false (sym (passes-above (is_alive v) s.tree.parents q p alive (and_parts _ _ f).0) ∙ dead))

  -- no half stood where nothing lived
  none_there : (q : Path) (side : Side) (k : Key) → path_eq q p ≡ true → stands_at q side (pair_at v k) ≡ false
  none_there q side k e = by (pair_at v k) (s.standing.places k side)
    where
      by : (o : Option Pair) → is_placed v k side o ≡ true → stands_at q side o ≡ false
      by None h = refl
      by (Some pair) h = false_from_ne_true (path_eq (end_of side pair).at q) (λ f.
          true≢false (sym (and_parts _ _ h).0 ∙ ap (is_alive v) ((path_eq-Decides _ _).0 f ∙ (path_eq-Decides _ _).0 e) ∙ dead))

  listed_created : (q : Path) (on : If) → count_by (if_eq on) (ifs_of (stack_at w q)) ≡ times_listed w q on
  listed_created q on = ap (λ (t : Stack). count_by (if_eq on) (ifs_of t)) (created_stack clock p limit v q) ∙ by on (path_eq q p) refl
    where
      by : (on : If) (b : Bool) → path_eq q p ≡ b
          → count_by (if_eq on) (ifs_of (if b then fresh clock limit (recount_above p more q (stack_at v q)) else recount_above p more q (stack_at v q)))
          ≡ times_listed w q on
      by Lo0 true e = ap times (sym (created_alive clock p limit v q ∙ ap (λ b. b || is_alive v q) e))
      by (OfHalf h) true e =
          ap times (sym (ap (stands_at q h.side) (created_pair clock p limit v (key_of h)) ∙ none_there q h.side (key_of h) e))
      by Lo0 false e =
          ap (count_by (if_eq Lo0)) (recounted ifs_in (λ live c. refl) (list_any (path_eq q) (above p)) more (stack_at v q))
          ∙ s.standing.listed q Lo0 ∙ ap times (sym (created_alive clock p limit v q ∙ ap (λ b. b || is_alive v q) e))
      by (OfHalf h) false e =
          ap (count_by (if_eq (OfHalf h))) (recounted ifs_in (λ live c. refl) (list_any (path_eq q) (above p)) more (stack_at v q))
          ∙ s.standing.listed q (OfHalf h) ∙ ap (λ o. times (stands_at q h.side o)) (sym (created_pair clock p limit v (key_of h)))

  tests_created : (test : PartsOf Half → Bool) → test constructed_parts ≡ true
      → ((q : Path) → passes test (stack_at v q).live ≡ true) → (q : Path) → passes test (stack_at w q).live ≡ true
  tests_created test new old =
      each (λ q o. passes test o ≡ true) (λ q e. new)
      (λ q. recounted (passes test) (λ live c. refl) (list_any (path_eq q) (above p)) more (stack_at v q) ∙ old q)

  counted_created : (q : Path) → counts_right (living_below w q) q (stack_at w q).live ≡ true
  counted_created =
      each (λ q o. counts_right (living_below w q) q o ≡ true) new
      (λ q. recounted_right (list_any (path_eq q) (above p)) more (living_below v q) (living_below w q) q (stack_at v q)
      (λ top. number q top (list_any (path_eq q) (above p)) (sym (above-below p q top))) (s.tree.counted q))
    where
      number : (q : Path) → is_host q ≡ false → (b : Bool) → is_below p q ≡ b
          → (if b then living_below v q + 1 else living_below v q) ≡ living_below w q
      number q h true e =
          sym (one_living_less w v p (created_ordered clock p limit v s.tree.stacks_ordered) s.tree.stacks_ordered alive_new before q e)
      number q h false e =
          same_living_but w v p (created_ordered clock p limit v s.tree.stacks_ordered) s.tree.stacks_ordered alive_new before q e

      new : (q : Path) → path_eq q p ≡ true → counts_right (living_below w q) q (fresh clock limit (stack_at v q)).live ≡ true
      new q e =
          let zero : living_below w q ≡ 0 = none_below w q (λ r a. ap (is_below r) ((path_eq-Decides q p).0 e) ∙ no_child r a) in
          ap (λ h. if h then false else 0 == living_below w q) (ap is_host ((path_eq-Decides q p).0 e) ∙ not_host) ∙ ap (λ n. 0 == n) zero

  parents_created : (q : Path) → is_alive w q ≡ true → is_alive w (parent q) ≡ true
  parents_created q h = by (path_eq q p) refl (sym (created_alive clock p limit v q) ∙ h)
    where
      by : (b : Bool) → path_eq q p ≡ b → (b || is_alive v q) ≡ true → is_alive w (parent q) ≡ true
      by true e f = lives (parent q) (ap (λ r. is_alive v (parent r)) ((path_eq-Decides q p).0 e) ∙ parent_lives)
      by false e f = lives (parent q) (s.tree.parents q f)

  pub sound-created : IsSound (created clock p limit v)
  sound-created = record {
    standing = record {
      places = λ k side. still_placed same_places lives k side (s.standing.places k side);
      listed = listed_created;
      tables = tests_created (is_sound_parts half_eq) (constructed_parts-sound half_eq) s.standing.tables;
      queues = λ k. ap has_queues (created_pair clock p limit v k) ∙ s.standing.queues k;
      pairs_ordered = created_pairs clock p limit v s.standing.pairs_ordered;
    };
    tree = record {
      host = lives [] s.tree.host;
      parents = parents_created;
      counted = counted_created;
      stacks_ordered = created_ordered clock p limit v s.tree.stacks_ordered;
    };
    names = named-same s.names same_places;
  }

  pub leaves-created : Leaves v (created clock p limit v)
  leaves-created = record {
    moved = λ h. inl (same_place same_places h);
    kept = λ h g. record {
      emptied = ap (is_emptied h) (created_pair clock p limit v (key_of h)) ∙ g.emptied;
      forgotten = tests_created (forgets h) (new_forgets h) g.forgotten;
    };
  }

  pub belongs-created : (set : Cells) → Belongs set v → in_stacks set p ≡ true → Belongs set (created clock p limit v)
  belongs-created set b own = record {
    halves = λ q e. owns q e;
    descendants = λ r q e top under alive. below r q e top under alive (path_eq q p) refl;
  }
    where
      owns : (q : Path) → in_stacks set q ≡ true → owns_ifs set (ifs_of (stack_at w q)) ≡ true
      owns = each (λ q o. in_stacks set q ≡ true → owns_ifs set (ifs_in o) ≡ true) (λ q e h. refl)
          (λ q h. ap (owns_ifs set) (recounted ifs_in (λ live c. refl) (list_any (path_eq q) (above p)) more (stack_at v q)) ∙ b.halves q h)

      below : (r q : Path) → in_stacks set r ≡ true → is_host r ≡ false → is_under q r ≡ true → is_alive w q ≡ true
          → (c : Bool) → path_eq q p ≡ c → in_stacks set q ≡ true
      below r q e top under alive true f = ap (in_stacks set) ((path_eq-Decides q p).0 f) ∙ own
      below r q e top under alive false f =
          b.descendants r q e top under (either _ _ (sym (created_alive clock p limit v q) ∙ alive) f)

-- A removal: each world stays sound, and nothing is left behind.
use Rattle.std.proofs.Common.{◌≡◌, ℕ, Bool, true, false, cond, ◌&&◌, ◌||◌, not, List, [], ◌∷◌, ◌++◌, refl, sym, ap, ◌∙◌, subst, arith}
use Rattle.std.specs.Prelude.{filter}
use Rattle.std.specs.List.{list_any, AllByRecursion}
use Rattle.std.specs.List.Sorted.{IsStrictlySortedBy}
use Rattle.std.specs.Map.{keys_of}
use Rattle.std.specs.declared.cmp.Ordering.TheVariants.{Less}
use Rattle.std.proofs.lemmas.Bool.{or_right, and_parts, and_from, not-true, true≢false}
use Rattle.std.proofs.lemmas.List.Kept.{IsStrictlySortedBy-filter}
use Rattle.vn_types.specs.PathOrder.{path_eq-Decides, path_ties, path_total}
use Rattle.vn_types.proofs.EntryLaws.{below_all}
use Rattle.vn_cells.specs.declared.world.World.{World}
use Rattle.vn_cells.specs.world.Names.{Path, path_eq, path_cmp, is_host, is_under, is_below}
use Rattle.vn_cells.specs.world.World.{stack_at, is_alive}
use Rattle.vn_cells.specs.commands.Jails.{rows}
use Rattle.vn_cells.specs.commands.Removal.{torn_down, destroyed, living_under, destroyed_all, removed}
use Rattle.vn_cells.specs.keeping.Sound.{IsSound}
use Rattle.vn_laws.specs.Relations.{Leaves}
use Rattle.vn_laws.specs.Removals.{HomeAlone, past_cloner, DestroysAtHome}
use Rattle.vn_types.proofs.UnderPaths.{less-below}
use Rattle.vn_laws.proofs.edits.Paths.{path_eq-sym, under-trans, not_host_under}
use Rattle.vn_laws.proofs.edits.Lists.{any-filter, any-above_all}
use Rattle.vn_laws.proofs.edits.Cells.{alive_listed, path_eq-same}
use Rattle.vn_laws.proofs.edits.Standing.{leaves-none, leaves-then}
use Rattle.vn_laws.proofs.jails.Reached.{destroyed_reach, under_neither}
use Rattle.vn_laws.proofs.jails.Destroyed.{alone_at_cloner, Destroyed, is_destroyed}
use Rattle.vn_laws.proofs.edits.Fine.{Fine}

-- ---- all of a list

pub record DestroyedAll (ps : List Path) (v w : World) : Type 0 where
  pub sound : IsSound w
  pub leaves : Leaves v w
  pub alive : (r : Path) → is_alive w r ≡ (is_alive v r && not (list_any (path_eq r) ps))

module _ (v : World) (s : IsSound v) (clock : ℕ) where
  -- each of them lives and is not host
  abbrev pub AllLive : List Path → Type 0
  AllLive ps = AllByRecursion (λ p. (is_alive v p ≡ true) × (is_host p ≡ false)) ps

  -- who lives below one of them is one of them
  abbrev pub IsWhole : List Path → Type 0
  IsWhole ps = (p r : Path) → list_any (path_eq p) ps ≡ true → is_alive v r ≡ true → is_below r p ≡ true → list_any (path_eq r) ps ≡ true

  below_later : (p r : Path) → is_below r p ≡ true → path_cmp p r ≡ Less
  below_later p r e = less-below p r (and_parts _ _ e).0 (not-true _ (and_parts _ _ e).1)

  -- what is below a later path is not the first
  rest_whole : (p : Path) (ps : List Path) → IsStrictlySortedBy path_cmp (p ∷ ps) → IsWhole (p ∷ ps) → IsWhole ps
  unfolding IsStrictlySortedBy
  rest_whole p ps sorted whole q r member alive below = by (path_eq r p) refl (whole q r (add (path_eq q p) member) alive below)
    where
      add : (b : Bool) → list_any (path_eq q) ps ≡ true → (b || list_any (path_eq q) ps) ≡ true
      add true e = refl
      add false e = e

      by : (b : Bool) → path_eq r p ≡ b → (b || list_any (path_eq r) ps) ≡ true → list_any (path_eq r) ps ≡ true
      by false e f = f
      by true e f =
          let less : path_cmp q p ≡ Less = below_later q p (ap (λ t. is_below t q) (sym ((path_eq-Decides r p).0 e)) ∙ below) in
          absurd (true≢false (sym member ∙ later q p ps less sorted.0))
        where
          later : (q p : Path) (ps : List Path) → path_cmp q p ≡ Less → AllByRecursion (λ y. path_cmp p y ≡ Less) ps → list_any (path_eq q) ps ≡ false
          later q p ps less all = any-above_all path_cmp path_total path_eq-Decides path_ties q ps (below_all path_cmp path_total q p ps less all)

  -- nobody lives below the first any more
  lowest : (p : Path) (ps : List Path) → IsWhole (p ∷ ps) → DestroyedAll ps v (destroyed_all clock ps v) → (r : Path)
      → is_alive (destroyed_all clock ps v) r ≡ true → is_below r p ≡ false
  lowest p ps whole more r e = by (is_below r p) refl
    where
      both : (is_alive v r && not (list_any (path_eq r) ps)) ≡ true
      both = sym (more.alive r) ∙ e

      first : list_any (path_eq p) (p ∷ ps) ≡ true
      first = ap (λ b. b || list_any (path_eq p) ps) (path_eq-same p)

      by : (b : Bool) → is_below r p ≡ b → b ≡ false
      by false f = refl
      by true f = absurd (pick (path_eq r p) refl (whole p r first (and_parts _ _ both).0 f))
        where
          pick : (c : Bool) → path_eq r p ≡ c → (c || list_any (path_eq r) ps) ≡ true → ⊥
          pick true g m = true≢false (sym (and_parts _ _ f).1 ∙ ap not (path_eq-sym p r ∙ g))
          pick false g m = true≢false (sym m ∙ not-true _ (and_parts _ _ both).1)

  -- and the first itself does
  still_lives : (p : Path) (ps : List Path) → IsStrictlySortedBy path_cmp (p ∷ ps) → is_alive v p ≡ true
      → DestroyedAll ps v (destroyed_all clock ps v) → is_alive (destroyed_all clock ps v) p ≡ true
  unfolding IsStrictlySortedBy
  still_lives p ps sorted alive more =
      more.alive p ∙ and_from _ _ alive (ap not (any-above_all path_cmp path_total path_eq-Decides path_ties p ps sorted.0))

  pub all_destroyed : (ps : List Path) → IsStrictlySortedBy path_cmp ps → AllLive ps → IsWhole ps → DestroyedAll ps v (destroyed_all clock ps v)
  unfolding destroyed_all IsStrictlySortedBy
  all_destroyed [] sorted live whole = record { sound = s; leaves = leaves-none v; alive = λ r. grind arith }
  all_destroyed (p ∷ ps) sorted live whole =
      let more : DestroyedAll ps v (destroyed_all clock ps v) = all_destroyed ps sorted.1 live.1 (rest_whole p ps sorted whole) in
      let one : Destroyed p (destroyed_all clock ps v) (destroyed clock p (destroyed_all clock ps v)) =
      is_destroyed clock p (destroyed_all clock ps v) more.sound (still_lives p ps sorted live.0.0 more) live.0.1 (lowest p ps whole more) in
      record {
        sound = one.fine.sound;
        leaves = leaves-then more.leaves one.fine.leaves;
        alive = λ r. one.alive r ∙ ap (λ b. b && not (path_eq r p)) (more.alive r) ∙ join (is_alive v r) (path_eq r p) (list_any (path_eq r) ps);
      }
    where
      join : (a b c : Bool) → ((a && not c) && not b) ≡ (a && not (b || c))
      join a b c = grind arith

  -- each of them stands with its homed pairs when those are destroyed
  all_alone : (before : List Path) (q : Path) (after : List Path) → IsStrictlySortedBy path_cmp (before ++ q ∷ after)
      → AllLive (before ++ q ∷ after) → IsWhole (before ++ q ∷ after)
      → HomeAlone q (torn_down clock q (past_cloner rows) (destroyed_all clock after v))
  unfolding IsStrictlySortedBy
  all_alone [] q after sorted live whole =
      let more = all_destroyed after sorted.1 live.1 (rest_whole q after sorted whole) in
      alone_at_cloner q clock (destroyed_all clock after v) more.sound (still_lives q after sorted live.0.0 more) (lowest q after whole more)
  all_alone (p ∷ before) q after sorted live whole =
      all_alone before q after sorted.1 live.1 (rest_whole p (before ++ q ∷ after) sorted whole)

  -- a stack above which none of them is, and which is none of them, is as it was
  all_reach : (ps : List Path) → IsStrictlySortedBy path_cmp ps → AllLive ps → IsWhole ps → (q : Path)
      → ((p : Path) → list_any (path_eq p) ps ≡ true → is_under p q ≡ false) → stack_at (destroyed_all clock ps v) q ≡ stack_at v q
  unfolding destroyed_all IsStrictlySortedBy
  all_reach [] sorted live whole q out = refl
  all_reach (p ∷ ps) sorted live whole q out =
      let rest = rest_whole p ps sorted whole in
      let more = all_destroyed ps sorted.1 live.1 rest in
      destroyed_reach p clock (destroyed_all clock ps v) more.sound (still_lives p ps sorted live.0.0 more) (lowest p ps whole more) q
      (out p (ap (λ b. b || list_any (path_eq p) ps) (path_eq-same p)))
      ∙ all_reach ps sorted.1 live.1 rest q (λ r e. out r (or_right (path_eq r p) (list_any (path_eq r) ps) e))

-- ---- a removal

pub record Removed (p : Path) (v w : World) : Type 0 where
  pub fine : Fine v w
  -- who was under the path died, and nobody else
  pub alive : (r : Path) → is_alive w r ≡ (is_alive v r && not (is_under r p))

all_filter : {K : Type 0} (P : K → Type 0) (f : K → Bool) → ((k : K) → f k ≡ true → P k) → (ks : List K) → AllByRecursion P (filter f ks)
all_filter P f e [] = tt
all_filter P f e (k ∷ ks) = by (f k) refl (all_filter P f e ks)
  where
    by : (b : Bool) → f k ≡ b → AllByRecursion P (filter f ks) → AllByRecursion P (cond b (k ∷ filter f ks) (filter f ks))
    by true h ih = (e k h, ih)
    by false h ih = ih

-- whom a removal destroys
pub in_living_under : (v : World) (p r : Path) → list_any (path_eq r) (living_under v p) ≡ (is_alive v r && is_under r p)
in_living_under v p r = any-filter path_cmp path_total path_eq-Decides path_ties (λ q. is_alive v q && is_under q p) r (keys_of v.stacks) ∙ by (is_alive v r) refl
  where
    by : (b : Bool) → is_alive v r ≡ b → ((b && is_under r p) && list_any (path_eq r) (keys_of v.stacks)) ≡ (b && is_under r p)
    by true e = ap (λ c. (true && is_under r p) && c) (alive_listed v r e) ∙ grind arith
    by false e = refl

module _ (clock : ℕ) (p : Path) (v : World) (s : IsSound v) (top : is_host p ≡ false) where
  sorted_under : IsStrictlySortedBy path_cmp (living_under v p)
  sorted_under = IsStrictlySortedBy-filter path_cmp (λ q. is_alive v q && is_under q p) (keys_of v.stacks) s.tree.stacks_ordered

  live_under : AllLive v s clock (living_under v p)
  live_under =
      all_filter (λ q. (is_alive v q ≡ true) × (is_host q ≡ false)) (λ q. is_alive v q && is_under q p)
      (λ q e. ((and_parts _ _ e).0, not_host_under q p top (and_parts _ _ e).1)) (keys_of v.stacks)

  whole_under : IsWhole v s clock (living_under v p)
  whole_under q r member alive below =
      in_living_under v p r ∙ and_from (is_alive v r) (is_under r p) alive
      (under-trans r q p ((and_parts (is_under r q) (not (path_eq q r)) below).0)
      ((and_parts (is_alive v q) (is_under q p) (sym (in_living_under v p q) ∙ member)).1))

  pub is_removed : Removed p v (removed clock p v)
  is_removed =
      let t : DestroyedAll (living_under v p) v (removed clock p v) = all_destroyed v s clock (living_under v p) sorted_under live_under whole_under in
      record {
        fine = record { sound = t.sound; leaves = t.leaves };
        alive = λ r. t.alive r ∙ ap (λ b. is_alive v r && not b) (in_living_under v p r) ∙ only (is_alive v r) (is_under r p);
      }
    where
      only : (a b : Bool) → (a && not (a && b)) ≡ (a && not b)
      only a b = grind arith

  pub removed_at_home : DestroysAtHome clock p v
  removed_at_home before q after e =
      all_alone v s clock before q after (subst (IsStrictlySortedBy path_cmp) e sorted_under) (subst (AllLive v s clock) e live_under)
      (subst (IsWhole v s clock) e whole_under)

  pub removed_reach : (q : Path) → is_under q p ≡ false → is_under p q ≡ false → stack_at (removed clock p v) q ≡ stack_at v q
  removed_reach q below above =
      all_reach v s clock (living_under v p) sorted_under live_under whole_under q
      (λ r e. under_neither p q r below above (and_parts (is_alive v r) (is_under r p) (sym (in_living_under v p r) ∙ e)).1)

-- Halves that are lent to a stack go home.
use Rattle.std.proofs.Common.{◌≡◌, ℕ, ◌+◌, ◌≤◌, Bool, true, false, cond, ◌&&◌, ◌||◌, not, List, [], ◌∷◌, Option, Some, None, refl, sym, ap, ◌∙◌, subst, arith}
use Rattle.std.specs.Prelude.{filter, count_by}
use Rattle.std.specs.Option.{is_some}
use Rattle.std.specs.List.{list_all}
use Rattle.std.proofs.lemmas.Bool.{and_parts, and_from, not-true, true≢false}
use Rattle.std.proofs.lemmas.List.Sums.{sum_by-cons}
use Rattle.vn_types.specs.declared.half.Half.{Half}
use Rattle.vn_types.specs.declared.interface.IfOf.TheVariants.{Lo0, Half as OfHalf}
use Rattle.vn_types.proofs.Ancestors.{passes-above}
use Rattle.vn_cells.specs.declared.transcript.What.{What}
use Rattle.vn_cells.specs.declared.world.Pair.{Pair}
use Rattle.vn_cells.specs.declared.world.World.{World}
use Rattle.vn_cells.specs.world.Names.{Path, If, key_of, half_eq, if_eq, has_half, halves_of, path_eq}
use Rattle.vn_cells.specs.world.World.{stack_at, pair_at, is_alive, ifs_of, noted}
use Rattle.vn_cells.specs.commands.Moves.{moved}
use Rattle.vn_cells.specs.commands.Removal.{lent_here, sent_home}
use Rattle.vn_cells.specs.keeping.Standing.{stands_at, times}
use Rattle.vn_cells.specs.keeping.Sound.{IsSound}
use Rattle.vn_laws.proofs.edits.Names.{half_eq-Decides, half_eq-refl, same_half}
use Rattle.vn_types.proofs.UnderPaths.{under-refl}
use Rattle.vn_laws.proofs.edits.Cells.{pair_at-edit_stack}
use Rattle.vn_laws.proofs.edits.Shapes.{shape-edit_stack, sound-shape, leaves-shape, shape_tree}
use Rattle.vn_laws.proofs.edits.Fine.{Fine, fine-none, fine-then}
use Rattle.vn_laws.proofs.edits.Trees.{SameTree, alive_tree, tree-trans}
use Rattle.vn_laws.proofs.pairs.Named.{standing_under}
use Rattle.vn_laws.proofs.pairs.Listed.{has-count, has_half-has}
use Rattle.vn_laws.proofs.moves.Ends.{stands_other, stands_own}
use Rattle.vn_laws.proofs.moves.Moved.{moved_tree, moved_pair}
use Rattle.vn_laws.proofs.moves.Kept.{IsFree, sound-moved, leaves-moved}

-- the world stays sound, nothing is left behind, and the same paths live
pub record Stays (v w : World) : Type 0 where
  pub fine : Fine v w
  pub tree : SameTree v w

pub stays-then : {u v w : World} → Stays u v → Stays v w → Stays u w
stays-then a b = record { fine = fine-then a.fine b.fine; tree = tree-trans a.tree b.tree }

pub stays-none : {v : World} → IsSound v → Stays v v
stays-none {v} s = record { fine = fine-none s; tree = record { trees = λ q. refl; ordered = λ o. o } }

abbrev pub stands : World → Path → Half → Bool
stands w p h = stands_at p h.side (pair_at w (key_of h))

-- ---- halves go home

-- the home of a half that stands in a living stack lives
home_lives : {v : World} → IsSound v → (p : Path) (h : Half) → is_alive v p ≡ true → stands v p h ≡ true → is_alive v h.home ≡ true
home_lives {v} s p h alive e = passes-above (is_alive v) s.tree.parents p h.home alive (standing_under s p h e)

-- its name is kept free for a half at home
home_free : {v : World} → IsSound v → (p : Path) (h : Half) → stands v p h ≡ true → IsFree v h h.home
home_free {v} s p h e = record {
  none = λ g there unit side. let home : g.home ≡ h.home = s.names.reserved h.home g there (ap (λ n. is_some (pair_at v (h.home, n))) unit ∙ exists (pair_at v (key_of h)) e) in same_half g h (λ i. (home i, unit i)) side;
  home = λ some. refl;
}
  where
    exists : (o : Option Pair) → stands_at p h.side o ≡ true → is_some o ≡ true
    exists None f = f
    exists (Some pair) f = refl

-- how often a half is among some halves
abbrev pub tally : Half → List Half → ℕ
tally g hs = count_by (half_eq g) hs

tally-cons : (g k : Half) (hs : List Half) → tally g (k ∷ hs) ≡ times (half_eq g k) + tally g hs
tally-cons g k hs = sum_by-cons (λ h. cond (half_eq g h) 1 0) k hs

-- as often as it is among the interfaces
tally-halves : (g : Half) (ifs : List If) → tally g (halves_of ifs) ≡ count_by (if_eq (OfHalf g)) ifs
tally-halves g [] = refl
tally-halves g (Lo0 ∷ ifs) =
    let n = sum_by-cons (λ x. cond (if_eq (OfHalf g) x) 1 0) Lo0 ifs in let m = tally-halves g ifs in omega arith
tally-halves g (OfHalf h ∷ ifs) =
    let n = sum_by-cons (λ x. cond (if_eq (OfHalf g) x) 1 0) (OfHalf h) ifs in
    let k = tally-cons g h (halves_of ifs) in
    let m = tally-halves g ifs in
    k ∙ ap (λ x. times (half_eq g h) + x) m ∙ sym n

pub record Sent (p : Path) (hs : List Half) (v w : World) : Type 0 where
  pub stays : Stays v w
  -- who still stands there stood there, and was not sent
  pub away : (h : Half) → stands w p h ≡ true → (stands v p h ≡ true) × (has_half hs h ≡ false)

module _ (p : Path) where
  step_home : {v : World} → IsSound v → is_alive v p ≡ true → (h : Half) → stands v p h ≡ true → Stays v (moved h p h.home v)
  step_home {v} s alive h at = record {
    fine = record {
      sound = sound-moved s h p h.home (home_lives s p h alive at) at (under-refl h.home) (home_free s p h at);
      leaves = leaves-moved s h p h.home (home_lives s p h alive at) at;
    };
    tree = moved_tree h p h.home v;
  }

  one_time : (b : Bool) (n : ℕ) → 1 + n ≤ times b → (b ≡ true) × (n ≡ 0)
  one_time true n e = (refl, omega arith)
  one_time false n e = absurd (omega arith)

  pub sent : (hs : List Half) (v : World) → IsSound v → is_alive v p ≡ true → ((h : Half) → tally h hs ≤ times (stands v p h)) → list_all (λ h. not (path_eq h.home p)) hs ≡ true → Sent p hs v (sent_home p hs v)
  unfolding sent_home
  sent [] v s alive few apart = record { stays = stays-none s; away = λ h e. (e, refl) }
  sent (h ∷ hs) v s alive few apart =
      let first : (stands v p h ≡ true) × (tally h hs ≡ 0) = one_time (stands v p h) (tally h hs) (subst (λ n. n ≤ times (stands v p h)) (tally-cons h h hs ∙ ap (λ b. times b + tally h hs) (half_eq-refl h)) (few h)) in
      let t = step_home s alive h first.0 in
      let more = sent hs (moved h p h.home v) t.fine.sound (alive_tree t.tree p ∙ alive) (fewer first) (and_parts _ _ apart).1 in
      record { stays = stays-then t more.stays; away = λ g e. back first g (half_eq g h) refl (more.away g e) }
    where
      elsewhere : stands v p h ≡ true → stands (moved h p h.home v) p h ≡ false
      elsewhere at = ap (stands_at p h.side) (moved_pair h p h.home v (key_of h)) ∙ stands_own p h p h.home (pair_at v (key_of h)) at ∙ not-true (path_eq h.home p) (and_parts _ _ apart).0

      as_before : (g : Half) → half_eq g h ≡ false → stands (moved h p h.home v) p g ≡ stands v p g
      as_before g e = ap (stands_at p g.side) (moved_pair h p h.home v (key_of g)) ∙ stands_other p g h h.home (pair_at v (key_of g)) e

      fewer : (stands v p h ≡ true) × (tally h hs ≡ 0) → (g : Half) → tally g hs ≤ times (stands (moved h p h.home v) p g)
      fewer first g = by (half_eq g h) refl
        where
          by : (b : Bool) → half_eq g h ≡ b → tally g hs ≤ times (stands (moved h p h.home v) p g)
          by true e = subst (λ (k : Half). tally k hs ≤ times (stands (moved h p h.home v) p k)) (sym ((half_eq-Decides g h).0 e)) (rw (first.1) (omega arith))
          by false e =
              subst (λ n. n ≤ times (stands (moved h p h.home v) p g)) (tally-cons g h hs ∙ ap (λ b. times b + tally g hs) e ∙ omega arith)
              (subst (λ b. tally g (h ∷ hs) ≤ times b) (sym (as_before g e)) (few g))

      back : (stands v p h ≡ true) × (tally h hs ≡ 0) → (g : Half) (b : Bool) → half_eq g h ≡ b → (stands (moved h p h.home v) p g ≡ true) × (has_half hs g ≡ false) → (stands v p g ≡ true) × (has_half (h ∷ hs) g ≡ false)
      back first g true e f = absurd (true≢false (sym f.0 ∙ ap (λ (k : Half). stands (moved h p h.home v) p k) ((half_eq-Decides g h).0 e) ∙ elsewhere first.0))
      back first g false e f = (sym (as_before g e) ∙ f.0, ap (λ b. b || has_half hs g) e ∙ f.1)

  -- the halves that are homed elsewhere stand there once each
  count_lent : (g : Half) (hs : List Half) → tally g (filter (λ h. not (path_eq h.home p)) hs) ≤ tally g hs
  count_lent g [] = omega arith
  count_lent g (h ∷ hs) = by (not (path_eq h.home p)) (tally-cons g h hs) (count_lent g hs)
    where
      by : (b : Bool) → tally g (h ∷ hs) ≡ times (half_eq g h) + tally g hs → tally g (filter (λ h. not (path_eq h.home p)) hs) ≤ tally g hs
          → tally g (cond b (h ∷ filter (λ h. not (path_eq h.home p)) hs) (filter (λ h. not (path_eq h.home p)) hs)) ≤ tally g (h ∷ hs)
      by true e f = let n = tally-cons g h (filter (λ h. not (path_eq h.home p)) hs) in omega arith
      by false e f = omega arith

  all_lent : (hs : List Half) → list_all (λ h. not (path_eq h.home p)) (filter (λ h. not (path_eq h.home p)) hs) ≡ true
  all_lent [] = refl
  all_lent (h ∷ hs) = by (path_eq h.home p) refl (all_lent hs)
    where
      by : (b : Bool) → path_eq h.home p ≡ b → list_all (λ h. not (path_eq h.home p)) (filter (λ h. not (path_eq h.home p)) hs) ≡ true
          → list_all (λ h. not (path_eq h.home p)) (cond (not b) (h ∷ filter (λ h. not (path_eq h.home p)) hs) (filter (λ h. not (path_eq h.home p)) hs)) ≡ true
      by true e ih = ih
      by false e ih = and_from _ _ (ap not e) ih

  has_lent : (g : Half) (hs : List Half) → has_half (filter (λ h. not (path_eq h.home p)) hs) g ≡ (not (path_eq g.home p) && has_half hs g)
  has_lent g [] = grind arith
  has_lent g (h ∷ hs) = by (path_eq h.home p) refl (half_eq g h) refl (has_lent g hs)
    where
      by : (a : Bool) → path_eq h.home p ≡ a → (b : Bool) → half_eq g h ≡ b → has_half (filter (λ h. not (path_eq h.home p)) hs) g ≡ (not (path_eq g.home p) && has_half hs g)
          → has_half (cond (not a) (h ∷ filter (λ h. not (path_eq h.home p)) hs) (filter (λ h. not (path_eq h.home p)) hs)) g ≡ (not (path_eq g.home p) && (b || has_half hs g))
      by true e true f ih = ih ∙ ap (λ c. not c && has_half hs g) (ap (λ (k : Half). path_eq k.home p) ((half_eq-Decides g h).0 f) ∙ e) ∙ sym (ap (λ c. not c && true) (ap (λ (k : Half). path_eq k.home p) ((half_eq-Decides g h).0 f) ∙ e))
      by true e false f ih = ih
      by false e true f ih = ap (λ b. b || has_half (filter (λ h. not (path_eq h.home p)) hs) g) f ∙ sym (ap (λ c. not c && true) (ap (λ (k : Half). path_eq k.home p) ((half_eq-Decides g h).0 f) ∙ e))
      by false e false f ih = ap (λ b. b || has_half (filter (λ h. not (path_eq h.home p)) hs) g) f ∙ ih

  -- after they went home only halves that are homed there stand there
  abbrev pub OwnAlone : World → Type 0
  OwnAlone w = (h : Half) → stands w p h ≡ true → path_eq h.home p ≡ true

  pub record Returned (v w : World) : Type 0 where
    pub stays : Stays v w
    pub own : OwnAlone w

  pub returned : (v : World) → IsSound v → is_alive v p ≡ true → Returned v (sent_home p (lent_here v p) v)
  returned v s alive =
      let t = sent (lent_here v p) v s alive
      (λ h. by (tally h (lent_here v p)) (tally h (halves_of (ifs_of (stack_at v p)))) (times (stands v p h)) (count_lent h (halves_of (ifs_of (stack_at v p))))
      (tally-halves h (ifs_of (stack_at v p)) ∙ s.standing.listed p (OfHalf h))) (all_lent (halves_of (ifs_of (stack_at v p)))) in
      record { stays = t.stays; own = λ h e. own h (t.away h e) (path_eq h.home p) refl }
    where
      by : (a b c : ℕ) → a ≤ b → b ≡ c → a ≤ c
      by a b c f g = omega arith

      own : (h : Half) → (stands v p h ≡ true) × (has_half (lent_here v p) h ≡ false) → (b : Bool) → path_eq h.home p ≡ b → b ≡ true
      own h f true e = refl
      own h f false e =
          let listed : has_half (halves_of (ifs_of (stack_at v p))) h ≡ true =
          has_half-has h (ifs_of (stack_at v p)) ∙ has-count (OfHalf h) (ifs_of (stack_at v p)) true (s.standing.listed p (OfHalf h) ∙ ap times f.0) in
          absurd (true≢false (sym (and_from _ _ (ap not e) listed) ∙ sym (has_lent h (halves_of (ifs_of (stack_at v p)))) ∙ f.1))

  -- ---- an entry

  pub note : (clock : ℕ) (what : What) (v : World) → IsSound v → Stays v (noted clock p what v)
  note clock what v s =
      let t = shape-edit_stack p _ v (λ u. refl) in
      record { fine = record { sound = sound-shape s t; leaves = leaves-shape t }; tree = shape_tree t }

  pub own-note : (clock : ℕ) (what : What) (v : World) → OwnAlone v → OwnAlone (noted clock p what v)
  own-note clock what v own h e = own h (sym (ap (stands_at p h.side) (pair_at-edit_stack p _ v (key_of h))) ∙ e)

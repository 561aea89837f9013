-- What an event leaves where it touches no cell of the set.
use Rattle.std.proofs.Common.{◌≡◌, Bool, true, false, cond, ◌||◌, not, List, [], ◌∷◌, ◌++◌, map, Option, Some, None, refl, sym, ap, ap₂, ◌∙◌, subst, arith, ◌⊎◌, inl, inr}
use Rattle.std.specs.Prelude.{unwrap_or, filter}
use Rattle.std.specs.List.{list_any}
use Rattle.std.specs.Coded.{Coded, coded_option}
use Rattle.std.specs.Option.{is_some}
use Rattle.std.specs.Ordering.{is_eq}
use Rattle.std.specs.Bool.{Decides}
use Rattle.std.specs.declared.cmp.Ordering.{Ordering}
use Rattle.std.specs.Map.{keys_of}
use base.Stored.{Gv, gnil, gnum, gcons}
use Rattle.std.proofs.lemmas.Bool.Decides.{Decides-eqb}
use Rattle.vn_types.specs.PathOrder.{path_eq-Decides, path_ties, key_ties}
use Rattle.vn_cells.specs.declared.cell.Cells.{Cells}
use Rattle.vn_cells.specs.declared.cell.CellName.{CellName}
use Rattle.vn_cells.specs.declared.cell.CellName.TheVariants.{Stack as OfStack, Pair as OfPair}
use Rattle.vn_cells.specs.declared.event.Event.{Event}
use Rattle.vn_cells.specs.declared.world.Pair.{Pair}
use Rattle.vn_cells.specs.declared.world.Stack.{Stack}
use Rattle.vn_cells.specs.declared.world.World.{World}
use Rattle.vn_cells.specs.world.Names.{Path, Key, path_cmp, key_cmp}
use Rattle.vn_types.specs.Entries.{find, put_all, keys_in}
use Rattle.vn_cells.specs.world.World.{no_stack, stack_at, pair_at}
use Rattle.vn_cells.specs.machine.Step.{step}
use Rattle.vn_cells.specs.sets.Sets.{in_set, in_stacks, in_pairs}
use Rattle.vn_cells.specs.sets.Changed.{same_tree, same, stack_code, pair_code, differs, listed, changed, touches}
use Rattle.vn_types.proofs.EntryLaws.{found-put_all}
use Rattle.vn_types.proofs.PathNames.{key_eq-Decides}
use Rattle.std.proofs.lemmas.Bool.{and_parts, and_from}

-- ---- values are told apart by their codes

same_tree-refl : (t : Gv) → same_tree t t ≡ true
unfolding same_tree
same_tree-refl gnil = refl
same_tree-refl (gnum n) = (Decides-eqb n n).1 refl
same_tree-refl (gcons a b) = and_from _ _ (same_tree-refl a) (same_tree-refl b)

same_tree-is : (t u : Gv) → same_tree t u ≡ true → t ≡ u
unfolding same_tree
same_tree-is gnil gnil h = refl
same_tree-is (gnum m) (gnum n) h = ap gnum ((Decides-eqb m n).0 h)
same_tree-is (gcons a b) (gcons c d) h = ap₂ gcons (same_tree-is a c (and_parts _ _ h).0) (same_tree-is b d (and_parts _ _ h).1)
same_tree-is gnil (gnum n) h = cc
same_tree-is gnil (gcons c d) h = cc
same_tree-is (gnum m) gnil h = cc
same_tree-is (gnum m) (gcons c d) h = cc
same_tree-is (gcons a b) gnil h = cc
same_tree-is (gcons a b) (gnum n) h = cc

pub same-refl : {T : Type 0} (coded : Coded T) (x : T) → same coded x x ≡ true
unfolding same
same-refl coded x = same_tree-refl (coded.code x)

pub same-is : {T : Type 0} (coded : Coded T) (x y : T) → same coded x y ≡ true → x ≡ y
unfolding same
same-is coded x y h = coded.inj x y (same_tree-is _ _ h)

-- ---- what is listed

abbrev pub Member : {A : Type 0} → A → List A → Type 0
Member c [] = ⊥
Member c (d ∷ cells) = (c ≡ d) ⊎ Member c cells

pub member_left : {A : Type 0} (c : A) (xs ys : List A) → Member c xs → Member c (xs ++ ys)
member_left c [] ys m = absurd m
member_left c (x ∷ xs) ys (inl e) = inl e
member_left c (x ∷ xs) ys (inr m) = inr (member_left c xs ys m)

pub member_right : {A : Type 0} (c : A) (xs ys : List A) → Member c ys → Member c (xs ++ ys)
member_right c [] ys m = m
member_right c (x ∷ xs) ys m = inr (member_right c xs ys m)

pub member_map : {A B : Type 0} (f : A → B) (c : A) (xs : List A) → Member c xs → Member (f c) (map f xs)
member_map f c [] m = absurd m
member_map f c (x ∷ xs) (inl e) = inl (ap f e)
member_map f c (x ∷ xs) (inr m) = inr (member_map f c xs m)

-- a listed cell that passes two tests is found by them
pub caught : (f g : CellName → Bool) (cells : List CellName) (c : CellName) → f c ≡ true → g c ≡ true → Member c cells → list_any f (filter g cells) ≡ true
caught f g [] c fc gc m = absurd m
caught f g (d ∷ cells) c fc gc (inl e) = let fd = subst (λ x. f x ≡ true) e fc in let gd = subst (λ x. g x ≡ true) e gc in grind (arith, fd, gd)
caught f g (d ∷ cells) c fc gc (inr m) = grind (arith, caught f g cells c fc gc m)

module _ {K V : Type 0} (cmp : K → K → Ordering) {eq : K → K → Bool} (decides : (a b : K) → Decides (eq a b) (a ≡ b)) (ties : (a b : K) → eq a b ≡ is_eq (cmp a b)) where
  found_key : (k : K) (es : List (K × V)) → is_some (find cmp k es) ≡ true → Member k (keys_of es)
  unfolding find
  found_key k [] h = cc
  found_key k (e ∷ es) h = by (is_eq (cmp k e.0)) refl h (found_key k es)
    where
      by : (b : Bool) → is_eq (cmp k e.0) ≡ b → is_some (cond b (Some e.1) (find cmp k es)) ≡ true → (is_some (find cmp k es) ≡ true → Member k (keys_of es)) → Member k (keys_of (e ∷ es))
      by true t f more = inl ((decides k e.0).0 (ties k e.0 ∙ t))
      by false t f more = inr (more f)

  -- a key that one of two tables has
  pub key_listed : (k : K) (es more : List (K × V)) → (is_some (find cmp k es) || is_some (find cmp k more)) ≡ true → Member k (keys_in cmp es more)
  unfolding keys_in
  key_listed k es more h = found_key k (put_all cmp es more) (found-put_all cmp decides ties es more k ∙ h)

pub stack_listed : (old new : World) (p : Path) → (is_some (find path_cmp p old.stacks) || is_some (find path_cmp p new.stacks)) ≡ true → Member (OfStack p) (listed old new)
unfolding listed
stack_listed old new p h = member_left (OfStack p) _ _ (member_map OfStack p _ (key_listed path_cmp path_eq-Decides path_ties p old.stacks new.stacks h))

pub pair_listed : (old new : World) (k : Key) → (is_some (find key_cmp k old.pairs) || is_some (find key_cmp k new.pairs)) ≡ true → Member (OfPair k.0 k.1) (listed old new)
unfolding listed
pair_listed old new k h =
    member_right (OfPair k.0 k.1) (map OfStack (keys_in path_cmp old.stacks new.stacks)) _
    (member_map (λ (q : Key). OfPair q.0 q.1) k (keys_in key_cmp old.pairs new.pairs) (key_listed key_cmp key_eq-Decides key_ties k old.pairs new.pairs h))

-- ---- an event that touches nothing of the set

module _ (set : Cells) (v : World) (event : Event) (untouched : touches set v event ≡ false) where
  -- a listed cell of the set does not differ
  quiet : (c : CellName) → in_set set c ≡ true → Member c (listed v (step v event)) → differs v (step v event) c ≡ false
  unfolding touches changed
  quiet c inside m = by (differs v (step v event) c) refl
    where
      by : (b : Bool) → differs v (step v event) c ≡ b → b ≡ false
      by false e = refl
      by true e = sym (caught (in_set set) (differs v (step v event)) _ c inside e m) ∙ untouched

  -- what neither table has is alike
  absent : {T : Type 0} (a b : Option T) → (is_some a || is_some b) ≡ false → a ≡ b
  absent None None e = refl
  absent None (Some y) e = cc
  absent (Some x) b e = cc

  pub stack_stays : (p : Path) → in_stacks set p ≡ true → stack_at v p ≡ stack_at (step v event) p
  unfolding in_set stack_at differs
  stack_stays p inside = by (is_some (find path_cmp p v.stacks) || is_some (find path_cmp p (step v event).stacks)) refl
    where
      by : (b : Bool) → (is_some (find path_cmp p v.stacks) || is_some (find path_cmp p (step v event).stacks)) ≡ b → stack_at v p ≡ stack_at (step v event) p
      by true e = same-is stack_code _ _ (grind (arith, quiet (OfStack p) inside (stack_listed v (step v event) p e)))
      by false e = ap (λ o. unwrap_or o no_stack) (absent _ _ e)

  pub pair_stays : (k : Key) → in_pairs set k ≡ true → pair_at v k ≡ pair_at (step v event) k
  unfolding in_set pair_at differs
  pair_stays k inside = by (is_some (find key_cmp k v.pairs) || is_some (find key_cmp k (step v event).pairs)) refl
    where
      by : (b : Bool) → (is_some (find key_cmp k v.pairs) || is_some (find key_cmp k (step v event).pairs)) ≡ b → pair_at v k ≡ pair_at (step v event) k
      by true e = same-is (coded_option pair_code) _ _ (grind (arith, quiet (OfPair k.0 k.1) inside (pair_listed v (step v event) k e)))
      by false e = absent _ _ e

-- ---- an event that leaves the world as it is

none-differs : (w : World) (c : CellName) → differs w w c ≡ false
unfolding differs
none-differs w (OfStack p) = ap not (same-refl stack_code (stack_at w p))
none-differs w (OfPair home unit) = ap not (same-refl (coded_option pair_code) (pair_at w (home, unit)))

pub untouched : (set : Cells) (w : World) (event : Event) → step w event ≡ w → touches set w event ≡ false
unfolding touches changed
untouched set w event is = ap (λ v. list_any (in_set set) (filter (differs w v) (listed w v))) is ∙ none (listed w w)
  where
    none : (cells : List CellName) → list_any (in_set set) (filter (differs w w) cells) ≡ false
    none [] = refl
    none (c ∷ cells) = ap (λ b. list_any (in_set set) (cond b (c ∷ filter (differs w w) cells) (filter (differs w w) cells))) (none-differs w c) ∙ none cells

-- ---- a stack of the set that is another after the event

module _ (set : Cells) (w : World) (event : Event) (p : Path) (inside : in_stacks set p ≡ true)
    (another : stack_at w p ≡ stack_at (step w event) p → ⊥) where
  differs_there : differs w (step w event) (OfStack p) ≡ true
  unfolding differs
  differs_there = by (same stack_code (stack_at w p) (stack_at (step w event) p)) refl
    where
      by : (b : Bool) → same stack_code (stack_at w p) (stack_at (step w event) p) ≡ b → not b ≡ true
      by false e = refl
      by true e = absurd (another (same-is stack_code _ _ e))

  -- it is listed, before or after
  listed_there : (is_some (find path_cmp p w.stacks) || is_some (find path_cmp p (step w event).stacks)) ≡ true
  unfolding stack_at
  listed_there = by (is_some (find path_cmp p w.stacks) || is_some (find path_cmp p (step w event).stacks)) refl
    where
      neither : (a b : Option Stack) → (is_some a || is_some b) ≡ false → a ≡ b
      neither None None e = refl
      neither None (Some y) e = cc
      neither (Some x) b e = cc

      by : (b : Bool) → (is_some (find path_cmp p w.stacks) || is_some (find path_cmp p (step w event).stacks)) ≡ b → b ≡ true
      by true e = refl
      by false e = absurd (another (ap (λ o. unwrap_or o no_stack) (neither _ _ e)))

  pub touched : touches set w event ≡ true
  unfolding touches changed in_set
  touched =
      caught (in_set set) (differs w (step w event)) _ (OfStack p) inside differs_there (stack_listed w (step w event) p listed_there)

-- ---- a pair of the set that is another after the event

module _ (set : Cells) (w : World) (event : Event) (k : Key) (inside : in_pairs set k ≡ true)
    (another : pair_at w k ≡ pair_at (step w event) k → ⊥) where
  pair_differs : differs w (step w event) (OfPair k.0 k.1) ≡ true
  unfolding differs
  pair_differs = by (same (coded_option pair_code) (pair_at w k) (pair_at (step w event) k)) refl
    where
      by : (b : Bool) → same (coded_option pair_code) (pair_at w k) (pair_at (step w event) k) ≡ b → not b ≡ true
      by false e = refl
      by true e = absurd (another (same-is (coded_option pair_code) _ _ e))

  pair_there : (is_some (find key_cmp k w.pairs) || is_some (find key_cmp k (step w event).pairs)) ≡ true
  unfolding pair_at
  pair_there = by (find key_cmp k w.pairs) (find key_cmp k (step w event).pairs) another
    where
      by : (a b : Option Pair) → (a ≡ b → ⊥) → (is_some a || is_some b) ≡ true
      by None None apart = absurd (apart refl)
      by None (Some y) apart = refl
      by (Some x) b apart = refl

  pub touched_pair : touches set w event ≡ true
  unfolding touches changed in_set
  touched_pair =
      caught (in_set set) (differs w (step w event)) _ (OfPair k.0 k.1) inside pair_differs (pair_listed w (step w event) k pair_there)

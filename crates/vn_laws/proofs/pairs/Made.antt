-- A pair that is made: each world stays sound, and nothing is left behind.
use Rattle.std.proofs.Common.{◌≡◌, ℕ, ◌+◌, Bool, true, false, ◌&&◌, not, List, [], ◌∷◌, ◌++◌, Option, Some, None, refl, sym, ap, ◌∙◌, subst, arith, ◌⊎◌, inl, inr}
use Rattle.std.specs.Prelude.{if◌then◌else◌}
use Rattle.std.specs.Option.{is_some}
use Rattle.std.specs.Map.{keys_of}
use Rattle.std.specs.List.Sorted.{IsStrictlySortedBy}
use Rattle.std.proofs.lemmas.Bool.{and_parts, and_from, true≢false}
use Rattle.vn_types.specs.declared.half.Half.{Half}
use Rattle.vn_types.specs.declared.interface.IfOf.TheVariants.{Lo0, Half as OfHalf}
use Rattle.vn_types.specs.declared.interface.Side.{Side}
use Rattle.vn_types.specs.declared.interface.Side.TheVariants.{A, B}
use Rattle.vn_types.specs.PathOrder.{path_eq-Decides}
use Rattle.vn_types.proofs.PathNames.{key_eq-Decides}
use Rattle.vn_rules.specs.Soundness.{is_sound_parts}
use Rattle.vn_cells.specs.declared.world.Live.{Live}
use Rattle.vn_cells.specs.declared.world.Pair.{Pair}
use Rattle.vn_cells.specs.declared.world.Stack.{Stack}
use Rattle.vn_cells.specs.declared.world.World.{World}
use Rattle.vn_cells.specs.world.Names.{Path, Key, If, path_cmp, key_cmp, key_of, half_on, half_eq, if_eq, path_eq, key_eq, is_under}
use Rattle.vn_cells.specs.world.World.{stack_at, pair_at, is_alive, ifs_of, end_of, place, on_parts}
use Rattle.vn_cells.specs.commands.Pairs.{attached, new_pair, made_pair}
use Rattle.vn_cells.specs.keeping.Standing.{passes, stands_at, is_placed, times, times_listed, has_queues}
use Rattle.vn_cells.specs.keeping.Sound.{IsSound, IsNamed}
use Rattle.vn_cells.specs.keeping.Moved.{forgets, is_emptied}
use Rattle.vn_laws.specs.Relations.{Leaves, IsGone}
use Rattle.vn_laws.proofs.edits.Names.{half_eq-Decides, half_eq-refl, half_eq-sym, same_half}
use Rattle.vn_types.proofs.UnderPaths.{under-refl}
use Rattle.vn_laws.proofs.edits.Paths.{path_eq-sym}
use Rattle.vn_laws.proofs.edits.Cells.{stack_at-edit_live, stack_at-add_pair, pair_at-each_stack, pair_at-add_pair, ordered-each_stack, ordered_pairs-add_pair, Ordered, OrderedPairs, stacks-add_pair, pairs-each_stack}
use Rattle.vn_laws.proofs.edits.Trees.{SameTree, tree_of, tree-same, alive_tree}
use Rattle.vn_laws.proofs.pairs.Listed.{count, count-last, has-count}
use Rattle.vn_laws.proofs.pairs.Parts.{attached-sound, attached-forgets}
use Rattle.vn_laws.proofs.pairs.Cut.{changed, changed_tree, changed_passes, forgets_there}

abbrev pub two : Path → ℕ → Bool → Stack → Stack
two p unit b s = changed (attached (half_on B (p, unit))) b (changed (attached (half_on A (p, unit))) b s)

abbrev two_more : Path → ℕ → Bool → List If → List If
two_more p unit b hs = if b then (hs ++ OfHalf (half_on A (p, unit)) ∷ []) ++ OfHalf (half_on B (p, unit)) ∷ [] else hs

module _ (p : Path) (unit : ℕ) (v : World) where
  pub made_stack : (q : Path) → stack_at (made_pair (p, unit) v) q ≡ two p unit (path_eq q p) (stack_at v q)
  unfolding made_pair
  made_stack q =
      stack_at-edit_live p (on_parts (attached (half_on B (p, unit)))) _ q
      ∙ ap (changed (attached (half_on B (p, unit))) (path_eq q p)) (stack_at-edit_live p (on_parts (attached (half_on A (p, unit)))) _ q
      ∙ ap (changed (attached (half_on A (p, unit))) (path_eq q p)) (stack_at-add_pair (p, unit) (new_pair (p, unit)) v q))

  pub made_at : (k : Key) → pair_at (made_pair (p, unit) v) k ≡ (if key_eq k (p, unit) then Some (new_pair (p, unit)) else pair_at v k)
  unfolding made_pair
  made_at k = pair_at-each_stack _ _ k ∙ pair_at-each_stack _ _ k ∙ pair_at-add_pair (p, unit) (new_pair (p, unit)) v k

  made_ordered : Ordered v → Ordered (made_pair (p, unit) v)
  unfolding made_pair
  made_ordered s = ordered-each_stack _ _ (ordered-each_stack _ _ (subst (λ es. IsStrictlySortedBy path_cmp (keys_of es)) (sym (stacks-add_pair (p, unit) (new_pair (p, unit)) v)) s))

  made_pairs : OrderedPairs v → OrderedPairs (made_pair (p, unit) v)
  unfolding made_pair
  made_pairs s = subst (λ es. IsStrictlySortedBy key_cmp (keys_of es)) (sym (pairs-each_stack _ _ ∙ pairs-each_stack _ _)) (ordered_pairs-add_pair (p, unit) (new_pair (p, unit)) v s)

  pub made_tree : SameTree v (made_pair (p, unit) v)
  made_tree = record {
    trees = λ q. ap tree_of (made_stack q) ∙ changed_tree (attached (half_on B (p, unit))) (path_eq q p) _ ∙ changed_tree (attached (half_on A (p, unit))) (path_eq q p) (stack_at v q);
    ordered = made_ordered;
  }

  module _ (s : IsSound v) (lives : is_alive v p ≡ true) (new : pair_at v (p, unit) ≡ None) (unheld : (g : Half) → stands_at p g.side (pair_at v (key_of g)) ≡ true → g.unit ≡ unit → ⊥) where
    made_ifs : (q : Path) → ifs_of (stack_at (made_pair (p, unit) v) q) ≡ two_more p unit (path_eq q p) (ifs_of (stack_at v q))
    made_ifs q = ap ifs_of (made_stack q) ∙ by (path_eq q p) (stack_at v q) (stack_at v q).live (λ e. ap (is_alive v) ((path_eq-Decides q p).0 e) ∙ lives)
      where
        by : (b : Bool) (s : Stack) (o : Option Live) → (b ≡ true → is_some o ≡ true) → ifs_of (two p unit b (record s { live = o })) ≡ two_more p unit b (ifs_of (record s { live = o }))
        by true s None alive = absurd (true≢false (sym (alive refl)))
        by false s None alive = refl
        by true s (Some live) alive = refl
        by false s (Some live) alive = refl

    -- a half of the new pair is one of two
    one_of : (P : Half → Type 0) → P (half_on A (p, unit)) → P (half_on B (p, unit)) → (g : Half) → key_eq (key_of g) (p, unit) ≡ true → P g
    one_of P a b g e = by g.side refl
      where
        by : (side : Side) → g.side ≡ side → P g
        by A f = subst P (sym (same_half g (half_on A (p, unit)) ((key_eq-Decides (key_of g) (p, unit)).0 e) f)) a
        by B f = subst P (sym (same_half g (half_on B (p, unit)) ((key_eq-Decides (key_of g) (p, unit)).0 e) f)) b

    apart : (side : Side) (g : Half) → key_eq (key_of g) (p, unit) ≡ false → half_eq g (half_on side (p, unit)) ≡ false
    apart side g e = by (half_eq g (half_on side (p, unit))) refl
      where
        by : (b : Bool) → half_eq g (half_on side (p, unit)) ≡ b → b ≡ false
        by false f = refl
        by true f = absurd (true≢false (sym ((key_eq-Decides (key_of g) (p, unit)).1 (ap key_of ((half_eq-Decides g (half_on side (p, unit))).0 f))) ∙ e))

    -- no half of the new pair was listed
    unlisted : (q : Path) (g : Half) → key_eq (key_of g) (p, unit) ≡ true → count (OfHalf g) (ifs_of (stack_at v q)) ≡ 0
    unlisted q g e = s.standing.listed q (OfHalf g) ∙ ap (λ o. times (stands_at q g.side o)) (ap (pair_at v) ((key_eq-Decides (key_of g) (p, unit)).0 e) ∙ new)

    sides_apart : half_eq (half_on A (p, unit)) (half_on B (p, unit)) ≡ false
    sides_apart = by (half_eq (half_on A (p, unit)) (half_on B (p, unit))) refl
      where
        by : (b : Bool) → half_eq (half_on A (p, unit)) (half_on B (p, unit)) ≡ b → b ≡ false
        by false f = refl
        by true f = let e : A ≡ B = ap (λ (h : Half). h.side) ((half_eq-Decides (half_on A (p, unit)) (half_on B (p, unit))).0 f) in cc

    count_two : (on : If) (ifs : List If) → count on ((ifs ++ OfHalf (half_on A (p, unit)) ∷ []) ++ OfHalf (half_on B (p, unit)) ∷ [])
        ≡ (count on ifs + times (if_eq on (OfHalf (half_on A (p, unit))))) + times (if_eq on (OfHalf (half_on B (p, unit))))
    count_two on ifs =
        count-last on (half_on B (p, unit)) (ifs ++ OfHalf (half_on A (p, unit)) ∷ [])
        ∙ ap (λ n. n + times (if_eq on (OfHalf (half_on B (p, unit))))) (count-last on (half_on A (p, unit)) ifs)

    at_new : (side : Side) → (end_of side (new_pair (p, unit))).at ≡ p
    at_new A = refl
    at_new B = refl

    count_new : (hs : List If) (g : Half) → key_eq (key_of g) (p, unit) ≡ true → count (OfHalf g) hs ≡ 0 → (b : Bool) → count (OfHalf g) (two_more p unit b hs) ≡ times b
    count_new hs g e none false = none
    count_new hs g e none true =
        count_two (OfHalf g) hs ∙ ap (λ n. (n + times (half_eq g (half_on A (p, unit)))) + times (half_eq g (half_on B (p, unit)))) none
        ∙ one_of (λ (g : Half). ◌≡◌ {A = ℕ} ((0 + times (half_eq g (half_on A (p, unit)))) + times (half_eq g (half_on B (p, unit)))) 1)
        (ap (λ b. (0 + times b) + times (half_eq (half_on A (p, unit)) (half_on B (p, unit)))) (half_eq-refl (half_on A (p, unit))) ∙ ap (λ b. (0 + 1) + times b) sides_apart)
        (ap (λ b. (0 + times (half_eq (half_on B (p, unit)) (half_on A (p, unit)))) + times b) (half_eq-refl (half_on B (p, unit))) ∙ ap (λ b. (0 + times b) + 1) (half_eq-sym (half_on B (p, unit)) (half_on A (p, unit)) ∙ sides_apart))
        g e

    count_old : (hs : List If) (g : Half) → key_eq (key_of g) (p, unit) ≡ false → (b : Bool) → count (OfHalf g) (two_more p unit b hs) ≡ count (OfHalf g) hs
    count_old hs g e false = refl
    count_old hs g e true = count_two (OfHalf g) hs ∙ ap (λ b. (count (OfHalf g) hs + times b) + times (half_eq g (half_on B (p, unit)))) (apart A g e) ∙ ap (λ b. (count (OfHalf g) hs + 0) + times b) (apart B g e) ∙ omega arith

    half_made : (q : Path) (g : Half) → count (OfHalf g) (ifs_of (stack_at (made_pair (p, unit) v) q)) ≡ times (stands_at q g.side (pair_at (made_pair (p, unit) v) (key_of g)))
    half_made q g = ap (count (OfHalf g)) (made_ifs q) ∙ by (key_eq (key_of g) (p, unit)) refl ∙ ap (λ o. times (stands_at q g.side o)) (sym (made_at (key_of g)))
      where
        by : (b : Bool) → key_eq (key_of g) (p, unit) ≡ b → count (OfHalf g) (two_more p unit (path_eq q p) (ifs_of (stack_at v q))) ≡ times (stands_at q g.side (if b then Some (new_pair (p, unit)) else pair_at v (key_of g)))
        by true e = count_new (ifs_of (stack_at v q)) g e (unlisted q g e) (path_eq q p) ∙ ap times (path_eq-sym q p ∙ sym (ap (λ r. path_eq r q) (at_new g.side)))
        by false e = count_old (ifs_of (stack_at v q)) g e (path_eq q p) ∙ s.standing.listed q (OfHalf g)

    listed_made : (q : Path) (on : If) → count on (ifs_of (stack_at (made_pair (p, unit) v) q)) ≡ times_listed (made_pair (p, unit) v) q on
    listed_made q Lo0 = ap (count Lo0) (made_ifs q) ∙ by (path_eq q p) ∙ s.standing.listed q Lo0 ∙ ap times (sym (alive_tree made_tree q))
      where
        by : (b : Bool) → count Lo0 (two_more p unit b (ifs_of (stack_at v q))) ≡ count Lo0 (ifs_of (stack_at v q))
        by true = count_two Lo0 (ifs_of (stack_at v q)) ∙ omega arith
        by false = refl
    listed_made q (OfHalf g) = half_made q g

    at_home : (q : Path) (g : Half) → key_eq (key_of g) (p, unit) ≡ true → stands_at q g.side (pair_at (made_pair (p, unit) v) (key_of g)) ≡ true → p ≡ q
    at_home q g e a =
        let there : stands_at q g.side (Some (new_pair (p, unit))) ≡ true = sym (ap (stands_at q g.side) (made_at (key_of g) ∙ ap (λ b. if b then Some (new_pair (p, unit)) else pair_at v (key_of g)) e)) ∙ a in
        (path_eq-Decides p q).0 (sym (ap (λ r. path_eq r q) (at_new g.side)) ∙ there)

    old : (q : Path) (g : Half) → key_eq (key_of g) (p, unit) ≡ false → stands_at q g.side (pair_at (made_pair (p, unit) v) (key_of g)) ≡ true → stands_at q g.side (pair_at v (key_of g)) ≡ true
    old q g e a = sym (ap (stands_at q g.side) (made_at (key_of g) ∙ ap (λ b. if b then Some (new_pair (p, unit)) else pair_at v (key_of g)) e)) ∙ a

    home_of : (g : Half) → key_eq (key_of g) (p, unit) ≡ true → g.home ≡ p
    home_of g e = ap (λ (k : Key). k.0) ((key_eq-Decides (key_of g) (p, unit)).0 e)

    unit_of : (g : Half) → key_eq (key_of g) (p, unit) ≡ true → g.unit ≡ unit
    unit_of g e = ap (λ (k : Key). k.1) ((key_eq-Decides (key_of g) (p, unit)).0 e)

    named_made : IsNamed (made_pair (p, unit) v)
    named_made = record { once = λ q g h a b u side. once q g h (key_eq (key_of g) (p, unit)) refl (key_eq (key_of h) (p, unit)) refl a b u side; reserved = λ q h a e. reserved q h (key_eq (key_of h) (p, unit)) refl (key_eq (q, h.unit) (p, unit)) refl a e }
      where
        once : (q : Path) (g h : Half) (x : Bool) → key_eq (key_of g) (p, unit) ≡ x → (y : Bool) → key_eq (key_of h) (p, unit) ≡ y → stands_at q g.side (pair_at (made_pair (p, unit) v) (key_of g)) ≡ true → stands_at q h.side (pair_at (made_pair (p, unit) v) (key_of h)) ≡ true
            → g.unit ≡ h.unit → g.side ≡ h.side → g.home ≡ h.home
        once q g h true e true f a b u side = home_of g e ∙ sym (home_of h f)
        once q g h true e false f a b u side = absurd (unheld h (ap (λ r. stands_at r h.side (pair_at v (key_of h))) (at_home q g e a) ∙ old q h f b) (sym u ∙ unit_of g e))
        once q g h false e true f a b u side = absurd (unheld g (ap (λ r. stands_at r g.side (pair_at v (key_of g))) (at_home q h f b) ∙ old q g e a) (u ∙ unit_of h f))
        once q g h false e false f a b u side = s.names.once q g h (old q g e a) (old q h f b) u side

        reserved : (q : Path) (h : Half) (x : Bool) → key_eq (key_of h) (p, unit) ≡ x → (y : Bool) → key_eq (q, h.unit) (p, unit) ≡ y → stands_at q h.side (pair_at (made_pair (p, unit) v) (key_of h)) ≡ true → is_some (pair_at (made_pair (p, unit) v) (q, h.unit)) ≡ true → h.home ≡ q
        reserved q h true e y f a some = home_of h e ∙ at_home q h e a
        reserved q h false e true f a some =
            let k = (key_eq-Decides (q, h.unit) (p, unit)).0 f in
            absurd (unheld h (ap (λ r. stands_at r h.side (pair_at v (key_of h))) (sym (ap (λ (z : Key). z.0) k)) ∙ old q h e a) (ap (λ (z : Key). z.1) k))
        reserved q h false e false f a some = s.names.reserved q h (old q h e a) (sym (ap is_some (made_at (q, h.unit) ∙ ap (λ b. if b then Some (new_pair (p, unit)) else pair_at v (q, h.unit)) f)) ∙ some)

    pub sound-made_pair : IsSound (made_pair (p, unit) v)
    sound-made_pair = record {
      standing = record {
        places = λ k side. ap (is_placed (made_pair (p, unit) v) k side) (made_at k) ∙ placed k side (key_eq k (p, unit)) refl (pair_at v k) (s.standing.places k side);
        listed = listed_made;
        tables = λ q. ap (λ (t : Stack). passes (is_sound_parts half_eq) t.live) (made_stack q)
            ∙ changed_passes (attached (half_on B (p, unit))) (is_sound_parts half_eq) (attached-sound (half_on B (p, unit))) (path_eq q p) _
            (changed_passes (attached (half_on A (p, unit))) (is_sound_parts half_eq) (attached-sound (half_on A (p, unit))) (path_eq q p) (stack_at v q) (s.standing.tables q));
        queues = λ k. ap has_queues (made_at k) ∙ queues (key_eq k (p, unit)) (pair_at v k) (s.standing.queues k);
        pairs_ordered = made_pairs s.standing.pairs_ordered;
      };
      tree = tree-same s.tree made_tree;
      names = named_made;
    }
      where
        placed : (k : Key) (side : Side) (b : Bool) → key_eq k (p, unit) ≡ b → (o : Option Pair) → is_placed v k side o ≡ true → is_placed (made_pair (p, unit) v) k side (if b then Some (new_pair (p, unit)) else o) ≡ true
        placed k side true e o f =
            ap (λ r. is_alive (made_pair (p, unit) v) r && is_under r k.0) (at_new side)
            ∙ and_from _ _ (alive_tree made_tree p ∙ lives) (ap (λ (q : Key). is_under p q.0) ((key_eq-Decides k (p, unit)).0 e) ∙ under-refl p)
        placed k side false e None f = refl
        placed k side false e (Some pair) f = and_from _ _ (alive_tree made_tree (end_of side pair).at ∙ (and_parts _ _ f).0) (and_parts _ _ f).1

        queues : (b : Bool) (o : Option Pair) → has_queues o ≡ true → has_queues (if b then Some (new_pair (p, unit)) else o) ≡ true
        queues true o e = refl
        queues false o e = e

    forgets_two : (g : Half) (q : Path) → passes (forgets g) (stack_at v q).live ≡ true → passes (forgets g) (stack_at (made_pair (p, unit) v) q).live ≡ true
    forgets_two g q e =
        ap (λ (t : Stack). passes (forgets g) t.live) (made_stack q)
        ∙ changed_passes (attached (half_on B (p, unit))) (forgets g) (λ parts f. attached-forgets g (half_on B (p, unit)) parts ∙ f) (path_eq q p) _
        (changed_passes (attached (half_on A (p, unit))) (forgets g) (λ parts f. attached-forgets g (half_on A (p, unit)) parts ∙ f) (path_eq q p) (stack_at v q) e)

    emptied_new : (g : Half) (side : Side) → g.side ≡ side → is_emptied g (Some (new_pair (p, unit))) ≡ true
    emptied_new g A e = ap (λ s. not (end_of s (new_pair (p, unit))).up) e
    emptied_new g B e = ap (λ s. not (end_of s (new_pair (p, unit))).up) e

    pub leaves-made_pair : Leaves v (made_pair (p, unit) v)
    leaves-made_pair = record {
      moved = λ g. by g (key_eq (key_of g) (p, unit)) refl;
      kept = λ g old. record {
        emptied = ap (is_emptied g) (made_at (key_of g)) ∙ kept g (key_eq (key_of g) (p, unit)) old.emptied;
        forgotten = λ q. forgets_two g q (old.forgotten q);
      };
    }
      where
        kept : (g : Half) (b : Bool) → is_emptied g (pair_at v (key_of g)) ≡ true → is_emptied g (if b then Some (new_pair (p, unit)) else pair_at v (key_of g)) ≡ true
        kept g true e = emptied_new g g.side refl
        kept g false e = e

        by : (g : Half) (b : Bool) → key_eq (key_of g) (p, unit) ≡ b → (place g (pair_at (made_pair (p, unit) v) (key_of g)) ≡ place g (pair_at v (key_of g))) ⊎ IsGone g (made_pair (p, unit) v)
        by g true e = inr (record {
          emptied = ap (is_emptied g) (made_at (key_of g)) ∙ ap (λ b. is_emptied g (if b then Some (new_pair (p, unit)) else pair_at v (key_of g))) e ∙ emptied_new g g.side refl;
          forgotten = λ q. forgets_two g q (forgets_there g (stack_at v q) (s.standing.tables q) (has-count (OfHalf g) (ifs_of (stack_at v q)) false (unlisted q g e)));
        })
        by g false e = inl (ap (place g) (made_at (key_of g)) ∙ ap (λ b. place g (if b then Some (new_pair (p, unit)) else pair_at v (key_of g))) e)

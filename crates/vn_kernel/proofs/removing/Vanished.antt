-- What is destroyed after vnet_if_return doesn't see whether the pairs that are homed in the stack have ended: what
-- lives there is cleared anyhow, and elsewhere the pairs leave the same behind.
use Rattle.std.proofs.Common.{◌≡◌, ℕ, Bool, true, false, List, [], ◌∷◌, cond, Option, Some, None, drop, reverse, refl, sym, ap, ◌∙◌}
use Rattle.std.specs.Prelude.{if◌then◌else◌, filter}
use Rattle.std.specs.List.{list_all}
use Rattle.std.specs.Map.{keys_of}
use Rattle.std.specs.BTreeMap.{insert_entry}
use Rattle.std.specs.Ordering.{match_ordering}
use Rattle.std.specs.declared.cmp.Ordering.{Ordering}
use Rattle.std.specs.declared.cmp.Ordering.TheVariants.{Less, Equal, Greater}
use Rattle.std.proofs.lemmas.Bool.{and_parts, true≢false}
use Rattle.vn_types.specs.declared.half.Half.{Half}
use Rattle.vn_types.specs.Entries.{find, put, each}
use Rattle.vn_types.specs.PathOrder.{path_cmp-exact}
use Rattle.vn_rules.specs.Construction.{RowOf, DownOf, Clears, SendsHome, DestroysHomed}
use Rattle.vn_cells.specs.declared.transcript.What.{What}
use Rattle.vn_cells.specs.declared.transcript.What.TheVariants.{Uninit}
use Rattle.vn_cells.specs.declared.world.Live.{Live}
use Rattle.vn_cells.specs.declared.world.Pair.{Pair}
use Rattle.vn_cells.specs.declared.world.Stack.{Stack}
use Rattle.vn_cells.specs.declared.world.World.{World}
use Rattle.vn_cells.specs.world.Names.{Path, Key, half_on, key_cmp, path_cmp, path_eq}
use Rattle.vn_types.specs.declared.interface.Side.TheVariants.{A, B}
use Rattle.vn_cells.specs.world.World.{no_stack, stack_at, pair_at, live_map, on_parts, noting, entry_of, edit_stack, each_stack, edit_live, noted, drop_pair}
use Rattle.vn_cells.specs.commands.Jails.{recount_above, one_less}
use Rattle.vn_cells.specs.commands.Pairs.{detached, unmade, destroyed_pair}
use Rattle.vn_cells.specs.commands.Removal.{homed_at, killed, run_down, torn_down, without_pairs}
use Rattle.vn_kernel.specs.Constructors.{constructors}
use Rattle.vn_kernel.specs.Removal.{rows_before_return}
use Rattle.vn_kernel.proofs.Created.{each-each}
use Rattle.vn_kernel.proofs.Destroyed.{noted_each}
use Rattle.vn_laws.proofs.edits.Cells.{none_lives, stack_at-each_stack}
use Rattle.vn_laws.proofs.jails.Own.{NoneHomed, is_own, none_homed}

-- ---- two edits of stacks

-- one after the other is one edit
fused : (f g h : Path → Stack → Stack) (w : World) → ((q : Path) (s : Stack) → f q (g q s) ≡ h q s) → each_stack f (each_stack g w) ≡ each_stack h w
unfolding each_stack
fused f g h w same = ap (λ es. record w { stacks = es }) (each-each g f w.stacks) ∙ (λ i. record w { stacks = each (λ q s. same q s i) w.stacks })

each-put : (g : Path → Stack → Stack) (p : Path) (s : Stack) (es : List (Path × Stack)) → each g (put path_cmp p s es) ≡ put path_cmp p (g p s) (each g es)
unfolding each put
each-put g p s [] = refl
each-put g p s (e ∷ es) = by (path_cmp p e.0) refl (each-put g p s es)
  where
    by : (r : Ordering) → path_cmp p e.0 ≡ r → each g (insert_entry path_cmp es p s) ≡ insert_entry path_cmp (each g es) p (g p s)
        → each g (match_ordering r ((p, s) ∷ e ∷ es) ((e.0, s) ∷ es) (e ∷ insert_entry path_cmp es p s))
        ≡ match_ordering r ((p, g p s) ∷ (e.0, g e.0 e.1) ∷ each g es) ((e.0, g p s) ∷ each g es) ((e.0, g e.0 e.1) ∷ insert_entry path_cmp (each g es) p (g p s))
    by Less less more = refl
    by Equal equal more = ap (λ q. (e.0, g q s) ∷ each g es) (sym (path_cmp-exact p e.0 equal))
    by Greater greater more = ap (λ more. (e.0, g e.0 e.1) ∷ more) more

-- an edit of each stack and one of a path's stack, where their order there is all one
each-edit : (g : Path → Stack → Stack) (p : Path) (f : Stack → Stack) (w : World) → g p no_stack ≡ no_stack → ((s : Stack) → g p (f s) ≡ f (g p s))
    → each_stack g (edit_stack p f w) ≡ edit_stack p f (each_stack g w)
unfolding each_stack edit_stack
each-edit g p f w none turned =
    ap (λ es. record w { stacks = es })
    (each-put g p (f (stack_at w p)) w.stacks ∙ ap (λ s. put path_cmp p s (each g w.stacks)) (turned (stack_at w p) ∙ ap f (sym (stack_at-each_stack g w p none))))

-- ---- the pairs that are homed in a stack end

abbrev homeless : Path → World → World
homeless p w = without_pairs (homed_at w p) w

-- before and after an edit that keeps the pairs and doesn't hinder what pairs that end leave behind
module _ (edit : World → World) (live : (q : Path) (f : Live → Live) (w : World) → edit (edit_live q f w) ≡ edit_live q f (edit w))
    (drop : (k : Key) (w : World) → edit (drop_pair k w) ≡ drop_pair k (edit w)) (pairs : (w : World) → (edit w).pairs ≡ w.pairs) where
  past-unmade : (k : Key) (o : Option Pair) (w : World) → edit (unmade k o w) ≡ unmade k o (edit w)
  unfolding unmade
  past-unmade k None w = refl
  past-unmade k (Some pair) w =
      drop k _
      ∙ ap (drop_pair k) (live pair.b.at (on_parts (detached (half_on B k))) _ ∙ ap (edit_live pair.b.at (on_parts (detached (half_on B k)))) (live pair.a.at (on_parts (detached (half_on A k))) w))

  past-destroyed : (k : Key) (w : World) → edit (destroyed_pair k w) ≡ destroyed_pair k (edit w)
  unfolding pair_at
  past-destroyed k w = past-unmade k (pair_at w k) w ∙ ap (λ o. unmade k o (edit w)) (ap (find key_cmp k) (sym (pairs w)))

  past-without : (ks : List Key) (w : World) → edit (without_pairs ks w) ≡ without_pairs ks (edit w)
  unfolding without_pairs
  past-without [] w = refl
  past-without (k ∷ ks) w = past-without ks (destroyed_pair k w) ∙ ap (without_pairs ks) (past-destroyed k w)

  past-homeless : (p : Path) (w : World) → edit (homeless p w) ≡ homeless p (edit w)
  past-homeless p w = past-without (homed_at w p) w ∙ ap (λ es. without_pairs (filter (λ k. path_eq k.0 p) (keys_of es)) (edit w)) (sym (pairs w))

-- the second time none is left
module _ (p : Path) where
  nothing-ends : (w : World) → NoneHomed p w → (ks : List Key) → without_pairs (filter (λ k. path_eq k.0 p) ks) w ≡ w
  unfolding without_pairs unmade
  nothing-ends w none [] = refl
  nothing-ends w none (k ∷ ks) = by (path_eq k.0 p) refl (nothing-ends w none ks)
    where
      by : (b : Bool) → path_eq k.0 p ≡ b → without_pairs (filter (λ k. path_eq k.0 p) ks) w ≡ w
          → without_pairs (cond b (k ∷ filter (λ k. path_eq k.0 p) ks) (filter (λ k. path_eq k.0 p) ks)) w ≡ w
      by true home rest = ap (λ o. without_pairs (filter (λ k. path_eq k.0 p) ks) (unmade k o w)) (none k home) ∙ rest
      by false home rest = rest

  homeless-twice : (w : World) → homeless p (homeless p w) ≡ homeless p w
  homeless-twice w = nothing-ends (homeless p w) (none_homed p w) (keys_of (homeless p w).pairs)

-- ---- a world but for what lives in one stack

abbrev dead_there : Path → Path → Stack → Stack
dead_there p q s = if path_eq q p then record s { live = None } else s

abbrev but_live : Path → World → World
but_live p w = each_stack (dead_there p) w

-- the kill sees no more
but_live-killed : (p : Path) (w : World) → killed p (but_live p w) ≡ killed p w
unfolding killed
but_live-killed p w = fused _ (dead_there p) _ w (λ q s. by (path_eq q p) q s)
  where
    by : (b : Bool) (q : Path) (s : Stack)
        → (if b then record (if b then record s { live = None } else s) { live = None } else recount_above p one_less q (if b then record s { live = None } else s))
        ≡ (if b then record s { live = None } else recount_above p one_less q s)
    by true q s = refl
    by false q s = refl

-- nor is there more to see after an edit of what lives there
but_live-own : (p : Path) (f : Live → Live) (w : World) → but_live p (edit_live p f w) ≡ but_live p w
but_live-own p f w = fused (dead_there p) _ (dead_there p) w (λ q s. by (path_eq q p) s)
  where
    by : (b : Bool) (s : Stack) → (if b then record (if b then live_map f s else s) { live = None } else (if b then live_map f s else s)) ≡ (if b then record s { live = None } else s)
    by true s = refl
    by false s = refl

but_live-live : (p q : Path) (f : Live → Live) (w : World) → but_live p (edit_live q f w) ≡ edit_live q f (but_live p w)
but_live-live p q f w = fused (dead_there p) (λ r s. if path_eq r q then live_map f s else s) (λ r s. if path_eq r q then live_map f (dead_there p r s) else dead_there p r s) w (λ r s. by (path_eq r p) (path_eq r q) s) ∙ sym (fused _ (dead_there p) _ w (λ r s. refl))
  where
    by : (a b : Bool) (s : Stack) → (if a then record (if b then live_map f s else s) { live = None } else (if b then live_map f s else s))
        ≡ (if b then live_map f (if a then record s { live = None } else s) else (if a then record s { live = None } else s))
    by true true s = refl
    by true false s = refl
    by false true s = refl
    by false false s = refl

but_live-homeless : (p : Path) (w : World) → but_live p (homeless p w) ≡ homeless p (but_live p w)
unfolding each_stack drop_pair
but_live-homeless p w = past-homeless (but_live p) (but_live-live p) (λ k w. refl) (λ w. refl) p w

-- ---- destructors

module _ (clock : ℕ) (p : Path) where
  but_live-noted : (what : What) (w : World) → but_live p (noted clock p what w) ≡ noted clock p what (but_live p w)
  but_live-noted what w = each-edit (dead_there p) p (noting (entry_of clock what)) w (none (path_eq p p)) (λ s. turned (path_eq p p) s)
    where
      none : (b : Bool) → (if b then record no_stack { live = None } else no_stack) ≡ no_stack
      none true = refl
      none false = refl

      turned : (b : Bool) (s : Stack) → (if b then record (noting (entry_of clock what) s) { live = None } else noting (entry_of clock what) s) ≡ noting (entry_of clock what) (if b then record s { live = None } else s)
      turned true s = refl
      turned false s = refl

  noted-live : (what : What) (q : Path) (f : Live → Live) (w : World) → noted clock p what (edit_live q f w) ≡ edit_live q f (noted clock p what w)
  noted-live what q f w = sym (each-edit (λ r s. if path_eq r q then live_map f s else s) p (noting (entry_of clock what)) w (none_lives (path_eq p q) f) (λ s. turned (path_eq p q) s))
    where
      turned : (b : Bool) (s : Stack) → (if b then live_map f (noting (entry_of clock what) s) else noting (entry_of clock what) s) ≡ noting (entry_of clock what) (if b then live_map f s else s)
      turned true s = refl
      turned false s = refl

  noted-homeless : (what : What) (w : World) → noted clock p what (homeless p w) ≡ homeless p (noted clock p what w)
  unfolding edit_stack drop_pair stack_at
  noted-homeless what w = past-homeless (noted clock p what) (noted-live what) (λ k w. refl) (λ w. refl) p w

  -- the entries of some rows alone
  abbrev entered : List (RowOf Half) → World → World
  entered [] w = w
  entered (row ∷ more) w = noted clock p (Uninit row.name) (entered more w)

  entered-homeless : (before : List (RowOf Half)) (w : World) → entered before (homeless p w) ≡ homeless p (entered before w)
  entered-homeless [] w = refl
  entered-homeless (row ∷ more) w = ap (noted clock p (Uninit row.name)) (entered-homeless more w) ∙ noted-homeless (Uninit row.name) (entered more w)

  -- what a destructor does to pairs
  abbrev ending : DownOf Half → World → World
  ending (Clears f) w = w
  ending SendsHome w = w
  ending DestroysHomed w = homeless p w

  -- and those of some rows
  abbrev endings : List (RowOf Half) → World → World
  endings [] w = w
  endings (row ∷ more) w = ending row.down (endings more w)

  but_live-down : (d : DownOf Half) (w : World) → is_own p d ≡ true → but_live p (run_down p d w) ≡ ending d (but_live p w)
  unfolding run_down
  but_live-down (Clears f) w none = but_live-own p (on_parts f) w
  but_live-down SendsHome w none = absurd (true≢false (sym none))
  but_live-down DestroysHomed w none = but_live-homeless p w

  entered-ending : (d : DownOf Half) (before : List (RowOf Half)) (w : World) → ending d (entered before w) ≡ entered before (ending d w)
  entered-ending (Clears f) before w = refl
  entered-ending SendsHome before w = refl
  entered-ending DestroysHomed before w = sym (entered-homeless before w)

  -- where no row sends halves home, the pairs end, and then the entries come
  but_live-torn : (before : List (RowOf Half)) (w : World) → list_all (λ (row : RowOf Half). is_own p row.down) before ≡ true
      → but_live p (torn_down clock p before w) ≡ entered before (endings before (but_live p w))
  unfolding torn_down
  but_live-torn [] w none = refl
  but_live-torn (row ∷ more) w none =
      but_live-noted (Uninit row.name) _
      ∙ ap (noted clock p (Uninit row.name))
      (but_live-down row.down _ (and_parts _ _ none).0 ∙ ap (ending row.down) (but_live-torn more w (and_parts _ _ none).1) ∙ entered-ending row.down more (endings more (but_live p w)))

  but_live-entered : (before : List (RowOf Half)) (w : World) → but_live p (entered before w) ≡ entered before (but_live p w)
  but_live-entered [] w = refl
  but_live-entered (row ∷ more) w =
      but_live-noted (Uninit row.name) (entered more w) ∙ ap (noted clock p (Uninit row.name)) (but_live-entered more w)

-- ---- what vanishes

without-none : (w : World) → without_pairs [] w ≡ w
unfolding without_pairs
without-none w = refl

-- the pairs that are homed there end in any case
pub vanish : (clock : ℕ) (p : Path) (w : World)
    → killed p (torn_down clock p rows_before_return w) ≡ killed p (torn_down clock p rows_before_return (without_pairs (homed_at w p) w))
vanish clock p w =
    sym (but_live-killed p _)
    ∙ ap (killed p) (but_live-torn clock p rows_before_return w refl ∙ ap (entered clock p rows_before_return) same ∙ sym (but_live-torn clock p rows_before_return (homeless p w) refl))
    ∙ but_live-killed p _
  where
    same : homeless p (but_live p w) ≡ homeless p (but_live p (homeless p w))
    same = sym (homeless-twice p (but_live p w)) ∙ ap (homeless p) (sym (but_live-homeless p w))

-- and where none is, the entries alone are left
pub torn-noted : (clock : ℕ) (p : Path) (w : World) → homed_at w p ≡ [] → killed p (torn_down clock p rows_before_return w) ≡ killed p (noted_each p clock (drop 1 (reverse constructors)) w)
unfolding noted_each
torn-noted clock p w none =
    sym (but_live-killed p _)
    ∙ ap (killed p)
    (but_live-torn clock p rows_before_return w refl
    ∙ ap (entered clock p rows_before_return) (sym (but_live-homeless p w) ∙ ap (but_live p) (alone none))
    ∙ sym (but_live-entered clock p rows_before_return w))
    ∙ but_live-killed p _
  where
    alone : homed_at w p ≡ [] → homeless p w ≡ w
    alone none = ap (λ ks. without_pairs ks w) none ∙ without-none w

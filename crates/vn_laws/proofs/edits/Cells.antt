-- What stands in each cell after each edit.
use Rattle.std.proofs.Common.{◌≡◌, ◌≢◌, ap, Bool, true, false, not, Option, Some, None, refl, sym, ◌∙◌, subst, arith}
use Rattle.std.specs.Prelude.{if◌then◌else◌, unwrap_or}
use Rattle.std.specs.Option.{option_map, is_some}
use Rattle.std.proofs.lemmas.Bool.{false_from_ne_true}
use Rattle.vn_types.specs.PathOrder.{path_eq-Decides, path_ties, path_total, key_ties}
use Rattle.vn_types.proofs.PathNames.{key_eq-Decides, key_total}
use Rattle.vn_cells.specs.world.Names.{Path, Key, path_eq, path_cmp, key_eq, key_cmp}
use Rattle.vn_types.specs.Entries.{find}
use Rattle.vn_cells.specs.declared.world.World.{World}
use Rattle.vn_cells.specs.declared.world.Stack.{Stack}
use Rattle.vn_cells.specs.declared.world.Live.{Live}
use Rattle.vn_cells.specs.declared.world.Pair.{Pair}
use Rattle.vn_cells.specs.world.World.{no_stack, stack_at, pair_at, is_alive, edit_stack, each_stack, edit_live, live_map, add_pair, drop_pair, each_pair}
use Rattle.std.proofs.lemmas.List.Kept.{IsStrictlySortedBy-filter}
use Rattle.vn_laws.proofs.edits.Lists.{find-without, keys_of-without}
use Rattle.vn_types.proofs.EntryLaws.{find-put, find-each, listed-find}
use Rattle.vn_types.proofs.EntryLaws.{sorted-put, keys_of-each}
use Rattle.std.specs.List.Sorted.{IsStrictlySortedBy}
use Rattle.std.specs.Map.{keys_of}
use Rattle.std.specs.List.{list_any}

pub stack_at-edit_stack : (p : Path) (f : Stack → Stack) (w : World) (q : Path) → stack_at (edit_stack p f w) q ≡ (if path_eq q p then f (stack_at w q) else stack_at w q)
unfolding stack_at edit_stack
stack_at-edit_stack p f w q = grind (arith, path_eq-Decides q p, find-put path_cmp path_eq-Decides path_ties p (f (stack_at w p)) w.stacks q)

pub stack_at-each_stack : (f : Path → Stack → Stack) (w : World) (q : Path) → f q no_stack ≡ no_stack → stack_at (each_stack f w) q ≡ f q (stack_at w q)
unfolding stack_at each_stack
stack_at-each_stack f w q none = rw (find-each path_cmp path_eq-Decides path_ties f w.stacks q) (by (find path_cmp q w.stacks))
  where
    by : (o : Option Stack) → unwrap_or (option_map (f q) o) no_stack ≡ f q (unwrap_or o no_stack)
    by None = sym none
    by (Some s) = refl

pub stack_at-add_pair : (k : Key) (pair : Pair) (w : World) (q : Path) → stack_at (add_pair k pair w) q ≡ stack_at w q
unfolding stack_at add_pair
stack_at-add_pair k pair w q = refl

pub stack_at-each_pair : (f : Key → Pair → Pair) (w : World) (q : Path) → stack_at (each_pair f w) q ≡ stack_at w q
unfolding stack_at each_pair
stack_at-each_pair f w q = refl

pub pair_at-edit_stack : (p : Path) (f : Stack → Stack) (w : World) (k : Key) → pair_at (edit_stack p f w) k ≡ pair_at w k
unfolding pair_at edit_stack
pair_at-edit_stack p f w k = refl

pub pair_at-each_stack : (f : Path → Stack → Stack) (w : World) (k : Key) → pair_at (each_stack f w) k ≡ pair_at w k
unfolding pair_at each_stack
pair_at-each_stack f w k = refl

pub pair_at-add_pair : (q : Key) (pair : Pair) (w : World) (k : Key) → pair_at (add_pair q pair w) k ≡ (if key_eq k q then Some pair else pair_at w k)
unfolding pair_at add_pair
pair_at-add_pair q pair w k = find-put key_cmp key_eq-Decides key_ties q pair w.pairs k

pub pair_at-each_pair : (f : Key → Pair → Pair) (w : World) (k : Key) → pair_at (each_pair f w) k ≡ option_map (f k) (pair_at w k)
unfolding pair_at each_pair
pair_at-each_pair f w k = find-each key_cmp key_eq-Decides key_ties f w.pairs k

pub clock-edit_stack : (p : Path) (f : Stack → Stack) (w : World) → (edit_stack p f w).clock ≡ w.clock
unfolding edit_stack
clock-edit_stack p f w = refl

pub clock-each_stack : (f : Path → Stack → Stack) (w : World) → (each_stack f w).clock ≡ w.clock
unfolding each_stack
clock-each_stack f w = refl

pub clock-add_pair : (k : Key) (pair : Pair) (w : World) → (add_pair k pair w).clock ≡ w.clock
unfolding add_pair
clock-add_pair k pair w = refl

pub stack_at-drop_pair : (k : Key) (w : World) (q : Path) → stack_at (drop_pair k w) q ≡ stack_at w q
unfolding stack_at drop_pair
stack_at-drop_pair k w q = refl

pub pair_at-drop_pair : (q : Key) (w : World) (k : Key) → pair_at (drop_pair q w) k ≡ (if key_eq k q then None else pair_at w k)
unfolding pair_at drop_pair
pair_at-drop_pair q w k = find-without key_cmp key_eq-Decides key_ties q w.pairs k

pub clock-drop_pair : (k : Key) (w : World) → (drop_pair k w).clock ≡ w.clock
unfolding drop_pair
clock-drop_pair k w = refl

pub clock-each_pair : (f : Key → Pair → Pair) (w : World) → (each_pair f w).clock ≡ w.clock
unfolding each_pair
clock-each_pair f w = refl

-- ---- an edit of one stack

pub path_eq-same : (p : Path) → path_eq p p ≡ true
path_eq-same p = (path_eq-Decides p p).1 refl

pub apart : (q p : Path) → q ≢ p → path_eq q p ≡ false
apart q p ne = false_from_ne_true (path_eq q p) (λ e. ne ((path_eq-Decides q p).0 e))

pub own_edit : (p : Path) (f : Stack → Stack) (w : World) → stack_at (edit_stack p f w) p ≡ f (stack_at w p)
own_edit p f w = stack_at-edit_stack p f w p ∙ ap (λ b. if b then f (stack_at w p) else stack_at w p) (path_eq-same p)

pub other_edit : (p : Path) (f : Stack → Stack) (w : World) (q : Path) → q ≢ p → stack_at (edit_stack p f w) q ≡ stack_at w q
other_edit p f w q ne = stack_at-edit_stack p f w q ∙ ap (λ b. if b then f (stack_at w q) else stack_at w q) (apart q p ne)

-- ---- what lives, changed in its place

pub none_lives : (b : Bool) (f : Live → Live) → (if b then live_map f no_stack else no_stack) ≡ no_stack
none_lives true f = refl
none_lives false f = refl

pub stack_at-edit_live : (p : Path) (f : Live → Live) (w : World) (q : Path) → stack_at (edit_live p f w) q ≡ (if path_eq q p then live_map f (stack_at w q) else stack_at w q)
stack_at-edit_live p f w q = stack_at-each_stack (λ q s. if path_eq q p then live_map f s else s) w q (none_lives (path_eq q p) f)

-- ---- keys

abbrev pub Ordered : World → Type 0
Ordered w = IsStrictlySortedBy path_cmp (keys_of w.stacks)

abbrev pub OrderedPairs : World → Type 0
OrderedPairs w = IsStrictlySortedBy key_cmp (keys_of w.pairs)

pub ordered-edit_stack : (p : Path) (f : Stack → Stack) (w : World) → Ordered w → Ordered (edit_stack p f w)
unfolding edit_stack
ordered-edit_stack p f w s = sorted-put path_cmp path_total p _ w.stacks s

pub ordered-each_stack : (f : Path → Stack → Stack) (w : World) → Ordered w → Ordered (each_stack f w)
unfolding each_stack
ordered-each_stack f w s = subst (IsStrictlySortedBy path_cmp) (sym (keys_of-each f w.stacks)) s

pub ordered_pairs-add_pair : (k : Key) (pair : Pair) (w : World) → OrderedPairs w → OrderedPairs (add_pair k pair w)
unfolding add_pair
ordered_pairs-add_pair k pair w s = sorted-put key_cmp key_total k pair w.pairs s

pub ordered_pairs-each_pair : (f : Key → Pair → Pair) (w : World) → OrderedPairs w → OrderedPairs (each_pair f w)
unfolding each_pair
ordered_pairs-each_pair f w s = subst (IsStrictlySortedBy key_cmp) (sym (keys_of-each f w.pairs)) s

pub ordered_pairs-drop_pair : (k : Key) (w : World) → OrderedPairs w → OrderedPairs (drop_pair k w)
unfolding drop_pair
ordered_pairs-drop_pair k w s =
    subst (IsStrictlySortedBy key_cmp) (sym (keys_of-without key_eq k w.pairs))
    (IsStrictlySortedBy-filter key_cmp (λ q. not (key_eq q k)) (keys_of w.pairs) s)

-- edits of one kind of cell leave the other's list
pub pairs-each_stack : (f : Path → Stack → Stack) (w : World) → (each_stack f w).pairs ≡ w.pairs
unfolding each_stack
pairs-each_stack f w = refl

pub stacks-each_pair : (f : Key → Pair → Pair) (w : World) → (each_pair f w).stacks ≡ w.stacks
unfolding each_pair
stacks-each_pair f w = refl

pub pairs-edit_stack : (p : Path) (f : Stack → Stack) (w : World) → (edit_stack p f w).pairs ≡ w.pairs
unfolding edit_stack
pairs-edit_stack p f w = refl

pub stacks-add_pair : (k : Key) (pair : Pair) (w : World) → (add_pair k pair w).stacks ≡ w.stacks
unfolding add_pair
stacks-add_pair k pair w = refl

pub stacks-drop_pair : (k : Key) (w : World) → (drop_pair k w).stacks ≡ w.stacks
unfolding drop_pair
stacks-drop_pair k w = refl

-- what lives is listed
pub alive_listed : (w : World) (p : Path) → is_alive w p ≡ true → list_any (path_eq p) (keys_of w.stacks) ≡ true
unfolding stack_at
alive_listed w p h = listed-find path_cmp path_ties p w.stacks ∙ by (find path_cmp p w.stacks) h
  where
    by : (o : Option Stack) → is_some (unwrap_or o no_stack).live ≡ true → is_some o ≡ true
    by None h = h
    by (Some s) h = refl

pub pair_listed : (w : World) (k : Key) → list_any (key_eq k) (keys_of w.pairs) ≡ is_some (pair_at w k)
unfolding pair_at
pair_listed w k = listed-find key_cmp key_ties k w.pairs

-- One event: the world stays sound, a half that moves leaves nothing behind, and what belongs to a set still does.
use Rattle.std.proofs.Common.{◌≡◌, ℕ, ◌+◌, Bool, true, false, ◌&&◌, ◌||◌, not, [], ◌∷◌, Option, Some, None, refl, sym, ap, ◌∙◌, subst, arith, ◌⊎◌, inl, inr}
use Rattle.std.specs.Prelude.{if◌then◌else◌}
use Rattle.std.specs.Option.{is_some, is_none}
use Rattle.std.specs.List.{list_all}
use Rattle.std.proofs.lemmas.Bool.{and_parts, true≢false}
use Rattle.std.proofs.lemmas.Bool.Decides.{Decides-eqb}
use Rattle.vn_types.specs.declared.errno.Errno.TheVariants as errno
use Rattle.vn_types.specs.declared.half.Half.{Half}
use Rattle.vn_types.specs.declared.interface.IfOf.TheVariants.{Lo0}
use Rattle.vn_types.specs.PathOrder.{path_eq-Decides}
use Rattle.vn_types.proofs.Ancestors.{passes-above}
use Rattle.vn_rules.specs.Rules.{Common, answer, refused}
use Rattle.vn_cells.specs.declared.cell.Cells.{Cells}
use Rattle.vn_cells.specs.declared.cell.CellName.TheVariants.{Stack as OfStack}
use Rattle.vn_cells.specs.declared.command.Command.{Command}
use Rattle.vn_cells.specs.declared.event.Event.{Event}
use Rattle.vn_cells.specs.declared.event.Event.TheVariants as event
use Rattle.vn_cells.specs.declared.world.Children.{Children}
use Rattle.vn_cells.specs.declared.world.Live.{Live}
use Rattle.vn_cells.specs.declared.world.Pair.{Pair}
use Rattle.vn_cells.specs.declared.world.Stack.{Stack}
use Rattle.vn_cells.specs.declared.world.World.{World}
use Rattle.vn_cells.specs.world.Names.{Path, path_eq, key_of, is_host, is_below}
use Rattle.vn_cells.specs.world.World.{common_of, stack_at, pair_at, is_alive}
use Rattle.vn_cells.specs.machine.Events.{is_at_path, is_valid_command, is_valid_event}
use Rattle.vn_cells.specs.machine.Reach.{Reach, Near, reach}
use Rattle.vn_cells.specs.machine.Commands.{far_rule}
use Rattle.vn_cells.specs.machine.Local.{Here, here_at, local, act}
use Rattle.vn_cells.specs.machine.Queues.{arrival, has_datagram, has_due}
use Rattle.vn_cells.specs.machine.Step.{entered, ran_by, commanded, where_true, acting, acted, received, delivered, step}
use Rattle.vn_cells.specs.sets.Sets.{in_set, in_stacks, command_deciders, deciders}
use Rattle.vn_cells.specs.keeping.Sound.{IsSound, living_below, counts_right, is_number}
use Rattle.vn_cells.specs.keeping.Moved.{LeavesNothing}
use Rattle.vn_cells.specs.sets.Changed.{is_common, is_kept}
use Rattle.vn_laws.specs.Relations.{Alike, Belongs}
use Rattle.vn_laws.proofs.edits.Alike.{alike-edit_stack}
use Rattle.vn_laws.proofs.edits.Cells.{clock-edit_stack}
use Rattle.vn_laws.proofs.edits.Counts.{one_living_less}
use Rattle.vn_laws.proofs.edits.Shapes.{SameShape, shape_tree, belongs-shape}
use Rattle.vn_laws.proofs.edits.Standing.{leaves_nothing, leaves_nothing-same, belongs-same}
use Rattle.vn_laws.proofs.edits.Trees.{alive_tree}
use Rattle.vn_laws.proofs.local.Acted.{KeepsTables, tree-act_by, standing-act_by, clock-act_by, belongs-act_by, sound-act_by}
use Rattle.vn_laws.proofs.local.Alike.{alike-local}
use Rattle.vn_laws.proofs.local.Delivered.{standing-delivered, sound-delivered, clock-delivered, alike-delivered, looped-tables, fired-tables}
use Rattle.vn_laws.proofs.local.Events.{shape-later, alike-later, either_acted, alike-acted, none-tables}
use Rattle.vn_laws.proofs.local.Listed.{lists_in, lo0-listed}
use Rattle.vn_laws.proofs.Touched.{untouched}
use Rattle.vn_laws.proofs.rule.Answers.{answered, shape-entered, reached, either_way, commanded-keeps}
use Rattle.vn_laws.proofs.rule.Alike.{AlikeRules, alike-answered}
use Rattle.vn_laws.proofs.jails.Alike.{alive_alike}
use Rattle.vn_laws.proofs.local.Near.{near-tables}
use Rattle.vn_laws.proofs.Commands.{Fits, fits, fine-far, belongs-far, alike-far, issuer_inside, lived-far, goes-far}
use Rattle.vn_laws.proofs.edits.Fine.{Fine, fine-none, fine-shape}
use Rattle.vn_laws.proofs.edits.Lived.{IsNew, Lived, lived-same}

-- ---- the machine's own rule keeps tables sound

-- the number of a command is within its bounds
abbrev Bounded : Event → Type 0
Bounded (event.Cmd lane issuer command) = is_valid_command issuer command ≡ true
Bounded _ = Unit {0}

local-tables : (common : Common) (p : Path) (here : Here) (event : Event) → Bounded event → lists_in Lo0 here.scene ≡ true → KeepsTables local common p here event
unfolding local
local-tables common p here (event.Cmd lane issuer command) valid lo0 e = near-tables common issuer command valid here.scene lo0 e
local-tables common p here (event.LoopDeliver path) valid lo0 e = looped-tables common here.scene here.readers lo0 e
local-tables common p here (event.Fire path) valid lo0 e = fired-tables common here.scene here.readers e
local-tables common p here _ valid lo0 e = none-tables here.scene

-- ---- soundness

-- the world is sound, and no half that moved left anything
pub record StepFine (v w : World) : Type 0 where
  pub sound : IsSound w
  pub nothing : LeavesNothing v w

by_leaves : {v w : World} → Fine v w → StepFine v w
by_leaves f = record { sound = f.sound; nothing = leaves_nothing f.leaves }

fine-act : {v : World} → IsSound v → (p : Path) (event : Event) → Bounded event → StepFine v (act v p event)
fine-act {v} s p event bounded = record {
  sound = sound-act_by local s p event (local-tables (common_of v) p (here_at v p) event bounded (lo0-listed s p));
  nothing = leaves_nothing-same (standing-act_by local v p event).pairs;
}

pub fine-acted : {v : World} → IsSound v → (event : Event) → Bounded event → StepFine v (acted (acting v event) event v)
fine-acted {v} s event bounded = either_acted (StepFine v) (acting v event) event v (by_leaves (fine-none s)) (λ p. fine-act s p event bounded)

pub fine-step : {v : World} → IsSound v → (event : Event) → is_valid_event event ≡ true → StepFine v (step v event)
unfolding step is_valid_event
fine-step {v} s (event.Cmd lane issuer command) valid =
    either_way (StepFine v) lane issuer command v
    (λ lives. reached (StepFine v) lane issuer command (reach issuer command) v
    (fine-act s issuer (event.Cmd lane issuer command) (and_parts (is_at_path lane issuer) (is_valid_command issuer command) valid).1)
    (by_leaves (fine-shape
    (answered (Fine v) (far_rule (common_of v) issuer (reach issuer command) v) (fine-none s)
    (fine-far s (common_of v) issuer lives (reach issuer command) (fits issuer command (and_parts (is_at_path lane issuer) (is_valid_command issuer command) valid).1)))
    (shape-entered v.clock lane issuer command _))))
    (by_leaves (fine-shape (fine-none s) (shape-entered v.clock lane issuer command (refused errno.NoEnt v))))
fine-step {v} s (event.Tick n) valid = by_leaves (fine-shape (fine-none s) (shape-later n v))
fine-step {v} s (event.Deliver half) valid = record {
  sound = sound-delivered half v s;
  nothing = leaves_nothing-same (standing-delivered half v).pairs;
}
fine-step s (event.LoopDeliver path) valid = fine-acted s (event.LoopDeliver path) tt
fine-step s (event.Fire path) valid = fine-acted s (event.Fire path) tt
fine-step s (event.Open lane path table) valid = fine-acted s (event.Open lane path table) tt
fine-step s (event.Next lane path) valid = fine-acted s (event.Next lane path) tt
fine-step s (event.Close lane path) valid = fine-acted s (event.Close lane path) tt

-- ---- what all cells share

clock-acted : (v : World) (event : Event) → (acted (acting v event) event v).clock ≡ v.clock
clock-acted v event = either_acted (λ w. w.clock ≡ v.clock) (acting v event) event v refl (λ p. clock-act_by local v p event)

pub clock-step : (v : World) (event : Event) → is_common event ≡ false → (step v event).clock ≡ v.clock
unfolding step is_common
clock-step v (event.Cmd lane issuer command) own =
    commanded-keeps (λ w. w.clock ≡ v.clock) lane issuer command v refl
    (λ a e. clock-edit_stack issuer _ _ ∙ e)
    (clock-act_by local v issuer (event.Cmd lane issuer command))
    (λ none. (goes-far (common_of v) issuer (reach issuer command) v).clock)
clock-step v (event.Tick n) own = absurd (true≢false own)
clock-step v (event.Deliver half) own = clock-delivered half v
clock-step v event own = clock-acted v event

-- ---- a set

-- a command's deciders are in the set
abbrev pub Decided : Cells → Event → Type 0
Decided set (event.Cmd lane issuer command) = list_all (in_set set) (command_deciders issuer (reach issuer command)) ≡ true
Decided set _ = Unit {0}

belongs-acted : {set : Cells} {v : World} → Belongs set v → (event : Event) → Belongs set (acted (acting v event) event v)
belongs-acted {set} {v} b event = either_acted (Belongs set) (acting v event) event v b (λ p. belongs-act_by local v p event b)

pub belongs-step : {set : Cells} {v : World} → Belongs set v → IsSound v → (event : Event) → Decided set event
    → Belongs set (step v event)
unfolding step
belongs-step {set} {v} b s (event.Cmd lane issuer command) all =
    commanded-keeps (Belongs set) lane issuer command v b
    (λ a c. belongs-shape c (shape-entered v.clock lane issuer command a))
    (belongs-act_by local v issuer (event.Cmd lane issuer command) b)
    (belongs-far s set b (common_of v) issuer (reach issuer command) all)
belongs-step {set} {v} b s (event.Tick n) all = belongs-shape b (shape-later n v)
belongs-step {set} {v} b s (event.Deliver half) all = belongs-same b (standing-delivered half v)
belongs-step b s event all = belongs-acted b event

-- ---- two worlds

module _ {set : Cells} {v w : World} (a : Alike set v w) (b : Belongs set v) (c : Belongs set w) (sv : IsSound v) (sw : IsSound w) where
  alike-ran_by : (lane : ℕ) (issuer : Path) (command : Command) (r : Reach) → Fits issuer r
      → list_all (in_set set) (command_deciders issuer r) ≡ true
      → Alike set (ran_by lane issuer command r v) (ran_by lane issuer command r w)
  unfolding ran_by command_deciders in_set
  alike-ran_by lane issuer command Near fit all =
      alike-local a local b issuer (event.Cmd lane issuer command) (and_parts _ true all).0
  alike-ran_by lane issuer command r fit all = entered_alike r (alike-far a b c sv sw (common_of v) issuer r fit all)
    where
      entered_alike : (r : Reach) → AlikeRules set (far_rule (common_of v) issuer r v) (far_rule (common_of v) issuer r w)
          → Alike set (entered v.clock lane issuer command (answer v (far_rule (common_of v) issuer r v)))
          (entered w.clock lane issuer command (answer w (far_rule (common_of w) issuer r w)))
      entered_alike r same =
          subst (λ c. Alike set (entered v.clock lane issuer command (answer v (far_rule (common_of v) issuer r v)))
          (entered c lane issuer command (answer w (far_rule (record { clock = c }) issuer r w)))) a.clock
          (alike-answered a v.clock lane issuer command _ _ same)

  alike-commanded : (lane : ℕ) (issuer : Path) (command : Command) → is_valid_command issuer command ≡ true
      → list_all (in_set set) (command_deciders issuer (reach issuer command)) ≡ true
      → Alike set (commanded lane issuer command v) (commanded lane issuer command w)
  unfolding commanded
  alike-commanded lane issuer command valid all =
      subst (λ l. Alike set (commanded lane issuer command v)
      (if l then ran_by lane issuer command (reach issuer command) w else entered w.clock lane issuer command (refused errno.NoEnt w)))
      (alive_alike a sv sw issuer (issuer_inside set issuer (reach issuer command) all))
      (by (is_alive v issuer))
    where
      dead : Alike set (entered v.clock lane issuer command (refused errno.NoEnt v)) (entered w.clock lane issuer command (refused errno.NoEnt w))
      dead = subst (λ c. Alike set (entered v.clock lane issuer command (refused errno.NoEnt v)) (entered c lane issuer command (refused errno.NoEnt w)))
          a.clock (alike-edit_stack a issuer _)

      by : (l : Bool)
          → Alike set (if l then ran_by lane issuer command (reach issuer command) v else entered v.clock lane issuer command (refused errno.NoEnt v))
          (if l then ran_by lane issuer command (reach issuer command) w else entered w.clock lane issuer command (refused errno.NoEnt w))
      by true = alike-ran_by lane issuer command (reach issuer command) (fits issuer command valid) all
      by false = dead

  -- the acting stack is of the set
  acting_inside : (p : Path) → list_all (in_set set) (OfStack p ∷ []) ≡ true → in_stacks set p ≡ true
  unfolding in_set
  acting_inside p all = (and_parts _ true all).0

  -- a delivery to a half whose pair does not exist touches nothing
  pair-there : (half : Half) → is_kept set v (event.Deliver half) ≡ true → is_some (pair_at v (key_of half)) ≡ true
  unfolding is_kept is_common step delivered received
  pair-there half kept = by (pair_at v (key_of half)) refl
    where
      by : (o : Option Pair) → pair_at v (key_of half) ≡ o → is_some (pair_at v (key_of half)) ≡ true
      by None is = absurd (true≢false (sym kept ∙ untouched set v (event.Deliver half) (ap (λ o. received (arrival half o) half v) is)))
      by (Some pair) is = ap (λ (o : Option Pair). is_some o) is

  pub alike-step : (event : Event) → is_valid_event event ≡ true → is_kept set v event ≡ true → list_all (in_set set) (deciders v event) ≡ true
      → Alike set (step v event) (step w event)
  unfolding step acting deciders is_valid_event
  alike-step (event.Cmd lane issuer command) valid kept all =
      alike-commanded lane issuer command (and_parts (is_at_path lane issuer) (is_valid_command issuer command) valid).1 all
  alike-step (event.Tick n) valid kept all = alike-later a n
  alike-step (event.Deliver half) valid kept all = alike-delivered a b sv half (pair-there half kept) all
  alike-step (event.LoopDeliver p) valid kept all =
      let inside = acting_inside p all in
      subst (λ (s : Stack). Alike set (step v (event.LoopDeliver p)) (acted (where_true (has_datagram s.live) p) (event.LoopDeliver p) w))
      (a.stacks p inside) (alike-acted a b p (event.LoopDeliver p) inside (has_datagram (stack_at v p).live))
  alike-step (event.Fire p) valid kept all =
      let inside = acting_inside p all in
      subst (λ (x : ℕ × Stack). Alike set (step v (event.Fire p)) (acted (where_true (has_due x.0 x.1.live) p) (event.Fire p) w))
      (λ i. (a.clock i, a.stacks p inside i)) (alike-acted a b p (event.Fire p) inside (has_due v.clock (stack_at v p).live))
  alike-step (event.Open lane p table) valid kept all = alike-acted a b p (event.Open lane p table) (acting_inside p all) true
  alike-step (event.Next lane p) valid kept all = alike-acted a b p (event.Next lane p) (acting_inside p all) true
  alike-step (event.Close lane p) valid kept all = alike-acted a b p (event.Close lane p) (acting_inside p all) true

-- ---- who is new

lived-shape : {u v w : World} → Lived u v → SameShape v w → Lived u w
lived-shape {u} {v} {w} l t = record { of = λ q h. by q (l.of q (sym (alive_tree (shape_tree t) q) ∙ h)) }
  where
    by : (q : Path) → (is_alive u q ≡ true) ⊎ IsNew u v q → (is_alive u q ≡ true) ⊎ IsNew u w q
    by q (inl e) = inl e
    by q (inr n) = inr (record { before = n.before; alive = λ r. alive_tree (shape_tree t) r ∙ n.alive r })

lived-acted : (v : World) (event : Event) → Lived v (acted (acting v event) event v)
lived-acted v event =
    either_acted (Lived v) (acting v event) event v (lived-same (λ q. refl)) (λ p. lived-same (alive_tree (tree-act_by local v p event)))

pub lived-step : (v : World) (event : Event) → Lived v (step v event)
unfolding step
lived-step v (event.Cmd lane issuer command) =
    commanded-keeps (Lived v) lane issuer command v (lived-same (λ q. refl))
    (λ a l. lived-shape l (shape-entered v.clock lane issuer command a))
    (lived-same (alive_tree (tree-act_by local v issuer (event.Cmd lane issuer command))))
    (lived-far (common_of v) issuer (reach issuer command))
lived-step v (event.Tick n) = lived-shape (lived-same (λ q. refl)) (shape-later n v)
lived-step v (event.Deliver half) = lived-same (standing-delivered half v).alive
lived-step v event = lived-acted v event

-- a new jail is told to each ancestor other than host
pub born_told : {v w : World} → IsSound v → IsSound w → (q r : Path) → IsNew v w q → is_host r ≡ false → is_below q r ≡ true
    → stack_at v r ≡ stack_at w r → ⊥
born_told {v} {w} s t q r n top below same =
    let more : living_below w r ≡ living_below v r + 1 = one_living_less w v q t.tree.stacks_ordered s.tree.stacks_ordered new before r below in
    by (stack_at w r).live (passes-above (is_alive w) t.tree.parents q r new (and_parts _ _ below).0)
    (ap (λ (u : Stack). counts_right (living_below v r) r u.live) (sym same) ∙ s.tree.counted r) (t.tree.counted r) more
  where
    new : is_alive w q ≡ true
    new = n.alive q ∙ ap (λ b. b || is_alive v q) ((path_eq-Decides q q).1 refl)

    before : (x : Path) → is_alive v x ≡ (is_alive w x && not (path_eq x q))
    before x = pick (path_eq x q) refl ∙ ap (λ b. b && not (path_eq x q)) (sym (n.alive x))
      where
        pick : (b : Bool) → path_eq x q ≡ b → is_alive v x ≡ ((b || is_alive v x) && not b)
        pick true e = ap (is_alive v) ((path_eq-Decides x q).0 e) ∙ n.before
        pick false e = grind arith

    numbers : (m k : ℕ) (c : Option Children) → is_number m c ≡ true → is_number k c ≡ true → m ≡ k
    numbers m k None e f = cc
    numbers m k (Some children) e f = sym ((Decides-eqb children.living m).0 e) ∙ (Decides-eqb children.living k).0 f

    by : (o : Option Live) → is_some o ≡ true → counts_right (living_below v r) r o ≡ true → counts_right (living_below w r) r o ≡ true
        → living_below w r ≡ living_below v r + 1 → ⊥
    by None e f g h = absurd (true≢false (sym e))
    by (Some live) e f g h =
        let first : is_number (living_below v r) live.children ≡ true =
        sym (ap (λ b. if b then is_none live.children else is_number (living_below v r) live.children) top) ∙ f in
        let second : is_number (living_below w r) live.children ≡ true =
        sym (ap (λ b. if b then is_none live.children else is_number (living_below w r) live.children) top) ∙ g in
        let equal : living_below v r ≡ living_below w r = numbers (living_below v r) (living_below w r) live.children first second in
        omega arith

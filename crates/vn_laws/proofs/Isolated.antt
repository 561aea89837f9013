-- The cells of a closed set are those of a run of its own events alone.
use Rattle.std.proofs.Common.{◌≡◌, Bool, true, false, not, List, [], ◌∷◌, refl, sym, ap, ◌∙◌, ◌⊎◌, inl, inr}
use Rattle.std.specs.Prelude.{if◌then◌else◌}
use Rattle.std.specs.List.{list_all}
use Rattle.std.proofs.lemmas.Bool.{and_parts, and_from, or_parts}
use Rattle.vn_types.specs.PathOrder.{path_eq-Decides}
use Rattle.vn_cells.specs.declared.cell.Cells.{Cells}
use Rattle.vn_cells.specs.declared.cell.CellName.{CellName}
use Rattle.vn_cells.specs.declared.cell.CellName.TheVariants.{Stack as OfStack, Pair as OfPair}
use Rattle.vn_cells.specs.declared.event.Event.{Event}
use Rattle.vn_cells.specs.declared.event.Event.TheVariants as event
use Rattle.vn_cells.specs.declared.world.Stack.{Stack}
use Rattle.vn_cells.specs.declared.world.World.{World}
use Rattle.vn_cells.specs.world.Names.{Path, path_eq, is_host, is_under}
use Rattle.vn_cells.specs.world.World.{is_alive, ifs_of}
use Rattle.vn_cells.specs.machine.Events.{is_valid_event, IsValid}
use Rattle.vn_cells.specs.machine.Step.{step, run_from}
use Rattle.vn_cells.specs.sets.Sets.{in_set, in_stacks, deciders}
use Rattle.vn_cells.specs.keeping.Sound.{IsSound}
use Rattle.vn_cells.specs.sets.Changed.{touches, is_common, is_kept, is_closed_at, is_closed_from, project_from}
use Rattle.vn_cells.specs.sets.Isolation.{SameCell, IsIsolated}
use Rattle.vn_laws.specs.Relations.{Alike, Belongs, owns_ifs}
use Rattle.vn_laws.proofs.Touched.{stack_stays, pair_stays}
use Rattle.vn_laws.proofs.edits.Lived.{IsNew}
use Rattle.vn_laws.proofs.Steps.{fine-step, clock-step, belongs-step, Decided, alike-step, lived-step, born_told}
use Rattle.vn_laws.proofs.Opening.{sound-opening, belongs-opening}

-- ---- an event that is left out

module _ {set : Cells} {v w : World} (a : Alike set v w) (b : Belongs set v) (s : IsSound v) (event : Event)
    (valid : is_valid_event event ≡ true) (untouched : touches set v event ≡ false) where
  alike-left_out : is_common event ≡ false → Alike set (step v event) w
  alike-left_out own = record {
    clock = clock-step v event own ∙ a.clock;
    stacks = λ p h. sym (stack_stays set v event untouched p h) ∙ a.stacks p h;
    pairs = λ k h. sym (pair_stays set v event untouched k h) ∙ a.pairs k h;
  }

  belongs-left_out : Belongs set (step v event)
  belongs-left_out = record {
    halves = λ p h. ap (λ (u : Stack). owns_ifs set (ifs_of u)) (sym (stack_stays set v event untouched p h)) ∙ b.halves p h;
    descendants = λ r q h top under alive. descendant r q h top under ((lived-step v event).of q alive) (path_eq r q) refl;
  }
    where
      descendant : (r q : Path) → in_stacks set r ≡ true → is_host r ≡ false → is_under q r ≡ true
          → (is_alive v q ≡ true) ⊎ IsNew v (step v event) q → (d : Bool) → path_eq r q ≡ d → in_stacks set q ≡ true
      descendant r q h top under (inl e) d f = b.descendants r q h top under e
      descendant r q h top under (inr n) true f = ap (in_stacks set) (sym ((path_eq-Decides r q).0 f)) ∙ h
      descendant r q h top under (inr n) false f =
          absurd (born_told s (fine-step s event valid).sound q r n top (and_from _ _ under (ap not f)) (stack_stays set v event untouched r h))

-- ---- an event that is kept

-- its deciders are in the set
record IsKept (set : Cells) (v : World) (event : Event) : Type 0 where
  inside : list_all (in_set set) (deciders v event) ≡ true
  decided : Decided set event

kept : (set : Cells) (v : World) (event : Event) → is_kept set v event ≡ true → is_closed_at set v event ≡ true
    → IsKept set v event
unfolding is_kept is_common is_closed_at deciders
kept set v (event.Tick n) k closed = record { inside = refl; decided = tt }
kept set v (event.Cmd lane issuer command) k closed = let all = rw k at closed in record { inside = all; decided = all }
kept set v (event.Deliver half) k closed = record { inside = rw k at closed; decided = tt }
kept set v (event.LoopDeliver path) k closed = record { inside = rw k at closed; decided = tt }
kept set v (event.Fire path) k closed = record { inside = rw k at closed; decided = tt }
kept set v (event.Open lane path table) k closed = record { inside = rw k at closed; decided = tt }
kept set v (event.Next lane path) k closed = record { inside = rw k at closed; decided = tt }
kept set v (event.Close lane path) k closed = record { inside = rw k at closed; decided = tt }

-- ---- the induction

pub isolated_from : {set : Cells} {v w : World} → Alike set v w → Belongs set v → Belongs set w → IsSound v → IsSound w
    → (events : List Event) → list_all is_valid_event events ≡ true → is_closed_from set v events ≡ true
    → Alike set (run_from v events) (run_from w (project_from set v events))
unfolding is_closed_from run_from project_from is_kept
isolated_from a b c sv sw [] valid closed = a
isolated_from {set} {v} {w} a b c sv sw (event ∷ events) valid closed =
    let ok = and_parts _ _ valid in
    let open_at = and_parts _ _ closed in
    by (is_kept set v event) refl ok.0 open_at.0
    (λ x a b c sx. isolated_from {v = step v event} {w = x} a b c (fine-step sv event ok.0).sound sx events ok.1 open_at.1)
  where
    by : (k : Bool) → is_kept set v event ≡ k → is_valid_event event ≡ true → is_closed_at set v event ≡ true
        → ((x : World) → Alike set (step v event) x → Belongs set (step v event) → Belongs set x → IsSound x
        → Alike set (run_from (step v event) events) (run_from x (project_from set (step v event) events)))
        → Alike set (run_from (step v event) events)
        (run_from w (if k then event ∷ project_from set (step v event) events else project_from set (step v event) events))
    by true k ok closed more =
        let e = kept set v event k closed in
        more (step w event) (alike-step a b c sv sw event ok k e.inside) (belongs-step b sv event e.decided)
        (belongs-step c sw event e.decided) (fine-step sw event ok).sound
    by false out ok closed more =
        let parts = or_parts (is_common event) (touches set v event) (left_out out) in
        more w (alike-left_out a b sv event ok parts.1 parts.0) (belongs-left_out a b sv event ok parts.1) c sw
      where
        left_out : is_kept set v event ≡ false → is_kept set v event ≡ false
        left_out e = e

same_cells : (set : Cells) (v w : World) → Alike set v w → (cell : CellName) → in_set set cell ≡ true → SameCell v w cell
unfolding in_set
same_cells set v w a (OfStack p) h = a.stacks p h
same_cells set v w a (OfPair home unit) h = a.pairs (home, unit) h

pub isolated : (events : List Event) → IsValid events → IsIsolated events
isolated events valid set closed cell inside =
    same_cells set _ _
    (isolated_from (record { clock = refl; stacks = λ p h. refl; pairs = λ k h. refl })
    (belongs-opening set) (belongs-opening set) sound-opening sound-opening events valid closed)
    cell inside

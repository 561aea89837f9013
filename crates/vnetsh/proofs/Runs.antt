-- The parts and the lines of a script are run one after another, and their events happen.
use Rattle.std.proofs.Common.{◌≡◌, ◌↔◌, ℕ, ◌≤◌, ◌++◌, Bool, true, false, List, [], ◌∷◌, length, Option, None, Some, Result, Ok, Err, OnOk, refl, sym, ap, subst, ◌∙◌, arith, append_assoc, append-nil, length-append}
use Rattle.std.specs.Prelude.{is_some, nat_le}
use Rattle.std.specs.List.{list_all}
use Rattle.std.proofs.lemmas.Bool.{and_parts, leb-false, leb-true}
use Rattle.std.proofs.lemmas.Result.{on_ok_weaker}
use Rattle.vn_cells.specs.declared.event.Event.{Event}
use Rattle.vn_cells.specs.declared.event.TheConstants.{EVENTS_MAX}
use Rattle.vn_cells.specs.declared.world.World.{World}
use Rattle.vn_cells.specs.machine.Step.{opening, run, run_from}
use Rattle.vn_cells.specs.texts.Schedule.{line_events, lines_events, part_events, parts_events}
use Rattle.vn_kernel.specs.Machines.{IsLong, Machine, stepped}
use Rattle.vn_kernel.specs.declared.kernel.StepFault.{StepFault}
use Rattle.vn_kernel.specs.declared.kernel.StepFault.TheVariants as fault
use Rattle.vn_laws.proofs.versions.Snapshots.{run-append}
use Rattle.vnetsh.specs.Runs.{Happen, TellsFault, TellsLong}

-- ---- one event

-- a kernel that is not spent takes an event exactly where there is room
step_tells : {A : Type 0} (old : Machine) (happened : Event) (result : Result A StepFault) → length old.events ≤ EVENTS_MAX
    → ((n : ℕ) → (result ≡ Err (fault.Long n)) ↔ IsLong n old) → (old.world ≡ None → result ≡ Err fault.NoMemory)
    → TellsLong result (old.events ++ happened ∷ [])
step_tells old happened (Ok x) room long spent = by old.world (nat_le EVENTS_MAX (length old.events)) refl refl
  where
    by : (w : Option World) (b : Bool) → old.world ≡ w → nat_le EVENTS_MAX (length old.events) ≡ b → length (old.events ++ happened ∷ []) ≤ EVENTS_MAX
    by None b e full = let is : Ok x ≡ Err fault.NoMemory = spent e in absurd (cc)
    by (Some w) true e full =
        let most = leb-true EVENTS_MAX (length old.events) full in
        let is : Ok x ≡ Err (fault.Long EVENTS_MAX) = (long EVENTS_MAX).1 (record { standing = ap is_some e; counted = omega (arith, room, most); full = refl }) in
        absurd (cc)
    by (Some w) false e full = omega (arith, leb-false EVENTS_MAX (length old.events) full, length-append old.events (happened ∷ []))
step_tells old happened (Err (fault.Long n)) room long spent =
    let is = (long n).0 refl in omega (arith, is.counted, is.full, length-append old.events (happened ∷ []))
step_tells old happened (Err fault.NoMemory) room long spent = tt

-- one event happens
pub step_happens : {A : Type 0} (old new : Machine) (happened : Event) (result : Result A StepFault)
    → OnOk result (new ≡ stepped happened old) → length old.events ≤ EVENTS_MAX
    → ((n : ℕ) → (result ≡ Err (fault.Long n)) ↔ IsLong n old) → (old.world ≡ None → result ≡ Err fault.NoMemory)
    → Happen (happened ∷ []) result old.events new.events
step_happens old new happened result done room long spent = (
  on_ok_weaker result (λ at. ap (λ (m : Machine). m.events) at) done,
  step_tells old happened result room long spent,
)

-- ---- events behind others

-- the world after some events and more
pub run_more : (old events : List Event) → run (old ++ events) ≡ run_from (run old) events
run_more old events = run-append opening old events

-- what is too long is so where there is as much or more
pub longer : (e : StepFault) (some more : List Event) → length some ≤ length more → TellsFault e some → TellsFault e more
longer (fault.Long n) some more most long = omega (arith, long, most)
longer fault.NoMemory some more most long = tt

-- some events happened, and then the rest
pub happen_then : {A : Type 0} (result : Result A StepFault) (old mid new first rest : List Event) → mid ≡ old ++ first
    → Happen rest result mid new → Happen (first ++ rest) result old new
happen_then result old mid new first rest before after =
    let all = ap (λ es. es ++ rest) before ∙ append_assoc old first rest in
    (on_ok_weaker result (λ at. at ∙ all) after.0, subst (TellsLong result) all after.1)

-- ---- items that are run in turn

-- the events of items are those of each, in the world that those before it left
pub record AreInTurn {X : Type 0} (one : World → X → List Event) (all : World → List X → List Event) : Type 0 where
  pub none : (w : World) → all w [] ≡ []
  pub next : (w : World) (x : X) (rest : List X) → all w (x ∷ rest) ≡ one w x ++ all (run_from w (one w x)) rest

pub lines_in_turn : AreInTurn line_events lines_events
unfolding lines_events
lines_in_turn = record { none = λ w. refl; next = λ w x rest. refl }

pub parts_in_turn : AreInTurn part_events parts_events
unfolding parts_events
parts_in_turn = record { none = λ w. refl; next = λ w x rest. refl }

-- what holds of all that are left holds of the next, and of the rest
pub next_and_rest : {X : Type 0} (p : X → Bool) (left : List X) (x : X) (rest : List X) → left ≡ x ∷ rest → list_all p left ≡ true
    → (p x ≡ true) × (list_all p rest ≡ true)
next_and_rest p left x rest is all = and_parts (p x) (list_all p rest) (sym (ap (list_all p) is) ∙ all)

-- what has happened and what the items left make happen is the whole
pub record AreLeft {X : Type 0} (all : World → List X → List Event) (old : List Event) (items : List X) (now : List Event) (left : List X) : Type 0 where
  pub whole : now ++ all (run now) left ≡ old ++ all (run old) items
  pub room : length now ≤ EVENTS_MAX

module _ {X : Type 0} (one : World → X → List Event) (all : World → List X → List Event) (turn : AreInTurn one all) where
  -- before the first
  pub all_left : (old : List Event) (items left : List X) → left ≡ items → length old ≤ EVENTS_MAX → AreLeft all old items old left
  all_left old items left same room = subst (AreLeft all old items old) (sym same) (record { whole = refl; room = room })

  -- after the last
  pub none_left : (old : List Event) (items : List X) (now : List Event) (left : List X) → left ≡ [] → AreLeft all old items now left
      → now ≡ old ++ all (run old) items
  none_left old items now left none at =
      sym (append-nil now) ∙ ap (λ es. now ++ es) (sym (ap (all (run now)) none ∙ turn.none (run now))) ∙ at.whole

  -- what happens next, and then
  next_of : (now : List Event) (x : X) (rest : List X)
      → (now ++ one (run now) x) ++ all (run (now ++ one (run now) x)) rest ≡ now ++ all (run now) (x ∷ rest)
  next_of now x rest =
      append_assoc now (one (run now) x) _
      ∙ ap (λ w. now ++ (one (run now) x ++ all w rest)) (run_more now (one (run now) x))
      ∙ ap (λ es. now ++ es) (sym (turn.next (run now) x rest))

  -- the next item is run
  pub fewer_left : (old : List Event) (items : List X) (now new : List Event) (left : List X) (x : X) (rest : List X)
      → AreLeft all old items now left → left ≡ x ∷ rest → new ≡ now ++ one (run now) x → length (now ++ one (run now) x) ≤ EVENTS_MAX
      → AreLeft all old items new rest
  fewer_left old items now new left x rest at is more few =
      subst (λ es. AreLeft all old items es rest) (sym more)
      (record { whole = next_of now x rest ∙ ap (λ l. now ++ all (run now) l) (sym is) ∙ at.whole; room = few })

  -- where none are left, the whole has room
  pub none_long : (old : List Event) (items : List X) (now : List Event) (left : List X) → left ≡ [] → AreLeft all old items now left
      → length (old ++ all (run old) items) ≤ EVENTS_MAX
  none_long old items now left none at =
      subst (λ es. length es ≤ EVENTS_MAX) (none_left old items now left none at) at.room

  -- where the next item is too long, the whole is
  pub next_long : (old : List Event) (items : List X) (now : List Event) (left : List X) (x : X) (rest : List X) (e : StepFault)
      → AreLeft all old items now left → left ≡ x ∷ rest → TellsFault e (now ++ one (run now) x) → TellsFault e (old ++ all (run old) items)
  next_long old items now left x rest e at is long =
      subst (TellsFault e) (next_of now x rest ∙ ap (λ l. now ++ all (run now) l) (sym is) ∙ at.whole)
      (longer e (now ++ one (run now) x) _ (omega (arith, length-append (now ++ one (run now) x) (all (run (now ++ one (run now) x)) rest))) long)

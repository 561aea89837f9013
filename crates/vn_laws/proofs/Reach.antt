-- How far an event reaches.
use Rattle.std.proofs.Common.{◌≡◌, ◌≢◌, ℕ, Bool, true, false, List, [], ◌∷◌, ◌++◌, Option, Some, None, refl, sym, ap, ◌∙◌, subst, arith}
use Rattle.std.specs.Prelude.{if◌then◌else◌}
use Rattle.std.specs.Option.{is_some, option_map}
use Rattle.std.specs.List.{list_any}
use Rattle.std.proofs.lemmas.Bool.{true≢false}
use Rattle.vn_types.specs.declared.errno.Errno.{Errno}
use Rattle.vn_types.specs.declared.errno.Errno.TheVariants as errno
use Rattle.vn_types.specs.declared.half.Half.{Half}
use Rattle.vn_types.specs.declared.interface.Side.TheVariants.{A, B}
use Rattle.vn_types.specs.Refusals.{first_refusal}
use Rattle.vn_types.proofs.Ancestors.{any-above}
use Rattle.vn_rules.specs.declared.outcome.Outcome.TheVariants as outcome
use Rattle.vn_rules.specs.Rules.{Answer, answer, answer_by, refused}
use Rattle.vn_rules.specs.Scenes.{SceneOf, link_of}
use Rattle.vn_cells.specs.declared.command.Command.{Command}
use Rattle.vn_cells.specs.declared.command.Command.TheVariants as command
use Rattle.vn_cells.specs.declared.event.Event.{Event}
use Rattle.vn_cells.specs.declared.event.Event.TheVariants as event
use Rattle.vn_cells.specs.declared.transcript.What.TheVariants as what
use Rattle.vn_cells.specs.declared.world.End.{End}
use Rattle.vn_cells.specs.declared.world.Live.{Live}
use Rattle.vn_cells.specs.declared.world.Pair.{Pair}
use Rattle.vn_cells.specs.declared.world.Stack.{Stack}
use Rattle.vn_cells.specs.declared.world.World.{World}
use Rattle.vn_cells.specs.world.Names.{Path, Key, path_eq, above, half_eq, half_name, half_on, has_half, halves_of}
use Rattle.vn_cells.specs.world.World.{stack_at, pair_at, is_alive, ifs_in, common_of, entry_of, live_map, edit_stack}
use Rattle.vn_cells.specs.machine.Reach.{Reach, Near, MakesJail, reach}
use Rattle.vn_cells.specs.commands.Jails.{one_more_below, recount_above, created}
use Rattle.vn_cells.specs.machine.Commands.{near_rule, far_rule}
use Rattle.vn_cells.specs.machine.Local.{scene_in, with_link, live_after, end_after, pair_after, placed, placed_if, told, halves_at, near_answer, local, act_by}
use Rattle.vn_cells.specs.machine.Step.{ran, entered, ran_by, commanded, far_refusal_at, step}
use Rattle.vn_laws.specs.Locality.{ChangesNear, AddsEntry, AddsJail, answered_near}
use Rattle.vn_laws.proofs.edits.Cells.{path_eq-same, apart, own_edit, other_edit, pair_at-edit_stack, clock-edit_stack}
use Rattle.vn_laws.proofs.local.Placed.{placed_stack, placed_pair, placed_clock}
use Rattle.vn_laws.proofs.jails.Created.{MayCreate, may_create, more, fresh, created_stack, created_pair, created_clock}

-- ---- near a stack

-- a pair of which no half stands there
pair_apart : (halves : List Half) (s : SceneOf Half) (k : Key) (o : Option Pair) → has_half halves (half_on A k) ≡ false
    → has_half halves (half_on B k) ≡ false → option_map (pair_after halves s k) o ≡ o
pair_apart halves s k None a b = refl
pair_apart halves s k (Some pair) a b =
    λ i. Some (record { a = end_is (half_on A k) pair.a a i; b = end_is (half_on B k) pair.b b i })
  where
    end_is : (h : Half) (end : End) → has_half halves h ≡ false → end_after halves s h end ≡ end
    end_is h end e = ap (λ c. if c then with_link (link_of half_eq h s) end else end) e

pub placed-near : (p : Path) (scene : SceneOf Half) (w : World)
    → ChangesNear p (live_map (live_after scene)) scene w (placed p (halves_at w p) scene w)
placed-near p scene w = record {
  clock = placed_clock p (halves_at w p) scene w;
  own = placed_stack p (halves_at w p) scene w p
      ∙ ap (λ b. if b then live_map (live_after scene) (stack_at w p) else stack_at w p) (path_eq-same p);
  stacks = λ q ne. placed_stack p (halves_at w p) scene w q
      ∙ ap (λ b. if b then live_map (live_after scene) (stack_at w q) else stack_at w q) (apart q p ne);
  pairs = placed_pair p (halves_at w p) scene w;
  apart = λ k a b. placed_pair p (halves_at w p) scene w k ∙ pair_apart (halves_at w p) scene k (pair_at w k) a b;
}

-- a change near a stack, and an entry there
then_entry : (p : Path) (f g h : Stack → Stack) (scene : SceneOf Half) (v w : World) → ChangesNear p f scene v w
    → g (f (stack_at v p)) ≡ h (stack_at v p) → ChangesNear p h scene v (edit_stack p g w)
then_entry p f g h scene v w c e = record {
  clock = clock-edit_stack p g w ∙ c.clock;
  own = own_edit p g w ∙ ap g c.own ∙ e;
  stacks = λ q ne. other_edit p g w q ne ∙ c.stacks q ne;
  pairs = λ k. pair_at-edit_stack p g w k ∙ c.pairs k;
  apart = λ k a b. pair_at-edit_stack p g w k ∙ c.apart k a b;
}

-- ---- a command

abbrev heard_near : World → ℕ → Path → Command → Live → Answer (SceneOf Half)
heard_near w lane p command live =
    answer (scene_in w live.parts) (near_rule half_eq half_name (common_of w) command (scene_in w live.parts))

pub near-answers : (w : World) (lane : ℕ) (p : Path) (command : Command) (live : Live) → reach p command ≡ Near
    → (stack_at w p).live ≡ Some live
    → ChangesNear p (answered_near w.clock lane command (heard_near w lane p command live)) (heard_near w lane p command live).left w
    (step w (event.Cmd lane p command))
unfolding step commanded ran_by act_by local near_answer placed_if told
near-answers w lane p command live near lives =
    subst (λ (x : Option Live × Reach). ChangesNear p (answered_near w.clock lane command (heard_near w lane p command live))
    (heard_near w lane p command live).left w
    (if is_some x.0 then ran_by lane p command x.1 w else entered w.clock lane p command (refused errno.NoEnt w)))
    (λ i. (sym lives i, sym near i))
    acted
  where
    answered : Stack → Stack
    answered s = record s {
      entries = s.entries ++ entry_of w.clock (what.Cmd lane command (heard_near w lane p command live).outcome) ∷ [];
      readers = (stack_at w p).readers;
    }

    acted : ChangesNear p (answered_near w.clock lane command (heard_near w lane p command live)) (heard_near w lane p command live).left w
        (ran_by lane p command Near w)
    acted =
        rw lives
        (subst (λ hs. ChangesNear p (answered_near w.clock lane command (heard_near w lane p command live)) (heard_near w lane p command live).left w
        (edit_stack p answered (placed p hs (heard_near w lane p command live).left w)))
        (ap (λ o. halves_of (ifs_in o)) lives)
        (then_entry p (live_map (live_after (heard_near w lane p command live).left)) answered
        (answered_near w.clock lane command (heard_near w lane p command live))
        (heard_near w lane p command live).left w _ (placed-near p (heard_near w lane p command live).left w) refl))

pub refused-adds : (w : World) (lane : ℕ) (p : Path) (command : Command) (code : Errno) → far_refusal_at w p command ≡ Some code
    → AddsEntry p (entry_of w.clock (what.Cmd lane command (outcome.Refused code))) w (step w (event.Cmd lane p command))
unfolding step commanded ran_by far_rule answer_by
refused-adds w lane p command code e = by (is_alive w p) e
  where
    entry : (f : Errno) → AddsEntry p (entry_of w.clock (what.Cmd lane command (outcome.Refused f))) w (entered w.clock lane p command (refused f w))
    entry f = record {
      clock = clock-edit_stack p _ w;
      own = own_edit p _ w;
      stacks = λ q ne. other_edit p _ w q ne;
      pairs = λ k. pair_at-edit_stack p _ w k;
    }

    far_adds : (r : Reach) → first_refusal (far_rule (common_of w) p r w).refusals ≡ Some code
        → AddsEntry p (entry_of w.clock (what.Cmd lane command (outcome.Refused code))) w
        (entered w.clock lane p command (answer w (far_rule (common_of w) p r w)))
    far_adds r f =
        subst (λ o. AddsEntry p (entry_of w.clock (what.Cmd lane command (outcome.Refused code))) w
        (entered w.clock lane p command (answer_by o w (far_rule (common_of w) p r w).otherwise)))
        (sym f) (entry code)

    far : (r : Reach) → first_refusal (far_rule (common_of w) p r w).refusals ≡ Some code
        → AddsEntry p (entry_of w.clock (what.Cmd lane command (outcome.Refused code))) w (ran_by lane p command r w)
    far Near f = cc
    far r f = far_adds r f

    by : (b : Bool) → (if b then first_refusal (far_rule (common_of w) p (reach p command) w).refusals else Some errno.NoEnt) ≡ Some code
        → AddsEntry p (entry_of w.clock (what.Cmd lane command (outcome.Refused code))) w
        (if b then ran_by lane p command (reach p command) w else entered w.clock lane p command (refused errno.NoEnt w))
    by true f = far (reach p command) f
    by false f =
        let same : errno.NoEnt ≡ code = cc in
        subst (λ c. AddsEntry p (entry_of w.clock (what.Cmd lane command (outcome.Refused c))) w (entered w.clock lane p command (refused errno.NoEnt w)))
        same (entry errno.NoEnt)

pub dead-refused : (w : World) (p : Path) (command : Command) → is_alive w p ≡ false → far_refusal_at w p command ≡ Some errno.NoEnt
dead-refused w p command dead =
    ap (λ b. if b then first_refusal (far_rule (common_of w) p (reach p command) w).refusals else Some errno.NoEnt) dead

-- ---- a creation

module _ (w : World) (lane : ℕ) (issuer path : Path) (limit : ℕ) (accepted : far_refusal_at w issuer (command.JailCreate path limit) ≡ None) where
  abbrev pub new : Path
  new = issuer ++ path

  abbrev creation_event : Event
  creation_event = event.Cmd lane issuer (command.JailCreate path limit)

  abbrev entry : Stack → Stack
  entry s = ran w.clock lane (command.JailCreate path limit) outcome.Done s

  lives_and : (b : Bool) (o : Option Errno) → (if b then o else Some errno.NoEnt) ≡ None → (b ≡ true) × (o ≡ None)
  lives_and true o e = (refl, e)
  lives_and false o e = cc

  parts : (is_alive w issuer ≡ true) × (first_refusal (far_rule (common_of w) issuer (MakesJail new limit) w).refusals ≡ None)
  unfolding reach
  parts = lives_and (is_alive w issuer) (first_refusal (far_rule (common_of w) issuer (MakesJail new limit) w).refusals) accepted

  pub may : MayCreate w new
  unfolding far_rule
  may = may_create (common_of w) new limit w parts.1

  -- the step is the creation, and the entry
  after : step w creation_event ≡ edit_stack issuer entry (created w.clock new limit w)
  unfolding step commanded reach ran_by far_rule answer_by
  after = rw (parts.0, parts.1) refl

  new_apart : new ≢ issuer
  new_apart e = true≢false (sym parts.0 ∙ ap (is_alive w) (sym e) ∙ may.dead)

  -- a jail is not above itself
  not_above : list_any (path_eq new) (above new) ≡ false
  not_above = any-above new new ∙ grind (arith, path_eq-same new)

  -- the stack of another path after the effect
  created_apart : (q : Path) (b : Bool) → q ≢ new → list_any (path_eq q) (above new) ≡ b
      → stack_at (created w.clock new limit w) q ≡ (if b then one_more_below (stack_at w q) else stack_at w q)
  created_apart q b ne up =
      created_stack w.clock new limit w q
      ∙ ap (λ c. if c then fresh w.clock limit (recount_above new more q (stack_at w q)) else recount_above new more q (stack_at w q)) (apart q new ne)
      ∙ ap (λ c. if c then one_more_below (stack_at w q) else stack_at w q) up

  for_issuer : (b : Bool) → list_any (path_eq issuer) (above new) ≡ b
      → stack_at (step w creation_event) issuer ≡ entry (if b then one_more_below (stack_at w issuer) else stack_at w issuer)
  for_issuer b up =
      ap (λ v. stack_at v issuer) after ∙ own_edit issuer entry _
      ∙ ap entry (created_apart issuer b (λ e. new_apart (sym e)) up)

  for_other : (q : Path) → q ≢ issuer → stack_at (step w creation_event) q ≡ stack_at (created w.clock new limit w) q
  for_other q ne = ap (λ v. stack_at v q) after ∙ other_edit issuer entry _ q ne

  pub adds-jail : AddsJail issuer new limit (entry_of w.clock (what.Cmd lane (command.JailCreate path limit) outcome.Done)) w (step w creation_event)
  adds-jail = record {
    clock = ap (λ (v : World). v.clock) after ∙ clock-edit_stack issuer entry _ ∙ created_clock w.clock new limit w;
    own = for_other new new_apart ∙ created_stack w.clock new limit w new
        ∙ ap (λ c. if c then fresh w.clock limit (recount_above new more new (stack_at w new)) else recount_above new more new (stack_at w new)) (path_eq-same new)
        ∙ ap (λ c. fresh w.clock limit (if c then one_more_below (stack_at w new) else stack_at w new)) not_above;
    ancestors = λ q up ne. for_other q ne ∙ created_apart q true (λ e. true≢false (sym up ∙ ap (λ r. list_any (path_eq r) (above new)) e ∙ not_above)) up;
    issuer_above = for_issuer true;
    issuer_host = for_issuer false;
    elsewhere = λ q not_new ne up. for_other q ne ∙ created_apart q false not_new up;
    pairs = λ k. ap (λ v. pair_at v k) after ∙ pair_at-edit_stack issuer entry _ k ∙ created_pair w.clock new limit w k;
  }

-- How far an event reaches.
use Rattle.std.specs.Prelude.{Bool, ◌≡◌, ◌≢◌, ◌++◌, ℕ, true, false, Some}
use Rattle.std.specs.Option.{option_map}
use Rattle.std.specs.List.{list_any}
use Rattle.vn_types.specs.declared.half.Half.{Half}
use Rattle.vn_types.specs.declared.interface.Side.TheVariants.{A, B}
use Rattle.vn_types.specs.declared.errno.Errno.{Errno}
use Rattle.vn_rules.specs.declared.outcome.Outcome.TheVariants as outcome
use Rattle.vn_rules.specs.Rules.{Answer, answer}
use Rattle.vn_rules.specs.Scenes.{SceneOf}
use Rattle.vn_cells.specs.declared.cell.Cells.{Cells}
use Rattle.vn_cells.specs.declared.command.Command.{Command}
use Rattle.vn_cells.specs.declared.command.Command.TheVariants as command
use Rattle.vn_cells.specs.declared.event.Event.{Event}
use Rattle.vn_cells.specs.declared.event.Event.TheVariants as event
use Rattle.vn_cells.specs.declared.transcript.Entry.{Entry}
use Rattle.vn_cells.specs.declared.transcript.What.TheVariants as what
use Rattle.vn_cells.specs.declared.world.Live.{Live}
use Rattle.vn_cells.specs.declared.world.Stack.{Stack}
use Rattle.vn_cells.specs.declared.world.World.{World}
use Rattle.vn_cells.specs.world.Names.{Path, Key, path_eq, above, half_eq, half_name, half_on, has_half}
use Rattle.vn_cells.specs.world.World.{stack_at, pair_at, common_of, entry_of, noting, live_map}
use Rattle.vn_cells.specs.machine.Commands.{near_rule}
use Rattle.vn_cells.specs.machine.Local.{scene_in, live_after, pair_after, halves_at}
use Rattle.vn_cells.specs.commands.Jails.{construct, one_more_below}
use Rattle.vn_cells.specs.machine.Step.{ran, step}
use Rattle.vn_cells.specs.sets.Sets.{in_stacks}

-- every stack but that of a path is as it was
abbrev pub SameStacksBut : Path → World → World → Type 0
SameStacksBut p old new = (q : Path) → q ≢ p → stack_at new q ≡ stack_at old q

-- every pair is as it was
abbrev pub SamePairs : World → World → Type 0
SamePairs old new = (k : Key) → pair_at new k ≡ pair_at old k

-- a stack and the ends of its halves are as given, and nothing else changes
pub record ChangesNear (p : Path) (stack : Stack → Stack) (scene : SceneOf Half) (old new : World)
    : Type 0 where
  -- what all cells share is as it was
  pub clock : new.clock ≡ old.clock
  -- the acting stack
  pub own : stack_at new p ≡ stack (stack_at old p)
  -- every other stack
  pub stacks : SameStacksBut p old new
  -- the pairs
  pub pairs : (k : Key)
      → pair_at new k ≡ option_map (pair_after (halves_at old p) scene k) (pair_at old k)
  -- a pair of which no half stands there
  pub apart : (k : Key) → has_half (halves_at old p) (half_on A k) ≡ false
      → has_half (halves_at old p) (half_on B k) ≡ false → pair_at new k ≡ pair_at old k

-- the stack after a command near it
abbrev pub answered_near : ℕ → ℕ → Command → Answer (SceneOf Half) → Stack → Stack
answered_near clock lane command a s =
    ran clock lane command a.outcome (live_map (live_after a.left) s)

-- the transcript of the path has one more entry, and nothing else changes
pub record AddsEntry (p : Path) (entry : Entry) (old new : World) : Type 0 where
  -- what all cells share is as it was
  pub clock : new.clock ≡ old.clock
  -- the entry
  pub own : stack_at new p ≡ noting entry (stack_at old p)
  -- every other stack
  pub stacks : SameStacksBut p old new
  -- every pair
  pub pairs : SamePairs old new

-- a jail of that limit is made: it is constructed, each of its ancestors other than host has one
-- more living descendant, the issuer's transcript has the entry, and nothing else changes
pub record AddsJail (issuer p : Path) (limit : ℕ) (entry : Entry) (old new : World) : Type 0 where
  -- what all cells share is as it was
  pub clock : new.clock ≡ old.clock
  -- the jail
  pub own : stack_at new p
      ≡ construct old.clock (Some (record { limit = limit; living = 0 })) (stack_at old p)
  -- its ancestors
  pub ancestors : (q : Path) → list_any (path_eq q) (above p) ≡ true → q ≢ issuer
      → stack_at new q ≡ one_more_below (stack_at old q)
  -- the issuer, where it is one of them
  pub issuer_above : list_any (path_eq issuer) (above p) ≡ true
      → stack_at new issuer ≡ noting entry (one_more_below (stack_at old issuer))
  -- the issuer, where it is host
  pub issuer_host : list_any (path_eq issuer) (above p) ≡ false
      → stack_at new issuer ≡ noting entry (stack_at old issuer)
  -- every other stack
  pub elsewhere : (q : Path) → q ≢ p → q ≢ issuer → list_any (path_eq q) (above p) ≡ false
      → stack_at new q ≡ stack_at old q
  -- every pair
  pub pairs : SamePairs old new

-- ---- a command

-- a command near a living stack leaves what its rule says, and its entry
abbrev pub AnswersNear : World → ℕ → Path → Command → Live → Type 0
AnswersNear w lane p command live =
    let scene = scene_in w live.parts in
    let a = answer scene (near_rule half_eq half_name (common_of w) command scene) in
    ChangesNear p (answered_near w.clock lane command a) a.left w
    (step w (event.Cmd lane p command))

-- a refused command leaves its entry
abbrev pub AddsRefusal : World → ℕ → Path → Command → Errno → Type 0
AddsRefusal w lane p command code =
    AddsEntry p (entry_of w.clock (what.Cmd lane command (outcome.Refused code))) w
    (step w (event.Cmd lane p command))

-- a creation that is not refused makes the jail, and leaves its entry
abbrev pub AnswersCreation : World → ℕ → Path → Path → ℕ → Type 0
AnswersCreation w lane issuer path limit =
    let made = command.JailCreate path limit in
    AddsJail issuer (issuer ++ path) limit (entry_of w.clock (what.Cmd lane made outcome.Done)) w
    (step w (event.Cmd lane issuer made))

-- whether an event has an entry in a stack of the set, as each command has
abbrev pub writes_in : Cells → Event → Bool
writes_in set (event.Cmd lane path command) = in_stacks set path
writes_in set _ = false

-- A set with every path of a history keeps the whole history.
use Rattle.std.proofs.Common.{◌≡◌, ℕ, ◌+◌, Bool, true, false, ◌||◌, ◌≤◌, List, [], ◌∷◌, length, length-append, Option, Some, None, refl, ap, ◌∙◌, arith}
use Rattle.std.specs.Prelude.{if◌then◌else◌}
use Rattle.std.specs.List.{list_all}
use Rattle.std.proofs.lemmas.Bool.{and_parts}
use Rattle.vn_types.specs.declared.half.Half.{Half}
use Rattle.vn_types.specs.declared.errno.Errno.TheVariants as errno
use Rattle.vn_rules.specs.Rules.{Answer, refused}
use Rattle.vn_rules.specs.Scenes.{SceneOf}
use Rattle.vn_cells.specs.declared.cell.Cells.{Cells}
use Rattle.vn_cells.specs.declared.command.Command.{Command}
use Rattle.vn_cells.specs.declared.event.Event.{Event}
use Rattle.vn_cells.specs.declared.event.Event.TheVariants as event
use Rattle.vn_cells.specs.declared.world.Stack.{Stack}
use Rattle.vn_cells.specs.declared.world.World.{World}
use Rattle.vn_cells.specs.world.Names.{Path, path_eq}
use Rattle.vn_cells.specs.world.World.{stack_at, common_of, live_map}
use Rattle.vn_cells.specs.machine.Reach.{reach}
use Rattle.vn_cells.specs.machine.Commands.{far_rule}
use Rattle.vn_cells.specs.machine.Local.{here_at, live_after, halves_at, placed_if, told, local, act, act_by}
use Rattle.vn_cells.specs.machine.Step.{ran, entered, commanded, step}
use Rattle.vn_cells.specs.sets.Changed.{touches, is_common, is_kept, project_from}
use Rattle.vn_laws.specs.Locality.{writes_in}
use Rattle.vn_laws.proofs.edits.Cells.{own_edit}
use Rattle.vn_laws.proofs.local.Placed.{placed_stack}
use Rattle.vn_laws.proofs.rule.Answers.{answered, reached, either_way}
use Rattle.vn_laws.proofs.Commands.{goes-far}
use Rattle.vn_laws.proofs.Touched.{touched}

-- how many entries a path's transcript has
abbrev told_at : Path → World → ℕ
told_at p w = length (stack_at w p).entries

-- ---- a command writes to the transcript of its path

entered-longer : (p : Path) (lane : ℕ) (command : Command) (w : World) (clock : ℕ) (a : Answer World) → told_at p w ≤ told_at p a.left
    → told_at p w + 1 ≤ told_at p (entered clock lane p command a)
entered-longer p lane command w clock a e =
    let n : told_at p (entered clock lane p command a) ≡ told_at p a.left + 1 =
    ap (λ (s : Stack). length s.entries) (own_edit p (ran clock lane command a.outcome) a.left)
    ∙ length-append (stack_at a.left p).entries _ in
    omega arith

placed_if-told : (p : Path) (halves : List Half) (o : Option (SceneOf Half)) (w : World) → told_at p (placed_if p halves o w) ≡ told_at p w
unfolding placed_if
placed_if-told p halves None w = refl
placed_if-told p halves (Some s) w = ap (λ (t : Stack). length t.entries) (placed_stack p halves s w p) ∙ by (path_eq p p)
  where
    by : (b : Bool) → length (if b then live_map (live_after s) (stack_at w p) else stack_at w p).entries ≡ told_at p w
    by true = refl
    by false = refl

act-longer : (p : Path) (lane : ℕ) (command : Command) (w : World) → told_at p w + 1 ≤ told_at p (act w p (event.Cmd lane p command))
unfolding act_by local told
act-longer p lane command w =
    let back = placed_if p (halves_at w p) (local (common_of w) p (here_at w p) (event.Cmd lane p command)).scene w in
    let same : told_at p back ≡ told_at p w = placed_if-told p (halves_at w p) _ w in
    let n : told_at p (act w p (event.Cmd lane p command)) ≡ told_at p back + 1 =
    ap (λ (s : Stack). length s.entries) (own_edit p _ back) ∙ length-append (stack_at back p).entries _ in
    omega arith

command-longer : (p : Path) (lane : ℕ) (command : Command) (w : World) → told_at p w + 1 ≤ told_at p (commanded lane p command w)
command-longer p lane command w =
    either_way (λ v. told_at p w + 1 ≤ told_at p v) lane p command w
    (λ lives. reached (λ v. told_at p w + 1 ≤ told_at p v) lane p command (reach p command) w (act-longer p lane command w)
    (entered-longer p lane command w w.clock _
    (answered (λ v. told_at p w ≤ told_at p v) (far_rule (common_of w) p (reach p command) w) (omega arith)
    (λ none. (goes-far (common_of w) p (reach p command) w).told p))))
    (entered-longer p lane command w w.clock (refused errno.NoEnt w) (omega arith))

-- a command in a stack of the set touches the set
writes-touched : (set : Cells) (w : World) (event : Event) → writes_in set event ≡ true → touches set w event ≡ true
unfolding step
writes-touched set w (event.Cmd lane p command) inside =
    touched set w (event.Cmd lane p command) p inside (λ e.
    let more = command-longer p lane command w in
    let same : told_at p w ≡ told_at p (commanded lane p command w) = ap (λ (s : Stack). length s.entries) e in
    omega arith)
writes-touched set w _ inside = cc

pub keeps-all : (set : Cells) (w : World) (events : List Event) → list_all (writes_in set) events ≡ true
    → project_from set w events ≡ events
unfolding project_from is_kept
keeps-all set w [] all = refl
keeps-all set w (event ∷ events) all =
    let parts = and_parts _ _ all in
    by (is_common event) (touches set w event) (writes-touched set w event parts.0)
    (keeps-all set (step w event) events parts.1)
  where
    by : (a b : Bool) → b ≡ true → project_from set (step w event) events ≡ events
        → (if a || b then event ∷ project_from set (step w event) events else project_from set (step w event) events) ≡ event ∷ events
    by true b e more = ap (λ es. event ∷ es) more
    by false true e more = ap (λ es. event ∷ es) more
    by false false e more = cc

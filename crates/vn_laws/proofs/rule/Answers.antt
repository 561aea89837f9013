-- A rule of the world, whatever it says: what is true of its answer, and of a command that it answers.
use Rattle.std.proofs.Common.{◌≡◌, ℕ, Bool, true, false, Option, Some, None, refl}
use Rattle.std.specs.Prelude.{if◌then◌else◌}
use Rattle.vn_types.specs.declared.errno.Errno.{Errno}
use Rattle.vn_types.specs.declared.errno.Errno.TheVariants as errno
use Rattle.vn_types.specs.Refusals.{first_refusal}
use Rattle.vn_rules.specs.Rules.{Answer, Rule, answer, answer_by, refused}
use Rattle.vn_cells.specs.declared.command.Command.{Command}
use Rattle.vn_cells.specs.declared.event.Event.TheVariants as event
use Rattle.vn_cells.specs.declared.world.World.{World}
use Rattle.vn_cells.specs.world.Names.{Path}
use Rattle.vn_cells.specs.world.World.{common_of, is_alive}
use Rattle.vn_cells.specs.machine.Reach.{Reach, Near, reach}
use Rattle.vn_cells.specs.machine.Commands.{far_rule}
use Rattle.vn_cells.specs.machine.Local.{act}
use Rattle.vn_cells.specs.machine.Step.{ran, entered, ran_by, commanded}
use Rattle.vn_laws.proofs.edits.Shapes.{SameShape, shape-edit_stack}

-- what is true of a state, and of what a rule leaves that is not refused, is true of the answer
pub answered : {S : Type 0} {s : S} (P : S → Type 0) (rule : Rule S) → P s
    → (first_refusal rule.refusals ≡ None → P rule.otherwise.left) → P (answer s rule).left
unfolding answer_by
answered {S} {s} P rule same otherwise = by (first_refusal rule.refusals) refl
  where
    by : (o : Option Errno) → first_refusal rule.refusals ≡ o → P (answer_by o s rule.otherwise).left
    by None e = otherwise e
    by (Some errno) e = same

-- an entry leaves what lives
pub shape-entered : (clock lane : ℕ) (issuer : Path) (command : Command) (a : Answer World)
    → SameShape a.left (entered clock lane issuer command a)
shape-entered clock lane issuer command a = shape-edit_stack issuer (ran clock lane command a.outcome) a.left (λ s. refl)

-- near its stack, or by a rule of the world
pub reached : (P : World → Type 0) (lane : ℕ) (issuer : Path) (command : Command) (r : Reach) (w : World)
    → P (act w issuer (event.Cmd lane issuer command))
    → P (entered w.clock lane issuer command (answer w (far_rule (common_of w) issuer r w))) → P (ran_by lane issuer command r w)
unfolding ran_by
reached P lane issuer command Near w near far = near
reached P lane issuer command _ w near far = far

-- where the issuer lives, and where it does not
pub either_way : (P : World → Type 0) (lane : ℕ) (issuer : Path) (command : Command) (w : World)
    → (is_alive w issuer ≡ true → P (ran_by lane issuer command (reach issuer command) w))
    → P (entered w.clock lane issuer command (refused errno.NoEnt w)) → P (commanded lane issuer command w)
unfolding commanded
either_way P lane issuer command w lives dead = by (is_alive w issuer) refl
  where
    by : (b : Bool) → is_alive w issuer ≡ b
        → P (if b then ran_by lane issuer command (reach issuer command) w else entered w.clock lane issuer command (refused errno.NoEnt w))
    by true e = lives e
    by false e = dead

-- what entries keep, and the event in its stack, and the rule that is not refused, is true after the command
pub commanded-keeps : (P : World → Type 0) (lane : ℕ) (issuer : Path) (command : Command) (w : World) → P w
    → ((a : Answer World) → P a.left → P (entered w.clock lane issuer command a))
    → P (act w issuer (event.Cmd lane issuer command))
    → (first_refusal (far_rule (common_of w) issuer (reach issuer command) w).refusals ≡ None
    → P (far_rule (common_of w) issuer (reach issuer command) w).otherwise.left)
    → P (commanded lane issuer command w)
commanded-keeps P lane issuer command w same entry near far =
    either_way P lane issuer command w
    (λ lives. reached P lane issuer command (reach issuer command) w near
    (entry _ (answered P (far_rule (common_of w) issuer (reach issuer command) w) same far)))
    (entry _ same)

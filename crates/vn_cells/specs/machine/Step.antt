-- One event of the machine, and a whole run.
use Rattle.std.specs.Prelude.{ℕ, Bool, true, false, List, [], ◌∷◌, Option, Some, None, if◌then◌else◌}
use Rattle.vn_types.specs.declared.errno.Errno.{Errno}
use Rattle.vn_types.specs.declared.errno.Errno.TheVariants as errno
use Rattle.vn_types.specs.declared.half.Half.{Half}
use Rattle.vn_types.specs.Refusals.{first_refusal}
use Rattle.vn_rules.specs.declared.outcome.Outcome.{Outcome}
use Rattle.vn_rules.specs.Rules.{Answer, answer, refused}
use Rattle.vn_cells.specs.declared.command.Command.{Command}
use Rattle.vn_cells.specs.declared.event.Event.{Event}
use Rattle.vn_cells.specs.declared.event.Event.TheVariants as event
use Rattle.vn_cells.specs.declared.transcript.What.TheVariants as what
use Rattle.vn_cells.specs.declared.world.Stack.{Stack}
use Rattle.vn_cells.specs.declared.world.World.{World}
use Rattle.vn_cells.specs.world.Names.{Path, key_of}
use Rattle.vn_cells.specs.world.World.{no_stack, stack_at, pair_at, is_alive, common_of, entry_of, noting, edit_stack, later}
use Rattle.vn_cells.specs.machine.Reach.{Reach, Near, reach}
use Rattle.vn_cells.specs.commands.Jails.{construct}
use Rattle.vn_cells.specs.machine.Commands.{far_rule}
use Rattle.vn_cells.specs.machine.Local.{act, act_by, hearing}
use Rattle.vn_cells.specs.machine.Queues.{arrival, taken, has_datagram, has_due}

-- ---- commands

-- the line of a command that was answered
abbrev pub ran : ℕ → ℕ → Command → Outcome → Stack → Stack
ran clock lane command outcome s = noting (entry_of clock (what.Cmd lane command outcome)) s

-- an answer's state, and its entry in the issuer's transcript
abbrev pub entered : ℕ → ℕ → Path → Command → Answer World → World
entered clock lane issuer command a = edit_stack issuer (ran clock lane command a.outcome) a.left

-- near its stack, or by a rule of the world
unfoldable pub ran_by : ℕ → Path → Command → Reach → World → World
ran_by lane issuer command Near w = act w issuer (event.Cmd lane issuer command)
ran_by lane issuer command r w =
    entered w.clock lane issuer command (answer w (far_rule (common_of w) issuer r w))

-- where the issuer lives, and where it does not
unfoldable pub commanded : ℕ → Path → Command → World → World
commanded lane issuer command w =
    if is_alive w issuer then ran_by lane issuer command (reach issuer command) w
    else entered w.clock lane issuer command (refused errno.NoEnt w)

-- why a command that reaches beyond its stack is refused, if it is
abbrev pub far_refusal_at : World → Path → Command → Option Errno
far_refusal_at w issuer command =
    let rule = far_rule (common_of w) issuer (reach issuer command) w in
    if is_alive w issuer then first_refusal rule.refusals else Some errno.NoEnt

-- ---- the step

-- the path, where the test passes
abbrev pub where_true : Bool → Path → Option Path
where_true true p = Some p
where_true false p = None

-- in which stack an event acts that is no command and no frame, if it takes something
unfoldable pub acting : World → Event → Option Path
acting w (event.LoopDeliver path) = where_true (has_datagram (stack_at w path).live) path
acting w (event.Fire path) = where_true (has_due w.clock (stack_at w path).live) path
acting w (event.Open lane path table) = Some path
acting w (event.Next lane path) = Some path
acting w (event.Close lane path) = Some path
acting w _ = None

-- an event acts there; where it takes nothing, all is as it was
unfoldable pub acted : Option Path → Event → World → World
acted None event w = w
acted (Some p) event w = act w p event

-- a frame that came is taken from its sender and received where its half stands
unfoldable pub received : Option (Path × List ℕ) → Half → World → World
received None h w = w
received (Some (p, frame)) h w = act_by (hearing h frame) (taken h w) p (event.Deliver h)

-- the first frame to a half, if there is one
unfoldable pub delivered : Half → World → World
delivered h w = received (arrival h (pair_at w (key_of h))) h w

-- one event
unfoldable pub step : World → Event → World
step w (event.Tick n) = later n w
step w (event.Cmd lane path command) = commanded lane path command w
step w (event.Deliver half) = delivered half w
step w event = acted (acting w event) event w

-- host alone, just constructed
abbrev pub opening : World
opening = record { clock = 0; stacks = ([], construct 0 None no_stack) ∷ []; pairs = [] }

-- one event after another
unfoldable pub run_from : World → List Event → World
run_from w [] = w
run_from w (event ∷ events) = run_from (step w event) events

-- the world after a history
abbrev pub run : List Event → World
run events = run_from opening events

-- What each of a list of calls answers, where each stack has a plain list of timers to itself.
use Rattle.std.specs.Prelude.{ℕ, Bool, false, ◌==◌, List, [], ◌∷◌, map, Option, Some, None, if◌then◌else◌}
use Rattle.std.specs.List.{filter_map}
use Rattle.vn_types.specs.declared.interface.HalfId.{HalfId}
use Rattle.vn_types.specs.Interfaces.{half_id_eq}
use Rattle.vn_rules.specs.declared.timer.TimersOf.{TimersOf}
use Rattle.vn_rules.specs.Timers.{no_timers, after_arm, has_timer, without_timer, times_without, due, after_due, least}
use Rattle.vn_callout.specs.declared.calls.Call.{Call}
use Rattle.vn_callout.specs.declared.calls.Call.TheVariants.{Arm, Stop, StopOfInterface, StopOfStack, Due, NextDeadline}
use Rattle.vn_callout.specs.declared.calls.Reply.{Reply}
use Rattle.vn_callout.specs.declared.calls.Reply.TheVariants.{Number, Stood, Done, Due as Fired, Deadline}

-- the stack that a call names
abbrev pub stack_of : Call → Option ℕ
stack_of (Arm sid deadline what) = Some sid.0
stack_of (Stop sid arm) = Some sid.0
stack_of (StopOfInterface sid half) = Some sid.0
stack_of (StopOfStack sid) = Some sid.0
stack_of (Due sid now) = Some sid.0
stack_of NextDeadline = None

-- what the call makes of that stack's timers
abbrev pub after_own : Call → TimersOf HalfId → TimersOf HalfId
after_own (Arm sid deadline what) t = after_arm deadline what t
after_own (Stop sid arm) t = without_timer arm t
after_own (StopOfInterface sid half) t = times_without half_id_eq half t
after_own (StopOfStack sid) t = no_timers
after_own (Due sid now) t = after_due now t
after_own NextDeadline t = t

-- whether it is the stack that a call names
abbrev pub is_stack : ℕ → Option ℕ → Bool
is_stack q None = false
is_stack q (Some sid) = q == sid

-- each stack's timers after a call: those of each other stack are as before
abbrev pub after_call : Call → (ℕ → TimersOf HalfId) → ℕ → TimersOf HalfId
after_call c s q = if is_stack q (stack_of c) then after_own c (s q) else s q

-- what a call answers, where the least deadline of all stacks is d
abbrev pub reply : (ℕ → TimersOf HalfId) → Option ℕ → Call → Reply
reply s d (Arm sid deadline what) = Number (s sid.0).armed
reply s d (Stop sid arm) = Stood (has_timer arm (s sid.0))
reply s d (StopOfInterface sid half) = Done
reply s d (StopOfStack sid) = Done
reply s d (Due sid now) = Fired (due now (s sid.0))
reply s d NextDeadline = Deadline d

-- what the calls answer in turn, where no stack but the listed ones has timers
abbrev pub replies_from : List ℕ → (ℕ → TimersOf HalfId) → List Call → List Reply
replies_from stacks s [] = []
replies_from stacks s (c ∷ cs) =
    reply s (least (map s stacks)) c ∷ replies_from stacks (after_call c s) cs

-- what the calls answer, where no stack has a timer before them
abbrev pub replies_of : List Call → List Reply
replies_of calls = replies_from (filter_map stack_of calls) (λ q. no_timers) calls

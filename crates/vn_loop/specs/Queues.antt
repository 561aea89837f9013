-- The loopback queues of stacks.
use Rattle.std.specs.Prelude.{ℕ, Bool, true, false, nat_le, List, [], ◌∷◌, length, Option, Some, None, unwrap_or}
use Rattle.vn_types.specs.declared.errno.Errno.{Errno}
use Rattle.vn_types.specs.declared.errno.Errno.TheVariants.{NoBufs}
use Rattle.vn_types.specs.Refusals.{first_refusal}
use Rattle.vn_types.specs.PerStack.{of as kept}
use Rattle.vn_rules.specs.declared.parts.TheConstants.{LOOPBACK_MAX}

-- the octets of each datagram, oldest first
abbrev pub Queue : Type 0
Queue = List (List ℕ)

-- why a datagram is not queued
abbrev pub put_refusal : Queue → Option Errno
put_refusal queue = first_refusal ((nat_le LOOPBACK_MAX (length queue), NoBufs) ∷ [])

-- what a stack has, by its number: a queue or none
abbrev pub of : List (Option Queue) → ℕ → Option Queue
of rows sid = kept None rows sid

-- what is queued in a stack
abbrev pub queue_of : List (Option Queue) → ℕ → Queue
queue_of rows sid = unwrap_or (of rows sid) []

-- whether a datagram is queued
abbrev pub is_busy : Option Queue → Bool
is_busy None = false
is_busy (Some []) = false
is_busy (Some (datagram ∷ rest)) = true

-- A command is a rule: conditions in their order, each with its errno, and what happens where none
-- holds.
use Rattle.std.specs.Prelude.{ℕ, Bool, List, Option, Some, None}
use Rattle.vn_types.specs.declared.errno.Errno.{Errno}
use Rattle.vn_types.specs.Refusals.{first_refusal}
use Rattle.vn_rules.specs.declared.outcome.Outcome.{Outcome}
use Rattle.vn_rules.specs.declared.outcome.Outcome.TheVariants.{Done, Refused}

-- what all cells share, and each rule is handed
pub record Common : Type 0 where
  -- milliseconds
  pub clock : ℕ

-- what happens to a state
pub record Answer (S : Type 0) : Type 0 where
  -- what is left of it
  pub left : S
  -- what the command is answered
  pub outcome : Outcome

-- a command over a state
pub record Rule (S : Type 0) : Type 0 where
  -- conditions in their order, each with its errno
  pub refusals : List (Bool × Errno)
  -- what happens where none holds
  pub otherwise : Answer S

module _ {S : Type 0} where
  -- all is done
  abbrev pub done : S → Answer S
  done s = record { left = s; outcome = Done }

  -- a refused command leaves all as it was
  abbrev pub refused : Errno → S → Answer S
  refused errno s = record { left = s; outcome = Refused errno }

  -- by the errno that was found, if any
  unfoldable pub answer_by : Option Errno → S → Answer S → Answer S
  answer_by None s otherwise = otherwise
  answer_by (Some errno) s otherwise = refused errno s

  -- the first condition that holds decides
  abbrev pub answer : S → Rule S → Answer S
  answer s rule = answer_by (first_refusal rule.refusals) s rule.otherwise

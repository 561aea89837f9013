-- Readers and writers of std.
use Rattle.std.specs.Prelude.{ℕ, List, Option}

-- what is known of a reader or a writer, and its failures
pub record Adapter : Type 0 where
  -- the octets that a reader has left, or that a writer holds, where std knows them
  pub known : Option (List ℕ)
  -- the failures so far
  pub faults : ℕ

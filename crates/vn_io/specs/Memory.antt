-- What sources and sinks in memory hold.
use Rattle.std.specs.Prelude.{ℕ, List}

-- octets that reads take in pieces
pub record Pieces : Type 0 where
  -- the octets not yet read
  pub left : List ℕ
  -- the most octets of one read
  pub piece : ℕ

-- the same, where some of the reads fail
pub record Supply : Type 0 where
  -- the octets not yet read
  pub left : List ℕ
  -- the most octets of one read
  pub piece : ℕ
  -- the numbers of the reads that fail, counted from 1
  pub failing : List ℕ
  -- the reads so far
  pub calls : ℕ
  -- the reads that failed
  pub faults : ℕ

-- octets that writes leave in pieces, where some of the writes fail
pub record Store : Type 0 where
  -- the octets written so far
  pub written : List ℕ
  -- the most octets of one write
  pub piece : ℕ
  -- the numbers of the writes that fail, counted from 1; a write that finds no memory fails as well
  pub failing : List ℕ
  -- the writes so far
  pub calls : ℕ
  -- the writes that failed
  pub faults : ℕ

-- A queue of frames.
use Rattle.std.specs.Prelude.{ℕ, List}

-- frames in their order, and how many there may be
pub record Queue : Type 0 where
  -- the octets of each, from the first to the last
  pub frames : List (List ℕ)
  -- the most that may be queued
  pub capacity : ℕ

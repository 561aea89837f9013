-- The two halves of a pair.
use Rattle.std.specs.Prelude.{ℕ, Bool, List}
use Rattle.vn_types.specs.declared.address.Mac.{Mac}

-- one half
pub record End : Type 0 where
  -- the number of the stack where it stands
  pub at : ℕ
  -- its hardware address
  pub mac : Mac
  -- whether it is up
  pub up : Bool
  -- the octets of each frame that it sent and that still waits, oldest first
  pub sent : List (List ℕ)

-- a pair, with the number of its home
pub record Pair : Type 0 where
  -- the number of the stack where it is homed
  pub home : ℕ
  -- its unit there
  pub unit : ℕ
  -- side a
  pub a : End
  -- side b
  pub b : End

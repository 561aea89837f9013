-- The entries of each stack.
use Rattle.std.specs.Prelude.{ℕ, List, []}
use Rattle.vn_types.specs.declared.interface.HalfId.{HalfId}
use Rattle.vn_types.specs.PerStack.{of as kept}
use Rattle.vn_arp.specs.Kept.{KeptOf}

-- the entries of all stacks, by number
abbrev pub Table : Type 0
Table = List (List (KeptOf HalfId))

-- what a stack has, by its number
abbrev pub of : Table → ℕ → List (KeptOf HalfId)
of rows sid = kept [] rows sid

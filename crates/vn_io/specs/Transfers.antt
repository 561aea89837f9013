-- Parts of octets that were taken or written, where they are told.
use Rattle.std.specs.Prelude.{◌≡◌, ℕ, ◌<◌, ◌≤◌, List, length, take, Option}
use Rattle.std.specs.Io.KnownBytes.{Appends, Consumes}

-- told octets lost so many from their front
abbrev pub ConsumesExactly : Option (List ℕ) → Option (List ℕ) → ℕ → Type 0
ConsumesExactly old new n = (octets : List ℕ) × Consumes old new octets × (length octets ≡ n)

-- told octets lost at most so many, from their front
abbrev pub ConsumesAtMost : Option (List ℕ) → Option (List ℕ) → ℕ → Type 0
ConsumesAtMost old new n = (octets : List ℕ) × Consumes old new octets × (length octets ≤ n)

-- told octets grew by a front part of some octets, and not by all of them
abbrev pub AppendsPart : Option (List ℕ) → Option (List ℕ) → List ℕ → Type 0
AppendsPart old new octets = (n : ℕ) × (n < length octets) × Appends old new (take n octets)

-- The places of the sockets of one stack by their names.
use Rattle.std.specs.Prelude.{ℕ, ◌+◌, ◌-◌, nat_lt, List, Option, if◌then◌else◌}
use Rattle.std.specs.Ordering.{nat_cmp}
use Rattle.std.specs.Cmp.Lexicographic.{slice_cmp}
use Rattle.std.specs.BTreeMap.{is_at}
use Rattle.std.specs.Map.{lookup}

-- the place that stands under a name
abbrev pub told : List ℕ → List (List ℕ × ℕ) → Option ℕ
told name entries = lookup (is_at (slice_cmp nat_cmp name)) entries

-- a place, after that of a socket that is gone
abbrev pub moved : ℕ → ℕ → ℕ
moved gone k = if nat_lt gone k then k - 1 else k

-- the place from which a socket moved there
abbrev pub unmoved : ℕ → ℕ → ℕ
unmoved gone k = if nat_lt k gone then k else k + 1

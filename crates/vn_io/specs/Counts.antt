-- Counts of calls and of failures.
use Rattle.std.specs.Prelude.{◌≡◌, ℕ, ◌+◌, ◌-◌, ◌^◌, min}

-- the next value of a count, which stays at its last value
abbrev pub next_count : ℕ → ℕ
next_count n = min (n + 1) (2 ^ 64 - 1)

-- a count moved by one, or stands at its last value
abbrev pub RoseByOne : ℕ → ℕ → Type 0
RoseByOne before now = now ≡ next_count before

-- a count is as it was
abbrev pub Stayed : ℕ → ℕ → Type 0
Stayed before now = now ≡ before

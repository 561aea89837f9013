-- How the table keeps its pairs: by name, and by the frames that wait.
use Rattle.std.specs.Prelude.{◌≡◌, ℕ, ◌+◌, ◌<◌, ◌≤◌, IsSome, Bool, true, false, not, List, Option, Some, None, IfSome, if◌then◌else◌}
use Rattle.std.specs.List.{list_any, sum_by}
use Rattle.std.specs.BTreeMap.{is_at}
use Rattle.std.specs.Map.{lookup}
use Rattle.std.specs.Ordering.{nat_cmp, ordering_then}
use Rattle.std.specs.declared.cmp.Ordering.{Ordering}
use Rattle.vn_types.specs.declared.interface.HalfId.{HalfId}
use Rattle.vn_types.specs.PerStack.{of as kept}
use Rattle.vn_epair.specs.declared.line.Awaited.{Awaited}
use Rattle.vn_epair.specs.declared.name_index.Filled.{Filled}
use Rattle.vn_epair.specs.declared.pair_row.TheConstants.{UNIT_MAX}
use Rattle.vn_epair.specs.Halves.{Pair}
use Rattle.vn_epair.specs.Pairs.{of, is_awaiting, is_named, is_quiet}
use Rattle.vn_epair.specs.Line.{Halves, is_half}

-- a home and a unit
abbrev pub Name : Type 0
Name = ℕ × ℕ

-- by home, then by unit
abbrev pub name_cmp : Name → Name → Ordering
name_cmp x y = ordering_then (nat_cmp x.0 y.0) (nat_cmp x.1 y.1)

-- the numbers that stand under names
abbrev pub Names : Type 0
Names = List (Name × ℕ)

-- the number under a name
abbrev pub told : Names → Name → Option ℕ
told names name = lookup (is_at (name_cmp name)) names

-- so many of the first units of a home all have numbers
abbrev pub AreNamed : Names → ℕ → ℕ → Type 0
AreNamed names home units =
    (unit : ℕ) → unit < units → IsSome (told names (home, unit))

-- how many are known to have them
abbrev pub filled_of : List Filled → ℕ → ℕ
filled_of filled home = (kept (record { units = 0 }) filled home).units

-- of each home, those that are known to be named are
pub record IsFilled (names : Names) (filled : List Filled) : Type 0 where
  -- by the number of the home
  pub homes : (home : ℕ) → AreNamed names home (filled_of filled home)

-- how many halves of a pair sent nothing that waits
abbrev pub quiet_halves : Option Pair → ℕ
quiet_halves None = 0
quiet_halves (Some pair) = (if is_quiet pair.a then 1 else 0) + (if is_quiet pair.b then 1 else 0)

-- whether a half is listed under its pair's home and unit
abbrev pub is_right : List (Option Pair) → Awaited → Bool
is_right pairs e = is_named e.home.0 e.unit (of pairs e.half.pair)

-- what holds of the pairs, their names, and the halves in order
pub record IsKept (pairs : List (Option Pair)) (names : Names) (halves : Halves) : Type 0 where
  -- each pair is found by its name
  pub named : (q : ℕ) → IfSome (of pairs q) (λ pair. told names (pair.home, pair.unit) ≡ Some q)
  -- and nothing else is
  pub standing : (k : Name) → IfSome (told names k) (λ q. is_named k.0 k.1 (of pairs q) ≡ true)
  -- each unit is one that a pair can be made with
  pub units : (q : ℕ) → IfSome (of pairs q) (λ pair. pair.unit ≤ UNIT_MAX)
  -- the halves in order are those to which a frame comes
  pub listed : (h : HalfId) → list_any (is_half h) halves.listed ≡ is_awaiting pairs h
  -- each half is listed under its own name
  pub right : list_any (λ e. not (is_right pairs e)) halves.listed ≡ false
  -- there is room for each other half
  pub room : halves.room ≡ sum_by quiet_halves pairs

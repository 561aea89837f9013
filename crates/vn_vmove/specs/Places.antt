-- What stands in each stack as a half leaves and comes, where its name is free, and for whom names are reserved.
use Rattle.std.specs.Prelude.{◌≡◌, ℕ, true, ◌&&◌, ◌==◌, List, [], ◌∷◌, ◌++◌, Option, Some, None, if◌then◌else◌}
use Rattle.vn_types.specs.declared.interface.HalfId.{HalfId}
use Rattle.vn_types.specs.declared.interface.IfName.{IfName}
use Rattle.vn_types.specs.declared.interface.IfName.TheVariants.{Epair}
use Rattle.vn_types.specs.declared.interface.IfOf.TheVariants.{Half}
use Rattle.vn_types.specs.declared.interface.Side.TheVariants.{A, B}
use Rattle.vn_rules.specs.Named.{ifname_eq}
use Rattle.vn_epair.specs.Halves.{Pair}
use Rattle.vn_ifnet.specs.declared.interfaces.Attached.{Attached}
use Rattle.vn_ifnet.specs.Stacks.{reserved_by, without}
use Rattle.vn_vmove.specs.declared.tables.Tables.{Tables}
use Rattle.vn_vmove.specs.Parts.{held, pair_at}
use Rattle.vn_vmove.specs.Sound.{IsHomedAs, name_in, stands_at}

-- what stands in a stack, where a half leaves one of them
abbrev pub left : HalfId → ℕ → ℕ → List Attached → List Attached
left h from q attached = if q == from then without (Half h) attached else attached

-- what stands in a stack, where a half comes to one of them under a name, behind all others
abbrev pub come : HalfId → IfName → ℕ → ℕ → List Attached → List Attached
come h name to q attached =
    if q == to then without (Half h) attached ++ record { what = Half h; name = name } ∷ []
    else attached

-- the name of a half is free in a stack
pub record IsFree (t : Tables) (h : HalfId) (q : ℕ) : Type 0 where
  -- no other half stands there under it
  pub alone : (g : HalfId) → stands_at q g.side (pair_at t g.pair) ≡ true
      → name_in t g ≡ name_in t h → g ≡ h
  -- and it is that of no other half that is homed there
  pub own : (g : HalfId) → IsHomedAs q (name_in t h) g.side (pair_at t g.pair) → g ≡ h

-- ---- names that are reserved

-- for which half a name is reserved in a stack, where one name is let go at its home
abbrev pub let_go : IfName → ℕ → ℕ → IfName → Option HalfId → Option HalfId
let_go own home q name by = if (q == home) && ifname_eq name own then None else by

-- and where both names of a pair are
abbrev pub both_let_go : Option Pair → ℕ → IfName → Option HalfId → Option HalfId
both_let_go None q name by = by
both_let_go (Some pair) q name by =
    let_go (Epair pair.unit B) pair.home q name (let_go (Epair pair.unit A) pair.home q name by)

-- in each stack each name is reserved for the half for which it was, or for none where it was for none
abbrev pub KeepsNames : Tables → Tables → Type 0
KeepsNames old new = (q : ℕ) (name : IfName) → reserved_by name (held new q) ≡ reserved_by name (held old q)

-- and so is each but the two names of a pair at its home, which are let go
abbrev pub LetsGo : Option Pair → Tables → Tables → Type 0
LetsGo pair old new = (q : ℕ) (name : IfName)
    → reserved_by name (held new q) ≡ both_let_go pair q name (reserved_by name (held old q))

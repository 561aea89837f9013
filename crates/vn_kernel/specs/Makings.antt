-- epair(4) and ifconfig(8), create: a pair that is made in the tables, and what is refused.
use Rattle.std.specs.Prelude.{◌≡◌, ℕ, ◌+◌, Bool, ◌&&◌, ◌==◌, not, nat_lt, length, [], ◌∷◌, Option, Some, if◌then◌else◌}
use Rattle.std.specs.Option.{is_some}
use Rattle.vn_types.specs.declared.errno.Errno.{Errno}
use Rattle.vn_types.specs.declared.errno.Errno.TheVariants as errno
use Rattle.vn_types.specs.declared.interface.HalfId.{HalfId}
use Rattle.vn_types.specs.declared.interface.IfName.{IfName}
use Rattle.vn_types.specs.declared.interface.Side.TheVariants.{A, B}
use Rattle.vn_types.specs.Refusals.{first_refusal}
use Rattle.vn_rules.specs.Named.{ifname_eq}
use Rattle.vn_epair.specs.declared.pair_row.TheConstants.{UNIT_MAX}
use Rattle.vn_epair.specs.Halves.{Pair}
use Rattle.vn_epair.specs.Pairs.{is_unit_free, new_pair}
use Rattle.vn_ifnet.specs.Stacks.{named}
use Rattle.vn_vmove.specs.declared.tables.Tables.{Tables}
use Rattle.vn_vmove.specs.Moves.{half_on}
use Rattle.vn_vmove.specs.Nets.{Net, attach, net_of}
use Rattle.vn_vmove.specs.Parts.{held, lives, pair_at, parts}
use Rattle.vn_vmove.specs.Sound.{IsSound}

-- ---- refusals

-- whether something stands in a stack under a name
abbrev pub stands_in : Tables → ℕ → IfName → Bool
stands_in t q name = is_some (named name (held t q))

-- whether a stack's pair of a unit isn't there, and neither of its names stands there
abbrev pub is_free_in : Tables → ℕ → ℕ → Bool
is_free_in t home unit = is_unit_free (stands_in t home) home t.pairs unit

-- why a pair isn't made
abbrev pub making_refusal : Tables → ℕ → ℕ → Option Errno
making_refusal t home unit =
    first_refusal ((nat_lt UNIT_MAX unit, errno.Inval) ∷ (not (is_free_in t home unit), errno.Exist) ∷ [])

-- ---- the pair

-- for which half a name is reserved in a stack, where one name is reserved at its half's home
abbrev pub keep_for : HalfId → IfName → ℕ → ℕ → IfName → Option HalfId → Option HalfId
keep_for h own home q name by = if (q == home) && ifname_eq name own then Some h else by

-- a pair comes under a number
abbrev pub with_pair : ℕ → Pair → Net → Net
with_pair n pair net = record net { pairs = λ m. if m == n then Some pair else net.pairs m }

-- a pair is made under a number, and its halves are attached at its home, side a first
unfoldable pub made : ℕ → ℕ → ℕ → Net → Net
made n home unit net =
    attach (half_on B n) home (attach (half_on A n) home (with_pair n (new_pair home unit) net))

-- a call makes a pair under the next number
pub record Makes (home unit n : ℕ) (old new : Tables) : Type 0 where
  -- the next number
  pub number : n ≡ length old.pairs
  -- and one more is given
  pub numbers : length new.pairs ≡ length old.pairs + 1
  -- the tables of each stack
  pub parts : (q : ℕ) → parts new q ≡ (made n home unit (net_of old)).parts q
  -- the pairs
  pub pairs : (m : ℕ) → pair_at new m ≡ (made n home unit (net_of old)).pairs m
  -- who lives
  pub lives : (q : ℕ) → lives new q ≡ lives old q
  -- and all is sound
  pub sound : IsSound new

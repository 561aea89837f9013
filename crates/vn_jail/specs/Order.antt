-- Living stacks in the order of their paths.
use Rattle.std.specs.Prelude.{◌≡◌, ◌-◌, ℕ, Bool, ◌==◌, ◌&&◌, List, length, reverse, slice_index_or}
use Rattle.std.specs.List.{list_any}
use Rattle.std.specs.List.Sorted.{IsStrictlySortedBy}
use Rattle.std.specs.declared.cmp.Ordering.{Ordering}
use Rattle.vn_types.specs.declared.interface.Sid.{Sid}
use Rattle.vn_types.specs.Paths.{Path, path_cmp, is_under}
use Rattle.vn_jail.specs.declared.jail.Jail.{Jail}
use Rattle.vn_jail.specs.Tree.{at, path_at}

-- numbers compare as their paths do
abbrev pub by_path : List Jail → Sid → Sid → Ordering
by_path jails x y = path_cmp (path_at jails x.0) (path_at jails y.0)

-- the numbers rise in the order of their paths: host first, then by the octets of the texts
abbrev pub Rises : List Jail → List Sid → Type 0
Rises jails sids = IsStrictlySortedBy (by_path jails) sids

-- whether it is that number
abbrev pub has_number : ℕ → Sid → Bool
has_number number sid = sid.0 == number

-- exactly the living, in the order of their paths
pub record IsInOrder (jails : List Jail) (sids : List Sid) : Type 0 where
  -- in order
  pub rises : Rises jails sids
  -- exactly the living are listed
  pub living : (number : ℕ) → list_any (has_number number) sids ≡ (at jails number).alive

-- exactly a path and its living descendants, in falling order of the paths
pub record IsTeardown (p : Path) (jails : List Jail) (sids : List Sid) : Type 0 where
  -- falling
  pub falls : Rises jails (reverse sids)
  -- exactly the path and what lives below it
  pub listed : (number : ℕ) → list_any (has_number number) sids
      ≡ ((at jails number).alive && is_under (path_at jails number) p)
  -- the path itself comes last
  pub last : (d : Sid) → path_at jails (slice_index_or sids (length sids - 1) d).0 ≡ p

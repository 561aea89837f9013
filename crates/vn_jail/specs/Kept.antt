-- How the table keeps its jails: by path, and the living in order.
use Rattle.std.specs.Prelude.{◌≡◌, ℕ, ◌<◌, true, [], List, length, Some, IfSome}
use Rattle.std.specs.BTreeMap.{BTreeMap, get}
use Rattle.vn_types.specs.declared.interface.Sid.{Sid}
use Rattle.vn_types.specs.Paths.{Path, path_cmp, parent}
use Rattle.vn_jail.specs.declared.jail.Jail.{Jail}
use Rattle.vn_jail.specs.Tree.{at, path_at, is_alive, living_below}
use Rattle.vn_jail.specs.Order.{IsInOrder}

-- no two numbers have one path, number 0 has host's, and each other jail has its parent's number
pub record IsLinked (jails : List Jail) : Type 0 where
  -- a path has one number
  pub distinct : (i j : ℕ) → i < length jails → j < length jails → path_at jails i ≡ path_at jails j → i ≡ j
  -- there is a jail
  pub some : 0 < length jails
  -- number 0 is host
  pub host : path_at jails 0 ≡ []
  -- a parent has a number
  pub inside : (number : ℕ) → 0 < number → number < length jails → (at jails number).parent < length jails
  -- it is that of the path's parent
  pub linked : (number : ℕ) → 0 < number → number < length jails
      → path_at jails (at jails number).parent ≡ parent (path_at jails number)

-- what lives is a tree
pub record IsTree (jails : List Jail) : Type 0 where
  -- host lives
  pub host : (at jails 0).alive ≡ true
  -- the parent of what lives does too
  pub rooted : (p : Path) → is_alive p jails ≡ true → is_alive (parent p) jails ≡ true
  -- a living jail other than host has the number of its living descendants
  pub counted : (number : ℕ) → 0 < number → (at jails number).alive ≡ true
      → (at jails number).living ≡ living_below (path_at jails number) jails

-- the paths that have a number, and no others, are found
pub record IsNumbered (jails : List Jail) (numbers : BTreeMap Path ℕ) : Type 0 where
  -- each path is found by its number
  pub found : (number : ℕ) → number < length jails → get path_cmp numbers (path_at jails number) ≡ Some number
  -- what is found is a number
  pub inside : (p : Path) → IfSome (get path_cmp numbers p) (λ number. number < length jails)
  -- and it is the number of that path
  pub right : (p : Path) → IfSome (get path_cmp numbers p) (λ number. path_at jails number ≡ p)

-- what the table keeps of its jails
pub record IsKept (jails : List Jail) (numbers : BTreeMap Path ℕ) (order : List Sid) : Type 0 where
  -- numbers and parents
  pub linked : IsLinked jails
  -- who lives
  pub tree : IsTree jails
  -- the numbers by path
  pub numbered : IsNumbered jails numbers
  -- the living in order
  pub ordered : IsInOrder jails order

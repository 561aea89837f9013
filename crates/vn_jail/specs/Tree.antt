-- The tree of jails, as the list of them by their numbers.
use Rattle.std.specs.Prelude.{◌≡◌, ◌⊎◌, ℕ, ◌+◌, ◌-◌, Bool, true, false, ◌&&◌, not, nat_le, List, [], ◌∷◌, ◌++◌, map, slice_index_or, Option, if◌then◌else◌}
use Rattle.std.specs.List.{list_any, count_by}
use Rattle.vn_types.specs.declared.errno.Errno.{Errno}
use Rattle.vn_types.specs.declared.errno.Errno.TheVariants.{NoEnt, Exist, Perm}
use Rattle.vn_types.specs.Paths.{Path, path_eq, above, parent}
use Rattle.vn_types.specs.Refusals.{first_refusal}
use Rattle.vn_jail.specs.declared.jail.Jail.{Jail}
use Rattle.vn_jail.specs.declared.jail.Living.{Living}
use Rattle.vn_jail.specs.declared.jail.Living.TheVariants.{More, Less}

-- ---- one jail

-- a jail that does not live: it has its path, and the number of its parent
abbrev pub dead_jail : Path → ℕ → Jail
dead_jail p parent = record { path = p; parent = parent; limit = 0; living = 0; alive = false }

-- host, which has no limit
abbrev pub host_jail : Jail
host_jail = record (dead_jail [] 0) { alive = true }

-- whether it is at the path
abbrev pub is_at : Path → Jail → Bool
is_at p jail = path_eq p jail.path

-- whether it lives, and is at the path
abbrev pub lives_at : Path → Jail → Bool
lives_at p jail = is_at p jail && jail.alive

-- as many living descendants as the limit, or more
abbrev pub is_full : Jail → Bool
is_full jail = nat_le jail.limit jail.living

-- it lives, without descendants
abbrev pub start : ℕ → Jail → Jail
start limit jail = record jail { limit = limit; living = 0; alive = true }

-- it lives no more
abbrev pub stop : Jail → Jail
stop jail = record jail { alive = false }

-- one more, or one less
abbrev pub counted : Living → ℕ → ℕ
counted More = λ n. n + 1
counted Less = λ n. n - 1

-- another number of living descendants, where the path is among these
abbrev pub recount : (ℕ → ℕ) → List Path → Jail → Jail
recount f ps jail =
    if list_any (path_eq jail.path) ps then record jail { living = f jail.living } else jail

-- ---- all jails

-- what has a number
abbrev pub at : List Jail → ℕ → Jail
at jails number = slice_index_or jails number (dead_jail [] 0)

-- the path of a number
abbrev pub path_at : List Jail → ℕ → Path
path_at jails number = (at jails number).path

-- whether a path has a number
abbrev pub is_known : Path → List Jail → Bool
is_known p jails = list_any (is_at p) jails

-- the number of a path, and where it has none, the next one
unfoldable pub number_of : Path → List Jail → ℕ
number_of p [] = 0
number_of p (jail ∷ jails) = if is_at p jail then 0 else number_of p jails + 1

-- whether the path lives
abbrev pub is_alive : Path → List Jail → Bool
is_alive p jails = list_any (lives_at p) jails

-- whether one of these paths has as many living descendants as its limit
abbrev pub any_full : List Jail → List Path → Bool
any_full jails ps = list_any (λ p. list_any (λ jail. is_at p jail && is_full jail) jails) ps

-- whether a jail lives properly below a path
abbrev pub lives_below : Path → Jail → Bool
lives_below p jail = jail.alive && list_any (path_eq p) (above jail.path)

-- how many do
abbrev pub living_below : Path → List Jail → ℕ
living_below p jails = count_by (lives_below p) jails

-- ---- creation (jail(8), -c)

-- the parent lives, the jail does not, and no ancestor other than host is full
abbrev pub create_refusal : Path → List Jail → Option Errno
create_refusal p jails =
    first_refusal
    ((not (is_alive (parent p) jails), NoEnt) ∷ (is_alive p jails, Exist)
    ∷ (any_full jails (above p), Perm) ∷ [])

-- a path that has no number gets the next one, for good
abbrev pub known : Path → List Jail → List Jail
known p jails =
    if is_known p jails then jails else jails ++ dead_jail p (number_of (parent p) jails) ∷ []

-- nothing is changed, but that the path may have its number
abbrev pub MayKnow : Path → List Jail → List Jail → Type 0
MayKnow p old new = (new ≡ old) ⊎ (new ≡ known p old)

-- the jail of a path changes, and its ancestors other than host count their living descendants anew
unfoldable pub changed : (Jail → Jail) → (ℕ → ℕ) → Path → List Jail → List Jail
changed edit f p jails =
    map (λ jail. if is_at p jail then edit jail else recount f (above p) jail) jails

-- the jail lives, and its ancestors other than host have one living descendant more
abbrev pub created : Path → ℕ → List Jail → List Jail
created p limit jails = changed (start limit) (λ n. n + 1) p (known p jails)

-- ---- removal (jail(8), -r)

-- the jail lives
abbrev pub remove_refusal : Path → List Jail → Option Errno
remove_refusal p jails = first_refusal ((not (is_alive p jails), NoEnt) ∷ [])

-- the jail lives no more, and its ancestors other than host have one living descendant less
abbrev pub removed : Path → List Jail → List Jail
removed p jails = changed stop (λ n. n - 1) p jails

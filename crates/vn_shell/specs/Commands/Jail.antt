-- `jail`: the words behind it (jail(8)).
use Rattle.std.specs.Prelude.{ℕ, Bool, true, false, ◌&&◌, ◌||◌, ◌==◌, nat_lt, List, [], ◌∷◌, codes, if◌then◌else◌, Option, Some, None, is_some, is_none}
use Rattle.std.specs.List.{list_all, count_by, filter_map}
use Rattle.std.specs.Option.{option_map, unwrap_or}
use Rattle.std.specs.Str.{bytes_eq}
use Rattle.vn_types.specs.Paths.{Path}
use Rattle.vn_types.specs.NumberWords.{number_of}
use Rattle.vn_types.specs.Steps.{◌>>=◌}
use Rattle.vn_cells.specs.declared.command.Command.{Command}
use Rattle.vn_cells.specs.declared.command.Command.TheVariants as command
use Rattle.vn_shell.specs.declared.command.jail.Settings.{Settings}
use Rattle.vn_shell.specs.Words.{behind, named_of, of_one, such_that}

-- below 10,000
abbrev pub is_limit : ℕ → Bool
is_limit limit = nat_lt limit 10000

-- `name=P`
unfoldable pub name_of : List ℕ → Option Path
name_of word = behind (codes "name=") word >>= named_of

-- `children.max=N`, N below 10,000
unfoldable pub limit_of : List ℕ → Option ℕ
limit_of word = behind (codes "children.max=") word >>= number_of >>= such_that is_limit

-- whether a word is one of the settings
abbrev pub is_setting : List ℕ → Bool
is_setting word =
    bytes_eq word (codes "vnet") || bytes_eq word (codes "persist") || is_some (name_of word) || is_some (limit_of word)

-- how often a word stands among others
abbrev pub times : List ℕ → List (List ℕ) → ℕ
times word words = count_by (λ other. bytes_eq other word) words

-- the only path of a list
abbrev pub only : List Path → Option Path
only [] = None
only (path ∷ []) = Some path
only (path ∷ other ∷ paths) = None

-- the limit of a list of at most one, which is 0 where there is none
abbrev pub at_most_one : List ℕ → Option ℕ
at_most_one [] = Some 0
at_most_one (limit ∷ []) = Some limit
at_most_one (limit ∷ other ∷ limits) = None

-- the command that makes a jail, where it has a path and a limit
abbrev pub creation : Option Path → Option ℕ → Option Command
creation path limit = do
  path ← path
  limit ← limit
  Some (command.JailCreate path limit)

-- `vnet`, `persist` and `name=P` once each and `children.max=N` at most once, in any order, and nothing else
unfoldable pub settings_of : List (List ℕ) → Option Command
settings_of words =
    if times (codes "vnet") words == 1 && times (codes "persist") words == 1
    && list_all is_setting words
    then creation (only (filter_map name_of words)) (at_most_one (filter_map limit_of words))
    else None

-- `-c` and its settings, or `-r P`
unfoldable pub jail_of : List (List ℕ) → Option Command
jail_of [] = None
jail_of (option ∷ words) =
    if bytes_eq option (codes "-c") then settings_of words
    else if bytes_eq option (codes "-r") then of_one named_of command.JailRemove words
    else None

-- ---- the settings, word by word

-- no setting yet
abbrev pub no_settings : Settings
no_settings = record { vnet = false; persist = false; name = None; limit = None }

-- a value more, unless the word has none or one was read before
abbrev pub with_value : Settings → Option Path → Option ℕ → Option Settings
with_value settings (Some path) limit =
    if is_none settings.name then Some (record settings { name = Some path }) else None
with_value settings None (Some limit) =
    if is_none settings.limit then Some (record settings { limit = Some limit }) else None
with_value settings None None = None

-- a word more, unless it is no setting or was read before
unfoldable pub with_word : Settings → List ℕ → Option Settings
with_word settings word =
    if bytes_eq word (codes "vnet") then
    if settings.vnet then None else Some (record settings { vnet = true })
    else if bytes_eq word (codes "persist") then
    if settings.persist then None else Some (record settings { persist = true })
    else with_value settings (name_of word) (limit_of word)

-- a limit that may be left out
abbrev pub or_zero : Option ℕ → ℕ
or_zero limit = unwrap_or limit 0

-- the command, where all settings were read
abbrev pub command_in : Settings → Option Command
command_in settings =
    if settings.vnet && settings.persist
    then option_map (λ path. command.JailCreate path (or_zero settings.limit)) settings.name
    else None

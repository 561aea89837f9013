-- `ping`: the words behind it (ping(8)).
use Rattle.std.specs.Prelude.{ℕ, ◌&&◌, List, [], ◌∷◌, codes, if◌then◌else◌, Option, Some, None}
use Rattle.std.specs.Str.{bytes_eq}
use Rattle.vn_types.specs.AddressWords.{ip4_of}
use Rattle.vn_types.specs.Steps.{◌>>=◌}
use Rattle.vn_cells.specs.declared.command.Command.{Command}
use Rattle.vn_cells.specs.declared.command.Command.TheVariants as command
use Rattle.vn_shell.specs.Words.{ttl_of}

-- the words behind `-c 1`, where it stands there
abbrev pub past_count : List (List ℕ) → List (List ℕ)
past_count [] = []
past_count (option ∷ []) = option ∷ []
past_count (option ∷ count ∷ words) =
    if bytes_eq option (codes "-c") && bytes_eq count (codes "1") then words
    else option ∷ count ∷ words

-- `TTL IP`
abbrev pub limited_of : List ℕ → List ℕ → Option Command
limited_of ttl ip = do
  ttl ← ttl_of ttl
  ip ← ip4_of ip
  Some (command.Ping (Some ttl) ip)

-- `[-m TTL] IP`
unfoldable pub probe_of : List (List ℕ) → Option Command
probe_of (ip ∷ []) = do
  ip ← ip4_of ip
  Some (command.Ping None ip)
probe_of (option ∷ ttl ∷ ip ∷ []) = if bytes_eq option (codes "-m") then limited_of ttl ip else None
probe_of _ = None

-- `[-c 1] [-m TTL] IP`
abbrev pub ping_of : List (List ℕ) → Option Command
ping_of words = probe_of (past_count words)

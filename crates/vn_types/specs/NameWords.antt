-- The words that are names, each as what it reads as.
use Rattle.std.specs.Prelude.{ℕ, List, Option, Some, None, if◌then◌else◌}
use Rattle.vn_types.specs.Words.{is_name, is_sock_name}

-- `[a-z][a-z0-9_.]{0,63}`
unfoldable pub name_of : List ℕ → Option (List ℕ)
name_of text = if is_name text then Some text else None

-- `[a-z][a-z0-9]{0,15}`
unfoldable pub sock_name_of : List ℕ → Option (List ℕ)
sock_name_of text = if is_sock_name text then Some text else None

-- Lists of keys with their values, in the order of their keys, in the words that a `BTreeMap` has for its entries.
use Rattle.std.specs.Prelude.{List, [], ◌∷◌, map, Option}
use Rattle.std.specs.declared.cmp.Ordering.{Ordering}
use Rattle.std.specs.Map.{lookup, keys_of}
use Rattle.std.specs.BTreeMap.{is_at, insert_entry}

module _ {K V : Type 0} where
  -- the value at a key
  unfoldable pub find : (K → K → Ordering) → K → List (K × V) → Option V
  find cmp k es = lookup (is_at (cmp k)) es

  -- the value in its key's place
  unfoldable pub put : (K → K → Ordering) → K → V → List (K × V) → List (K × V)
  put cmp k v es = insert_entry cmp es k v

  -- each value made from its key and what stood there
  unfoldable pub each : {W : Type 0} → (K → V → W) → List (K × V) → List (K × W)
  each f es = map (λ e. (e.0, f e.0 e.1)) es

  -- the entries of the second list put into the first
  unfoldable pub put_all : (K → K → Ordering) → List (K × V) → List (K × V) → List (K × V)
  put_all cmp es [] = es
  put_all cmp es (e ∷ more) = put_all cmp (put cmp e.0 e.1 es) more

  -- the keys of two lists, each once and in order
  unfoldable pub keys_in : (K → K → Ordering) → List (K × V) → List (K × V) → List K
  keys_in cmp es more = keys_of (put_all cmp es more)

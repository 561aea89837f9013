-- The addresses of each stack.
use Rattle.std.specs.Prelude.{ℕ, List, []}
use Rattle.vn_types.specs.declared.interface.HalfId.{HalfId}
use Rattle.vn_types.specs.PerStack.{of as kept}
use Rattle.vn_rules.specs.declared.address.AddrOf.{AddrOf}

-- what a stack has, by its number
abbrev pub of : List (List (AddrOf HalfId)) → ℕ → List (AddrOf HalfId)
of rows sid = kept [] rows sid

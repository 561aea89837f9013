-- The routes of each stack.
use Rattle.std.specs.Prelude.{ℕ, List, []}
use Rattle.vn_types.specs.declared.interface.HalfId.{HalfId}
use Rattle.vn_types.specs.PerStack.{of as kept}
use Rattle.vn_rules.specs.Routes.{Routed}

-- what a stack has, by its number
abbrev pub of : List (List (Routed HalfId)) → ℕ → List (Routed HalfId)
of rows sid = kept [] rows sid

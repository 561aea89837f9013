-- The sockets of each stack.
use Rattle.std.specs.Prelude.{ℕ, List, []}
use Rattle.vn_types.specs.declared.interface.HalfId.{HalfId}
use Rattle.vn_types.specs.PerStack.{of as kept}
use Rattle.vn_rules.specs.declared.socket.SocketOf.{SocketOf}

-- what a stack has, by its number
abbrev pub of : List (List (SocketOf HalfId)) → ℕ → List (SocketOf HalfId)
of rows sid = kept [] rows sid

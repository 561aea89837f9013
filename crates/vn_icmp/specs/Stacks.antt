-- The awaited pings of each stack.
use Rattle.std.specs.Prelude.{ℕ, List}
use Rattle.vn_types.specs.declared.interface.HalfId.{HalfId}
use Rattle.vn_types.specs.PerStack.{of as kept}
use Rattle.vn_rules.specs.declared.ping.PingsOf.{PingsOf}
use Rattle.vn_rules.specs.Pings.{no_pings}

-- what is held of one stack
abbrev pub Held : Type 0
Held = PingsOf HalfId

-- what a stack has, by its number
abbrev pub of : List Held → ℕ → Held
of rows sid = kept no_pings rows sid

-- What a read or a write answers.
use Rattle.std.specs.Prelude.{ℕ, ⊤}
use Rattle.vn_io.specs.declared.outside.Io.{Io}
use Rattle.vn_io.specs.declared.outside.Io.TheVariants.{Count, Failed}

-- a fact of the number of octets that moved
abbrev pub IfCount : Io → (ℕ → Type 0) → Type 0
IfCount (Count n) P = P n
IfCount Failed P = ⊤

-- a fact of a call that did not fail
abbrev pub OnCount : Io → Type 0 → Type 0
OnCount (Count n) P = P
OnCount Failed P = ⊤

-- a fact of a call that failed
abbrev pub OnFailed : Io → Type 0 → Type 0
OnFailed (Count n) P = ⊤
OnFailed Failed P = P

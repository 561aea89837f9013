-- What the rows of all stacks end as, where a `&mut` to one of them is returned.
use Rattle.std.specs.Prelude.{◌≡◌, ℕ, List, Option, Result, slice_set, ◌++◌, length, take, drop}
use Rattle.std.specs.Borrow.{Lends, LendsIf, LendsSoOk, Array, Fml, RattleType, MutBor}
use Rattle.vn_types.specs.PerStack.{of, ChangesOnly, SameFor}
use Rattle.vn_types.specs.contracts.per_stack.PerStack.{the_row}

-- the rows of all stacks, where one was written
pub record EndsWithRow {S : Type 0} (none : S) (sid : ℕ) (old new : List S) (w : S) : Type 0 where
  -- one stack's row is w
  pub here : of none new sid ≡ w
  -- the others' are as before
  pub others : ChangesOnly sid (of none old) (of none new)

module _ (V : RattleType) (s : MutBor (List V.Denot)) (sid : ℕ) where
  -- once the borrow r ends, the row has the last value written through r; at `None` all stays
  abbrev pub LendsRow : Option (MutBor V.Denot) → Fml
  LendsRow r = LendsIf (the_row V) V s r (λ w. slice_set s.now sid w) s.now

  -- the same where room was made for the row; at `Err` what is kept for each stack stays
  abbrev pub LendsNewRow : V.Denot → {E : Type 0} → Result (MutBor V.Denot) E → Fml
  LendsNewRow none r = LendsSoOk (the_row V) V s r
      (λ n w. EndsWithRow none sid s.now n w)
      (λ n. SameFor none s.now n)

-- the rows, after the first of them were changed
abbrev pub with_first : {S : Type 0} → List S → List S → List S
with_first rows ws = take (length rows) (ws ++ drop (length ws) rows)

-- once the borrow r ends, the rows are the last ones written through r, which are as many
abbrev pub LendsRows : (V : RattleType) → MutBor (List V.Denot) → MutBor (List V.Denot) → Fml
LendsRows V s r = Lends (the_row V) (Array V 0) s r (with_first s.now)

-- One value more in each row, from the first row on.
use Rattle.std.proofs.Common.{◌≡◌, ℕ, ◌<◌, ◌≤◌, List, Option, None}
use Rattle.vn_types.specs.PerStack.{of as kept_for}
use Rattle.vn_store.specs.Rows.{grown}

-- the rows before i have one value more
pub record IsGiven (count value : ℕ) (old new : List (Option (List ℕ))) (i : ℕ) : Type 0 where
  pub given : (q : ℕ) → q < i → kept_for None new q ≡ grown count value (kept_for None old q)
  pub rest : (q : ℕ) → i ≤ q → kept_for None new q ≡ kept_for None old q

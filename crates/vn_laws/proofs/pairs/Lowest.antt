-- The lowest unit that is free.
use Rattle.std.proofs.Common.{◌≡◌, ℕ, zero, suc, ◌+◌, ◌<◌, ◌≤◌, Bool, true, false, Option, Some, None, refl, sym, ap, ◌∙◌, ⊎_elim, arith}
use Rattle.std.proofs.lemmas.Bool.{cases_eq}
use Rattle.vn_cells.specs.declared.world.World.{World}
use Rattle.vn_cells.specs.world.Names.{Path}
use Rattle.vn_cells.specs.commands.Taken.{units, first_unit, lowest_free, is_unit_free}
use Rattle.vn_laws.specs.Units.{IsLowestFree}

module _ (test : ℕ → Bool) where
  -- the first that passes: it does, and none before it
  record IsFirst (from more unit : ℕ) : Type 0 where
    bound : unit < from + more
    passes : test unit ≡ true
    least : (n : ℕ) → from ≤ n → n < unit → test n ≡ false

  abbrev NonePasses : ℕ → ℕ → Type 0
  NonePasses from more = (n : ℕ) → from ≤ n → n < from + more → test n ≡ false

  -- the first fails, and what follows
  and_later : (from n : ℕ) → test from ≡ false → (from + 1 ≤ n → test n ≡ false) → from ≤ n → test n ≡ false
  and_later from n here later low = ⊎_elim (λ (e : n ≡ from). ap test e ∙ here) (λ ne. later (omega (arith, ne))) (cases_eq n from)

  first_found : (more from unit : ℕ) → first_unit more from test ≡ Some unit → IsFirst from more unit
  unfolding first_unit
  first_found zero from unit e = cc
  first_found (suc more) from unit e = by (test from) refl e (first_found more (from + 1) unit)
    where
      by : (b : Bool) → test from ≡ b → elim b as (λ _. Option ℕ) [ true ↦ Some from | false ↦ first_unit more (from + 1) test ] ≡ Some unit
          → (first_unit more (from + 1) test ≡ Some unit → IsFirst (from + 1) more unit) → IsFirst from (suc more) unit
      by true f e ih = let same : from ≡ unit = cc in record {
        bound = omega (arith, same);
        passes = ap test (sym same) ∙ f;
        least = λ n low high. absurd (omega (arith, same));
      }
      by false f e ih = let i = ih e in record {
        bound = let b = i.bound in omega arith;
        passes = i.passes;
        least = λ n low high. and_later from n f (λ later. i.least n later high) low;
      }

  none_found : (more from : ℕ) → first_unit more from test ≡ None → NonePasses from more
  unfolding first_unit
  none_found zero from e = λ n low high. absurd (omega arith)
  none_found (suc more) from e = by (test from) refl e (none_found more (from + 1))
    where
      by : (b : Bool) → test from ≡ b → elim b as (λ _. Option ℕ) [ true ↦ Some from | false ↦ first_unit more (from + 1) test ] ≡ None
          → (first_unit more (from + 1) test ≡ None → NonePasses (from + 1) more) → NonePasses from (suc more)
      by true f e ih = cc
      by false f e ih = λ n low high. and_later from n f (λ later. ih e n later (omega arith)) low

pub lowest-free : (w : World) (p : Path) → IsLowestFree w p (lowest_free w p)
unfolding lowest_free
lowest-free w p = by (first_unit units 0 (is_unit_free w p)) refl
  where
    by : (o : Option ℕ) → first_unit units 0 (is_unit_free w p) ≡ o → IsLowestFree w p o
    by None e = λ n high. none_found (is_unit_free w p) units 0 e n (omega arith) (omega arith)
    by (Some unit) e = let f = first_found (is_unit_free w p) units 0 unit e in record {
      bound = let b = f.bound in omega arith;
      free = f.passes;
      least = λ n high. f.least n (omega arith) high;
    }

-- The lowest free port is looked for from below.
use Rattle.std.proofs.Common.{◌≡◌, ℕ, zero, suc, ◌+◌, ◌-◌, ◌<◌, ◌≤◌, Bool, true, false, Option, Some, None, refl, sym, ap, ◌∙◌, arith}
use Rattle.vn_rules.specs.Ports.{first_port}

module _ (is_free : ℕ → Bool) where
  pub port-here : (many from : ℕ) → is_free from ≡ true → first_port (suc many) from is_free ≡ Some from
  unfolding first_port
  port-here many from free = ap (λ b. elim b as (λ free. Option ℕ) [ true ↦ Some from | false ↦ first_port many (from + 1) is_free ]) free

  pub port-later : (many from : ℕ) → is_free from ≡ false → first_port (suc many) from is_free ≡ first_port many (from + 1) is_free
  unfolding first_port
  port-later many from taken = ap (λ b. elim b as (λ free. Option ℕ) [ true ↦ Some from | false ↦ first_port many (from + 1) is_free ]) taken

  pub no-port : (from : ℕ) → first_port zero from is_free ≡ None
  unfolding first_port
  no-port from = refl

  module _ (many from k : ℕ) (found : Option ℕ) (so_far : first_port (many - k) (from + k) is_free ≡ found) where
    pub free-now : k < many → is_free (from + k) ≡ true → Some (from + k) ≡ found
    free-now less free =
        let left : many - k ≡ suc (many - (k + 1)) = omega arith in
        sym (port-here (many - (k + 1)) (from + k) free) ∙ ap (λ n. first_port n (from + k) is_free) (sym left) ∙ so_far

    pub taken-now : k < many → is_free (from + k) ≡ false → first_port (many - (k + 1)) (from + (k + 1)) is_free ≡ found
    taken-now less taken =
        let left : many - k ≡ suc (many - (k + 1)) = omega arith in
        let next : from + (k + 1) ≡ from + k + 1 = omega arith in
        ap (λ p. first_port (many - (k + 1)) p is_free) next ∙ sym (port-later (many - (k + 1)) (from + k) taken)
        ∙ ap (λ n. first_port n (from + k) is_free) (sym left) ∙ so_far

    pub none-left : many ≤ k → None ≡ found
    none-left past =
        let left : many - k ≡ 0 = omega arith in
        sym (no-port (from + k)) ∙ ap (λ n. first_port n (from + k) is_free) (sym left) ∙ so_far

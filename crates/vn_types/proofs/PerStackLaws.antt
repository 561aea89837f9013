-- Changes of what is kept for one stack number, one after another.
use Rattle.std.proofs.Common.{◌≡◌, ◌≢◌, ℕ, refl, ◌∙◌, ⊎_elim}
use Rattle.std.proofs.lemmas.Bool.{cases_eq}
use Rattle.vn_types.specs.PerStack.{ChangesOnly}

module _ {S : Type 0} where
  pub unchanged : (sid : ℕ) (f : ℕ → S) → ChangesOnly sid f f
  unchanged sid f = record { others = λ q ne. refl }

  pub after : (sid : ℕ) (f g h : ℕ → S) → ChangesOnly sid f g → ChangesOnly sid g h → ChangesOnly sid f h
  after sid f g h first then = record { others = λ q ne. then.others q ne ∙ first.others q ne }

  -- what holds of each stack's part still does, where it holds of the part that changed
  pub each_stays : (P : S → Type 0) (sid : ℕ) (f g : ℕ → S) → ChangesOnly sid f g → ((q : ℕ) → P (f q)) → P (g sid) → (q : ℕ) → P (g q)
  each_stays P sid f g change all here q = ⊎_elim at_sid elsewhere (cases_eq q sid)
    where
      at_sid : q ≡ sid → P (g q)
      at_sid e = rw e here

      elsewhere : q ≢ sid → P (g q)
      elsewhere ne = rw (change.others q ne) (all q)

-- Lists whose elements are in a relation with those that stand behind them, when one comes or goes.
use Rattle.std.proofs.Common.{◌≡◌, ℕ, ◌+◌, ◌-◌, ◌<◌, ◌≤◌, List, length, get_or, sym, ap, ◌∙◌, subst, arith, ⊎_elim}
use Rattle.std.specs.List.{insert, remove}
use Rattle.std.proofs.lemmas.Bool.{cases_order, cases_lt}
use Rattle.std.proofs.lemmas.List.Edits.{length-insert, get_or-insert_below, get_or-insert_at, get_or-insert_above, length-remove, get_or-remove_below, get_or-remove_above}

module _ {X : Type 0} (R : X → X → Type 0) where
  -- each element is in the relation with any later one
  abbrev pub IsChain : List X → Type 0
  IsChain xs = (i j : ℕ) (d : X) → i < j → j < length xs → R (get_or xs i d) (get_or xs j d)

  both : (x y u v : X) → x ≡ u → y ≡ v → R u v → R x y
  both x y u v first second is = subst (λ w. R w y) (sym first) (subst (R u) (sym second) is)

  pub chain-insert : (xs : List X) (i : ℕ) (y : X) → IsChain xs → i ≤ length xs → ((k : ℕ) (d : X) → k < i → R (get_or xs k d) y)
      → ((k : ℕ) (d : X) → i ≤ k → k < length xs → R y (get_or xs k d)) → IsChain (insert xs i y)
  chain-insert xs i y chain in' before behind a b d less within = ⊎_elim at (λ c. ⊎_elim below beyond c) (cases_order b i)
    where
      size : length (insert xs i y) ≡ length xs + 1
      size = length-insert xs i y in'

      low : (m : ℕ) → m < i → get_or (insert xs i y) m d ≡ get_or xs m d
      low m lt = get_or-insert_below xs i y d m lt in'

      here : (m : ℕ) → m ≡ i → get_or (insert xs i y) m d ≡ y
      here m e = ap (λ k. get_or (insert xs i y) k d) e ∙ get_or-insert_at xs i y d in'

      high : (m : ℕ) → i < m → get_or (insert xs i y) m d ≡ get_or xs (m - 1) d
      high m gt =
          let e : m ≡ (m - 1) + 1 = omega arith in
          ap (λ k. get_or (insert xs i y) k d) e ∙ get_or-insert_above xs i y d (m - 1) (omega arith) in'

      at : b ≡ i → R (get_or (insert xs i y) a d) (get_or (insert xs i y) b d)
      at e = both _ _ _ _ (low a (omega arith)) (here b e) (before a d (omega arith))

      below : b < i → R (get_or (insert xs i y) a d) (get_or (insert xs i y) b d)
      below lt = both _ _ _ _ (low a (omega arith)) (low b lt) (chain a b d less (omega arith))

      beyond : i < b → R (get_or (insert xs i y) a d) (get_or (insert xs i y) b d)
      beyond gt =
          let small : b - 1 < length xs = omega (arith, size) in
          ⊎_elim (λ (e : a ≡ i). both _ _ _ _ (here a e) (high b gt) (behind (b - 1) d (omega arith) small))
          (λ c. ⊎_elim (λ (lt : a < i). both _ _ _ _ (low a lt) (high b gt) (chain a (b - 1) d (omega arith) small))
          (λ (more : i < a). both _ _ _ _ (high a more) (high b gt) (chain (a - 1) (b - 1) d (omega arith) small)) c)
          (cases_order a i)

  pub chain-remove : (xs : List X) (i : ℕ) → IsChain xs → i < length xs → IsChain (remove xs i)
  chain-remove xs i chain in' a b d less within = ⊎_elim below beyond (cases_lt b i)
    where
      size : length (remove xs i) + 1 ≡ length xs
      size = length-remove xs i in'

      low : (m : ℕ) → m < i → get_or (remove xs i) m d ≡ get_or xs m d
      low m lt = get_or-remove_below xs i d m lt in'

      high : (m : ℕ) → i ≤ m → get_or (remove xs i) m d ≡ get_or xs (m + 1) d
      high m le = get_or-remove_above xs i d m le in'

      below : b < i → R (get_or (remove xs i) a d) (get_or (remove xs i) b d)
      below lt = both _ _ _ _ (low a (omega arith)) (low b lt) (chain a b d less (omega arith))

      beyond : i ≤ b → R (get_or (remove xs i) a d) (get_or (remove xs i) b d)
      beyond le =
          ⊎_elim (λ (lt : a < i). both _ _ _ _ (low a lt) (high b le) (chain a (b + 1) d (omega arith) (omega (arith, size))))
          (λ (more : i ≤ a). both _ _ _ _ (high a more) (high b le) (chain (a + 1) (b + 1) d (omega arith) (omega (arith, size))))
          (cases_lt a i)

-- Sockets that are marked one after another, until none is left to mark.
use Rattle.std.proofs.Common.{◌≡◌, ℕ, zero, suc, ◌<◌, ◌+◌, Bool, true, false, cond, not, ◌&&◌, List, [], ◌∷◌, count_by, map, set, slice_get, Option, Some, None, IfSome, is_some, refl, sym, ap, ap₂, subst, ◌∙◌, arith}
use Rattle.std.specs.List.{list_any, position}
use Rattle.std.proofs.lemmas.Bool.{and_parts, and_right, cond_both, or_parts}
use Rattle.std.proofs.lemmas.List.Sums.{sum_by-cons}
use Rattle.std.proofs.lemmas.Option.{get_or_from_slice_get}
use Rattle.std.proofs.Math.Seq.{map-set_same}
use Rattle.vn_types.specs.declared.address.Ip4.{Ip4}
use Rattle.vn_types.specs.declared.interface.HalfId.{HalfId}
use Rattle.vn_rules.specs.declared.socket.SocketOf.{SocketOf}
use Rattle.vn_rules.specs.Sockets.{has_sent}
use Rattle.vn_rules.proofs.ListTests.{find_passes}
use Rattle.vn_sock.specs.Kept.{is_to_refuse, refused}
use Rattle.vn_sock.proofs.PlaceEdits.{first-is-position, first-some}
use Rattle.vn_sock.proofs.Places.{IsPlace, found-at, place-is, stands}

-- where one that passes gives way to one that does not, one less passes
one-less : {A : Type 0} (t : A → Bool) (xs : List A) (k : ℕ) (x y : A) → slice_get xs k ≡ Some x → t x ≡ true → t y ≡ false → count_by t (set xs k y) < count_by t xs
one-less t [] k x y at here other = absurd (cc)
one-less t (z ∷ xs) zero x y at here other =
    let same : z ≡ x = cc in
    let counted : count_by t (z ∷ xs) ≡ cond (t z) 1 0 + count_by t xs = sum_by-cons (λ u. cond (t u) 1 0) z xs in
    let written : count_by t (y ∷ xs) ≡ cond (t y) 1 0 + count_by t xs = sum_by-cons (λ u. cond (t u) 1 0) y xs in
    let one : cond {A = ℕ} (t z) 1 0 ≡ 1 = ap (λ b. cond b 1 0) (ap t same ∙ here) in
    let none : cond {A = ℕ} (t y) 1 0 ≡ 0 = ap (λ b. cond b 1 0) other in
    omega arith
one-less t (z ∷ xs) (suc k) x y at here other =
    let counted : count_by t (z ∷ xs) ≡ cond (t z) 1 0 + count_by t xs = sum_by-cons (λ u. cond (t u) 1 0) z xs in
    let written : count_by t (z ∷ set xs k y) ≡ cond (t z) 1 0 + count_by t (set xs k y) = sum_by-cons (λ u. cond (t u) 1 0) z (set xs k y) in
    let less : count_by t (set xs k y) < count_by t xs = one-less t xs k x y at here other in
    omega arith

module _ (src : Ip4) (sport : ℕ) (dst : Ip4) (dport : ℕ) where
  twice : (s : SocketOf HalfId) → refused src sport dst dport (refused src sport dst dport s) ≡ refused src sport dst dport s
  twice s = by (has_sent src sport dst dport s) refl
    where
      by : (b : Bool) → has_sent src sport dst dport s ≡ b
          → refused src sport dst dport (cond b (record s { refused = true }) s) ≡ cond b (record s { refused = true }) s
      by true is = cond_both (has_sent src sport dst dport s) (record s { refused = true }) (record s { refused = true }) (λ u. u ≡ record s { refused = true }) (λ e. refl) (λ e. refl)
      by false is = ap (λ b. cond b (record s { refused = true }) s) is

  -- one that is not to be marked stays as it is
  still : (s : SocketOf HalfId) → is_to_refuse src sport dst dport s ≡ false → refused src sport dst dport s ≡ s
  still s = by (has_sent src sport dst dport s) s.refused refl
    where
      by : (b r : Bool) → s.refused ≡ r → (b && not r) ≡ false → cond b (record s { refused = true }) s ≡ s
      by true true is none = ap (λ x. record s { refused = x }) (sym is)
      by true false is none = absurd (cc)
      by false r is none = refl

  -- and one that is marked is not to be marked again
  marked : (s : SocketOf HalfId) → is_to_refuse src sport dst dport s ≡ true → is_to_refuse src sport dst dport (refused src sport dst dport s) ≡ false
  marked s is =
      let has : has_sent src sport dst dport s ≡ true = (and_parts (has_sent src sport dst dport s) _ is).0 in
      ap (is_to_refuse src sport dst dport) (ap (λ b. cond b (record s { refused = true }) s) has)
      ∙ and_right (has_sent src sport dst dport s) false refl

  all-still : (ys : List (SocketOf HalfId)) → list_any (is_to_refuse src sport dst dport) ys ≡ false → map (refused src sport dst dport) ys ≡ ys
  all-still [] none = refl
  all-still (y ∷ ys) none = let parts = or_parts (is_to_refuse src sport dst dport y) _ none in ap₂ (λ z zs. z ∷ zs) (still y parts.0) (all-still ys parts.1)

  -- none is left to mark, so all are marked
  pub all-marked : (xs ys : List (SocketOf HalfId)) → map (refused src sport dst dport) ys ≡ map (refused src sport dst dport) xs → None ≡ position (is_to_refuse src sport dst dport) ys
      → ys ≡ map (refused src sport dst dport) xs
  all-marked xs ys same none =
      sym (all-still ys (sym (first-some (is_to_refuse src sport dst dport) ys) ∙ ap is_some (first-is-position (is_to_refuse src sport dst dport) ys ∙ sym none))) ∙ same

  module _ (xs ys zs : List (SocketOf HalfId)) (k : ℕ) (place : Some k ≡ position (is_to_refuse src sport dst dport) ys)
      (written : IfSome (slice_get ys k) (λ s. zs ≡ set ys k (refused src sport dst dport s))) where
    -- the marks are the same after one more
    pub marks-same : map (refused src sport dst dport) ys ≡ map (refused src sport dst dport) xs → map (refused src sport dst dport) zs ≡ map (refused src sport dst dport) xs
    marks-same same = by (slice_get ys k) refl written
      where
        by : (o : Option (SocketOf HalfId)) → slice_get ys k ≡ o → IfSome o (λ s. zs ≡ set ys k (refused src sport dst dport s)) → map (refused src sport dst dport) zs ≡ map (refused src sport dst dport) xs
        by None at is = absurd (stands ys k (IsPlace.within (place-is (is_to_refuse src sport dst dport) ys k place)) at)
        by (Some s) at is =
            ap (map (refused src sport dst dport)) is
            ∙ map-set_same (refused src sport dst dport) ys k (refused src sport dst dport s) s (twice s ∙ ap (refused src sport dst dport) (sym (get_or_from_slice_get ys k s s at)))
            ∙ same

    -- and fewer are left to mark
    pub fewer : count_by (is_to_refuse src sport dst dport) zs < count_by (is_to_refuse src sport dst dport) ys
    fewer = by (slice_get ys k) refl written
      where
        by : (o : Option (SocketOf HalfId)) → slice_get ys k ≡ o → IfSome o (λ s. zs ≡ set ys k (refused src sport dst dport s)) → count_by (is_to_refuse src sport dst dport) zs < count_by (is_to_refuse src sport dst dport) ys
        by None at is = absurd (stands ys k (IsPlace.within (place-is (is_to_refuse src sport dst dport) ys k place)) at)
        by (Some s) at is =
            let passes : is_to_refuse src sport dst dport s ≡ true = find_passes (is_to_refuse src sport dst dport) ys s (sym (found-at (is_to_refuse src sport dst dport) ys k place) ∙ at) in
            subst (λ (ws : List (SocketOf HalfId)). count_by (is_to_refuse src sport dst dport) ws < count_by (is_to_refuse src sport dst dport) ys) (sym is)
            (one-less (is_to_refuse src sport dst dport) ys k s (refused src sport dst dport s) at passes (marked s passes))

-- The first half to which a frame comes.
use Rattle.std.proofs.Common.{◌≡◌, ◌≢◌, ℕ, ◌<◌, ◌≤◌, Bool, true, false, not, ◌==◌, ◌&&◌, List, length, get_or, Option, unwrap_or, IfSome, refl, sym, subst, ap, ◌∙◌, arith, ⊎_elim}
use Rattle.std.specs.Prelude.{nat_lt}
use Rattle.std.specs.List.{list_any}
use Rattle.std.proofs.lemmas.Bool.{eq-eqb, and_from, not-false, false_from_ne_true, lt-ltb, le-ltb, cases_lt, false≢true}
use Rattle.std.proofs.lemmas.List.Folds.{list_any_at}
use Rattle.vn_types.specs.declared.interface.HalfId.{HalfId}
use Rattle.vn_types.specs.declared.interface.Sid.{Sid}
use Rattle.vn_types.proofs.InterfaceNames.{half_id_eq-Decides}
use Rattle.vn_epair.specs.declared.line.Awaited.{Awaited}
use Rattle.vn_epair.specs.declared.pair_row.TheConstants.{UNIT_MAX}
use Rattle.vn_epair.specs.Halves.{Pair}
use Rattle.vn_epair.specs.Pairs.{home_of, is_awaiting, new_pair, of, turn, turn_of, IsNextQueued}
use Rattle.vn_epair.specs.Line.{Halves, is_half, rank}
use Rattle.vn_epair.specs.Kept.{is_right, IsKept, Names}
use Rattle.vn_epair.proofs.Lists.{any-agree, any-never}
use Rattle.vn_epair.proofs.Names.{named-some}
use Rattle.vn_epair.proofs.Order.{Found, found}

module _ (pairs : List (Option Pair)) (names : Names) (line : Halves) (kept : IsKept pairs names line) where
  -- what is listed is listed under its pair's home and unit
  right-at : (e : Awaited) (k : ℕ) → k < length line.listed → ((d : Awaited) → get_or line.listed k d ≡ e) → is_right pairs e ≡ true
  right-at e k within is = not-false (is_right pairs e) (false_from_ne_true (not (is_right pairs e)) (λ bad. false≢true (sym kept.right ∙ list_any_at (λ e. not (is_right pairs e)) line.listed k e within (ap (λ x. not (is_right pairs x)) (is e) ∙ bad))))

  home-at : (e : Awaited) → is_right pairs e ≡ true → home_of pairs e.half ≡ e.home.0
  home-at e right = let p = named-some e.home.0 e.unit (of pairs e.half.pair) right in ap (λ o. (unwrap_or o (new_pair 0 0)).home) p.1 ∙ p.2

  turn-at : (e : Awaited) → is_right pairs e ≡ true → turn pairs e.half ≡ turn_of e.unit e.half.side
  turn-at e right = let p = named-some e.home.0 e.unit (of pairs e.half.pair) right in ap (λ o. turn_of (unwrap_or o (new_pair 0 0)).unit e.half.side) p.1 ∙ ap (λ u. turn_of u e.half.side) p.3

  -- no unit that is listed is above the greatest
  pub units-listed : list_any (λ (e : Awaited). nat_lt UNIT_MAX e.unit) line.listed ≡ false
  units-listed = any-agree (λ (e : Awaited). nat_lt UNIT_MAX e.unit) (λ _. false) (λ e. not (is_right pairs e)) line.listed kept.right small ∙ any-never line.listed
    where
      small : (e : Awaited) → not (is_right pairs e) ≡ false → nat_lt UNIT_MAX e.unit ≡ false
      small e h =
          let p = named-some e.home.0 e.unit (of pairs e.half.pair) (not-false (is_right pairs e) h) in
          let bound : p.0.unit ≤ UNIT_MAX = subst (λ o. IfSome o (λ pair. pair.unit ≤ UNIT_MAX)) p.1 (kept.units e.half.pair) in
          le-ltb UNIT_MAX e.unit (subst (λ u. u ≤ UNIT_MAX) p.3 bound)

  -- what is awaited is listed
  entry : (h : HalfId) → is_awaiting pairs h ≡ true → Found (is_half h) line.listed
  entry h waits = found (is_half h) line.listed (kept.listed h ∙ waits)

  half-of : (h : HalfId) (e : Awaited) → is_half h e ≡ true → h ≡ e.half
  half-of h e = (half_id_eq-Decides h e.half).0

  -- no frame comes to a half of a home of which none is listed
  pub quiet-home : (home : ℕ) → list_any (λ (e : Awaited). e.home.0 == home) line.listed ≡ false → (h : HalfId) → is_awaiting pairs h ≡ true → home_of pairs h ≢ home
  quiet-home home none h waits same = by (entry h waits)
    where
      by : Found (is_half h) line.listed → ⊥
      by f =
          let right = right-at f.element f.at f.within f.is in
          let half = half-of h f.element f.passes in
          let at : f.element.home.0 ≡ home = sym (ap (home_of pairs) half ∙ home-at f.element right) ∙ same in
          false≢true (sym none ∙ list_any_at (λ (e : Awaited). e.home.0 == home) line.listed f.at f.element f.within (ap (λ (x : Awaited). x.home.0 == home) (f.is f.element) ∙ eq-eqb f.element.home.0 home at))

  pub next-is : (order : List Sid) (place : ℕ) (r : Awaited) → place < length order → ((d : Sid) → get_or order place d ≡ r.home) → ((k : ℕ) (d : Sid) → k < place → list_any (λ (e : Awaited). e.home.0 == (get_or order k d).0) line.listed ≡ false)
      → ((test : Awaited → Bool) → test r ≡ true → list_any test line.listed ≡ true) → list_any (λ (e : Awaited). (e.home.0 == r.home.0) && nat_lt (rank e) (rank r)) line.listed ≡ false → IsNextQueued order pairs r.half
  next-is order place r within at quiet member first = record {
    awaiting = sym (kept.listed r.half) ∙ member (is_half r.half) ((half_id_eq-Decides r.half r.half).1 refl);
    place = place;
    listed = within;
    home = λ d. ap (λ (s : Sid). s.0) (at d) ∙ sym (home-at r right);
    homes = λ i d other lt waits. quiet-home (get_or order i d).0 (quiet i d lt) other waits;
    first = λ other waits same. by other waits same (entry other waits);
  }
    where
      right : is_right pairs r ≡ true
      right = not-false (is_right pairs r) (false_from_ne_true (not (is_right pairs r)) (λ bad. false≢true (sym kept.right ∙ member (λ e. not (is_right pairs e)) bad)))

      by : (other : HalfId) → is_awaiting pairs other ≡ true → home_of pairs other ≡ home_of pairs r.half → Found (is_half other) line.listed → turn pairs r.half ≤ turn pairs other
      by other waits same f = ⊎_elim below above (cases_lt (rank f.element) (rank r))
        where
          right-f : is_right pairs f.element ≡ true
          right-f = right-at f.element f.at f.within f.is

          half : other ≡ f.element.half
          half = half-of other f.element f.passes

          home : f.element.home.0 ≡ r.home.0
          home = sym (ap (home_of pairs) half ∙ home-at f.element right-f) ∙ same ∙ home-at r right

          below : rank f.element < rank r → turn pairs r.half ≤ turn pairs other
          below lt =
              absurd (false≢true (sym first ∙ list_any_at (λ (e : Awaited). (e.home.0 == r.home.0) && nat_lt (rank e) (rank r)) line.listed f.at f.element f.within
              (ap (λ (e : Awaited). (e.home.0 == r.home.0) && nat_lt (rank e) (rank r)) (f.is f.element) ∙ and_from (f.element.home.0 == r.home.0) (nat_lt (rank f.element) (rank r)) (eq-eqb f.element.home.0 r.home.0 home) (lt-ltb (rank f.element) (rank r) lt))))

          above : rank r ≤ rank f.element → turn pairs r.half ≤ turn pairs other
          above le =
              let tr = turn-at r right in
              let tf = turn-at f.element right-f in
              let to = ap (turn pairs) half in
              let h = home in
              omega arith

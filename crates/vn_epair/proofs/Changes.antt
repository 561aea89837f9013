-- One pair becomes another of the same name.
use Rattle.std.proofs.Common.{◌≡◌, ◌≢◌, ℕ, ◌+◌, ◌<◌, ◌≤◌, true, false, not, ◌==◌, ◌&&◌, List, length, Option, Some, None, IfSome, sym, subst, ap, ap₂, ◌∙◌, arith, ⊎_elim}
use Rattle.std.specs.Prelude.{slice_set}
use Rattle.std.specs.List.{list_any, sum_by}
use Rattle.std.proofs.lemmas.Bool.{cases_eq, cases_lt}
use Rattle.std.proofs.lemmas.List.{get_or-set_same, get_or-set_other, get_or_past}
use Rattle.std.proofs.lemmas.List.Sums.{sum_by-set}
use Rattle.vn_types.specs.declared.interface.HalfId.{HalfId}
use Rattle.vn_epair.specs.declared.line.Awaited.{Awaited}
use Rattle.vn_epair.specs.declared.pair_row.TheConstants.{UNIT_MAX}
use Rattle.vn_epair.specs.Halves.{Pair}
use Rattle.vn_epair.specs.Pairs.{is_awaiting, is_named, of}
use Rattle.vn_epair.specs.Line.{Halves, is_half}
use Rattle.vn_epair.specs.Kept.{Name, quiet_halves, is_right, IsKept, told, Names}

-- the half of a pair, with its home and unit
abbrev pub awaited_of : Pair → HalfId → Awaited
awaited_of pair half = record { home = record { 0 = pair.home }; unit = pair.unit; half = half }

-- ---- one place of the list

-- a number that has a pair is within the list
pub inside : (pairs : List (Option Pair)) (n : ℕ) (p : Pair) → of pairs n ≡ Some p → n < length pairs
inside pairs n p is = ⊎_elim (λ (lt : n < length pairs). lt) (λ (le : length pairs ≤ n). let none = get_or_past pairs n None le in absurd (by (sym none ∙ is))) (cases_lt n (length pairs))
  where
    by : None ≡ Some p → ⊥
    by e = cc

-- one pair becomes another of the same name
pub record IsChanged (pairs pairs' : List (Option Pair)) (n : ℕ) (p p' : Pair) : Type 0 where
  pub was : of pairs n ≡ Some p
  pub is : pairs' ≡ slice_set pairs n (Some p')
  pub home : p'.home ≡ p.home
  pub unit : p'.unit ≡ p.unit

module _ (pairs pairs' : List (Option Pair)) (n : ℕ) (p p' : Pair) (c : IsChanged pairs pairs' n p p') where
  pub here : of pairs' n ≡ Some p'
  here = ap (λ ps. of ps n) c.is ∙ get_or-set_same pairs n (Some p') None (inside pairs n p c.was)

  pub elsewhere : (q : ℕ) → q ≢ n → of pairs' q ≡ of pairs q
  elsewhere q ne = ap (λ ps. of ps q) c.is ∙ get_or-set_other pairs n q (Some p') None ne

  pub same-names : (home unit q : ℕ) → is_named home unit (of pairs' q) ≡ is_named home unit (of pairs q)
  same-names home unit q = ⊎_elim at (λ ne. ap (is_named home unit) (elsewhere q ne)) (cases_eq q n)
    where
      at : q ≡ n → is_named home unit (of pairs' q) ≡ is_named home unit (of pairs q)
      at e =
          ap (λ k. is_named home unit (of pairs' k)) e ∙ ap (is_named home unit) here
          ∙ ap₂ (λ h u. (h == home) && (u == unit)) c.home c.unit
          ∙ sym (ap (λ k. is_named home unit (of pairs k)) e ∙ ap (is_named home unit) c.was)

  carried : (P : Pair → ℕ → Type 0) → P p' n → ((q : ℕ) → IfSome (of pairs q) (λ pair. P pair q)) → (q : ℕ) → IfSome (of pairs' q) (λ pair. P pair q)
  carried P at all q = ⊎_elim same apart (cases_eq q n)
    where
      same : q ≡ n → IfSome (of pairs' q) (λ pair. P pair q)
      same e = subst (λ k. IfSome (of pairs' k) (λ pair. P pair k)) (sym e) (subst (λ o. IfSome o (λ pair. P pair n)) (sym here) at)

      apart : q ≢ n → IfSome (of pairs' q) (λ pair. P pair q)
      apart ne = subst (λ o. IfSome o (λ pair. P pair q)) (sym (elsewhere q ne)) (all q)

  before : (P : Pair → ℕ → Type 0) → ((q : ℕ) → IfSome (of pairs q) (λ pair. P pair q)) → P p n
  before P all = subst (λ o. IfSome o (λ pair. P pair n)) c.was (all n)

  -- the names and the numbers stay, so what is left is of the frames
  pub kept-changed : (names : Names) (line line' : Halves) → IsKept pairs names line → ((h : HalfId) → list_any (is_half h) line'.listed ≡ is_awaiting pairs' h)
      → list_any (λ e. not (is_right pairs e)) line'.listed ≡ false → line'.room + quiet_halves (Some p) ≡ line.room + quiet_halves (Some p') → IsKept pairs' names line'
  kept-changed names line line' kept listed right room = record {
    named = named;
    standing = standing;
    units = units;
    listed = listed;
    right = ap (λ f. list_any f line'.listed) (λ i e. not (same-names e.home.0 e.unit e.half.pair i)) ∙ right;
    room = counted;
  }
    where
      named : (q : ℕ) → IfSome (of pairs' q) (λ pair. told names (pair.home, pair.unit) ≡ Some q)
      named = carried (λ pair q. told names (pair.home, pair.unit) ≡ Some q) (ap (told names) (λ i. (c.home i, c.unit i)) ∙ before (λ pair q. told names (pair.home, pair.unit) ≡ Some q) kept.named) kept.named

      standing : (k : Name) → IfSome (told names k) (λ q. is_named k.0 k.1 (of pairs' q) ≡ true)
      standing k = by (told names k) (kept.standing k)
        where
          by : (o : Option ℕ) → IfSome o (λ q. is_named k.0 k.1 (of pairs q) ≡ true) → IfSome o (λ q. is_named k.0 k.1 (of pairs' q) ≡ true)
          by None is = is
          by (Some q) is = same-names k.0 k.1 q ∙ is

      units : (q : ℕ) → IfSome (of pairs' q) (λ pair. pair.unit ≤ UNIT_MAX)
      units = carried (λ pair q. pair.unit ≤ UNIT_MAX) (subst (λ u. u ≤ UNIT_MAX) (sym c.unit) (before (λ pair q. pair.unit ≤ UNIT_MAX) kept.units)) kept.units

      counted : line'.room ≡ sum_by quiet_halves pairs'
      counted =
          let sums = sum_by-set quiet_halves pairs n (Some p') None (inside pairs n p c.was) in
          let was = ap quiet_halves c.was in
          let now = ap (sum_by quiet_halves) c.is in
          let before = kept.room in
          omega arith

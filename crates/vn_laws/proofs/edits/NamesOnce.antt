-- A name stands at most once in a stack, counted in its list.
use Rattle.std.proofs.Common.{◌≡◌, ℕ, ◌+◌, ◌≤◌, ◌==◌, Bool, true, false, ◌||◌, List, [], ◌∷◌, refl, sym, ap, ◌∙◌, subst, arith}
use Rattle.std.specs.Prelude.{count_by}
use Rattle.std.specs.List.{list_any}
use Rattle.std.proofs.lemmas.Bool.{and_parts, or_right, true≢false}
use Rattle.std.proofs.lemmas.Bool.Decides.{Decides-eqb}
use Rattle.vn_types.specs.declared.half.Half.{Half}
use Rattle.vn_types.specs.declared.interface.Side.{Side}
use Rattle.vn_types.specs.declared.interface.IfOf.TheVariants.{Lo0, Half as OfHalf}
use Rattle.vn_types.specs.Interfaces.{side_eq}
use Rattle.vn_types.proofs.InterfaceNames.{side_eq-Decides}
use Rattle.vn_cells.specs.declared.world.World.{World}
use Rattle.vn_cells.specs.world.Names.{Path, If, if_eq, key_of}
use Rattle.vn_cells.specs.world.World.{stack_at, pair_at, is_alive, ifs_of}
use Rattle.vn_cells.specs.keeping.Standing.{stands_at, times, times_listed, IsStanding}
use Rattle.vn_cells.specs.keeping.Sound.{IsSound}
use Rattle.vn_cells.specs.keeping.Clean.{has_name}
use Rattle.vn_packets.proofs.Counting.{count-cons}
use Rattle.vn_laws.proofs.pairs.Listed.{if_eq-refl, has-count}

abbrev has : List If → If → Bool
has ifs i = list_any (if_eq i) ifs

module _ (unit : ℕ) (side : Side) where
  abbrev named : If → Bool
  named = has_name unit side

  first : (i : If) (ifs : List If) → has (i ∷ ifs) i ≡ true
  first i ifs = ap (λ b. b || has ifs i) (if_eq-refl i)

  none_named : (ifs : List If) → ((i : If) → has ifs i ≡ true → named i ≡ true → ⊥) → count_by named ifs ≡ 0
  none_named [] none = refl
  none_named (i ∷ ifs) none =
      count-cons named i ifs ∙ by (named i) refl (none_named ifs (λ k e. none k (or_right (if_eq k i) (has ifs k) e)))
    where
      by : (b : Bool) → named i ≡ b → count_by named ifs ≡ 0 → times b + count_by named ifs ≡ 0
      by true e ih = absurd (none i (first i ifs) e)
      by false e ih = omega arith

  at_most_one : (ifs : List If) → ((i : If) → count_by (if_eq i) ifs ≤ 1)
      → ((i k : If) → has ifs i ≡ true → has ifs k ≡ true → named i ≡ true → named k ≡ true → i ≡ k) → count_by named ifs ≤ 1
  at_most_one [] few same = omega arith
  at_most_one (i ∷ ifs) few same =
      subst (λ n. n ≤ 1) (sym (count-cons named i ifs))
      (by (named i) refl
      (at_most_one ifs fewer (λ k l a b. same k l (or_right (if_eq k i) (has ifs k) a) (or_right (if_eq l i) (has ifs l) b))))
    where
      fewer : (k : If) → count_by (if_eq k) ifs ≤ 1
      fewer k = let n = few k in let m = count-cons (if_eq k) i ifs in omega arith

      gone : count_by (if_eq i) ifs ≡ 0
      gone =
          let n = few i in
          let m = count-cons (if_eq i) i ifs ∙ ap (λ b. times b + count_by (if_eq i) ifs) (if_eq-refl i) in
          omega arith

      by : (b : Bool) → named i ≡ b → count_by named ifs ≤ 1 → times b + count_by named ifs ≤ 1
      by true e ih =
          let none : count_by named ifs ≡ 0 = none_named ifs (λ k a n.
          true≢false (sym (subst (λ l. has ifs l ≡ true) (same k i (or_right (if_eq k i) (has ifs k) a) (first i ifs) n e) a) ∙ has-count i ifs false gone)) in
          omega arith
      by false e ih = omega arith

-- an interface is listed at most once in a stack
pub listed_once : (w : World) → IsStanding w → (p : Path) (i : If) → count_by (if_eq i) (ifs_of (stack_at w p)) ≤ 1
listed_once w standing p i = subst (λ n. n ≤ 1) (sym (standing.listed p i)) (by i)
  where
    once : (b : Bool) → times b ≤ 1
    once true = omega arith
    once false = omega arith

    by : (i : If) → times_listed w p i ≤ 1
    by Lo0 = once (is_alive w p)
    by (OfHalf h) = once (stands_at p h.side (pair_at w (key_of h)))

module _ {w : World} (s : IsSound w) (p : Path) where
  -- a half is listed where it stands
  listed_there : (h : Half) → has (ifs_of (stack_at w p)) (OfHalf h) ≡ stands_at p h.side (pair_at w (key_of h))
  listed_there h = has-count (OfHalf h) (ifs_of (stack_at w p)) _ (s.standing.listed p (OfHalf h))

  pub listed_stands : (h : Half) → has (ifs_of (stack_at w p)) (OfHalf h) ≡ true → stands_at p h.side (pair_at w (key_of h)) ≡ true
  listed_stands h there = sym (listed_there h) ∙ there

  pub unlisted_stands : (h : Half) → has (ifs_of (stack_at w p)) (OfHalf h) ≡ false → stands_at p h.side (pair_at w (key_of h)) ≡ false
  unlisted_stands h out = sym (listed_there h) ∙ out

  pub name_once : (unit : ℕ) (side : Side) → count_by (has_name unit side) (ifs_of (stack_at w p)) ≤ 1
  name_once unit side = at_most_one unit side (ifs_of (stack_at w p)) (listed_once w s.standing p) same
    where
      same : (i k : If) → has (ifs_of (stack_at w p)) i ≡ true → has (ifs_of (stack_at w p)) k ≡ true
          → has_name unit side i ≡ true → has_name unit side k ≡ true → i ≡ k
      same Lo0 k a b m n = cc
      same (OfHalf g) Lo0 a b m n = cc
      same (OfHalf g) (OfHalf h) a b m n =
          let gs = and_parts (g.unit == unit) (side_eq g.side side) m in
          let hs = and_parts (h.unit == unit) (side_eq h.side side) n in
          let u : g.unit ≡ h.unit = (Decides-eqb g.unit unit).0 gs.0 ∙ sym ((Decides-eqb h.unit unit).0 hs.0) in
          let d : g.side ≡ h.side = (side_eq-Decides g.side side).0 gs.1 ∙ sym ((side_eq-Decides h.side side).0 hs.1) in
          let home : g.home ≡ h.home = s.names.once p g h (listed_stands g a) (listed_stands h b) u d in
          λ i. OfHalf (record { home = home i; unit = u i; side = d i })

-- Some unit is free where there are fewer pairs than units: each pair takes one.
use Rattle.std.proofs.Common.{◌≡◌, ℕ, zero, suc, ◌+◌, ◌<◌, ◌≤◌, ◌==◌, Bool, true, false, ◌&&◌, ◌||◌, not, List, [], ◌∷◌, length, Option, Some, None, refl, sym, ap, ◌∙◌, ◌⊎◌, inl, inr, ⊎_elim, arith}
use Rattle.std.specs.List.{filter, list_any}
use Rattle.std.specs.Option.{is_some}
use Rattle.std.proofs.lemmas.Bool.{and_parts, cases_lt, eq-eqb, eqb-true, false_from_ne_true, not-false}
use Rattle.std.proofs.lemmas.List.Filters.{length-filter_both}
use Rattle.std.proofs.lemmas.List.Folds.{list_any_at}
use Rattle.vn_types.specs.declared.interface.HalfId.{HalfId}
use Rattle.vn_types.specs.declared.interface.IfName.TheVariants.{Epair, Lo0 as Lo0Name}
use Rattle.vn_types.specs.declared.interface.IfOf.{IfOf}
use Rattle.vn_types.specs.declared.interface.IfOf.TheVariants.{Lo0, Half}
use Rattle.vn_types.specs.declared.interface.Side.{Side}
use Rattle.vn_types.specs.declared.interface.Side.TheVariants.{A, B}
use Rattle.vn_rules.proofs.Kept.{any_filter_in, any_weaker}
use Rattle.vn_epair.specs.declared.pair_row.TheConstants.{UNIT_MAX}
use Rattle.vn_epair.specs.Halves.{Pair}
use Rattle.vn_epair.specs.Pairs.{HasFree, is_named}
use Rattle.vn_epair.proofs.Changes.{inside}
use Rattle.vn_ifnet.specs.Stacks.{named}
use Rattle.vn_vmove.specs.declared.tables.Tables.{Tables}
use Rattle.vn_vmove.specs.Parts.{held, pair_at}
use Rattle.vn_vmove.specs.Sound.{IsSound, half_name, name_in}
use Rattle.vn_vmove.proofs.Names.{found-listed, found-stands, stands-pair}
use Rattle.vn_kernel.specs.Makings.{is_free_in, stands_in}

-- ---- fewer things than numbers

module _ {X : Type 0} (has : ℕ → X → Bool) (one : (i j : ℕ) (x : X) → has i x ≡ true → has j x ≡ true → i ≡ j) where
  -- where each number below a bound is some thing's, and no thing has two, there are as many things
  pub as_many : (bound : ℕ) (xs : List X) → ((i : ℕ) → i < bound → list_any (has i) xs ≡ true) → bound ≤ length xs
  as_many zero xs each = omega arith
  as_many (suc bound) xs each =
      let rest = as_many bound (filter (λ x. not (has bound x)) xs) (λ i low. any_filter_in (has i) (λ x. not (has bound x)) xs (λ x in_list gone. other i x low (not-false (has bound x) gone)) ∙ each i (omega arith)) in
      omega (arith, rest, length-filter_both (has bound) (λ x. not (has bound x)) (λ x. refl) xs, some-filter xs (each bound (omega arith)))
    where
      other : (i : ℕ) (x : X) → i < bound → has bound x ≡ true → has i x ≡ false
      other i x low own = false_from_ne_true (has i x) (λ e. let same : i ≡ bound = one i bound x e own in absurd (omega arith))

      some-filter : (xs : List X) → list_any (has bound) xs ≡ true → 1 ≤ length (filter (has bound) xs)
      some-filter [] any = cc
      some-filter (x ∷ xs) any = by (has bound x) refl any (some-filter xs)
        where
          by : (b : Bool) → has bound x ≡ b → (b || list_any (has bound) xs) ≡ true → (list_any (has bound) xs ≡ true → 1 ≤ length (filter (has bound) xs)) → 1 ≤ length (filter (has bound) (x ∷ xs))
          by true e any more = rw e (omega arith)
          by false e any more = rw e (more any)

-- the first number below a bound that passes a test, or none does
pub first_or_none : (test : ℕ → Bool) (bound : ℕ) → ((i : ℕ) → i < bound → test i ≡ false) ⊎ ((i : ℕ) × (i < bound) × (test i ≡ true))
first_or_none test zero = inl (λ i low. absurd (omega arith))
first_or_none test (suc bound) = by (first_or_none test bound) (test bound) refl
  where
    by : ((i : ℕ) → i < bound → test i ≡ false) ⊎ ((i : ℕ) × (i < bound) × (test i ≡ true)) → (b : Bool) → test bound ≡ b
        → ((i : ℕ) → i < suc bound → test i ≡ false) ⊎ ((i : ℕ) × (i < suc bound) × (test i ≡ true))
    by (inr found) b e = inr (found.0, omega (arith, found.1), found.2)
    by (inl none) true e = inr (bound, omega arith, e)
    by (inl none) false e = inl (λ i low. ⊎_elim (λ (lt : i < bound). none i lt) (λ (le : bound ≤ i). let same : i ≡ bound = omega arith in ap test same ∙ e) (cases_lt i bound))

-- ---- units

-- whether a pair has the unit
abbrev has_unit : ℕ → Option Pair → Bool
has_unit unit None = false
has_unit unit (Some pair) = pair.unit == unit

one_unit : (i j : ℕ) (o : Option Pair) → has_unit i o ≡ true → has_unit j o ≡ true → i ≡ j
one_unit i j None a b = cc
one_unit i j (Some pair) a b = sym (eqb-true pair.unit i a) ∙ eqb-true pair.unit j b

module _ {t : Tables} (s : IsSound t) (home : ℕ) where
  -- a half that stands under a name of a unit is of a pair with it
  named-unit : (unit : ℕ) (side : Side) → stands_in t home (Epair unit side) ≡ true → list_any (has_unit unit) t.pairs ≡ true
  named-unit unit side e = by (named (Epair unit side) (held t home)) refl e
    where
      of_half : (h : HalfId) → named (Epair unit side) (held t home) ≡ Some (Half h) → list_any (has_unit unit) t.pairs ≡ true
      of_half h is =
          let f = found-stands s home (Epair unit side) h is in
          let there = stands-pair home h.side (pair_at t h.pair) f.0 in
          let called : Epair there.0.unit h.side ≡ Epair unit side = ap (λ o. half_name o h.side) (sym there.1) ∙ f.1 in
          let same : there.0.unit ≡ unit = cc in
          list_any_at (has_unit unit) t.pairs h.pair None (inside t.pairs h.pair there.0 there.1) (ap (has_unit unit) there.1 ∙ eq-eqb there.0.unit unit same)

      by : (o : Option (IfOf HalfId)) → named (Epair unit side) (held t home) ≡ o → is_some o ≡ true → list_any (has_unit unit) t.pairs ≡ true
      by None is e = cc
      by (Some Lo0) is e = absurd (not_lo0 (found-listed (Epair unit side) (name_in t) (held t home).attached Lo0 (s.names home) is).0)
        where
          not_lo0 : Lo0Name ≡ Epair unit side → ⊥
          not_lo0 e = cc
      by (Some (Half h)) is e = of_half h is

  -- each unit that isn't free is that of some pair
  taken-unit : (unit : ℕ) → is_free_in t home unit ≡ false → list_any (has_unit unit) t.pairs ≡ true
  taken-unit unit taken = by (list_any (is_named home unit) t.pairs) refl (stands_in t home (Epair unit A)) refl (stands_in t home (Epair unit B)) refl taken
    where
      homed : list_any (is_named home unit) t.pairs ≡ true → list_any (has_unit unit) t.pairs ≡ true
      homed e = any_weaker (is_named home unit) (has_unit unit) t.pairs weaker e
        where
          weaker : (o : Option Pair) → is_named home unit o ≡ true → has_unit unit o ≡ true
          weaker None e = cc
          weaker (Some pair) e = (and_parts (pair.home == home) (pair.unit == unit) e).1

      by : (a : Bool) → list_any (is_named home unit) t.pairs ≡ a → (b : Bool) → stands_in t home (Epair unit A) ≡ b → (c : Bool) → stands_in t home (Epair unit B) ≡ c
          → (not a && not b && not c) ≡ false → list_any (has_unit unit) t.pairs ≡ true
      by true e b f c g taken = homed e
      by false e true f c g taken = named-unit unit A f
      by false e false f true g taken = named-unit unit B g
      by false e false f false g taken = cc

  pub has-free : length t.pairs ≤ UNIT_MAX → HasFree (stands_in t home) home t.pairs
  has-free few = by (first_or_none (is_free_in t home) (UNIT_MAX + 1))
    where
      by : ((i : ℕ) → i < UNIT_MAX + 1 → is_free_in t home i ≡ false) ⊎ ((i : ℕ) × (i < UNIT_MAX + 1) × (is_free_in t home i ≡ true)) → HasFree (stands_in t home) home t.pairs
      by (inl none) = absurd (let many = as_many has_unit one_unit (UNIT_MAX + 1) t.pairs (λ i low. taken-unit i (none i low)) in omega arith)
      by (inr found) = (found.0, omega (arith, found.1), found.2)

-- A pair that is made in sound tables: for which halves names are reserved afterwards.
use Rattle.std.proofs.Common.{◌≡◌, ℕ, ◌==◌, Bool, true, false, ◌&&◌, List, Option, Some, None, IfSome, refl, sym, ap, ◌∙◌, subst}
use Rattle.std.specs.Prelude.{if◌then◌else◌}
use Rattle.std.proofs.lemmas.Bool.{and_from, and_parts, eqb-false, eqb-true, false_from_ne_true, not_from_true, true≢false}
use Rattle.vn_types.specs.declared.interface.HalfId.{HalfId}
use Rattle.vn_types.specs.declared.interface.IfName.{IfName}
use Rattle.vn_types.specs.declared.interface.IfName.TheVariants.{Epair}
use Rattle.vn_types.specs.declared.interface.Side.{Side}
use Rattle.vn_types.specs.declared.interface.Side.TheVariants.{A, B}
use Rattle.vn_types.specs.Interfaces.{half_id_eq, side_eq}
use Rattle.vn_types.specs.PerStack.{ChangesOnly}
use Rattle.vn_rules.specs.Named.{ifname_eq}
use Rattle.vn_epair.specs.Halves.{Pair}
use Rattle.vn_epair.specs.Pairs.{end_of, is_named, new_pair, of as pair_of}
use Rattle.vn_ifnet.specs.Stacks.{Held, is_another, named, of as held_of, reserved_by}
use Rattle.vn_vmove.specs.declared.tables.Tables.{Tables}
use Rattle.vn_vmove.specs.Moves.{half_on}
use Rattle.vn_vmove.specs.Parts.{held, lives, pair_at}
use Rattle.vn_vmove.specs.Places.{come}
use Rattle.vn_vmove.specs.Sound.{IsHomedAs, IsSound, half_name, name_in, stands_at}
use Rattle.vn_vmove.proofs.Deciding.{eq-refl, half-refl, name-is, name-refl}
use Rattle.vn_vmove.proofs.Edits.{each_half, linked, some_map}
use Rattle.vn_vmove.proofs.Names.{missed-apart}
use Rattle.vn_kernel.specs.Makings.{keep_for}

-- a pair is there under a number that had none, with its halves attached at home and their names reserved
pub record IsMade (t : Tables) (home unit n : ℕ) (ifs : List Held) (pairs : List (Option Pair)) : Type 0 where
  -- its home lives
  pub live : lives t home ≡ true
  -- the number is new
  pub fresh : pair_at t n ≡ None
  -- no pair was homed there with the unit
  pub unhomed : (m : ℕ) → is_named home unit (pair_at t m) ≡ false
  -- and nothing stood there under its names
  pub unnamed : (side : Side) → named (Epair unit side) (held t home) ≡ None
  -- what stands in each stack
  pub attached_so : (q : ℕ) → (held_of ifs q).attached
      ≡ come (half_on B n) (Epair unit B) home q (come (half_on A n) (Epair unit A) home q (held t q).attached)
  -- which names are reserved
  pub reserved_so : (q : ℕ) (name : IfName) → reserved_by name (held_of ifs q)
      ≡ keep_for (half_on B n) (Epair unit B) home q name (keep_for (half_on A n) (Epair unit A) home q name (reserved_by name (held t q)))
  -- the pair
  pub is : pair_of pairs n ≡ Some (new_pair home unit)
  -- and all others
  pub others : ChangesOnly n (pair_at t) (pair_of pairs)

module _ {t : Tables} (s : IsSound t) {home unit n : ℕ} {ifs : List Held} {pairs : List (Option Pair)} (m : IsMade t home unit n ifs pairs) where
  abbrev after : Tables
  after = linked t ifs pairs

  pub home_of : (side : Side) → (end_of side (new_pair home unit)).at ≡ home
  home_of A = refl
  home_of B = refl

  -- what holds of each half of each pair
  pub made-each : (P : HalfId → Pair → Type 0) → ((side : Side) → P (half_on side n) (new_pair home unit)) → ((g : HalfId) → IfSome (pair_at t g.pair) (P g))
      → (g : HalfId) → IfSome (pair_at after g.pair) (P g)
  made-each P here all g = each_half n (Some (new_pair home unit)) (pair_at t) (pair_of pairs) m.is m.others P here all g

  -- no half stood at home under a name of the pair
  pub unheld : (side : Side) (g : HalfId) → stands_at home g.side (pair_at t g.pair) ≡ true → name_in t g ≡ Epair unit side → ⊥
  unheld side g there called = missed-apart s home (Epair unit side) (m.unnamed side) g there called

  -- ---- names

  abbrev through : ℕ → IfName → Option HalfId → Option HalfId
  through q name o = keep_for (half_on B n) (Epair unit B) home q name (keep_for (half_on A n) (Epair unit A) home q name o)

  abbrev is_own : Side → ℕ → IfName → Bool
  is_own side q name = (q == home) && ifname_eq name (Epair unit side)

  -- a name that is none of the pair's
  through-other : (q : ℕ) (name : IfName) (o : Option HalfId) → ((side : Side) → is_own side q name ≡ false) → through q name o ≡ o
  through-other q name o f =
      ap (λ b. if b then Some (half_on B n) else keep_for (half_on A n) (Epair unit A) home q name o) (f B) ∙ ap (λ b. if b then Some (half_on A n) else o) (f A)

  own_name : (side : Side) → reserved_by (Epair unit side) (held_of ifs home) ≡ Some (half_on side n)
  own_name side = m.reserved_so home (Epair unit side) ∙ by side (reserved_by (Epair unit side) (held t home))
    where
      is_own-own : (side : Side) → is_own side home (Epair unit side) ≡ true
      is_own-own side = and_from (home == home) (ifname_eq (Epair unit side) (Epair unit side)) (eq-refl home) (name-refl (Epair unit side))

      is_own-other : is_own B home (Epair unit A) ≡ false
      is_own-other = ap (λ b. b && ((unit == unit) && side_eq A B)) (eq-refl home) ∙ ap (λ b. b && side_eq A B) (eq-refl unit)

      by : (side : Side) (o : Option HalfId) → through home (Epair unit side) o ≡ Some (half_on side n)
      by A o = ap (λ b. if b then Some (half_on B n) else keep_for (half_on A n) (Epair unit A) home home (Epair unit A) o) is_own-other
          ∙ ap (λ b. if b then Some (half_on A n) else o) (is_own-own A)
      by B o = ap (λ b. if b then Some (half_on B n) else keep_for (half_on A n) (Epair unit A) home home (Epair unit B) o) (is_own-own B)

  pub made-reserved : (q : ℕ) (name : IfName) → IfSome (reserved_by name (held after q)) (λ h. IsHomedAs q name h.side (pair_at after h.pair))
  made-reserved q name = subst (λ o. IfSome o (λ h. IsHomedAs q name h.side (pair_at after h.pair))) (sym (m.reserved_so q name))
      (kept B (keep_for (half_on A n) (Epair unit A) home q name (reserved_by name (held t q)))
      (kept A (reserved_by name (held t q)) (some_map (reserved_by name (held t q)) (λ h. IsHomedAs q name h.side (pair_at t h.pair)) (λ h. IsHomedAs q name h.side (pair_at after h.pair)) old (s.reserved q name))))
    where
      kept : (side : Side) (o : Option HalfId) → IfSome o (λ h. IsHomedAs q name h.side (pair_at after h.pair))
          → IfSome (keep_for (half_on side n) (Epair unit side) home q name o) (λ h. IsHomedAs q name h.side (pair_at after h.pair))
      kept side o holds = by (is_own side q name) refl
        where
          by : (b : Bool) → is_own side q name ≡ b → IfSome (if b then Some (half_on side n) else o) (λ h. IsHomedAs q name h.side (pair_at after h.pair))
          by true e = let both = and_parts (q == home) (ifname_eq name (Epair unit side)) e in
              subst (IsHomedAs q name side) (sym m.is) (sym (eqb-true q home both.0), sym (name-is name (Epair unit side) both.1))
          by false e = holds

      old : (h : HalfId) → IsHomedAs q name h.side (pair_at t h.pair) → IsHomedAs q name h.side (pair_at after h.pair)
      old h homed = by (h.pair == n) refl
        where
          by : (b : Bool) → (h.pair == n) ≡ b → IsHomedAs q name h.side (pair_at after h.pair)
          by true e = absurd (subst (IsHomedAs q name h.side) (ap (pair_at t) (eqb-true h.pair n e) ∙ m.fresh) homed)
          by false e = subst (IsHomedAs q name h.side) (sym (m.others.others h.pair (eqb-false h.pair n e))) homed

  pub made-homed : (g : HalfId) → IfSome (pair_at after g.pair) (λ pair. reserved_by (Epair pair.unit g.side) (held after pair.home) ≡ Some g)
  made-homed = made-each (λ k p. reserved_by (Epair p.unit k.side) (held after p.home) ≡ Some k) own_name (λ k. old k (pair_at t k.pair) (m.unhomed k.pair) (s.homed k))
    where
      apart_own : (h u : ℕ) (d side : Side) → ((h == home) && (u == unit)) ≡ false → is_own side h (Epair u d) ≡ false
      apart_own h u d side e = by (h == home) (u == unit) e
        where
          by : (b c : Bool) → (b && c) ≡ false → (b && (c && side_eq d side)) ≡ false
          by true true e = absurd (true≢false e)
          by true false e = refl
          by false c e = refl

      old : (k : HalfId) (o : Option Pair) → is_named home unit o ≡ false → IfSome o (λ p. reserved_by (Epair p.unit k.side) (held t p.home) ≡ Some k)
          → IfSome o (λ p. reserved_by (Epair p.unit k.side) (held after p.home) ≡ Some k)
      old k None e holds = holds
      old k (Some p) e holds = m.reserved_so p.home (Epair p.unit k.side)
          ∙ through-other p.home (Epair p.unit k.side) (reserved_by (Epair p.unit k.side) (held t p.home)) (λ side. apart_own p.home p.unit k.side side e) ∙ holds

  pub made-apart : (g : HalfId) → IfSome (pair_at after g.pair) (λ pair. is_another (reserved_by (Epair pair.unit g.side) (held after (end_of g.side pair).at)) (Some g) ≡ false)
  made-apart = made-each (λ k p. is_another (reserved_by (Epair p.unit k.side) (held after (end_of k.side p).at)) (Some k) ≡ false) own (λ k. old k (pair_at t k.pair) refl (s.apart k))
    where
      own : (side : Side) → is_another (reserved_by (Epair unit side) (held after (end_of side (new_pair home unit)).at)) (Some (half_on side n)) ≡ false
      own side = ap (λ q. is_another (reserved_by (Epair unit side) (held after q)) (Some (half_on side n))) (home_of side)
          ∙ ap (λ o. is_another o (Some (half_on side n))) (own_name side) ∙ not_from_true (half_id_eq (half_on side n) (half_on side n)) (half-refl (half_on side n))

      old : (k : HalfId) (o : Option Pair) → pair_at t k.pair ≡ o → IfSome o (λ p. is_another (reserved_by (Epair p.unit k.side) (held t (end_of k.side p).at)) (Some k) ≡ false)
          → IfSome o (λ p. is_another (reserved_by (Epair p.unit k.side) (held after (end_of k.side p).at)) (Some k) ≡ false)
      old k None e holds = holds
      old k (Some p) e holds = ap (λ o. is_another o (Some k)) (m.reserved_so (end_of k.side p).at (Epair p.unit k.side)
          ∙ through-other (end_of k.side p).at (Epair p.unit k.side) (reserved_by (Epair p.unit k.side) (held t (end_of k.side p).at)) free) ∙ holds
        where
          -- it stands there under its name
          free : (side : Side) → is_own side (end_of k.side p).at (Epair p.unit k.side) ≡ false
          free side = false_from_ne_true (is_own side (end_of k.side p).at (Epair p.unit k.side)) (λ f.
              let both = and_parts ((end_of k.side p).at == home) (ifname_eq (Epair p.unit k.side) (Epair unit side)) f in
              unheld side k (ap (stands_at home k.side) e ∙ both.0) (ap (λ o. half_name o k.side) e ∙ name-is (Epair p.unit k.side) (Epair unit side) both.1))

-- A pair whose names are let go at home: for whom names are reserved afterwards.
use Rattle.std.proofs.Common.{◌≡◌, ◌≢◌, ℕ, ◌==◌, Bool, true, false, ◌&&◌, List, Option, Some, None, IfSome, refl, sym, ap, ap₂, ◌∙◌, subst}
use Rattle.std.specs.Prelude.{if◌then◌else◌}
use Rattle.std.proofs.lemmas.Bool.{and_from, eq-eqb, eqb-false, eqb-true}
use Rattle.vn_types.specs.declared.interface.HalfId.{HalfId}
use Rattle.vn_types.specs.declared.interface.IfName.{IfName}
use Rattle.vn_types.specs.declared.interface.IfName.TheVariants.{Epair}
use Rattle.vn_types.specs.declared.interface.Side.{Side}
use Rattle.vn_types.specs.declared.interface.Side.TheVariants.{A, B}
use Rattle.vn_types.specs.PerStack.{ChangesOnly}
use Rattle.vn_types.proofs.Options.{some_same}
use Rattle.vn_rules.specs.Named.{ifname_eq}
use Rattle.vn_epair.specs.Halves.{Pair}
use Rattle.vn_epair.specs.Pairs.{end_of, of as pair_of}
use Rattle.vn_ifnet.specs.Stacks.{Held, is_another, of as held_of, reserved_by}
use Rattle.vn_vmove.specs.declared.tables.Tables.{Tables}
use Rattle.vn_vmove.specs.Moves.{half_on}
use Rattle.vn_vmove.specs.Parts.{held, pair_at}
use Rattle.vn_vmove.specs.Places.{LetsGo, both_let_go, let_go}
use Rattle.vn_vmove.specs.Sound.{IsHomedAs, IsSound}
use Rattle.vn_vmove.proofs.Edits.{each_half, linked, some_map}
use Rattle.vn_vmove.proofs.Deciding.{name-is, name-refl}

module _ {t : Tables} (s : IsSound t) (n : ℕ) (pair : Pair) (is : pair_at t n ≡ Some pair) (ifs : List Held) (pairs : List (Option Pair))
    (reserved_so : LetsGo (Some pair) t (linked t ifs pairs))
    (gone : pair_of pairs n ≡ None)
    (others : ChangesOnly n (pair_at t) (pair_of pairs)) where
  -- the name of a half of the pair is reserved at home for it
  own_name : (side : Side) → reserved_by (Epair pair.unit side) (held t pair.home) ≡ Some (half_on side n)
  own_name side = subst (λ o. IfSome o (λ pair. reserved_by (Epair pair.unit side) (held t pair.home) ≡ Some (half_on side n))) is (s.homed (half_on side n))

  -- a name that is reserved for another half isn't let go
  abbrev through : ℕ → IfName → Option HalfId → Option HalfId
  through q name o = both_let_go (Some pair) q name o

  not_own : (q : ℕ) (name : IfName) (g : HalfId) → g.pair ≢ n → reserved_by name (held t q) ≡ Some g → (side : Side)
      → ((q == pair.home) && ifname_eq name (Epair pair.unit side)) ≡ false
  not_own q name g ne e side = by (q == pair.home) refl (ifname_eq name (Epair pair.unit side)) refl
    where
      by : (b : Bool) → (q == pair.home) ≡ b → (c : Bool) → ifname_eq name (Epair pair.unit side) ≡ c → (b && c) ≡ false
      by true f true m =
          let same : Some g ≡ Some (half_on side n) = sym e ∙ ap (reserved_by name) (ap (held t) (eqb-true q pair.home f))
          ∙ ap (λ m. reserved_by m (held t pair.home)) (name-is name (Epair pair.unit side) m) ∙ own_name side in
          absurd (ne (ap (λ (k : HalfId). k.pair) (some_same g (half_on side n) same)))
      by true f false m = refl
      by false f c m = refl

  kept_for : (q : ℕ) (name : IfName) (g : HalfId) → g.pair ≢ n → reserved_by name (held t q) ≡ Some g → reserved_by name (held_of ifs q) ≡ Some g
  kept_for q name g ne e =
      reserved_so q name ∙ ap₂ (λ c d. if c then None else (if d then None else reserved_by name (held t q))) (not_own q name g ne e B) (not_own q name g ne e A) ∙ e

  pub released-homed : (g : HalfId) → IfSome (pair_of pairs g.pair) (λ pair. reserved_by (Epair pair.unit g.side) (held_of ifs pair.home) ≡ Some g)
  released-homed g = by (g.pair == n) refl
    where
      by : (b : Bool) → (g.pair == n) ≡ b → IfSome (pair_of pairs g.pair) (λ pair. reserved_by (Epair pair.unit g.side) (held_of ifs pair.home) ≡ Some g)
      by true e = subst (λ o. IfSome o (λ pair. reserved_by (Epair pair.unit g.side) (held_of ifs pair.home) ≡ Some g)) (sym (ap (pair_of pairs) (eqb-true g.pair n e) ∙ gone)) tt
      by false e = subst (λ o. IfSome o (λ pair. reserved_by (Epair pair.unit g.side) (held_of ifs pair.home) ≡ Some g)) (sym (others.others g.pair (eqb-false g.pair n e)))
          (some_map (pair_at t g.pair) (λ p. reserved_by (Epair p.unit g.side) (held t p.home) ≡ Some g) (λ p. reserved_by (Epair p.unit g.side) (held_of ifs p.home) ≡ Some g)
          (λ p r. kept_for p.home (Epair p.unit g.side) g (eqb-false g.pair n e) r) (s.homed g))

  -- no name is reserved that was not, and none for a half of the pair
  pub released-reserved : (q : ℕ) (name : IfName) → IfSome (reserved_by name (held_of ifs q)) (λ g. IsHomedAs q name g.side (pair_of pairs g.pair))
  released-reserved q name = subst (λ o. IfSome o (λ g. IsHomedAs q name g.side (pair_of pairs g.pair))) (sym (reserved_so q name))
      (by (reserved_by name (held t q)) refl (s.reserved q name))
    where
      let_go-own : (side : Side) (o : Option HalfId) → IsHomedAs q name side (Some pair) → let_go (Epair pair.unit side) pair.home q name o ≡ None
      let_go-own side o home = ap (λ b. if b then None else o)
          (and_from (q == pair.home) (ifname_eq name (Epair pair.unit side)) (eq-eqb q pair.home (sym home.0)) (ap (λ m. ifname_eq m (Epair pair.unit side)) (sym home.1) ∙ name-refl (Epair pair.unit side)))

      let_go-none : (side : Side) → let_go (Epair pair.unit side) pair.home q name None ≡ None
      let_go-none side = at ((q == pair.home) && ifname_eq name (Epair pair.unit side))
        where
          at : (b : Bool) → ◌≡◌ {A = Option HalfId} (if b then None else None) None
          at true = refl
          at false = refl

      none : (side : Side) (o : Option HalfId) → IsHomedAs q name side (Some pair) → through q name o ≡ None
      none A o home = ap (let_go (Epair pair.unit B) pair.home q name) (let_go-own A o home) ∙ let_go-none B
      none B o home = let_go-own B (let_go (Epair pair.unit A) pair.home q name o) home

      by : (o : Option HalfId) → reserved_by name (held t q) ≡ o → IfSome o (λ g. IsHomedAs q name g.side (pair_at t g.pair))
          → IfSome (through q name o) (λ g. IsHomedAs q name g.side (pair_of pairs g.pair))
      by None e home = subst (λ o. IfSome o (λ g. IsHomedAs q name g.side (pair_of pairs g.pair)))
          (sym (ap (let_go (Epair pair.unit B) pair.home q name) (let_go-none A) ∙ let_go-none B)) tt
      by (Some g) e home = at (g.pair == n) refl
        where
          at : (b : Bool) → (g.pair == n) ≡ b → IfSome (through q name (Some g)) (λ g. IsHomedAs q name g.side (pair_of pairs g.pair))
          at true f = subst (λ o. IfSome o (λ g. IsHomedAs q name g.side (pair_of pairs g.pair)))
              (sym (none g.side (Some g) (subst (IsHomedAs q name g.side) (ap (pair_at t) (eqb-true g.pair n f) ∙ is) home))) tt
          at false f = subst (λ o. IfSome o (λ g. IsHomedAs q name g.side (pair_of pairs g.pair)))
              (sym (ap (through q name) (sym e) ∙ sym (reserved_so q name) ∙ kept_for q name g (eqb-false g.pair n f) e))
              (subst (IsHomedAs q name g.side) (sym (others.others g.pair (eqb-false g.pair n f))) home)

  -- where a half stands its name is reserved for no other, since no name is reserved that was not
  pub released-apart : (g : HalfId) → IfSome (pair_of pairs g.pair) (λ pair. is_another (reserved_by (Epair pair.unit g.side) (held_of ifs (end_of g.side pair).at)) (Some g) ≡ false)
  released-apart g = each_half n None (pair_at t) (pair_of pairs) gone others (λ k p. is_another (reserved_by (Epair p.unit k.side) (held_of ifs (end_of k.side p).at)) (Some k) ≡ false) (λ side. tt) all g
    where
      fewer : (c d : Bool) (o : Option HalfId) (k : HalfId) → is_another o (Some k) ≡ false → is_another (if c then None else (if d then None else o)) (Some k) ≡ false
      fewer true d o k e = refl
      fewer false true o k e = refl
      fewer false false o k e = e

      all : (k : HalfId) → IfSome (pair_at t k.pair) (λ p. is_another (reserved_by (Epair p.unit k.side) (held_of ifs (end_of k.side p).at)) (Some k) ≡ false)
      all k = some_map (pair_at t k.pair) (λ p. is_another (reserved_by (Epair p.unit k.side) (held t (end_of k.side p).at)) (Some k) ≡ false)
          (λ p. is_another (reserved_by (Epair p.unit k.side) (held_of ifs (end_of k.side p).at)) (Some k) ≡ false)
          (λ p e. ap (λ o. is_another o (Some k)) (reserved_so (end_of k.side p).at (Epair p.unit k.side))
          ∙ fewer (((end_of k.side p).at == pair.home) && ifname_eq (Epair p.unit k.side) (Epair pair.unit B)) (((end_of k.side p).at == pair.home) && ifname_eq (Epair p.unit k.side) (Epair pair.unit A))
          (reserved_by (Epair p.unit k.side) (held t (end_of k.side p).at)) k e) (s.apart k)

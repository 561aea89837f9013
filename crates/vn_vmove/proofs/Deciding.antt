-- The tests on numbers, halves, interfaces and names tell them apart.
use Rattle.std.proofs.Common.{◌≡◌, ◌≢◌, ℕ, ◌==◌, Bool, true, false, refl, sym, ◌∙◌}
use Rattle.std.specs.Prelude.{if◌then◌else◌}
use Rattle.std.specs.Bool.{Decides}
use Rattle.std.proofs.lemmas.Bool.{and_from, and_parts, both_ways, eq-eqb, eqb-false, eqb-true, false_from_ne_true, ne_eqb}
use Rattle.vn_types.specs.declared.interface.HalfId.{HalfId}
use Rattle.vn_types.specs.declared.interface.IfName.{IfName}
use Rattle.vn_types.specs.declared.interface.IfOf.{IfOf}
use Rattle.vn_types.specs.Interfaces.{half_id_eq, if_same, side_eq}
use Rattle.vn_types.proofs.InterfaceNames.{half_id_eq-Decides, if_same-Decides}
use Rattle.vn_rules.specs.Named.{ifname_eq}
use Rattle.vn_rules.proofs.RouteRemoval.{if_flip}
use Rattle.vn_ifnet.specs.Names.{name_number}
use Rattle.vn_ifnet.proofs.Numbers.{other-name, same-name}

-- ---- numbers

-- what is one value at a number, and another at all others
pub pick : {A : Type 0} (q n : ℕ) (x y z : A) → (q ≡ n → z ≡ x) → (q ≢ n → z ≡ y)
    → z ≡ (if q == n then x else y)
pick q n x y z here elsewhere = by (q == n) refl
  where
    by : (b : Bool) → (q == n) ≡ b → z ≡ (if b then x else y)
    by true e = here (eqb-true q n e)
    by false e = elsewhere (eqb-false q n e)

pub apart : (q n : ℕ) → q ≢ n → (q == n) ≡ false
apart q n ne = ne_eqb q n ne

pub eq-refl : (n : ℕ) → (n == n) ≡ true
eq-refl n = eq-eqb n n refl

pub eq-sym : (m n : ℕ) → (m == n) ≡ (n == m)
eq-sym m n = by (m == n) refl (n == m) refl
  where
    by : (b : Bool) → (m == n) ≡ b → (c : Bool) → (n == m) ≡ c → b ≡ c
    by true e true f = refl
    by true e false f = absurd (eqb-false n m f (sym (eqb-true m n e)))
    by false e true f = absurd (eqb-false m n e (sym (eqb-true n m f)))
    by false e false f = refl

-- ---- halves

pub half-refl : (h : HalfId) → half_id_eq h h ≡ true
half-refl h = (half_id_eq-Decides h h).1 refl

-- halves of one pair and one side are one
pub same_half : (g h : HalfId) → g.pair ≡ h.pair → g.side ≡ h.side → g ≡ h
same_half g h n e = λ i. record { pair = n i; side = e i }

-- halves of one pair that are two are of two sides
pub other_side : (g h : HalfId) → g.pair ≡ h.pair → half_id_eq g h ≡ false → side_eq g.side h.side ≡ false
other_side g h n e = false_from_ne_true (side_eq g.side h.side)
    (λ s. both_ways (half_id_eq g h) e (and_from (g.pair == h.pair) (side_eq g.side h.side) (eq-eqb g.pair h.pair n) s))

-- halves of two pairs are two
pub other_pair : (g h : HalfId) → (g.pair == h.pair) ≡ false → half_id_eq g h ≡ false
other_pair g h e = false_from_ne_true (half_id_eq g h)
    (λ s. both_ways (g.pair == h.pair) e (and_parts (g.pair == h.pair) (side_eq g.side h.side) s).0)

-- ---- interfaces

pub if-Decides : (a b : IfOf HalfId) → Decides (if_same half_id_eq a b) (a ≡ b)
if-Decides a b = if_same-Decides half_id_eq half_id_eq-Decides a b

pub if-refl : (a : IfOf HalfId) → if_same half_id_eq a a ≡ true
if-refl a = (if-Decides a a).1 refl

pub if-flip : (a b : IfOf HalfId) → if_same half_id_eq a b ≡ if_same half_id_eq b a
if-flip a b = if_flip half_id_eq half_id_eq-Decides a b

-- ---- names

pub name-is : (m n : IfName) → ifname_eq m n ≡ true → m ≡ n
name-is m n e = sym (other-name n m (eqb-true (name_number n) (name_number m) (same-name n m ∙ e)))

pub name-refl : (n : IfName) → ifname_eq n n ≡ true
name-refl n = sym (same-name n n) ∙ eq-eqb (name_number n) (name_number n) refl

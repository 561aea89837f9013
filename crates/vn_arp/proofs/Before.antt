-- Places in the order of a listing: what comes before what.
use Rattle.std.proofs.Common.{◌≡◌, ℕ, Bool, true, false, ◌&&◌, ◌||◌, ◌==◌, refl, arith}
use Rattle.std.specs.Prelude.{nat_lt}
use Rattle.std.proofs.lemmas.Bool.{both_ways, false_from_ne_true}
use Rattle.std.proofs.lemmas.Bool.Decides.{nat_tests}
use Rattle.vn_types.specs.declared.interface.Side.{Side}
use Rattle.vn_types.specs.declared.interface.Side.TheVariants.{A, B}
use Rattle.vn_types.specs.Interfaces.{half_id_eq, side_eq}
use Rattle.vn_types.proofs.InterfaceNames.{half_id_eq-Decides}
use Rattle.vn_rules.specs.Arp.{is_place}
use Rattle.vn_rules.proofs.ArpPlaces.{place_from_test}
use Rattle.vn_arp.specs.declared.gone.At.{At}
use Rattle.vn_arp.specs.Listing.{at_before, side_before}
use Rattle.vn_arp.proofs.Numbers.{place_turned}

-- by address, by number of the pair, and then as is told of the sides
abbrev before : ℕ → ℕ → ℕ → ℕ → Bool → Bool
before x y p q sides = nat_lt x y || ((x == y) && (nat_lt p q || ((p == q) && sides)))

not_back_by : (x y p q : ℕ) (s t : Bool) → (s ≡ true → t ≡ false) → before x y p q s ≡ true → before y x q p t ≡ false
not_back_by x y p q s t sides is = grind (arith, nat_tests)

onward_by : (x y z p q r : ℕ) (s t u : Bool) → (s ≡ true → t ≡ true → u ≡ true) → before x y p q s ≡ true → before y z q r t ≡ true → before x z p r u ≡ true
onward_by x y z p q r s t u sides is so = grind (arith, nat_tests)

else_back_by : (x y p q : ℕ) (s t e : Bool) → (s ≡ false → e ≡ false → t ≡ true) → (((q == p) && e) && (y == x)) ≡ false → before x y p q s ≡ false → before y x q p t ≡ true
else_back_by x y p q s t e sides apart is = grind (arith, nat_tests)

sides_not_back : (s t : Side) → side_before s t ≡ true → side_before t s ≡ false
sides_not_back A A is = refl
sides_not_back A B is = refl
sides_not_back B A is = cc
sides_not_back B B is = refl

sides_onward : (s t u : Side) → side_before s t ≡ true → side_before t u ≡ true → side_before s u ≡ true
sides_onward A A u is so = cc
sides_onward A B u is so = cc
sides_onward B t u is so = cc

sides_else_back : (s t : Side) → side_before s t ≡ false → side_eq t s ≡ false → side_before t s ≡ true
sides_else_back A A is apart = cc
sides_else_back A B is apart = cc
sides_else_back B A is apart = refl
sides_else_back B B is apart = cc

pub not_back : (a b : At) → at_before a b ≡ true → at_before b a ≡ false
not_back a b = not_back_by a.ip.0 b.ip.0 a.half.pair b.half.pair _ _ (sides_not_back a.half.side b.half.side)

pub onward : (a b c : At) → at_before a b ≡ true → at_before b c ≡ true → at_before a c ≡ true
onward a b c = onward_by a.ip.0 b.ip.0 c.ip.0 a.half.pair b.half.pair c.half.pair _ _ _ (sides_onward a.half.side b.half.side c.half.side)

-- whether two places are one
abbrev pub is_at : At → At → Bool
is_at a b = is_place half_id_eq a.half a.ip b.half b.ip

pub else_back : (a b : At) → is_at a b ≡ false → at_before a b ≡ false → at_before b a ≡ true
else_back a b = else_back_by a.ip.0 b.ip.0 a.half.pair b.half.pair _ _ _ (sides_else_back a.half.side b.half.side)

pub not_itself : (a : At) → at_before a a ≡ false
not_itself a = false_from_ne_true _ (λ is. both_ways _ (not_back a a is) is)

pub one_place : (a b : At) → is_at a b ≡ true → b ≡ a
one_place a b is = let there = place_from_test half_id_eq half_id_eq-Decides a.half a.ip b.half b.ip is in λ i. record { half = there.halves i; ip = there.addresses i }

pub turned : (a b : At) → is_at b a ≡ is_at a b
turned a b = place_turned half_id_eq half_id_eq-Decides a.half a.ip b.half b.ip

-- The parts of a test.
use Rattle.std.proofs.Common.{◌≡◌, Bool, true, false, ◌&&◌, ◌||◌, not, refl, arith}

pub and_first : (a b : Bool) → (a && b) ≡ true → a ≡ true
and_first a b h = grind arith

pub and_second : (a b : Bool) → (a && b) ≡ true → b ≡ true
and_second a b h = grind arith

pub either : (a b : Bool) → (a || b) ≡ true → a ≡ false → b ≡ true
either a b h e = grind (arith, h, e)

pub neither : (a b : Bool) → (a || b) ≡ false → (a ≡ false) × (b ≡ false)
neither false false e = (refl, refl)
neither true b e = cc
neither false true e = cc

pub not_false : (b : Bool) → not b ≡ false → b ≡ true
not_false true e = refl
not_false false e = cc

-- Conditions of which none holds.
use Rattle.std.proofs.Common.{◌≡◌, Bool, true, false, [], ◌∷◌, Option, Some, None, refl}
use Rattle.std.specs.Option.{is_some, is_none}
use Rattle.vn_types.specs.Refusals.{first_refusal}

pub none_of_two : {E : Type 0} (a b : Bool) (x y : E) → first_refusal ((a, x) ∷ (b, y) ∷ []) ≡ None → (a ≡ false) × (b ≡ false)
none_of_two false false x y e = (refl, refl)
none_of_two false true x y e = cc
none_of_two true b x y e = cc

pub none_of_four : {E : Type 0} (a b c d : Bool) (w x y z : E) → first_refusal ((a, w) ∷ (b, x) ∷ (c, y) ∷ (d, z) ∷ []) ≡ None
    → (a ≡ false) × (b ≡ false) × (c ≡ false) × (d ≡ false)
none_of_four false false false false w x y z e = (refl, refl, refl, refl)
none_of_four false false false true w x y z e = cc
none_of_four false false true d w x y z e = cc
none_of_four false true c d w x y z e = cc
none_of_four true b c d w x y z e = cc

pub is_none-is : {T : Type 0} (o : Option T) → is_none o ≡ true → o ≡ None
is_none-is None e = refl
is_none-is (Some x) e = cc

pub is_some-none : {T : Type 0} (o : Option T) → is_some o ≡ false → o ≡ None
is_some-none None e = refl
is_some-none (Some x) e = cc

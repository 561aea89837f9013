-- The tests on names of interfaces decide equality, and go through each renaming that keeps the test.
use Rattle.std.proofs.Common.{◌≡◌, Bool, ◌==◌, refl, ap}
use Rattle.std.specs.Bool.{Decides}
use Rattle.std.proofs.lemmas.Bool.Decides.{Decides-eqb, Decides-and, Decides-like}
use Rattle.vn_types.specs.declared.interface.Side.{Side}
use Rattle.vn_types.specs.declared.interface.Side.TheVariants.{A, B}
use Rattle.vn_types.specs.declared.interface.HalfId.{HalfId}
use Rattle.vn_types.specs.declared.interface.IfOf.{IfOf}
use Rattle.vn_types.specs.declared.interface.IfOf.TheVariants.{Lo0, Half}
use Rattle.vn_types.specs.Interfaces.{side_eq, half_id_eq, if_same, as_if}

pub side_eq-Decides : (a b : Side) → Decides (side_eq a b) (a ≡ b)
side_eq-Decides A A = (λ e. refl, λ e. refl)
side_eq-Decides B B = (λ e. refl, λ e. refl)
side_eq-Decides A B = (λ e. cc, λ e. cc)
side_eq-Decides B A = (λ e. cc, λ e. cc)

pub half_id_eq-Decides : (g h : HalfId) → Decides (half_id_eq g h) (g ≡ h)
half_id_eq-Decides g h =
    Decides-like (half_id_eq g h) (λ e i. record { pair = e.0 i; side = e.1 i }) (λ e. (ap (λ (k : HalfId). k.pair) e, ap (λ (k : HalfId). k.side) e))
    (Decides-and (g.pair == h.pair) (side_eq g.side h.side) (Decides-eqb g.pair h.pair) (side_eq-Decides g.side h.side))

module _ {N : Type 0} (same : N → N → Bool) (decides : (g h : N) → Decides (same g h) (g ≡ h)) where
  pub if_same-Decides : (a b : IfOf N) → Decides (if_same same a b) (a ≡ b)
  if_same-Decides Lo0 Lo0 = (λ e. refl, λ e. refl)
  if_same-Decides Lo0 (Half h) = (λ e. cc, λ e. cc)
  if_same-Decides (Half g) Lo0 = (λ e. cc, λ e. cc)
  if_same-Decides (Half g) (Half h) = (λ e. ap Half ((decides g h).0 e), λ e. let inner : g ≡ h = cc in (decides g h).1 inner)

module _ {N M : Type 0} (r : N → M) (at_n : N → N → Bool) (at_m : M → M → Bool) (faithful : (g h : N) → at_m (r g) (r h) ≡ at_n g h) where
  pub if_same-as_if : (a b : IfOf N) → if_same at_m (as_if r a) (as_if r b) ≡ if_same at_n a b
  if_same-as_if Lo0 Lo0 = refl
  if_same-as_if Lo0 (Half h) = refl
  if_same-as_if (Half g) Lo0 = refl
  if_same-as_if (Half g) (Half h) = faithful g h

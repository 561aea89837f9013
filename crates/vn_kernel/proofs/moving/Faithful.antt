-- Halves are told apart by their names as they are by their numbers.
use Rattle.std.proofs.Common.{◌≡◌, ◌<◌, ◌+◌, ◌^◌, ℕ, ◌==◌, ◌&&◌, [], Option, Some, None, IfSome, refl, sym, ap, ◌∙◌, subst, arith}
use Rattle.std.specs.Cmp.{both_ways}
use Rattle.std.specs.Option.{option_map}
use Rattle.std.proofs.lemmas.Bool.{eq-eqb, eqb-true}
use Rattle.vn_types.specs.declared.half.Half.{Half}
use Rattle.vn_types.specs.declared.interface.HalfId.{HalfId}
use Rattle.vn_types.specs.declared.interface.Side.{Side}
use Rattle.vn_types.specs.Interfaces.{half_id_eq, side_eq}
use Rattle.vn_types.specs.Entries.{find}
use Rattle.vn_types.specs.Paths.{Key, key_cmp, key_eq}
use Rattle.vn_types.proofs.Options.{none_some, some_same}
use Rattle.vn_types.proofs.PathNames.{key_eq-Decides}
use Rattle.vn_epair.specs.Halves.{Pair}
use Rattle.vn_vmove.specs.Parts.{pair_at}
use Rattle.vn_cells.specs.world.Names.{half_eq, half_on, key_of}
use Rattle.vn_kernel.specs.Fields.{Fields}
use Rattle.vn_kernel.specs.Naming.{home_by, key_by, key_in, name_of, unit_by}
use Rattle.vn_kernel.specs.Stands.{Stands}

-- a half of a pair is called by the pair's home and unit
module _ (f : Fields) (n : ℕ) (pair : Pair) (is : pair_at f.tables n ≡ Some pair) where
  pub key-is : key_in f n ≡ Some (key_by f.jails pair)
  unfolding key_in
  key-is = ap (option_map (key_by f.jails)) is

  pub name-is : (side : Side) → name_of f (record { pair = n; side = side }) ≡ half_on side (key_by f.jails pair)
  unfolding name_of
  name-is side i = record { home = home_by f.jails (is i); unit = unit_by n (is i); side = side }

  -- which are the pair's
  pub key-named : (side : Side) → key_in f n ≡ Some (key_of (name_of f (record { pair = n; side = side })))
  key-named side = key-is ∙ ap (λ (h : Half). Some (key_of h)) (sym (name-is side))

module _ {f : Fields} (s : Stands f) where
  pub key-found : (n : ℕ) (k : Key) → key_in f n ≡ Some k → find key_cmp k f.units ≡ Some n
  key-found n k is = subst (λ o. IfSome o (λ k. find key_cmp k f.units ≡ Some n)) is (s.keyed n)

  -- two pairs have one home and unit where they have one number
  pub key-number : (m n : ℕ) (j k : Key) → key_in f m ≡ Some j → key_in f n ≡ Some k → key_eq j k ≡ (m == n)
  key-number m n j k is at = both_ways _ _
      (λ e. eq-eqb m n (some_same m n (sym (key-found m j is) ∙ ap (λ x. find key_cmp x f.units) ((key_eq-Decides j k).0 e) ∙ key-found n k at)))
      (λ e. (key_eq-Decides j k).1 (some_same j k (sym is ∙ ap (key_in f) (eqb-true m n e) ∙ at)))

  pub small-unit : (n : ℕ) (pair : Pair) → pair_at f.tables n ≡ Some pair → pair.unit < 2 ^ 32
  small-unit n pair is = subst (λ o. IfSome o (λ (pair : Pair). pair.unit < 2 ^ 32)) is (s.small n)

  -- of pairs, and of numbers that have none
  named-apart : (m n : ℕ) (x y : Option Pair) → pair_at f.tables m ≡ x → pair_at f.tables n ≡ y
      → key_eq (home_by f.jails x, unit_by m x) (home_by f.jails y, unit_by n y) ≡ (m == n)
  named-apart m n (Some x) (Some y) is at = key-number m n (key_by f.jails x) (key_by f.jails y) (key-is f m x is) (key-is f n y at)
  named-apart m n None None is at = both_ways _ _
      (λ e. let same : 2 ^ 32 + m ≡ 2 ^ 32 + n = ap (λ (k : Key). k.1) ((key_eq-Decides ([], 2 ^ 32 + m) ([], 2 ^ 32 + n)).0 e) in eq-eqb m n (omega arith))
      (λ e. (key_eq-Decides ([], 2 ^ 32 + m) ([], 2 ^ 32 + n)).1 (λ i. ([], 2 ^ 32 + eqb-true m n e i)))
  named-apart m n None (Some y) is at = both_ways _ _
      (λ e. let same : 2 ^ 32 + m ≡ y.unit = ap (λ (k : Key). k.1) ((key_eq-Decides ([], 2 ^ 32 + m) (key_by f.jails y)).0 e) in absurd (omega (arith, small-unit n y at)))
      (λ e. absurd (none_some y (sym is ∙ ap (pair_at f.tables) (eqb-true m n e) ∙ at)))
  named-apart m n (Some x) None is at = both_ways _ _
      (λ e. let same : x.unit ≡ 2 ^ 32 + n = ap (λ (k : Key). k.1) ((key_eq-Decides (key_by f.jails x) ([], 2 ^ 32 + n)).0 e) in absurd (omega (arith, small-unit m x is)))
      (λ e. absurd (none_some x (sym at ∙ ap (pair_at f.tables) (sym (eqb-true m n e)) ∙ is)))

  pub name-kept : (a b : HalfId) → half_eq (name_of f a) (name_of f b) ≡ half_id_eq a b
  unfolding name_of half_eq key_eq
  name-kept a b = ap (λ c. c && side_eq a.side b.side) (named-apart a.pair b.pair (pair_at f.tables a.pair) (pair_at f.tables b.pair) refl refl)

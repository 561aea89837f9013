-- The same interfaces stand under names, and the same names and units are taken, in two worlds that are alike.
use Rattle.std.proofs.Common.{◌≡◌, ℕ, Bool, true, ◌&&◌, ◌||◌, not, [], ◌∷◌, Option, Some, None, refl, sym, ap, ap₂, ◌∙◌}
use Rattle.std.specs.List.{list_all}
use Rattle.std.specs.Option.{is_some, is_none}
use Rattle.std.proofs.lemmas.Bool.{and_parts}
use Rattle.vn_types.specs.declared.interface.IfName.{IfName}
use Rattle.vn_types.specs.declared.interface.IfName.TheVariants as ifname
use Rattle.vn_types.specs.declared.interface.IfOf.TheVariants.{Lo0, Half as OfHalf}
use Rattle.vn_types.specs.declared.interface.Side.{Side}
use Rattle.vn_types.specs.declared.interface.Side.TheVariants.{A, B}
use Rattle.vn_rules.specs.Named.{interface_named}
use Rattle.vn_cells.specs.declared.cell.Cells.{Cells}
use Rattle.vn_cells.specs.declared.world.Pair.{Pair}
use Rattle.vn_cells.specs.declared.world.Stack.{Stack}
use Rattle.vn_cells.specs.declared.world.World.{World}
use Rattle.vn_cells.specs.world.Names.{Path, If, half_name, is_host, key_of}
use Rattle.vn_cells.specs.world.World.{stack_at, pair_at, ifs_of}
use Rattle.vn_cells.specs.commands.Taken.{standing, is_another, is_native, is_reserved, is_taken, is_unit_free, first_unit, lowest_free, units}
use Rattle.vn_cells.specs.keeping.Sound.{IsSound}
use Rattle.vn_cells.specs.sets.Sets.{in_set, in_stacks, in_pairs, pair_deciders}
use Rattle.vn_laws.specs.Relations.{Alike, Belongs}
use Rattle.vn_laws.proofs.edits.Owned.{Owns, own_pair, owns-member, owns_if}
use Rattle.vn_laws.proofs.pairs.Named.{host_on, host_half, host_named, host_standing, named_found}

-- the deciders of a pair are in a set
abbrev pub PairInside : Cells → Path → ℕ → Type 0
PairInside set issuer unit = list_all (in_set set) (pair_deciders issuer unit) ≡ true

-- and so is the pair
pub inside_pair : (set : Cells) (issuer : Path) (unit : ℕ) → PairInside set issuer unit → in_pairs set (issuer, unit) ≡ true
unfolding in_set is_host
inside_pair set [] unit all = (and_parts _ true all).0
inside_pair set (l ∷ p) unit all = own_pair set (l ∷ p, unit) (and_parts _ true all).0

-- what stands under a name in a stack of the set is of its pairs
pub owns_in : {set : Cells} {v : World} → Belongs set v → (p : Path) (name : IfName) → in_stacks set p ≡ true → Owns set (standing v p name)
owns_in {set} {v} b p name inside = by (standing v p name) refl
  where
    by : (on : Option If) → standing v p name ≡ on → Owns set on
    by None e = tt
    by (Some Lo0) e = tt
    by (Some (OfHalf h)) e =
        owns-member set h (ifs_of (stack_at v p)) (b.halves p inside) (named_found name (ifs_of (stack_at v p)) (OfHalf h) e).1

-- and so it is where the deciders of the pair are in the set
pub owns_standing : {set : Cells} {v : World} → IsSound v → Belongs set v → (issuer : Path) (unit : ℕ) (side : Side)
    → PairInside set issuer unit → Owns set (standing v issuer (ifname.Epair unit side))
unfolding in_set is_host
owns_standing {set} {v} s b (l ∷ p) unit side all = owns_in b (l ∷ p) (ifname.Epair unit side) (and_parts _ true all).0
owns_standing {set} {v} s b [] unit side all = by (standing v [] (ifname.Epair unit side)) refl
  where
    by : (on : Option If) → standing v [] (ifname.Epair unit side) ≡ on → Owns set on
    by None e = tt
    by (Some Lo0) e = tt
    by (Some (OfHalf h)) e =
        let same : OfHalf h ≡ OfHalf (host_half s unit side) = host_named s unit side (OfHalf h) e in
        owned (ap (owns_if set) same)
      where
        owned : in_pairs set (key_of h) ≡ in_pairs set ([], unit) → in_pairs set (key_of h) ≡ true
        owned f = f ∙ (and_parts (in_pairs set ([], unit)) true all).0

-- a unit is free by what is homed and what stands there
abbrev free_by : Option Pair → Option If → Option If → Bool
free_by o a b = not (is_some o) && is_none a && is_none b

free_as : {o q : Option Pair} {a b c d : Option If} → o ≡ q → a ≡ c → b ≡ d → free_by o a b ≡ free_by q c d
free_as e f g = λ i. free_by (e i) (f i) (g i)

module _ {set : Cells} {v w : World} (a : Alike set v w) where
  -- ---- in a stack of the set

  module _ (p : Path) (inside : in_stacks set p ≡ true) where
    pub standing_in : (name : IfName) → standing v p name ≡ standing w p name
    standing_in name = ap (λ (s : Stack). interface_named half_name name (ifs_of s)) (a.stacks p inside)

    homed_in : (unit : ℕ) → pair_at v (p, unit) ≡ pair_at w (p, unit)
    homed_in unit = a.pairs (p, unit) (own_pair set (p, unit) inside)

    pub taken_in : (name : IfName) (but : Option If) → is_taken v p name but ≡ is_taken w p name but
    unfolding is_taken is_reserved
    taken_in name but =
        ap₂ (λ (on : Option If) reserved. is_another on but || (reserved && not (is_native p but))) (standing_in name) (reserved name)
      where
        reserved : (name : IfName) → is_reserved v p name ≡ is_reserved w p name
        reserved ifname.Lo0 = refl
        reserved (ifname.Epair unit side) = ap is_some (homed_in unit)

    unit_in : (unit : ℕ) → is_unit_free v p unit ≡ is_unit_free w p unit
    unfolding is_unit_free
    unit_in unit = free_as (homed_in unit) (standing_in (ifname.Epair unit A)) (standing_in (ifname.Epair unit B))

    pub lowest_in : lowest_free v p ≡ lowest_free w p
    unfolding lowest_free
    lowest_in = ap (first_unit units 0) (λ i unit. unit_in unit i)

  -- ---- where the deciders of a pair are in the set

  module _ (sv : IsSound v) (sw : IsSound w) (issuer : Path) (unit : ℕ) (all : PairInside set issuer unit) where
    pair_alike : pair_at v (issuer, unit) ≡ pair_at w (issuer, unit)
    pair_alike = a.pairs (issuer, unit) (inside_pair set issuer unit all)

    pub standing_alike : (side : Side) → standing v issuer (ifname.Epair unit side) ≡ standing w issuer (ifname.Epair unit side)
    unfolding in_set is_host
    standing_alike side = by issuer all
      where
        by : (issuer : Path) → PairInside set issuer unit → standing v issuer (ifname.Epair unit side) ≡ standing w issuer (ifname.Epair unit side)
        by [] all =
            host_standing sv unit side ∙ ap (host_on sv unit side) (a.pairs ([], unit) (and_parts _ true all).0)
            ∙ sym (host_standing sw unit side)
        by (l ∷ p) all = standing_in (l ∷ p) (and_parts _ true all).0 (ifname.Epair unit side)

    pub taken_alike : (side : Side) (but : Option If) → is_taken v issuer (ifname.Epair unit side) but ≡ is_taken w issuer (ifname.Epair unit side) but
    unfolding is_taken is_reserved
    taken_alike side but =
        ap₂ (λ (on : Option If) (o : Option Pair). is_another on but || (is_some o && not (is_native issuer but))) (standing_alike side) pair_alike

    pub unit_alike : is_unit_free v issuer unit ≡ is_unit_free w issuer unit
    unfolding is_unit_free
    unit_alike = free_as pair_alike (standing_alike A) (standing_alike B)

-- Which interface stands under a name: it is listed, and in host only halves of host stand.
use Rattle.std.proofs.Common.{◌≡◌, ℕ, ◌==◌, Bool, true, false, cond, ◌||◌, List, [], ◌∷◌, Option, Some, None, refl, sym, ap, ◌∙◌}
use Rattle.std.specs.Prelude.{if◌then◌else◌}
use Rattle.std.specs.List.{find, list_any}
use Rattle.std.proofs.lemmas.Bool.{and_parts, and_from, or_right, true≢false}
use Rattle.std.proofs.lemmas.Bool.Decides.{Decides-eqb}
use Rattle.vn_types.specs.declared.half.Half.{Half}
use Rattle.vn_types.specs.declared.interface.IfName.{IfName}
use Rattle.vn_types.specs.declared.interface.IfName.TheVariants as ifname
use Rattle.vn_types.specs.declared.interface.IfOf.TheVariants.{Lo0, Half as OfHalf}
use Rattle.vn_types.specs.declared.interface.Side.{Side}
use Rattle.vn_types.specs.Interfaces.{side_eq}
use Rattle.vn_types.specs.PathOrder.{path_eq-Decides}
use Rattle.vn_types.proofs.InterfaceNames.{side_eq-Decides, if_same-Decides}
use Rattle.vn_rules.specs.Named.{ifname_eq, if_name, interface_named}
use Rattle.vn_cells.specs.declared.world.Pair.{Pair}
use Rattle.vn_cells.specs.declared.world.World.{World}
use Rattle.vn_cells.specs.world.Names.{Path, If, if_eq, half_eq, half_name, key_of, is_under}
use Rattle.vn_cells.specs.world.World.{stack_at, pair_at, ifs_of, end_of, is_alive}
use Rattle.vn_cells.specs.commands.Taken.{standing}
use Rattle.vn_cells.specs.keeping.Sound.{IsSound}
use Rattle.vn_cells.specs.keeping.Standing.{stands_at, is_placed}
use Rattle.vn_laws.proofs.edits.Names.{half_eq-Decides}
use Rattle.vn_laws.proofs.edits.NamesOnce.{listed_stands, unlisted_stands}

abbrev has_ifname : IfName → If → Bool
has_ifname name on = ifname_eq (if_name half_name on) name

-- what is found has the name, and is listed
pub named_found : (name : IfName) (ifs : List If) (on : If) → interface_named half_name name ifs ≡ Some on
    → (has_ifname name on ≡ true) × (list_any (if_eq on) ifs ≡ true)
unfolding interface_named
named_found name [] on e = cc
named_found name (k ∷ ifs) on e = by (has_ifname name k) refl e (named_found name ifs on)
  where
    by : (b : Bool) → has_ifname name k ≡ b → cond b (Some k) (find (has_ifname name) ifs) ≡ Some on
        → (find (has_ifname name) ifs ≡ Some on → (has_ifname name on ≡ true) × (list_any (if_eq on) ifs ≡ true))
        → (has_ifname name on ≡ true) × ((if_eq on k || list_any (if_eq on) ifs) ≡ true)
    by true f e more =
        let same : k ≡ on = cc in
        (ap (has_ifname name) (sym same) ∙ f, ap (λ b. b || list_any (if_eq on) ifs) ((if_same-Decides half_eq half_eq-Decides on k).1 (sym same)))
    by false f e more = let m = more e in (m.0, or_right (if_eq on k) (list_any (if_eq on) ifs) m.1)

-- where none is found, none of the name is listed
pub named_missed : (name : IfName) (ifs : List If) (on : If) → interface_named half_name name ifs ≡ None → has_ifname name on ≡ true
    → list_any (if_eq on) ifs ≡ false
unfolding interface_named
named_missed name [] on e n = refl
named_missed name (k ∷ ifs) on e n = by (has_ifname name k) refl e (λ f. named_missed name ifs on f n)
  where
    apart : has_ifname name k ≡ false → (b : Bool) → if_eq on k ≡ b → b ≡ false
    apart f true g =
        absurd (true≢false (sym n ∙ ap (has_ifname name) ((if_same-Decides half_eq half_eq-Decides on k).0 g) ∙ f))
    apart f false g = refl

    by : (b : Bool) → has_ifname name k ≡ b → cond b (Some k) (find (has_ifname name) ifs) ≡ None
        → (find (has_ifname name) ifs ≡ None → list_any (if_eq on) ifs ≡ false) → (if_eq on k || list_any (if_eq on) ifs) ≡ false
    by true f e more = cc
    by false f e more = ap (λ b. b || list_any (if_eq on) ifs) (apart f (if_eq on k) refl) ∙ more e

-- ---- in a sound world

-- where a half stands is its home or below it
pub standing_under : {w : World} → IsSound w → (p : Path) (h : Half) → stands_at p h.side (pair_at w (key_of h)) ≡ true
    → is_under p h.home ≡ true
standing_under {w} s p h e = by (pair_at w (key_of h)) e (s.standing.places (key_of h) h.side)
  where
    by : (o : Option Pair) → stands_at p h.side o ≡ true → is_placed w (key_of h) h.side o ≡ true → is_under p h.home ≡ true
    by None e f = cc
    by (Some pair) e f =
        ap (λ r. is_under r h.home) (sym ((path_eq-Decides (end_of h.side pair).at p).0 e))
        ∙ (and_parts (is_alive w (end_of h.side pair).at) (is_under (end_of h.side pair).at h.home) f).1

module _ {w : World} (s : IsSound w) where
  -- a half that is found under a name stands there
  pub standing_stands : (p : Path) (name : IfName) (h : Half) → standing w p name ≡ Some (OfHalf h)
      → stands_at p h.side (pair_at w (key_of h)) ≡ true
  standing_stands p name h e = listed_stands s p h (named_found name (ifs_of (stack_at w p)) (OfHalf h) e).1

  -- in host only halves of host stand
  host_home : (h : Half) → stands_at [] h.side (pair_at w (key_of h)) ≡ true → h.home ≡ []
  unfolding is_under
  host_home h e = by h.home (standing_under s [] h e)
    where
      by : (r : Path) → is_under [] r ≡ true → r ≡ []
      by [] f = refl
      by (l ∷ r) f = cc

  module _ (unit : ℕ) (side : Side) where
    abbrev pub host_half : Half
    host_half = record { home = []; unit = unit; side = side }

    pub host_named : (on : If) → standing w [] (ifname.Epair unit side) ≡ Some on → on ≡ OfHalf host_half
    host_named on e = by on (named_found (ifname.Epair unit side) (ifs_of (stack_at w [])) on e)
      where
        by : (on : If) → (has_ifname (ifname.Epair unit side) on ≡ true) × (list_any (if_eq on) (ifs_of (stack_at w [])) ≡ true)
            → on ≡ OfHalf host_half
        by Lo0 f = cc
        by (OfHalf h) f =
            let n = and_parts (h.unit == unit) (side_eq h.side side) f.0 in
            let home : h.home ≡ [] = host_home h (listed_stands s [] h f.1) in
            λ i. OfHalf (record { home = home i; unit = (Decides-eqb h.unit unit).0 n.0 i; side = (side_eq-Decides h.side side).0 n.1 i })

    -- in host a name is that of host's own pair
    abbrev pub host_on : Option Pair → Option If
    host_on o = if stands_at [] side o then Some (OfHalf host_half) else None

    pub host_standing : standing w [] (ifname.Epair unit side) ≡ host_on (pair_at w ([], unit))
    host_standing = by (standing w [] (ifname.Epair unit side)) refl
      where
        own_name : has_ifname (ifname.Epair unit side) (OfHalf host_half) ≡ true
        own_name = and_from _ _ ((Decides-eqb unit unit).1 refl) ((side_eq-Decides side side).1 refl)

        by : (o : Option If) → standing w [] (ifname.Epair unit side) ≡ o → o ≡ host_on (pair_at w ([], unit))
        by None e =
            ap (λ b. if b then Some (OfHalf host_half) else None)
            (sym (unlisted_stands s [] host_half (named_missed (ifname.Epair unit side) (ifs_of (stack_at w [])) (OfHalf host_half) e own_name)))
        by (Some on) e =
            let same : on ≡ OfHalf host_half = host_named on e in
            let there : stands_at [] side (pair_at w ([], unit)) ≡ true =
            standing_stands [] (ifname.Epair unit side) host_half (e ∙ ap Some same) in
            ap Some same ∙ ap (λ b. if b then Some (OfHalf host_half) else None) (sym there)

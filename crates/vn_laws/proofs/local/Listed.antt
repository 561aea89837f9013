-- What a sound world lists in the scene of a stack: lo0, and each half that stands there.
use Rattle.std.proofs.Common.{◌≡◌, ◌+◌, Bool, true, false, List, [], ◌∷◌, Option, Some, None, refl, ap, ap₂, ◌∙◌, arith}
use Rattle.std.specs.Prelude.{count_by}
use Rattle.std.specs.List.{list_any}
use Rattle.std.specs.Option.{is_some, option_map}
use Rattle.std.proofs.lemmas.Bool.{or_parts}
use Rattle.vn_types.specs.declared.half.Half.{Half}
use Rattle.vn_types.specs.declared.interface.IfOf.TheVariants.{Lo0, Half as OfHalf}
use Rattle.vn_rules.specs.Interfaces.{is_among}
use Rattle.vn_rules.specs.Scenes.{SceneOf}
use Rattle.vn_cells.specs.declared.world.Live.{Live}
use Rattle.vn_cells.specs.declared.world.World.{World}
use Rattle.vn_cells.specs.world.Names.{Path, If, half_eq, if_eq, key_of}
use Rattle.vn_cells.specs.world.World.{stack_at, pair_at, ifs_in, ifs_of}
use Rattle.vn_cells.specs.machine.Local.{scene_in, here_at}
use Rattle.vn_cells.specs.keeping.Sound.{IsSound}
use Rattle.vn_cells.specs.keeping.Standing.{stands_at, times}
use Rattle.vn_laws.proofs.pairs.Listed.{count-cons}

-- whether a scene has the interface, where there is one
abbrev pub lists_in : If → Option (SceneOf Half) → Bool
lists_in on None = true
lists_in on (Some s) = is_among half_eq s.parts.interfaces on

none-counted : (on : If) (ifs : List If) → list_any (if_eq on) ifs ≡ false → count_by (if_eq on) ifs ≡ 0
none-counted on [] none = refl
none-counted on (k ∷ ifs) none =
    let parts = or_parts (if_eq on k) (list_any (if_eq on) ifs) none in
    count-cons on k ifs ∙ ap₂ (λ b n. times b + n) parts.0 (none-counted on ifs parts.1)

-- one that is counted is there
pub any-counted : (on : If) (ifs : List If) → count_by (if_eq on) ifs ≡ 1 → list_any (if_eq on) ifs ≡ true
any-counted on ifs one = by (list_any (if_eq on) ifs) refl
  where
    by : (b : Bool) → list_any (if_eq on) ifs ≡ b → b ≡ true
    by true is = refl
    by false is = let none = none-counted on ifs is in absurd (omega (arith, none, one))

module _ {w : World} (s : IsSound w) (p : Path) where
  pub lo0-listed : lists_in Lo0 (here_at w p).scene ≡ true
  unfolding scene_in
  lo0-listed = by (stack_at w p).live (s.standing.listed p Lo0)
    where
      by : (o : Option Live) → count_by (if_eq Lo0) (ifs_in o) ≡ times (is_some o) → lists_in Lo0 (option_map (λ (live : Live). scene_in w live.parts) o) ≡ true
      by None one = refl
      by (Some live) one = any-counted Lo0 live.parts.interfaces one

  module _ (h : Half) (stands : stands_at p h.side (pair_at w (key_of h)) ≡ true) where
    pub half-standing : list_any (if_eq (OfHalf h)) (ifs_of (stack_at w p)) ≡ true
    half-standing = any-counted (OfHalf h) (ifs_of (stack_at w p)) (s.standing.listed p (OfHalf h) ∙ ap times stands)

    pub half-listed : lists_in (OfHalf h) (here_at w p).scene ≡ true
    unfolding scene_in
    half-listed = by (stack_at w p).live half-standing
      where
        by : (o : Option Live) → list_any (if_eq (OfHalf h)) (ifs_in o) ≡ true → lists_in (OfHalf h) (option_map (λ (live : Live). scene_in w live.parts) o) ≡ true
        by None there = refl
        by (Some live) there = there

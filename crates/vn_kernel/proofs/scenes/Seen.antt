-- The scene of a stack in the tables is the machine's, under the names of halves.
use Rattle.std.proofs.Common.{◌≡◌, ℕ, ◌+◌, ◌^◌, List, [], ◌∷◌, map, Option, Some, None, refl, ap, ◌∙◌, true, arith}
use Rattle.std.specs.Prelude.{if◌then◌else◌}
use Rattle.std.specs.Option.{option_map}
use Rattle.vn_types.specs.declared.half.Half.{Half}
use Rattle.vn_types.specs.declared.interface.HalfId.{HalfId}
use Rattle.vn_types.specs.declared.interface.IfOf.{IfOf}
use Rattle.vn_types.specs.declared.interface.IfOf.TheVariants.{Lo0, Half as OfHalf}
use Rattle.vn_types.specs.declared.interface.Side.{Side}
use Rattle.vn_types.specs.declared.interface.Side.TheVariants.{A, B}
use Rattle.vn_types.specs.Entries.{find}
use Rattle.vn_types.specs.Interfaces.{as_if}
use Rattle.vn_types.specs.Paths.{Path, Key, key_cmp}
use Rattle.vn_types.proofs.Options.{some_same}
use Rattle.vn_rules.specs.Renamed.{renamed}
use Rattle.vn_rules.specs.Rules.{Common}
use Rattle.vn_rules.specs.Scenes.{SceneOf, as_link, renamed_scene}
use Rattle.vn_epair.specs.Halves.{Pair as PairOfNumber}
use Rattle.vn_epair.specs.Pairs.{end_of as end_of_number}
use Rattle.vn_jail.specs.Tree.{is_alive, number_of}
use Rattle.vn_vmove.specs.Parts.{pair_at, parts}
use Rattle.vn_cells.specs.declared.world.Live.{Live}
use Rattle.vn_cells.specs.machine.Local.{here_at, link_by, scene_in}
use Rattle.vn_cells.specs.world.Names.{halves_of}
use Rattle.vn_cells.specs.world.World.{end_at, end_of, pair_at as pair_of_key}
use Rattle.vn_ipcore.specs.Scenes.{halves_of as halves_of_number, link_by as link_by_number, scene_of}
use Rattle.vn_kernel.specs.Fields.{Fields}
use Rattle.vn_kernel.specs.Naming.{home_by, key_by, key_in, name_of, unit_by}
use Rattle.vn_kernel.specs.Stands.{Stands}
use Rattle.vn_kernel.specs.Worlds.{end_by, live_of, pair_by, pair_of, world_of}
use Rattle.vn_kernel.proofs.Views.{live-here}
use Rattle.vn_kernel.proofs.moving.Faithful.{small-unit}
use Rattle.vn_kernel.proofs.moving.Found.{found-key}
use Rattle.vn_kernel.proofs.moving.Unmade.{pair-found, pair-there}

-- ---- what a rule near a stack is handed

-- the clock
abbrev pub common_in : Fields → Common
common_in f = record { clock = f.clock }

-- a scene, under the names of halves
abbrev pub named_scene : Fields → SceneOf HalfId → SceneOf Half
named_scene f scene = renamed_scene (name_of f) scene

-- the scene of a stack, by its number
abbrev pub scene_at : Fields → ℕ → SceneOf HalfId
scene_at f number = scene_of f.tables number

-- the halves that stand there, by their names
abbrev pub halves_here : Fields → ℕ → List Half
halves_here f number = halves_of (map (as_if (name_of f)) (parts f.tables number).interfaces)

module _ {f : Fields} (s : Stands f) where
  -- ---- what is kept of a half

  -- a unit that no pair has is found nowhere
  no-unit : (number : ℕ) → find key_cmp ([], 2 ^ 32 + number) f.units ≡ None
  unfolding key_in
  no-unit number = by (find key_cmp ([], 2 ^ 32 + number) f.units) refl
    where
      large : (m : ℕ) (o : Option PairOfNumber) → pair_at f.tables m ≡ o → option_map (key_by f.jails) o ≡ Some ([], 2 ^ 32 + number) → ⊥
      large m None at e = cc
      large m (Some pair) at e =
          let unit : pair.unit ≡ 2 ^ 32 + number = ap (λ (k : Key). k.1) (some_same (key_by f.jails pair) ([], 2 ^ 32 + number) e) in
          omega (arith, unit, small-unit s m pair at)

      by : (o : Option ℕ) → find key_cmp ([], 2 ^ 32 + number) f.units ≡ o → o ≡ None
      by None is = refl
      by (Some m) is = absurd (large m (pair_at f.tables m) refl (found-key s ([], 2 ^ 32 + number) m is))

  end-side : (side : Side) (pair : PairOfNumber) → end_of side (pair_by f.jails pair) ≡ end_by f.jails (end_of_number side pair)
  end-side A pair = refl
  end-side B pair = refl

  end-found : (h : HalfId) → end_at (world_of f) (name_of f h) ≡ option_map (λ (pair : PairOfNumber). end_by f.jails (end_of_number h.side pair)) (pair_at f.tables h.pair)
  unfolding name_of
  end-found h = by (pair_at f.tables h.pair) refl
    where
      key : Option PairOfNumber → Key
      key o = (home_by f.jails o, unit_by h.pair o)

      by : (o : Option PairOfNumber) → pair_at f.tables h.pair ≡ o
          → option_map (end_of h.side) (pair_of_key (world_of f) (home_by f.jails o, unit_by h.pair o)) ≡ option_map (λ (pair : PairOfNumber). end_by f.jails (end_of_number h.side pair)) o
      by None at = ap (option_map (end_of h.side)) (pair-found f ([], 2 ^ 32 + h.pair) ∙ ap (option_map (pair_of f ([], 2 ^ 32 + h.pair))) (no-unit h.pair))
      by (Some pair) at = ap (option_map (end_of h.side)) (pair-there f s h.pair pair at) ∙ ap Some (end-side h.side pair)

  -- ---- the scene

  link-is : (h : HalfId) → link_by (name_of f h) (end_at (world_of f) (name_of f h)) ≡ as_link (name_of f) (link_by_number h (pair_at f.tables h.pair))
  link-is h = ap (link_by (name_of f h)) (end-found h) ∙ by (pair_at f.tables h.pair)
    where
      by : (o : Option PairOfNumber) → link_by (name_of f h) (option_map (λ (pair : PairOfNumber). end_by f.jails (end_of_number h.side pair)) o) ≡ as_link (name_of f) (link_by_number h o)
      by None = refl
      by (Some pair) = refl

  links-are : (ifs : List (IfOf HalfId)) → map (λ h. link_by h (end_at (world_of f) h)) (halves_of (map (as_if (name_of f)) ifs))
      ≡ map (as_link (name_of f)) (map (λ (h : HalfId). link_by_number h (pair_at f.tables h.pair)) (halves_of_number ifs))
  links-are [] = refl
  links-are (Lo0 ∷ ifs) = links-are ifs
  links-are (OfHalf h ∷ ifs) = λ i. link-is h i ∷ links-are ifs i

  -- by a stack's number
  pub scene_is : (number : ℕ) → scene_in (world_of f) (renamed (name_of f) (parts f.tables number)) ≡ named_scene f (scene_at f number)
  unfolding scene_in scene_of renamed_scene renamed
  scene_is number i = record { parts = renamed (name_of f) (parts f.tables number); links = links-are (parts f.tables number).interfaces i }

  -- at a living path
  pub scene_here : (p : Path) → is_alive p f.jails ≡ true → (here_at (world_of f) p).scene ≡ Some (named_scene f (scene_at f (number_of p f.jails)))
  scene_here p alive =
      ap (option_map (λ (live : Live). scene_in (world_of f) live.parts)) (live-here f s p ∙ ap (λ b. if b then Some (live_of f (number_of p f.jails)) else None) alive)
      ∙ ap Some (scene_is (number_of p f.jails))

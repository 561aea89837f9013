-- Which pairs are homed, and which units are free, at a living path are those at its number.
use Rattle.std.proofs.Common.{◌≡◌, ℕ, ◌<◌, ◌==◌, Bool, true, ◌&&◌, not, length, Option, Some, None, IfSome, refl, sym, ap, ◌∙◌}
use Rattle.std.specs.Cmp.{both_ways}
use Rattle.std.specs.List.{Any, list_any}
use Rattle.std.specs.Option.{is_none, is_some, option_map}
use Rattle.std.proofs.lemmas.Bool.{and_from, and_parts, eq-eqb, eqb-true}
use Rattle.std.proofs.lemmas.List.{get_or_default}
use Rattle.std.proofs.lemmas.List.Folds.{Any-from_list_any, list_any_at}
use Rattle.vn_types.specs.declared.interface.IfName.{IfName}
use Rattle.vn_types.specs.declared.interface.IfName.TheVariants.{Epair}
use Rattle.vn_types.specs.declared.interface.Side.TheVariants.{A, B}
use Rattle.vn_types.specs.Entries.{find as find_entry}
use Rattle.vn_types.specs.Interfaces.{as_if}
use Rattle.vn_types.specs.Paths.{Path, Key, key_cmp}
use Rattle.vn_epair.specs.Halves.{Pair}
use Rattle.vn_epair.specs.Pairs.{is_named}
use Rattle.vn_epair.proofs.Changes.{inside}
use Rattle.vn_ifnet.specs.Stacks.{named}
use Rattle.vn_jail.specs.Tree.{is_alive, number_of, path_at}
use Rattle.vn_jail.proofs.Numbers.{number-is, within}
use Rattle.vn_vmove.specs.Parts.{held, lives, pair_at}
use Rattle.vn_cells.specs.commands.Taken.{is_homed, is_unit_free, standing}
use Rattle.vn_kernel.specs.Fields.{Fields}
use Rattle.vn_kernel.specs.Makings.{is_free_in, stands_in}
use Rattle.vn_kernel.specs.Naming.{key_by, key_in, name_of}
use Rattle.vn_kernel.specs.Stands.{Stands}
use Rattle.vn_kernel.specs.Worlds.{pair_of, world_of}
use Rattle.vn_kernel.proofs.moving.Faithful.{key-found}
use Rattle.vn_kernel.proofs.moving.Found.{found-key, standing-alive}
use Rattle.vn_kernel.proofs.moving.Refused.{number-path}
use Rattle.vn_kernel.proofs.moving.Unmade.{pair-found}

is_some-map : {X Y : Type 0} (g : X → Y) (o : Option X) → is_some (option_map g o) ≡ is_some o
is_some-map g None = refl
is_some-map g (Some x) = refl

is_none-map : {X Y : Type 0} (g : X → Y) (o : Option X) → is_none (option_map g o) ≡ not (is_some o)
is_none-map g None = refl
is_none-map g (Some x) = refl

module _ (f : Fields) (s : Stands f) where
  -- ---- at a living path

  module _ (p : Path) (alive : is_alive p f.jails ≡ true) where
    abbrev n : ℕ
    n = number_of p f.jails

    pub stands-here : (name : IfName) → is_none (standing (world_of f) p name) ≡ not (stands_in f.tables (number_of p f.jails) name)
    stands-here name = ap is_none (standing-alive s p name alive) ∙ is_none-map (as_if (name_of f)) (named name (held f.tables n))

    -- ---- the pair of a unit

    -- what is homed at the number has the path
    homed-path : (m : ℕ) (unit : ℕ) → is_named n unit (pair_at f.tables m) ≡ true → key_in f m ≡ Some (p, unit)
    unfolding key_in
    homed-path m unit e = by (pair_at f.tables m) e
      where
        by : (o : Option Pair) → is_named n unit o ≡ true → option_map (key_by f.jails) o ≡ Some (p, unit)
        by None e = cc
        by (Some pair) e = let both = and_parts (pair.home == n) (pair.unit == unit) e in
            λ i. Some ((ap (path_at f.jails) (eqb-true pair.home n both.0) ∙ number-path s p alive) i, eqb-true pair.unit unit both.1 i)

    path-homed : (m : ℕ) (unit : ℕ) → key_in f m ≡ Some (p, unit) → (is_named n unit (pair_at f.tables m) ≡ true) × (m < length f.tables.pairs)
    unfolding key_in
    path-homed m unit e = by (pair_at f.tables m) refl e (s.sound.homes m)
      where
        by : (o : Option Pair) → pair_at f.tables m ≡ o → option_map (key_by f.jails) o ≡ Some (p, unit) → IfSome o (λ pair. lives f.tables pair.home ≡ true)
            → (is_named n unit o ≡ true) × (m < length f.tables.pairs)
        by None is e home = cc
        by (Some pair) is e home =
            let key : (path_at f.jails pair.home, pair.unit) ≡ (p, unit) = cc in
            let number : n ≡ pair.home = number-is f.jails s.linked p pair.home (within f.jails pair.home (sym (s.living pair.home) ∙ home)) (ap (λ (k : Key). k.0) key) in
            (and_from (pair.home == n) (pair.unit == unit) (eq-eqb pair.home n (sym number)) (eq-eqb pair.unit unit (ap (λ (k : Key). k.1) key)), inside f.tables.pairs m pair is)

    -- a place where a test passes that some element passes
    somewhere : (test : Option Pair → Bool) → list_any test f.tables.pairs ≡ true → (m : ℕ) × (test (pair_at f.tables m) ≡ true)
    somewhere test any = by (Any-from_list_any test f.tables.pairs any)
      where
        by : Any (λ x. test x ≡ true) f.tables.pairs → (m : ℕ) × (test (pair_at f.tables m) ≡ true)
        by a = (a.0, ap test (get_or_default f.tables.pairs a.0 None a.1 a.2 ∙ a.3) ∙ a.4)

    pub found-homed : (unit : ℕ) → is_some (find_entry key_cmp (p, unit) f.units) ≡ list_any (is_named (number_of p f.jails) unit) f.tables.pairs
    found-homed unit = both_ways (is_some (find_entry key_cmp (p, unit) f.units)) (list_any (is_named n unit) f.tables.pairs) (to (find_entry key_cmp (p, unit) f.units) refl) from
      where
        to : (o : Option ℕ) → find_entry key_cmp (p, unit) f.units ≡ o → is_some o ≡ true → list_any (is_named n unit) f.tables.pairs ≡ true
        to None is e = cc
        to (Some m) is e =
            let there = path-homed m unit (found-key s (p, unit) m is) in
            list_any_at (is_named n unit) f.tables.pairs m None there.1 there.0

        from : list_any (is_named n unit) f.tables.pairs ≡ true → is_some (find_entry key_cmp (p, unit) f.units) ≡ true
        from any = let m = somewhere (is_named n unit) any in ap is_some (key-found s m.0 (p, unit) (homed-path m.0 unit m.1))

    homed-here : (unit : ℕ) → is_homed (world_of f) p unit ≡ list_any (is_named n unit) f.tables.pairs
    homed-here unit =
        ap is_some (pair-found f (p, unit)) ∙ is_some-map (pair_of f (p, unit)) (find_entry key_cmp (p, unit) f.units)
        ∙ found-homed unit

    -- whether a unit is free
    pub free-here : (unit : ℕ) → is_unit_free (world_of f) p unit ≡ is_free_in f.tables (number_of p f.jails) unit
    unfolding is_unit_free
    free-here unit i = not (homed-here unit i) && stands-here (Epair unit A) i && stands-here (Epair unit B) i

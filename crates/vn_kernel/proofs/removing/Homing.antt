-- Halves that are lent to a stack go home, one after another.
use Rattle.std.proofs.Common.{◌≡◌, ℕ, ◌+◌, ◌≤◌, ◌==◌, Bool, true, false, List, [], ◌∷◌, length, take, take_all, map, Option, Some, None, Result, Ok, Err, IfSome, IsSome, unwrap_or, add-one, refl, sym, ap, ap₂, ◌∙◌, subst, arith}
use Rattle.std.specs.Prelude.{slice_get, if◌then◌else◌}
use Rattle.std.specs.Result.{OnOk}
use Rattle.std.specs.List.{filter_map}
use Rattle.std.specs.Option.{is_some, option_and_then, option_map}
use Rattle.std.proofs.lemmas.Bool.{eq-eqb, eqb-true, ne_eqb, true≢false}
use Rattle.vn_types.specs.declared.half.Half.{Half}
use Rattle.vn_types.specs.declared.interface.HalfId.{HalfId}
use Rattle.vn_types.specs.declared.interface.IfOf.{IfOf}
use Rattle.vn_types.specs.declared.interface.IfOf.TheVariants.{Lo0, Half as OfHalf}
use Rattle.vn_types.specs.declared.interface.Side.{Side}
use Rattle.vn_types.specs.declared.interface.Side.TheVariants.{A, B}
use Rattle.vn_types.specs.Interfaces.{half_id_eq}
use Rattle.vn_types.specs.Paths.{Path}
use Rattle.vn_types.proofs.Options.{none_some}
use Rattle.vn_rules.specs.declared.parts.PartsOf.{PartsOf}
use Rattle.vn_rules.specs.Interfaces.{without_interface}
use Rattle.vn_rules.proofs.Purged.{purged-interfaces}
use Rattle.vn_epair.specs.Halves.{Pair}
use Rattle.vn_epair.specs.Pairs.{end_of, half_of, new_pair, pair_of}
use Rattle.vn_jail.specs.declared.jail.Jail.{Jail}
use Rattle.vn_jail.specs.Tree.{at, path_at}
use Rattle.vn_vmove.specs.declared.tables.Tables.{Tables}
use Rattle.vn_vmove.specs.Moves.{homeward, moved, placed_at}
use Rattle.vn_vmove.specs.Nets.{Becomes, attached, detached, net_of}
use Rattle.vn_vmove.specs.Parts.{pair_at, parts}
use Rattle.vn_vmove.specs.Sound.{IsSound, stands_at}
use Rattle.vn_vmove.proofs.Listing.{count}
use Rattle.vn_vmove.proofs.Names.{listed-stands}
use Rattle.vn_cells.specs.commands.Moves.{moved as moved_half}
use Rattle.vn_cells.specs.commands.Removal.{lent_here, sent_home}
use Rattle.vn_kernel.specs.Fields.{Fields}
use Rattle.vn_kernel.specs.Naming.{name_of}
use Rattle.vn_kernel.specs.Removal.{ChangesTables, ComesHome, GivesNoNumber, SendsLentHome, homed_elsewhere, lent_half}
use Rattle.vn_kernel.specs.Stands.{Stands, reading}
use Rattle.vn_kernel.specs.Worlds.{world_of}
use Rattle.vn_kernel.proofs.moving.Called.{names-called}
use Rattle.vn_kernel.proofs.moving.Ended.{its_pair}
use Rattle.vn_kernel.proofs.moving.Moved.{home_stands, home_world, moved-pairs}
use Rattle.vn_kernel.proofs.removing.Rest.{leaves-same, same-jails}
use Rattle.vn_kernel.proofs.removing.Lent.{LeavesFirst, leaves-first, lent-here, lent-there, half-there, none-listed, passes-next}

-- what two promises give together, each kept where there is a value
pub both-ok : {T E P Q R : Type 0} (r : Result T E) → (P → Q → R) → OnOk r P → OnOk r Q → OnOk r R
both-ok (Ok x) gives p q = gives p q
both-ok (Err e) gives p q = tt

-- ---- one half

module _ (f : Fields) (s : Stands f) (h : HalfId) (exists : IsSome (pair_at f.tables h.pair)) where
  pub comes-home : (u : Tables) → Becomes (homeward h (pair_at f.tables h.pair) (net_of f.tables)) f.tables u → IsSound u → ComesHome h f (record f { tables = u })
  comes-home u b sound = record {
    leaves = leaves-same (home_world f s h (pair_of f.tables.pairs h.pair) (its_pair f s h.pair exists) u b)
        (home_stands f s h (pair_of f.tables.pairs h.pair) (its_pair f s h.pair exists) u b sound) refl b.numbers refl;
    tables = b;
    others = refl;
  }

-- ---- one after another

-- so many interfaces of a stack were passed, the halves before them that were lent are home, and those to come go home then
pub record Homing (q place : ℕ) (f g : Fields) : Type 0 where
  pub others : ChangesTables f g
  pub stands : Stands g
  pub numbers : GivesNoNumber f g
  pub world : sent_home (path_at f.jails q) (lent_here (world_of g) (path_at f.jails q)) (world_of g)
      ≡ sent_home (path_at f.jails q) (lent_here (world_of f) (path_at f.jails q)) (world_of f)
  pub passed : filter_map (lent_half g.tables q) (take place (parts g.tables q).interfaces) ≡ []

pub homing-none : (q : ℕ) (f : Fields) → Stands f → Homing q 0 f f
homing-none q f s = record { others = refl; stands = s; numbers = refl; world = refl; passed = refl }

module _ (q place : ℕ) (f g : Fields) (so : Homing q place f g) where
  abbrev ons : Fields → List (IfOf HalfId)
  ons k = (parts k.tables q).interfaces

  path-same : path_at g.jails q ≡ path_at f.jails q
  path-same = ap (λ jails. path_at jails q) (same-jails f g so.others)

  lives-still : (at f.jails q).alive ≡ true → (at g.jails q).alive ≡ true
  lives-still alive = ap (λ jails. (at jails q).alive) (same-jails f g so.others) ∙ alive

  -- an interface that stays
  pub homing-passed : option_and_then (lent_half g.tables q) (slice_get (ons g) place) ≡ None → Homing q (place + 1) f g
  homing-passed none = record {
    others = so.others;
    stands = so.stands;
    numbers = so.numbers;
    world = so.world;
    passed = ap (λ n. filter_map (lent_half g.tables q) (take n (ons g))) (add-one place) ∙ passes-next g.tables q place (ons g) so.passed none;
  }

  -- ---- a half goes home

  module _ (h : HalfId) (lent : option_and_then (lent_half g.tables q) (slice_get (ons g) place) ≡ Some h) where
    there : (pair : Pair) × (pair_at g.tables h.pair ≡ Some pair) × ((end_of h.side pair).at ≡ q)
    there = half-there so.stands.sound q place h (lent-there so.stands.sound q place h lent)

    abbrev pair : Pair
    pair = there.0

    pub lent-exists : IsSome (pair_at g.tables h.pair)
    lent-exists = ap is_some there.1

    own_pair : pair_of g.tables.pairs h.pair ≡ pair
    own_pair = ap (λ o. unwrap_or o (new_pair 0 0)) there.1

    apart : (pair.home == q) ≡ false
    apart = by (pair.home == q) (sym (ap (homed_elsewhere q h) there.1) ∙ ap (option_and_then (lent_half g.tables q)) (sym (lent-there so.stands.sound q place h lent)) ∙ lent)
      where
        by : (b : Bool) → ◌≡◌ {A = Option HalfId} (if b then None else Some h) (Some h) → b ≡ false
        by true e = absurd (none_some h e)
        by false e = refl

    once : count (OfHalf h) (ons g) ≤ 1
    once = grind (arith, so.stands.sound.listed q (OfHalf h))

    leaving : LeavesFirst g.tables q h place (ons g)
    leaving = leaves-first g.tables q h place (ons g) so.passed lent once

    module _ (u : Tables) (c : ComesHome h g (record g { tables = u })) where
      abbrev k : Fields
      k = record g { tables = u }

      becomes : Becomes (moved h q pair.home (net_of g.tables)) g.tables u
      unfolding homeward
      becomes = subst (λ n. Becomes (moved h n pair.home (net_of g.tables)) g.tables u) there.2 (subst (λ o. Becomes (homeward h o (net_of g.tables)) g.tables u) there.1 c.tables)

      interfaces : ons k ≡ without_interface half_id_eq (OfHalf h) (ons g)
      unfolding moved
      interfaces =
          ap (λ (p : PartsOf HalfId). p.interfaces) (becomes.parts q)
          ∙ by (q == pair.home) (q == q) (ne_eqb q pair.home (λ e. true≢false (sym (eq-eqb pair.home q (sym e)) ∙ apart))) (eq-eqb q q refl)
          ∙ ap (without_interface half_id_eq (OfHalf h)) (purged-interfaces half_id_eq h (parts g.tables q))
        where
          by : (a b : Bool) → a ≡ false → b ≡ true
              → (if a then attached h (if b then detached h (parts g.tables q) else parts g.tables q) else (if b then detached h (parts g.tables q) else parts g.tables q)).interfaces
              ≡ (detached h (parts g.tables q)).interfaces
          by false true e f = refl
          by true b e f = absurd (true≢false e)
          by false false e f = absurd (true≢false (sym f))

      same-homes : (on : IfOf HalfId) → lent_half u q on ≡ lent_half g.tables q on
      unfolding moved
      same-homes Lo0 = refl
      same-homes (OfHalf x) = ap (homed_elsewhere q x) (becomes.pairs x.pair) ∙ by (x.pair == h.pair) h.side (pair_at g.tables x.pair)
        where
          by : (b : Bool) (side : Side) (o : Option Pair) → homed_elsewhere q x (if b then option_map (placed_at side pair.home) o else o) ≡ homed_elsewhere q x o
          by false side o = refl
          by true side None = refl
          by true A (Some pair) = refl
          by true B (Some pair) = refl

      same-lent : lent_half u q ≡ lent_half g.tables q
      same-lent i on = same-homes on i

      same-names : name_of k ≡ name_of g
      same-names = names-called g u (moved-pairs g so.stands h pair there.1 q pair.home u becomes)

      module _ (alive : (at f.jails q).alive ≡ true) where
        abbrev p : Path
        p = path_at f.jails q

        abbrev rest : List Half
        rest = map (name_of g) (filter_map (lent_half g.tables q) (without_interface half_id_eq (OfHalf h) (ons g)))

        now : lent_here (world_of g) p ≡ name_of g h ∷ rest
        now = lent-here g so.stands q (lives-still alive) p path-same ∙ ap (map (name_of g)) leaving.first

        next : lent_here (world_of k) p ≡ rest
        next = lent-here k c.leaves.stands q (lives-still alive) p path-same ∙ (λ i. map (same-names i) (filter_map (same-lent i) (interfaces i)))

        from : path_at g.jails (half_of g.tables.pairs h).at ≡ p
        from = ap (λ (x : Pair). path_at g.jails (end_of h.side x).at) own_pair ∙ ap (path_at g.jails) there.2 ∙ path-same

        world : sent_home p (lent_here (world_of k) p) (world_of k) ≡ sent_home p (lent_here (world_of g) p) (world_of g)
        unfolding sent_home
        world =
            ap₂ (sent_home p) next (c.leaves.world ∙ ap (λ from. moved_half (name_of g h) from (name_of g h).home (world_of g)) from)
            ∙ ap (λ halves. sent_home p halves (world_of g)) (sym now)

        homed : Homing q place f k
        homed = record {
          others = ap (λ (x : Fields). record x { tables = u }) so.others;
          stands = c.leaves.stands;
          numbers = becomes.numbers ∙ so.numbers;
          world = world ∙ so.world;
          passed = (λ i. filter_map (same-lent i) (take place (interfaces i))) ∙ leaving.passed;
        }

    pub homing-sent : (k : Fields) → ComesHome h g k → (at f.jails q).alive ≡ true → Homing q place f k
    homing-sent k c alive =
        subst (Homing q place f) (sym c.others) (homed k.tables (subst (ComesHome h g) c.others c) alive)

    -- fewer are left
    pub fewer-left : (k : Fields) → ComesHome h g k → length (ons g) ≡ length (ons k) + 1
    fewer-left k c = leaving.shorter ∙ ap (λ xs. length xs + 1) (sym (interfaces k.tables (subst (ComesHome h g) c.others c)))

  -- ---- all are home

  module _ (alive : (at f.jails q).alive ≡ true) (all : length (ons g) ≡ place) where
    none-left : filter_map (lent_half g.tables q) (ons g) ≡ []
    none-left = ap (filter_map (lent_half g.tables q)) (sym (take_all place (ons g) (omega arith))) ∙ so.passed

    all-home : world_of g ≡ sent_home (path_at f.jails q) (lent_here (world_of f) (path_at f.jails q)) (world_of f)
    unfolding sent_home
    all-home =
        ap (λ halves. sent_home (path_at f.jails q) halves (world_of g)) (sym (lent-here g so.stands q (lives-still alive) (path_at f.jails q) path-same ∙ ap (map (name_of g)) none-left))
        ∙ so.world

    own-home : (h : HalfId) → stands_at q h.side (pair_at g.tables h.pair) ≡ true → IfSome (pair_at g.tables h.pair) (λ pair. pair.home ≡ q)
    own-home h stands = by (pair_at g.tables h.pair) (none-listed g.tables q h (ons g) none-left (listed-stands so.stands.sound q h ∙ stands))
      where
        here : (home : ℕ) (b : Bool) → (home == q) ≡ b → ◌≡◌ {A = Option HalfId} (if b then None else Some h) None → home ≡ q
        here home true same e = eqb-true home q same
        here home false same e = absurd (none_some h (sym e))

        by : (o : Option Pair) → homed_elsewhere q h o ≡ None → IfSome o (λ pair. pair.home ≡ q)
        by None e = tt
        by (Some pair) e = here pair.home (pair.home == q) refl e

    pub homing-done : SendsLentHome q f g
    homing-done = record {
      leaves = leaves-same all-home so.stands (ap (λ (jails : List Jail). length jails) (same-jails f g so.others)) so.numbers (ap reading so.others);
      others = so.others;
      numbers = so.numbers;
      own = own-home;
    }

-- The halves in a stack that are homed elsewhere, one by one and all in the world.
use Rattle.std.proofs.Common.{◌≡◌, ℕ, ◌+◌, ◌≤◌, ◌==◌, Bool, true, false, not, ◌||◌, cond, List, [], ◌∷◌, length, take, map, Option, Some, None, unwrap_or, zero, suc, refl, sym, ap, ◌∙◌, arith}
use Rattle.std.specs.Prelude.{filter, slice_get, if◌then◌else◌}
use Rattle.std.specs.Cmp.{both_ways}
use Rattle.std.specs.List.{filter_map, list_any, cons_option}
use Rattle.std.specs.Option.{option_and_then, option_map}
use Rattle.std.proofs.lemmas.Bool.{eq-eqb, eqb-true, false_from_ne_true, false≢true, or_left, or_right}
use Rattle.std.proofs.lemmas.Option.{slice_get-map}
use Rattle.std.proofs.lemmas.List.Sums.{sum_by-cons}
use Rattle.vn_types.specs.declared.half.Half.{Half}
use Rattle.vn_types.specs.declared.interface.HalfId.{HalfId}
use Rattle.vn_types.specs.declared.interface.IfOf.{IfOf}
use Rattle.vn_types.specs.declared.interface.IfOf.TheVariants.{Lo0, Half as OfHalf}
use Rattle.vn_types.specs.Interfaces.{as_if, half_id_eq, if_same}
use Rattle.vn_types.specs.Paths.{Path, path_eq}
use Rattle.vn_types.specs.PathOrder.{path_eq-Decides}
use Rattle.vn_types.proofs.Options.{none_some, some_same}
use Rattle.vn_rules.specs.Interfaces.{without_interface}
use Rattle.vn_rules.specs.Renamed.{renamed}
use Rattle.vn_epair.specs.Halves.{Pair}
use Rattle.vn_epair.specs.Pairs.{end_of, new_pair, pair_of}
use Rattle.vn_ifnet.specs.declared.interfaces.Attached.{Attached}
use Rattle.vn_jail.specs.Tree.{at, is_alive, number_of, path_at}
use Rattle.vn_jail.proofs.Numbers.{is-alive, number-is, within}
use Rattle.vn_vmove.specs.Parts.{held, pair_at, parts}
use Rattle.vn_vmove.specs.Sound.{IsSound, times}
use Rattle.vn_vmove.specs.declared.tables.Tables.{Tables}
use Rattle.vn_vmove.proofs.Deciding.{if-Decides, if-refl}
use Rattle.vn_vmove.proofs.Listing.{count, without-none}
use Rattle.vn_vmove.proofs.Names.{listed-stands, stands-pair}
use Rattle.vn_cells.specs.commands.Removal.{lent_here}
use Rattle.vn_cells.specs.world.Names.{half_of}
use Rattle.vn_cells.specs.world.World.{ifs_in, stack_at}
use Rattle.vn_kernel.specs.Fields.{Fields}
use Rattle.vn_kernel.specs.Naming.{name_of}
use Rattle.vn_kernel.specs.Removal.{homed_elsewhere, lent_half}
use Rattle.vn_kernel.specs.Stands.{Stands}
use Rattle.vn_kernel.specs.Worlds.{live_of, world_of}
use Rattle.vn_kernel.proofs.Views.{live-here}
use Rattle.vn_kernel.proofs.moving.Faithful.{name-is}
use Rattle.vn_kernel.proofs.moving.Found.{home-alive, one-number}

-- what an interface gives is its half
pub lent-own : (t : Tables) (q : ℕ) (on : IfOf HalfId) (h : HalfId) → lent_half t q on ≡ Some h → on ≡ OfHalf h
lent-own t q Lo0 h is = absurd (none_some h is)
lent-own t q (OfHalf g) h is = ap OfHalf (by (pair_at t g.pair) is)
  where
    by : (o : Option Pair) → homed_elsewhere q g o ≡ Some h → g ≡ h
    by None is = absurd (none_some h is)
    by (Some pair) is = here (pair.home == q) is
      where
        here : (b : Bool) → ◌≡◌ {A = Option HalfId} (if b then None else Some g) (Some h) → g ≡ h
        here true is = absurd (none_some h is)
        here false is = some_same g h is

-- ---- what stands in a stack

any-at : {X : Type 0} (test : X → Bool) (xs : List X) (n : ℕ) (x : X) → slice_get xs n ≡ Some x → test x ≡ true → list_any test xs ≡ true
any-at test [] n x is passes = absurd (none_some x is)
any-at test (y ∷ xs) zero x is passes = or_left (test y) (list_any test xs) (ap test (some_same y x is) ∙ passes)
any-at test (y ∷ xs) (suc n) x is passes = or_right (test y) (list_any test xs) (any-at test xs n x is passes)

module _ {t : Tables} (s : IsSound t) (q : ℕ) where
  -- a half that is listed stands there
  pub listed-there : (h : HalfId) → list_any (if_same half_id_eq (OfHalf h)) (parts t q).interfaces ≡ true
      → (pair : Pair) × (pair_at t h.pair ≡ Some pair) × ((end_of h.side pair).at ≡ q)
  listed-there h is = stands-pair q h.side (pair_at t h.pair) (sym (listed-stands s q h) ∙ is)

  module _ (place : ℕ) where
    abbrev here : Option (IfOf HalfId)
    here = slice_get (parts t q).interfaces place

    pub at-place : (o : Option (IfOf HalfId)) → o ≡ option_map (λ (a : Attached). a.what) (slice_get (held t q).attached place) → here ≡ o
    at-place o is = slice_get-map (λ (a : Attached). a.what) (held t q).attached place ∙ sym is

    pub half-there : (h : HalfId) → here ≡ Some (OfHalf h) → (pair : Pair) × (pair_at t h.pair ≡ Some pair) × ((end_of h.side pair).at ≡ q)
    half-there h is = listed-there h (any-at (if_same half_id_eq (OfHalf h)) (parts t q).interfaces place (OfHalf h) is (if-refl (OfHalf h)))

    -- the half that is lent
    pub lent-there : (h : HalfId) → option_and_then (lent_half t q) here ≡ Some h → here ≡ Some (OfHalf h)
    lent-there h is = by here is
      where
        by : (o : Option (IfOf HalfId)) → option_and_then (lent_half t q) o ≡ Some h → o ≡ Some (OfHalf h)
        by None is = absurd (none_some h is)
        by (Some on) is = ap Some (lent-own t q on h is)

    -- what a half gives, by its pair's home
    pub gives : (h : HalfId) → here ≡ Some (OfHalf h) → (home : ℕ) → home ≡ (pair_of t.pairs h.pair).home → (b : Bool) → (home == q) ≡ b
        → option_and_then (lent_half t q) here ≡ (if b then None else Some h)
    gives h is home at b same =
        let there = half-there h is in
        ap (option_and_then (lent_half t q)) is ∙ ap (homed_elsewhere q h) there.1
        ∙ ap (λ n. if n == q then None else Some h) (ap (λ o. (unwrap_or o (new_pair 0 0)).home) (sym there.1) ∙ sym at) ∙ ap (λ c. if c then None else Some h) same

-- ---- interfaces that give none

module _ (t : Tables) (q : ℕ) where
  abbrev lent : IfOf HalfId → Option HalfId
  lent = lent_half t q

  -- what gives none before some that give none
  none-first : (on : IfOf HalfId) (ons : List (IfOf HalfId)) → filter_map lent (on ∷ ons) ≡ [] → (lent on ≡ None) × (filter_map lent ons ≡ [])
  none-first on ons = by (lent on)
    where
      by : (o : Option HalfId) → cons_option o (filter_map lent ons) ≡ [] → (o ≡ None) × (filter_map lent ons ≡ [])
      by None e = (refl, e)
      by (Some g) e = cc

  -- an interface that gives none is passed
  pub passes-next : (place : ℕ) (ons : List (IfOf HalfId)) → filter_map lent (take place ons) ≡ [] → option_and_then lent (slice_get ons place) ≡ None → filter_map lent (take (suc place) ons) ≡ []
  passes-next place [] passed there = refl
  passes-next zero (on ∷ ons) passed there = ap (λ o. cons_option o []) there
  passes-next (suc place) (on ∷ ons) passed there =
      let none = none-first on (take place ons) passed in
      ap (λ o. cons_option o (filter_map lent (take (suc place) ons))) none.0 ∙ passes-next place ons none.1 there

  -- where all give none, so does each that is listed
  pub none-listed : (h : HalfId) (ons : List (IfOf HalfId)) → filter_map lent ons ≡ [] → list_any (if_same half_id_eq (OfHalf h)) ons ≡ true → lent (OfHalf h) ≡ None
  none-listed h [] none is = absurd (false≢true is)
  none-listed h (on ∷ ons) none is =
      let parts = none-first on ons none in by (if_same half_id_eq (OfHalf h) on) refl is parts.0 (λ more. none-listed h ons parts.1 more)
    where
      by : (b : Bool) → if_same half_id_eq (OfHalf h) on ≡ b → (b || list_any (if_same half_id_eq (OfHalf h)) ons) ≡ true → lent on ≡ None
          → (list_any (if_same half_id_eq (OfHalf h)) ons ≡ true → lent (OfHalf h) ≡ None) → lent (OfHalf h) ≡ None
      by true same is none more = ap lent ((if-Decides (OfHalf h) on).0 same) ∙ none
      by false same is none more = more is

  -- ---- the first that gives a half leaves

  module _ (h : HalfId) where
    abbrev others : List (IfOf HalfId) → List (IfOf HalfId)
    others ons = without_interface half_id_eq (OfHalf h) ons

    -- the half was the first, at a place, and leaves the interfaces
    pub record LeavesFirst (place : ℕ) (ons : List (IfOf HalfId)) : Type 0 where
      pub first : filter_map lent ons ≡ h ∷ filter_map lent (others ons)
      pub passed : filter_map lent (take place (others ons)) ≡ []
      pub shorter : length ons ≡ length (others ons) + 1

    -- it is listed once
    once-more : (on : IfOf HalfId) (ons : List (IfOf HalfId)) → count (OfHalf h) (on ∷ ons) ≡ times (if_same half_id_eq (OfHalf h) on) + count (OfHalf h) ons
    once-more on ons = sum_by-cons (λ x. cond (if_same half_id_eq (OfHalf h) x) 1 0) on ons

    -- an interface that gives none stands before it
    behind : (place : ℕ) (on : IfOf HalfId) (ons : List (IfOf HalfId)) → lent on ≡ None → option_and_then lent (slice_get ons place) ≡ Some h → LeavesFirst place ons → LeavesFirst (suc place) (on ∷ ons)
    behind place on ons own there more = record {
      first = ap (λ o. cons_option o (filter_map lent ons)) own ∙ more.first ∙ ap (λ rest. h ∷ rest) (sym (ap (filter_map lent) left ∙ ap (λ o. cons_option o (filter_map lent (others ons))) own));
      passed = ap (λ rest. filter_map lent (take (suc place) rest)) left ∙ ap (λ o. cons_option o (filter_map lent (take place (others ons)))) own ∙ more.passed;
      shorter = let e : length (others (on ∷ ons)) ≡ suc (length (others ons)) = ap length left in let m = more.shorter in omega arith;
    }
      where
        itself : (o : Option (IfOf HalfId)) → option_and_then lent o ≡ Some h → lent (OfHalf h) ≡ Some h
        itself None e = absurd (none_some h e)
        itself (Some x) e = sym (ap lent (lent-own t q x h e)) ∙ e

        apart : if_same half_id_eq on (OfHalf h) ≡ false
        apart = false_from_ne_true _ (λ same. none_some h (sym own ∙ ap lent ((if-Decides on (OfHalf h)).0 same) ∙ itself (slice_get ons place) there))

        left : others (on ∷ ons) ≡ on ∷ others ons
        left = ap (λ b. cond (not b) (on ∷ others ons) (others ons)) apart

    pub leaves-first : (place : ℕ) (ons : List (IfOf HalfId)) → filter_map lent (take place ons) ≡ [] → option_and_then lent (slice_get ons place) ≡ Some h → count (OfHalf h) ons ≤ 1 → LeavesFirst place ons
    leaves-first place [] passed there once = absurd (none_some h there)
    leaves-first zero (on ∷ ons) passed there once = record {
      first = ap (λ o. cons_option o (filter_map lent ons)) there ∙ ap (λ rest. h ∷ filter_map lent rest) (sym left);
      passed = refl;
      shorter = let e : length (others (on ∷ ons)) ≡ length ons = ap length left in omega arith;
    }
      where
        is : on ≡ OfHalf h
        is = lent-own t q on h there

        rest_none : count (OfHalf h) ons ≡ 0
        rest_none =
            let n = once-more on ons in let one = ap times (ap (if_same half_id_eq (OfHalf h)) is ∙ if-refl (OfHalf h)) in omega (arith, once)

        left : others (on ∷ ons) ≡ ons
        left = ap (λ b. cond (not b) (on ∷ others ons) (others ons)) ((if-Decides on (OfHalf h)).1 is) ∙ without-none h ons rest_none
    leaves-first (suc place) (on ∷ ons) passed there once =
        let none = none-first on (take place ons) passed in
        behind place on ons none.0 there (leaves-first place ons none.1 there (let n = once-more on ons in omega (arith, once)))

-- ---- all of them, in the world

module _ (f : Fields) (s : Stands f) (q : ℕ) where
  abbrev ons : List (IfOf HalfId)
  ons = (parts f.tables q).interfaces

  module _ (alive : (at f.jails q).alive ≡ true) (p : Path) (path : path_at f.jails q ≡ p) where
    -- a half is homed elsewhere by name as it is by number
    named-elsewhere : (h : HalfId) (pair : Pair) → pair_at f.tables h.pair ≡ Some pair → path_eq (name_of f h).home p ≡ (pair.home == q)
    named-elsewhere h pair is =
        ap (λ (g : Half). path_eq g.home p) (name-is f h.pair pair is h.side)
        ∙ both_ways _ _
        (λ e. eq-eqb pair.home q (one-number s pair.home q (home-alive s h.pair pair is) alive ((path_eq-Decides (path_at f.jails pair.home) p).0 e ∙ sym path)))
        (λ e. (path_eq-Decides (path_at f.jails pair.home) p).1 (ap (path_at f.jails) (eqb-true pair.home q e) ∙ path))

    lent-is : (h : HalfId) (pair : Pair) → pair_at f.tables h.pair ≡ Some pair → lent_half f.tables q (OfHalf h) ≡ (if path_eq (name_of f h).home p then None else Some h)
    lent-is h pair is = ap (homed_elsewhere q h) is ∙ ap (λ b. if b then None else Some h) (sym (named-elsewhere h pair is))

    all-lent : (xs : List (IfOf HalfId)) → ((h : HalfId) → list_any (if_same half_id_eq (OfHalf h)) xs ≡ true → (pair : Pair) × (pair_at f.tables h.pair ≡ Some pair))
        → filter (λ (h : Half). not (path_eq h.home p)) (filter_map half_of (map (as_if (name_of f)) xs)) ≡ map (name_of f) (filter_map (lent_half f.tables q) xs)
    all-lent [] there = refl
    all-lent (Lo0 ∷ xs) there = all-lent xs (λ h is. there h (or_right (if_same half_id_eq (OfHalf h) Lo0) (list_any (if_same half_id_eq (OfHalf h)) xs) is))
    all-lent (OfHalf h ∷ xs) there =
        by (path_eq (name_of f h).home p) _ _ (all-lent xs (λ g is. there g (or_right (if_same half_id_eq (OfHalf g) (OfHalf h)) (list_any (if_same half_id_eq (OfHalf g)) xs) is))) ∙ ap (λ o. map (name_of f) (cons_option o (filter_map (lent_half f.tables q) xs))) (sym (lent-is h pair.0 pair.1))
      where
        pair : (pair : Pair) × (pair_at f.tables h.pair ≡ Some pair)
        pair = there h (or_left (if_same half_id_eq (OfHalf h) (OfHalf h)) (list_any (if_same half_id_eq (OfHalf h)) xs) (if-refl (OfHalf h)))

        by : (b : Bool) (rest : List Half) (lent_rest : List HalfId) → rest ≡ map (name_of f) lent_rest
            → cond (not b) (name_of f h ∷ rest) rest ≡ map (name_of f) (cons_option (if b then None else Some h) lent_rest)
        by true rest lent_rest more = more
        by false rest lent_rest more = ap (λ xs. name_of f h ∷ xs) more

    pub lent-here : lent_here (world_of f) p ≡ map (name_of f) (filter_map (lent_half f.tables q) ons)
    unfolding renamed
    lent-here =
        ap (λ o. filter (λ (h : Half). not (path_eq h.home p)) (filter_map half_of (ifs_in o))) lives
        ∙ all-lent ons (λ h is. let there = listed-there s.sound q h is in (there.0, there.1))
      where
        own : is_alive p f.jails ≡ true
        own = is-alive f.jails s.linked p q (within f.jails q alive) path ∙ alive

        lives : (stack_at (world_of f) p).live ≡ Some (live_of f q)
        lives = live-here f s p ∙ (λ i. if own i then Some (live_of f (number_is i)) else None)
          where
            number_is : number_of p f.jails ≡ q
            number_is = number-is f.jails s.linked p q (within f.jails q alive) path

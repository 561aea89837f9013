-- Which interface stands under a name in sound tables, and where the name of a half is free.
use Rattle.std.proofs.Common.{◌≡◌, ℕ, Bool, true, false, ◌||◌, cond, List, [], ◌∷◌, Option, Some, None, IfSome, refl, sym, ap, ◌∙◌, subst}
use Rattle.std.specs.List.{find, list_all, list_any}
use Rattle.std.specs.Option.{is_some, option_map}
use Rattle.std.proofs.lemmas.Bool.{and_parts, both_ways, eqb-true, false_from_ne_true, not-false, or_from, or_left, or_parts, or_right, true≢false}
use Rattle.vn_types.specs.declared.interface.HalfId.{HalfId}
use Rattle.vn_types.specs.declared.interface.IfName.{IfName}
use Rattle.vn_types.specs.declared.interface.IfName.TheVariants.{Epair}
use Rattle.vn_types.specs.declared.interface.IfOf.{IfOf}
use Rattle.vn_types.specs.declared.interface.IfOf.TheVariants.{Half}
use Rattle.vn_types.specs.declared.interface.Side.{Side}
use Rattle.vn_types.specs.Interfaces.{half_id_eq, if_same}
use Rattle.vn_types.proofs.InterfaceNames.{half_id_eq-Decides}
use Rattle.vn_types.proofs.Options.{some_same}
use Rattle.vn_rules.specs.Named.{if_name, ifname_eq}
use Rattle.vn_epair.specs.Halves.{Pair}
use Rattle.vn_epair.specs.Pairs.{end_of}
use Rattle.vn_ifnet.specs.declared.interfaces.Attached.{Attached}
use Rattle.vn_ifnet.specs.Stacks.{is_another, is_taken, named, reserved_by}
use Rattle.vn_vmove.specs.declared.tables.Tables.{Tables}
use Rattle.vn_vmove.specs.Moves.{is_kept_from, is_other_if}
use Rattle.vn_vmove.specs.Parts.{held, pair_at}
use Rattle.vn_vmove.specs.Places.{IsFree}
use Rattle.vn_vmove.specs.Sound.{IsHomedAs, IsSound, half_name, name_in, stands_at}
use Rattle.vn_vmove.proofs.Listing.{listed-count, what_of}
use Rattle.vn_vmove.proofs.Deciding.{if-Decides, if-refl, name-is, name-refl}

-- ---- a list whose interfaces have their own names

module _ (name : IfName) (label : HalfId → IfName) where
  abbrev has_name : Attached → Bool
  has_name a = ifname_eq a.name name

  abbrev is_right : Attached → Bool
  is_right a = ifname_eq a.name (if_name label a.what)

  abbrev found_in : List Attached → Option (IfOf HalfId)
  found_in xs = option_map (λ (a : Attached). a.what) (find has_name xs)

  -- what is found has the name, and is listed
  pub found-listed : (xs : List Attached) (on : IfOf HalfId) → list_all is_right xs ≡ true → found_in xs ≡ Some on
      → (if_name label on ≡ name) × (list_any (if_same half_id_eq on) (what_of xs) ≡ true)
  found-listed [] on all e = cc
  found-listed (a ∷ xs) on all e =
      let parts = and_parts (is_right a) (list_all is_right xs) all in
      by (has_name a) refl e parts.0 (λ f. found-listed xs on parts.1 f)
    where
      by : (b : Bool) → has_name a ≡ b → option_map (λ (a : Attached). a.what) (cond b (Some a) (find has_name xs)) ≡ Some on → is_right a ≡ true
          → (found_in xs ≡ Some on → (if_name label on ≡ name) × (list_any (if_same half_id_eq on) (what_of xs) ≡ true))
          → (if_name label on ≡ name) × ((if_same half_id_eq on a.what || list_any (if_same half_id_eq on) (what_of xs)) ≡ true)
      by true f e right more =
          let same : a.what ≡ on = some_same a.what on e in (
            ap (if_name label) (sym same) ∙ sym (name-is a.name (if_name label a.what) right) ∙ name-is a.name name f,
            or_left _ _ ((if-Decides on a.what).1 (sym same)),
          )
      by false f e right more = let m = more e in (m.0, or_right (if_same half_id_eq on a.what) (list_any (if_same half_id_eq on) (what_of xs)) m.1)

  -- where none is found, none of the name is listed
  pub missed-unlisted : (xs : List Attached) (on : IfOf HalfId) → list_all is_right xs ≡ true → found_in xs ≡ None → if_name label on ≡ name
      → list_any (if_same half_id_eq on) (what_of xs) ≡ false
  missed-unlisted [] on all e called = refl
  missed-unlisted (a ∷ xs) on all e called =
      let parts = and_parts (is_right a) (list_all is_right xs) all in
      by (has_name a) refl e parts.0 (λ f. missed-unlisted xs on parts.1 f called)
    where
      by : (b : Bool) → has_name a ≡ b → option_map (λ (a : Attached). a.what) (cond b (Some a) (find has_name xs)) ≡ None → is_right a ≡ true
          → (found_in xs ≡ None → list_any (if_same half_id_eq on) (what_of xs) ≡ false)
          → (if_same half_id_eq on a.what || list_any (if_same half_id_eq on) (what_of xs)) ≡ false
      by true f e right more = cc
      by false f e right more = or_from (if_same half_id_eq on a.what) (list_any (if_same half_id_eq on) (what_of xs))
          (false_from_ne_true (if_same half_id_eq on a.what) (λ s.
          let same : a.name ≡ name = name-is a.name (if_name label a.what) right ∙ ap (if_name label) (sym ((if-Decides on a.what).0 s)) ∙ called in
          both_ways (has_name a) f (ap (λ m. ifname_eq m name) same ∙ name-refl name)))
          (more e)

  -- where none of the name is listed, none is found
  pub unlisted-missed : (xs : List Attached) → list_all is_right xs ≡ true
      → ((on : IfOf HalfId) → list_any (if_same half_id_eq on) (what_of xs) ≡ true → if_name label on ≡ name → ⊥) → found_in xs ≡ None
  unlisted-missed [] all none = refl
  unlisted-missed (a ∷ xs) all none =
      let parts = and_parts (is_right a) (list_all is_right xs) all in
      by (has_name a) refl parts.0
      (unlisted-missed xs parts.1 (λ on is. none on (or_right (if_same half_id_eq on a.what) (list_any (if_same half_id_eq on) (what_of xs)) is)))
    where
      by : (b : Bool) → has_name a ≡ b → is_right a ≡ true → found_in xs ≡ None → option_map (λ (a : Attached). a.what) (cond b (Some a) (find has_name xs)) ≡ None
      by true f right rest = absurd (none a.what
          (or_left (if_same half_id_eq a.what a.what) (list_any (if_same half_id_eq a.what) (what_of xs)) (if-refl a.what))
          (sym (name-is a.name (if_name label a.what) right) ∙ name-is a.name name f))
      by false f right rest = rest

-- ---- in sound tables

none_of : (o : Option (IfOf HalfId)) → is_some o ≡ false → o ≡ None
none_of None e = refl
none_of (Some on) e = cc

-- what stands somewhere is of a pair
pub stands-pair : (q : ℕ) (side : Side) (o : Option Pair) → stands_at q side o ≡ true → (pair : Pair) × (o ≡ Some pair) × ((end_of side pair).at ≡ q)
stands-pair q side None e = cc
stands-pair q side (Some pair) e = (pair, refl, eqb-true (end_of side pair).at q e)

module _ {t : Tables} (s : IsSound t) where
  pub listed-stands : (q : ℕ) (g : HalfId) → list_any (if_same half_id_eq (Half g)) (what_of (held t q).attached) ≡ stands_at q g.side (pair_at t g.pair)
  listed-stands q g = listed-count (Half g) (what_of (held t q).attached) (stands_at q g.side (pair_at t g.pair)) (s.listed q (Half g))

  -- a half that is found under a name stands there, and has it
  pub found-stands : (q : ℕ) (name : IfName) (h : HalfId) → named name (held t q) ≡ Some (Half h)
      → (stands_at q h.side (pair_at t h.pair) ≡ true) × (name_in t h ≡ name)
  found-stands q name h e =
      let f = found-listed name (name_in t) (held t q).attached (Half h) (s.names q) e in
      (sym (listed-stands q h) ∙ f.1, f.0)

  -- where none is found, no half stands under the name
  pub missed-apart : (q : ℕ) (name : IfName) → named name (held t q) ≡ None → (g : HalfId) → stands_at q g.side (pair_at t g.pair) ≡ true
      → name_in t g ≡ name → ⊥
  missed-apart q name e g there called =
      true≢false (sym there ∙ sym (listed-stands q g) ∙ missed-unlisted name (name_in t) (held t q).attached (Half g) (s.names q) e called)

  -- the name of a half is reserved at its home for it
  pub homed-reserved : (q : ℕ) (name : IfName) (g : HalfId) → IsHomedAs q name g.side (pair_at t g.pair) → reserved_by name (held t q) ≡ Some g
  homed-reserved q name g home = by (pair_at t g.pair) home (s.homed g)
    where
      by : (o : Option Pair) → IsHomedAs q name g.side o → IfSome o (λ pair. reserved_by (Epair pair.unit g.side) (held t pair.home) ≡ Some g)
          → reserved_by name (held t q) ≡ Some g
      by None home e = absurd home
      by (Some pair) home e = ap (λ n. reserved_by n (held t q)) (sym home.1) ∙ ap (λ r. reserved_by (Epair pair.unit g.side) (held t r)) (sym home.0) ∙ e

  -- a name that is not taken is free
  pub lent-free : (from to : ℕ) (name : IfName) (h : HalfId) → named name (held t from) ≡ Some (Half h) → is_taken name None (held t to) ≡ false
      → IsFree t h to
  lent-free from to name h e free =
      let called = (found-stands from name h e).1 in
      let f = or_parts (is_some (named name (held t to))) (is_another (reserved_by name (held t to)) None) free in
      record {
        alone = λ g there same. absurd (missed-apart to name (none_of (named name (held t to)) f.0) g there (same ∙ called));
        own = λ g home. absurd (true≢false (sym (ap (λ o. is_another o None)
            (homed-reserved to name g (subst (λ n. IsHomedAs to n g.side (pair_at t g.pair)) called home))) ∙ f.1));
      }

  -- a name that is kept from no half but that one is free for it
  pub reclaimed-free : (from to : ℕ) (name : IfName) (h : HalfId) → named name (held t from) ≡ Some (Half h)
      → is_kept_from (Some (Half h)) name (held t to) ≡ false → IsFree t h to
  reclaimed-free from to name h e free =
      let called = (found-stands from name h e).1 in
      let f = or_parts (is_other_if (named name (held t to)) (Some (Half h))) (is_another (reserved_by name (held t to)) (Some h)) free in
      record {
        alone = λ g there same. by (named name (held t to)) refl f.0 g there same called;
        own = λ g home. (half_id_eq-Decides g h).0 (not-false (half_id_eq g h) (sym (ap (λ o. is_another o (Some h))
            (homed-reserved to name g (subst (λ n. IsHomedAs to n g.side (pair_at t g.pair)) called home))) ∙ f.1));
      }
    where
      by : (o : Option (IfOf HalfId)) → named name (held t to) ≡ o → is_other_if o (Some (Half h)) ≡ false → (g : HalfId)
          → stands_at to g.side (pair_at t g.pair) ≡ true → name_in t g ≡ name_in t h → name_in t h ≡ name → g ≡ h
      by None found other g there same called = absurd (missed-apart to name found g there (same ∙ called))
      by (Some on) found other g there same called =
          let own : on ≡ Half h = (if-Decides on (Half h)).0 (not-false (if_same half_id_eq on (Half h)) other) in
          s.once to g h there (found-stands to name h (found ∙ ap Some own)).0 same

  -- at home the name of a half is free
  pub home-free : (h : HalfId) (pair : Pair) → pair_at t h.pair ≡ Some pair → IsFree t h pair.home
  home-free h pair is = record {
    alone = λ g there same. by g (pair_at t g.pair) there (s.apart g) same;
    own = λ g home. some_same g h (sym (homed-reserved pair.home (name_in t h) g home) ∙ reserved);
  }
    where
      reserved : reserved_by (name_in t h) (held t pair.home) ≡ Some h
      reserved = ap (λ o. reserved_by (half_name o h.side) (held t pair.home)) is
          ∙ subst (λ o. IfSome o (λ pair. reserved_by (Epair pair.unit h.side) (held t pair.home) ≡ Some h)) is (s.homed h)

      by : (g : HalfId) (o : Option Pair) → stands_at pair.home g.side o ≡ true
          → IfSome o (λ p. is_another (reserved_by (Epair p.unit g.side) (held t (end_of g.side p).at)) (Some g) ≡ false)
          → half_name o g.side ≡ name_in t h → g ≡ h
      by g None there apart same = cc
      by g (Some p) there apart same =
          let here : is_another (Some h) (Some g) ≡ false =
          ap (λ o. is_another o (Some g)) (sym reserved) ∙ ap (λ n. is_another (reserved_by n (held t pair.home)) (Some g)) (sym same)
          ∙ ap (λ q. is_another (reserved_by (Epair p.unit g.side) (held t q)) (Some g)) (sym (eqb-true (end_of g.side p).at pair.home there)) ∙ apart in
          sym ((half_id_eq-Decides h g).0 (not-false (half_id_eq h g) here))

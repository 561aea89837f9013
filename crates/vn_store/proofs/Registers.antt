-- What a registry holds, by the bounds under the names and the rows of values that it keeps.
use Rattle.std.proofs.Common.{◌≡◌, ℕ, suc, ◌<◌, ◌≤◌, Bool, true, false, List, [], ◌∷◌, ◌++◌, map, length, Option, Some, None, Result, Ok, Err, OnOk, OnErr, IfSome, IsSome, IsTrue, option_map, is_some, String, string_bytes, refl, sym, ap, subst, ◌∙◌, ⊎_elim, arith}
use Rattle.std.specs.Option.{option_and_then, ForSome}
use Rattle.std.specs.Result.{IsErrAnd}
use Rattle.std.specs.Str.{bytes_eq}
use Rattle.std.specs.String.{string_eq}
use Rattle.std.specs.Map.{values_of, lookup}
use Rattle.std.proofs.lemmas.Bool.{false≢true, and_parts, cases_eq}
use Rattle.std.proofs.lemmas.List.{map-append, append-nil}
use Rattle.indexmap.specs.IndexMap.{insert_entry}
use Rattle.indexmap.proofs.MapLemmas.{absent_from_lookup, insert_entry-absent}
use Rattle.vn_types.specs.PerStack.{ChangesOnly}
use Rattle.vn_types.proofs.PerStackLaws.{each_stays}
use Rattle.vn_rules.specs.declared.variable.Bounds.{Bounds}
use Rattle.vn_store.specs.declared.fault.DeclareFault.{DeclareFault}
use Rattle.vn_store.specs.declared.fault.DeclareFault.TheVariants.{Taken, NoMemory}
use Rattle.vn_store.specs.declared.fault.SetFault.TheVariants.{Range}
use Rattle.vn_rules.specs.Variables.{allows}
use Rattle.vn_types.specs.PerStack.{of as kept_for}
use Rattle.vn_store.specs.Rows.{count_of, value_at, with_value_at, cut, grown}
use Rattle.vn_rules.specs.Variables.{Declaration, bounds_of, value_of, with_value, with_variable, first_variables}
use Rattle.vn_store.specs.Variables.{declared_in, named, shown, are_values, is_row, are_declarations}
use Rattle.vn_store.specs.Held.{Held, of, value_in, IsUnchanged}
use Rattle.vn_store.specs.Faults.{set_fault}
use Rattle.vn_store.proofs.Places.{is_name, IsAt, bounds_of-declared_in, within-at, value_of-at, allowed-at, with_value-at, are_values-at}
use Rattle.vn_store.proofs.Growth.{shown-row, same_named, same_is_row, named-grown, is_row-grown, are_declarations-more, named-first, are_values-first}

no_bounds : (o : Option Bounds) → is_some o ≡ false → o ≡ None
no_bounds None none = refl
no_bounds (Some b) none = cc

enough_values : (ds : List Declaration) (vs : List ℕ) → are_values ds vs ≡ true → length ds ≤ length vs
enough_values [] vs kept = omega arith
enough_values (d ∷ ds) [] kept = absurd (false≢true kept)
enough_values (d ∷ ds) (v ∷ vs) kept = let rest = enough_values ds vs (and_parts (allows d.1 v) _ kept).1 in omega arith

-- what follows from each outcome
pub either : {T E P Q G : Type 0} (r : Result T E) → (P → G) → (Q → G) → OnOk r P → OnErr r Q → G
either (Ok x) ok err p q = ok p
either (Err e) ok err p q = err q

-- what holds whatever the outcome holds after a failure
pub on_err : {T E P : Type 0} (r : Result T E) → P → OnErr r P
on_err (Ok x) p = tt
on_err (Err e) p = p

-- want of memory is no taken name
pub not_taken : {T : Type 0} (r : Result T DeclareFault) → IsErrAnd r (λ e. e ≡ NoMemory) → r ≡ Err Taken → ⊥
not_taken (Ok x) memory taken = cc
not_taken (Err e) memory taken = let same : e ≡ Taken = cc in cc

-- ---- why a value is not set

pub set_fault-allowed : (o : Option Bounds) (b : Bounds) (value : ℕ) → o ≡ Some b → allows b value ≡ true → set_fault o value ≡ None
set_fault-allowed o b value is allowed = rw (is, allowed) refl

pub set_fault-range : (o : Option Bounds) (b : Bounds) (value : ℕ) → o ≡ Some b → allows b value ≡ false → set_fault o value ≡ Some Range
set_fault-range o b value is refused = rw (is, refused) refl

module _ {Y : Type 0} where
  abbrev pub held : List (String Y × Bounds) → List (Option (List ℕ)) → Held
  held es rows = record { declared = declared_in es; stacks = shown (declared_in es) rows }

  -- each variable may take its first value, and each instance has a value of each variable within its bounds
  abbrev pub IsSound : List (String Y × Bounds) → List (Option (List ℕ)) → Type 0
  IsSound es rows = (are_declarations (declared_in es) ≡ true) × ((q : ℕ) → is_row (declared_in es) (kept_for None rows q) ≡ true)

  -- ---- a name is declared where the map has it

  pub is_declared : (name : List ℕ) (es : List (String Y × Bounds)) (b : Bool) → b ≡ is_some (lookup (is_name name) es) → is_some (bounds_of name (declared_in es)) ≡ b
  is_declared name es b found = ap is_some (bounds_of-declared_in name es) ∙ sym found

  pub not_declared : (name : List ℕ) (es : List (String Y × Bounds)) → false ≡ is_some (lookup (is_name name) es) → bounds_of name (declared_in es) ≡ None
  not_declared name es none = no_bounds _ (is_declared name es false none)

  -- a name that is not declared is not in the map
  pub absent : (name : List ℕ) (key : String Y) (es : List (String Y × Bounds)) → string_bytes key ≡ name → bounds_of name (declared_in es) ≡ None → lookup (string_eq key) es ≡ None
  absent name key es spelt none = ap (λ n. lookup (λ k. bytes_eq n (string_bytes k)) es) spelt ∙ sym (bounds_of-declared_in name es) ∙ none

  -- ---- the value at the place of a name

  module _ (name : List ℕ) (es : List (String Y × Bounds)) (i : ℕ) (at : IsAt name es i) where
    pub place_within : (r : Option (List ℕ)) → is_row (declared_in es) r ≡ true → IsSome (option_map (named (declared_in es)) r) → i < count_of r
    place_within None kept there = absurd (false≢true there)
    place_within (Some vs) kept there = within-at name es i vs at kept

    row_value : (r : Option (List ℕ)) (x : ℕ) → is_row (declared_in es) r ≡ true → value_at i r ≡ Some x → option_and_then (value_of name) (option_map (named (declared_in es)) r) ≡ Some x
    row_value None x kept is = cc
    row_value (Some vs) x kept is = value_of-at name es i vs at kept ∙ is

    pub value_in-place : (rows : List (Option (List ℕ))) (q x : ℕ) → is_row (declared_in es) (kept_for None rows q) ≡ true → value_at i (kept_for None rows q) ≡ Some x → value_in (held es rows) q name ≡ Some x
    value_in-place rows q x kept is = ap (option_and_then (value_of name)) (shown-row (declared_in es) rows q) ∙ row_value (kept_for None rows q) x kept is

    pub allowed_value : (r : Option (List ℕ)) (x : ℕ) → is_row (declared_in es) r ≡ true → value_at i r ≡ Some x → IfSome (bounds_of name (declared_in es)) (λ b. IsTrue (allows b x))
    allowed_value None x kept is = cc
    allowed_value (Some vs) x kept is = rw is at (allowed-at name es i vs at kept)

    -- ---- a value that is set there

    row_set : (value : ℕ) (r : Option (List ℕ)) → is_row (declared_in es) r ≡ true
        → option_map (named (declared_in es)) (with_value_at i value r) ≡ option_map (with_value name value) (option_map (named (declared_in es)) r)
    row_set value None kept = refl
    row_set value (Some vs) kept = ap Some (with_value-at name value es i vs at kept)

    pub of-set : (value q : ℕ) (rows rows' : List (Option (List ℕ))) → is_row (declared_in es) (kept_for None rows q) ≡ true → kept_for None rows' q ≡ with_value_at i value (kept_for None rows q)
        → of (held es rows') q ≡ option_map (with_value name value) (of (held es rows) q)
    of-set value q rows rows' kept is =
        shown-row (declared_in es) rows' q
        ∙ ap (option_map (named (declared_in es))) is
        ∙ row_set value (kept_for None rows q) kept
        ∙ ap (option_map (with_value name value)) (sym (shown-row (declared_in es) rows q))

    pub is_row-set : (value : ℕ) (b : Bounds) (r : Option (List ℕ)) → bounds_of name (declared_in es) ≡ Some b → allows b value ≡ true → is_row (declared_in es) r ≡ true → is_row (declared_in es) (with_value_at i value r) ≡ true
    is_row-set value b None bounds allowed kept = refl
    is_row-set value b (Some vs) bounds allowed kept = are_values-at name value b es i vs at bounds allowed kept

  -- what is shown of a stack is that of its row
  pub has_row : (es : List (String Y × Bounds)) (rows : List (Option (List ℕ))) (q : ℕ) → IsSome (of (held es rows) q) → IsSome (option_map (named (declared_in es)) (kept_for None rows q))
  has_row es rows q there = ap is_some (sym (shown-row (declared_in es) rows q)) ∙ there

  -- ---- other stacks

  pub of-others : (es : List (String Y × Bounds)) (sid : ℕ) (rows rows' : List (Option (List ℕ))) → ChangesOnly sid (kept_for None rows) (kept_for None rows') → ChangesOnly sid (of (held es rows)) (of (held es rows'))
  of-others es sid rows rows' change = record {
    others = λ q ne. shown-row (declared_in es) rows' q ∙ ap (option_map (named (declared_in es))) (change.others q ne) ∙ sym (shown-row (declared_in es) rows q);
  }

  pub sound-others : (es : List (String Y × Bounds)) (sid : ℕ) (rows rows' : List (Option (List ℕ))) → ChangesOnly sid (kept_for None rows) (kept_for None rows') → IsSound es rows → is_row (declared_in es) (kept_for None rows' sid) ≡ true → IsSound es rows'
  sound-others es sid rows rows' change sound here = (sound.0, each_stays (λ r. is_row (declared_in es) r ≡ true) sid (kept_for None rows) (kept_for None rows') change sound.1 here)

  -- ---- a variable more

  length-declared_in : (es : List (String Y × Bounds)) → length (declared_in es) ≡ length es
  length-declared_in [] = refl
  length-declared_in (e ∷ es) = ap suc (length-declared_in es)

  -- an instance has a value of each variable
  pub enough : (es : List (String Y × Bounds)) (n : ℕ) (r : Option (List ℕ)) → n ≡ length es → is_row (declared_in es) r ≡ true → ForSome r (λ vs. n ≤ length vs)
  enough es n None count kept = λ vs is. cc
  enough es n (Some vs) count kept = λ us is. let same : vs ≡ us = cc in rw (← same) (by (enough_values (declared_in es) vs kept))
    where
      by : length (declared_in es) ≤ length vs → n ≤ length vs
      by le = rw (count ∙ sym (length-declared_in es)) le

  module _ (es : List (String Y × Bounds)) (n : ℕ) (count : n ≡ length es) (rows rows' : List (Option (List ℕ))) where
    count_is : n ≡ length (declared_in es)
    count_is = count ∙ sym (length-declared_in es)

    -- where the first values of each row stay, nothing changes
    module _ (es' : List (String Y × Bounds)) (same : es' ≡ es) (first : (q : ℕ) → cut n (kept_for None rows' q) ≡ cut n (kept_for None rows q)) where
      first_values : (q : ℕ) → cut (length (declared_in es)) (kept_for None rows' q) ≡ cut (length (declared_in es)) (kept_for None rows q)
      first_values q = subst (λ m. cut m (kept_for None rows' q) ≡ cut m (kept_for None rows q)) count_is (first q)

      pub sound-first : IsSound es rows → IsSound es' rows'
      sound-first sound = rw same ((sound.0, λ q. same_is_row (declared_in es) (kept_for None rows' q) (kept_for None rows q) (first_values q) (sound.1 q)))

      pub unchanged-first : IsUnchanged (held es rows) (held es' rows')
      unchanged-first = record {
        declared = ap declared_in same;
        stacks = λ q. ap (λ fs. of (held fs rows') q) same ∙ shown-row (declared_in es) rows' q ∙ same_named (declared_in es) (kept_for None rows' q) (kept_for None rows q) (first_values q) ∙ sym (shown-row (declared_in es) rows q);
      }

    -- where each row has one value more, there is one variable more
    module _ (name : List ℕ) (bounds : Bounds) (key : String Y) (spelt : string_bytes key ≡ name) (none : bounds_of name (declared_in es) ≡ None) (es' : List (String Y × Bounds))
        (entries : es' ≡ insert_entry string_eq es key bounds) (given : (q : ℕ) → kept_for None rows' q ≡ grown n bounds.initial (kept_for None rows q)) where
      more : es' ≡ es ++ (key, bounds) ∷ []
      more = entries ∙ insert_entry-absent string_eq key bounds es (absent_from_lookup (string_eq key) es (absent name key es spelt none))

      pub declared-more : declared_in es' ≡ declared_in es ++ (name, bounds) ∷ []
      declared-more = ap declared_in more ∙ map-append (λ (e : String Y × Bounds). (string_bytes e.0, e.1)) es ((key, bounds) ∷ []) ∙ ap (λ k. declared_in es ++ (k, bounds) ∷ []) spelt

      given_is : (q : ℕ) → kept_for None rows' q ≡ grown (length (declared_in es)) bounds.initial (kept_for None rows q)
      given_is q = given q ∙ ap (λ m. grown m bounds.initial (kept_for None rows q)) count_is

      pub sound-more : allows bounds bounds.initial ≡ true → IsSound es rows → IsSound es' rows'
      sound-more allowed sound =
          subst (λ ds. (are_declarations ds ≡ true) × ((q : ℕ) → is_row ds (kept_for None rows' q) ≡ true)) (sym declared-more) (
            are_declarations-more (declared_in es) (name, bounds) sound.0 allowed,
            λ q. ap (is_row (declared_in es ++ (name, bounds) ∷ [])) (given_is q) ∙ is_row-grown (declared_in es) (name, bounds) bounds.initial (kept_for None rows q) allowed (sound.1 q),
          )

      pub of-more : IsSound es rows → (q : ℕ) → of (held es' rows') q ≡ option_map (with_variable name bounds.initial) (of (held es rows) q)
      of-more sound q =
          shown-row (declared_in es') rows' q
          ∙ (λ i. option_map (named (declared-more i)) (given_is q i))
          ∙ named-grown (declared_in es) (name, bounds) bounds.initial (kept_for None rows q) (sound.1 q)
          ∙ ap (option_map (with_variable name bounds.initial)) (sym (shown-row (declared_in es) rows q))

  -- ---- an instance

  pub first_values_of : (es : List (String Y × Bounds)) → map (λ (b : Bounds). b.initial) (values_of es) ≡ map (λ (d : Declaration). d.1.initial) (declared_in es)
  first_values_of [] = refl
  first_values_of (e ∷ es) = ap (λ rest. e.1.initial ∷ rest) (first_values_of es)

  -- where none is to come, the initial values so far are those of all variables
  pub all_values : (es : List (String Y × Bounds)) (vs : List ℕ) (bs : List Bounds) → bs ≡ [] → vs ++ map (λ (b : Bounds). b.initial) bs ≡ map (λ (d : Declaration). d.1.initial) (declared_in es)
      → vs ≡ map (λ (d : Declaration). d.1.initial) (declared_in es)
  all_values es vs bs none so_far = sym (append-nil vs) ∙ ap (λ rest. vs ++ map (λ (b : Bounds). b.initial) rest) (sym none) ∙ so_far

  module _ (es : List (String Y × Bounds)) (sid : ℕ) (vs : List ℕ) (first : vs ≡ map (λ (d : Declaration). d.1.initial) (declared_in es)) where
    pub first_row : are_declarations (declared_in es) ≡ true → is_row (declared_in es) (Some vs) ≡ true
    first_row all = ap (are_values (declared_in es)) first ∙ are_values-first (declared_in es) all

    pub of-started : (rows' : List (Option (List ℕ))) → kept_for None rows' sid ≡ Some vs → of (held es rows') sid ≡ Some (first_variables (declared_in es))
    of-started rows' is = shown-row (declared_in es) rows' sid ∙ ap (option_map (named (declared_in es))) (is ∙ ap Some first) ∙ ap Some (named-first (declared_in es))

  pub unchanged-row : (es : List (String Y × Bounds)) (sid : ℕ) (rows rows' : List (Option (List ℕ))) → ChangesOnly sid (kept_for None rows) (kept_for None rows') → kept_for None rows' sid ≡ kept_for None rows sid → IsUnchanged (held es rows) (held es rows')
  unchanged-row es sid rows rows' change here = record {
    declared = refl;
    stacks = λ q.
        shown-row (declared_in es) rows' q
        ∙ ap (option_map (named (declared_in es))) (⊎_elim (λ (same : q ≡ sid). rw same here) (change.others q) (cases_eq q sid))
        ∙ sym (shown-row (declared_in es) rows q);
  }

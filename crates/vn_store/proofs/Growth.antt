-- One variable more, and the values that stand behind the first ones.
use Rattle.std.proofs.Common.{◌≡◌, ℕ, zero, suc, true, ◌&&◌, List, [], ◌∷◌, ◌++◌, map, length, take, Option, Some, None, option_map, slice_index_or, refl, sym, ap, ◌∙◌}
use Rattle.std.proofs.lemmas.Bool.{and_parts, false≢true}
use Rattle.vn_rules.specs.Variables.{allows}
use Rattle.vn_types.specs.PerStack.{of as kept_for}
use Rattle.vn_store.specs.Rows.{cut, grown}
use Rattle.vn_rules.specs.Variables.{Declaration, with_variable, first_variables}
use Rattle.vn_store.specs.Variables.{named, shown, are_values, is_row, are_declarations}

-- what is shown of a stack is what its row shows
pub shown-row : (ds : List Declaration) (rows : List (Option (List ℕ))) (q : ℕ) → slice_index_or (shown ds rows) q None ≡ option_map (named ds) (kept_for None rows q)
shown-row ds [] zero = refl
shown-row ds [] (suc q) = refl
shown-row ds (r ∷ rows) zero = refl
shown-row ds (r ∷ rows) (suc q) = shown-row ds rows q

-- ---- the values behind those of the declared variables are not seen

named-take : (ds : List Declaration) (vs : List ℕ) → named ds (take (length ds) vs) ≡ named ds vs
named-take [] vs = refl
named-take (d ∷ ds) [] = refl
named-take (d ∷ ds) (v ∷ vs) = ap (λ rest. record { name = d.0; value = v } ∷ rest) (named-take ds vs)

are_values-take : (ds : List Declaration) (vs : List ℕ) → are_values ds (take (length ds) vs) ≡ are_values ds vs
are_values-take [] vs = refl
are_values-take (d ∷ ds) [] = refl
are_values-take (d ∷ ds) (v ∷ vs) = ap (λ b. allows d.1 v && b) (are_values-take ds vs)

named-cut : (ds : List Declaration) (r : Option (List ℕ)) → option_map (named ds) (cut (length ds) r) ≡ option_map (named ds) r
named-cut ds None = refl
named-cut ds (Some vs) = ap Some (named-take ds vs)

is_row-cut : (ds : List Declaration) (r : Option (List ℕ)) → is_row ds (cut (length ds) r) ≡ is_row ds r
is_row-cut ds None = refl
is_row-cut ds (Some vs) = are_values-take ds vs

-- rows with the same first values show the same
pub same_named : (ds : List Declaration) (r s : Option (List ℕ)) → cut (length ds) r ≡ cut (length ds) s → option_map (named ds) r ≡ option_map (named ds) s
same_named ds r s same = sym (named-cut ds r) ∙ ap (option_map (named ds)) same ∙ named-cut ds s

pub same_is_row : (ds : List Declaration) (r s : Option (List ℕ)) → cut (length ds) r ≡ cut (length ds) s → is_row ds s ≡ true → is_row ds r ≡ true
same_is_row ds r s same kept = sym (is_row-cut ds r) ∙ ap (is_row ds) same ∙ is_row-cut ds s ∙ kept

-- ---- one value more

named-grown_values : (ds : List Declaration) (d : Declaration) (vs : List ℕ) (x : ℕ) → are_values ds vs ≡ true → named (ds ++ d ∷ []) (take (length ds) vs ++ x ∷ []) ≡ with_variable d.0 x (named ds vs)
named-grown_values [] d vs x kept = refl
named-grown_values (e ∷ ds) d [] x kept = absurd (false≢true kept)
named-grown_values (e ∷ ds) d (v ∷ vs) x kept = ap (λ rest. record { name = e.0; value = v } ∷ rest) (named-grown_values ds d vs x (and_parts (allows e.1 v) _ kept).1)

are_values-grown : (ds : List Declaration) (d : Declaration) (vs : List ℕ) (x : ℕ) → allows d.1 x ≡ true → are_values ds vs ≡ true → are_values (ds ++ d ∷ []) (take (length ds) vs ++ x ∷ []) ≡ true
are_values-grown [] d vs x allowed kept = rw allowed refl
are_values-grown (e ∷ ds) d [] x allowed kept = absurd (false≢true kept)
are_values-grown (e ∷ ds) d (v ∷ vs) x allowed kept = let parts = and_parts (allows e.1 v) _ kept in rw parts.0 (are_values-grown ds d vs x allowed parts.1)

pub named-grown : (ds : List Declaration) (d : Declaration) (x : ℕ) (r : Option (List ℕ)) → is_row ds r ≡ true → option_map (named (ds ++ d ∷ [])) (grown (length ds) x r) ≡ option_map (with_variable d.0 x) (option_map (named ds) r)
named-grown ds d x None kept = refl
named-grown ds d x (Some vs) kept = ap Some (named-grown_values ds d vs x kept)

pub is_row-grown : (ds : List Declaration) (d : Declaration) (x : ℕ) (r : Option (List ℕ)) → allows d.1 x ≡ true → is_row ds r ≡ true → is_row (ds ++ d ∷ []) (grown (length ds) x r) ≡ true
is_row-grown ds d x None allowed kept = refl
is_row-grown ds d x (Some vs) allowed kept = are_values-grown ds d vs x allowed kept

pub are_declarations-more : (ds : List Declaration) (d : Declaration) → are_declarations ds ≡ true → allows d.1 d.1.initial ≡ true → are_declarations (ds ++ d ∷ []) ≡ true
are_declarations-more [] d all allowed = rw allowed refl
are_declarations-more (e ∷ ds) d all allowed = let parts = and_parts (allows e.1 e.1.initial) _ all in rw parts.0 (are_declarations-more ds d parts.1 allowed)

-- ---- an instance

pub named-first : (ds : List Declaration) → named ds (map (λ (d : Declaration). d.1.initial) ds) ≡ first_variables ds
named-first [] = refl
named-first (d ∷ ds) = ap (λ rest. record { name = d.0; value = d.1.initial } ∷ rest) (named-first ds)

pub are_values-first : (ds : List Declaration) → are_declarations ds ≡ true → are_values ds (map (λ (d : Declaration). d.1.initial) ds) ≡ true
are_values-first [] all = refl
are_values-first (d ∷ ds) all = let parts = and_parts (allows d.1 d.1.initial) _ all in rw parts.0 (are_values-first ds parts.1)

-- The variables of a sound stack have values within their bounds, and a variable that is set leaves it sound.
use Rattle.std.proofs.Common.{◌≡◌, ℕ, Bool, true, false, cond, List, [], ◌∷◌, Option, Some, None, refl, sym, ap, ◌∙◌}
use Rattle.std.specs.List.{find}
use Rattle.std.specs.Map.{lookup}
use Rattle.std.specs.Option.{option_map, option_map_or}
use Rattle.std.specs.Str.{bytes_eq}
use Rattle.std.proofs.lemmas.Bool.{and_parts, and_from, not-false}
use Rattle.std.proofs.lemmas.Slice.Eq.{bytes_eq-Decides}
use Rattle.vn_types.specs.Refusals.{first_refusal}
use Rattle.vn_types.proofs.RefusalLaws.{none-applies}
use Rattle.vn_rules.specs.declared.parts.PartsOf.{PartsOf}
use Rattle.vn_rules.specs.declared.variable.Bounds.{Bounds}
use Rattle.vn_rules.specs.declared.variable.Variable.{Variable}
use Rattle.vn_rules.specs.Soundness.{binds_locally, sends_locally, times_arp, covers_arp, founds_routes, is_sound_parts}
use Rattle.vn_rules.specs.Variables.{allows, Declaration, bounds_of, value_of, with_value, are_declared, declarations, set_refusals}
use Rattle.vn_rules.proofs.Named.{own_names}
use Rattle.vn_rules.proofs.SoundEdits.{tabled-sound}
use Rattle.vn_rules.proofs.SoundFacts.{facts_from_sound}

-- a declaration and the variable that stands for it have one name
same_name : (name : List ℕ) (d : Declaration) (v : Variable) → bytes_eq d.0 v.name ≡ true → bytes_eq name v.name ≡ bytes_eq name d.0
same_name name d v is = ap (bytes_eq name) (sym ((bytes_eq-Decides d.0 v.name).0 is))

-- a variable that is declared has a value, and within its bounds
pub value-allowed : (name : List ℕ) (declared : List Declaration) (variables : List Variable) (bounds : Bounds) → are_declared declared variables ≡ true → bounds_of name declared ≡ Some bounds
    → (n : ℕ) × (value_of name variables ≡ Some n) × (allows bounds n ≡ true)
value-allowed name [] variables bounds are is = absurd (cc)
value-allowed name (d ∷ declared) [] bounds are is = absurd (cc)
value-allowed name (d ∷ declared) (v ∷ variables) bounds are is =
    let three = and_parts _ (are_declared declared variables) are in
    let two = and_parts (bytes_eq d.0 v.name) (allows d.1 v.value) three.0 in
    by (bytes_eq name d.0) is (same_name name d v two.0) two.1 (value-allowed name declared variables bounds three.1)
  where
    value : Bool → Option ℕ
    value b = option_map (λ (w : Variable). w.value) (cond b (Some v) (find (λ (w : Variable). bytes_eq name w.name) variables))

    by : (b : Bool) → cond b (Some d.1) (lookup (bytes_eq name) declared) ≡ Some bounds → bytes_eq name v.name ≡ b → allows d.1 v.value ≡ true
        → (bounds_of name declared ≡ Some bounds → (n : ℕ) × (value_of name variables ≡ Some n) × (allows bounds n ≡ true))
        → (n : ℕ) × (value (bytes_eq name v.name) ≡ Some n) × (allows bounds n ≡ true)
    by true is names fits more = let same : d.1 ≡ bounds = cc in (v.value, ap value names, ap (λ b. allows b v.value) (sym same) ∙ fits)
    by false is names fits more = let rest = more is in (rest.0, ap value names ∙ rest.1, rest.2)

-- a value within the bounds keeps them
pub with_value-declared : (name : List ℕ) (value : ℕ) (declared : List Declaration) (variables : List Variable) → option_map_or (λ b. allows b value) (bounds_of name declared) true ≡ true → are_declared declared variables ≡ true
    → are_declared declared (with_value name value variables) ≡ true
with_value-declared name value [] [] fits are = refl
with_value-declared name value [] (v ∷ variables) fits are = absurd (cc)
with_value-declared name value (d ∷ declared) [] fits are = are
with_value-declared name value (d ∷ declared) (v ∷ variables) fits are =
    let three = and_parts _ (are_declared declared variables) are in
    let two = and_parts (bytes_eq d.0 v.name) (allows d.1 v.value) three.0 in
    ap (λ b. are_declared (d ∷ declared) (cond b (record v { value = value } ∷ variables) (v ∷ with_value name value variables))) (same_name name d v two.0)
    ∙ by (bytes_eq name d.0) fits two.0 two.1 three.1 (λ fits. with_value-declared name value declared variables fits three.1)
  where
    by : (b : Bool) → option_map_or (λ b. allows b value) (cond b (Some d.1) (lookup (bytes_eq name) declared)) true ≡ true → bytes_eq d.0 v.name ≡ true → allows d.1 v.value ≡ true → are_declared declared variables ≡ true
        → (option_map_or (λ b. allows b value) (bounds_of name declared) true ≡ true → are_declared declared (with_value name value variables) ≡ true)
        → are_declared (d ∷ declared) (cond b (record v { value = value } ∷ variables) (v ∷ with_value name value variables)) ≡ true
    by true fits names own rest more = and_from _ _ (and_from _ _ names fits) rest
    by false fits names own rest more = and_from _ _ (and_from _ _ names own) (more fits)

module _ {N : Type 0} (same : N → N → Bool) (p : PartsOf N) where
  pub with_value-sound : (name : List ℕ) (value : ℕ) → is_sound_parts same p ≡ true → first_refusal (set_refusals name value declarations) ≡ None → is_sound_parts same (record p { variables = with_value name value p.variables }) ≡ true
  unfolding binds_locally sends_locally covers_arp founds_routes
  with_value-sound name value sound none =
      let f = facts_from_sound same (times_arp same) p sound in
      let n = own_names same (times_arp same) p f in
      tabled-sound same p (record p { variables = with_value name value p.variables }) f
      (record { addresses = n.addresses; routes = n.routes; arp = n.arp; pings = n.pings; grams = n.grams })
      f.bound f.sources f.arp_covered f.founded
      (with_value-declared name value declarations p.variables (not-false _ (none-applies (set_refusals name value declarations) none).1.0) f.variables)
      f.addresses f.routes f.sockets

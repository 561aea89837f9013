-- Names of interfaces are read as they are written.
use Rattle.std.proofs.Common.{◌≡◌, ℕ, ◌<◌, ◌+◌, ◌-◌, ◌^◌, ◌==◌, Bool, true, false, cond, not, List, [], ◌∷◌, ◌++◌, length, get_or, take, drop, Option, Some, None, refl, sym, ap, ap₂, ◌∙◌, arith, length-append}
use Rattle.std.specs.Prelude.{IfSome, option_and_then, codes, decimal}
use Rattle.std.specs.Option.{option_map}
use Rattle.std.specs.Str.{bytes_eq}
use Rattle.std.proofs.lemmas.Bool.{eqb-true}
use Rattle.std.proofs.lemmas.List.{take-append-drop, take_more, take_all}
use Rattle.std.proofs.lemmas.List.Folds.{list_all-append}
use Rattle.std.proofs.lemmas.Slice.Eq.{bytes_eq-Decides}
use Rattle.vn_types.specs.Octets.{letter_a, letter_b, slash}
use Rattle.vn_types.specs.declared.interface.Side.{Side}
use Rattle.vn_types.specs.declared.interface.Side.TheVariants.{A, B}
use Rattle.vn_types.specs.declared.interface.IfName.{IfName}
use Rattle.vn_types.specs.declared.interface.IfName.TheVariants.{Lo0, Epair}
use Rattle.vn_types.specs.NumberWords.{number_up_to}
use Rattle.vn_types.specs.InterfaceWords.{side_of, unit_side_parts, unit_side_of, epair_of, ifname_of, side_letter, unit_side_text, ifname_text}
use Rattle.vn_types.proofs.Options.{none_some, some_same}
use Rattle.vn_types.proofs.Cuts.{lacks}
use Rattle.vn_types.proofs.Digits.{decimal-number, number-decimal, number_lacks}

-- ---- sides

side_letter-side_of : (c : ℕ) (s : Side) → side_of c ≡ Some s → side_letter s ≡ c
unfolding side_of
side_letter-side_of c s h = by (c == letter_a) (c == letter_b) refl refl h
  where
    by : (a b : Bool) → (c == letter_a) ≡ a → (c == letter_b) ≡ b → cond a (Some A) (cond b (Some B) None) ≡ Some s → side_letter s ≡ c
    by true b i j e = ap side_letter (sym (some_same _ _ e)) ∙ sym (eqb-true c letter_a i)
    by false true i j e = ap side_letter (sym (some_same _ _ e)) ∙ sym (eqb-true c letter_b j)
    by false false i j e = absurd (none_some _ e)

side_of-side_letter : (s : Side) → side_of (side_letter s) ≡ Some s
unfolding side_of
side_of-side_letter A = refl
side_of-side_letter B = refl

-- ---- a last octet

last_index : (rest : List ℕ) (c : ℕ) → get_or (rest ++ c ∷ []) (length rest) 0 ≡ c
last_index [] c = refl
last_index (d ∷ rest) c = last_index rest c

last_front : (rest : List ℕ) (c : ℕ) → take (length rest) (rest ++ c ∷ []) ≡ rest
last_front [] c = refl
last_front (d ∷ rest) c = ap (λ ds. d ∷ ds) (last_front rest c)

last_length : (t rest : List ℕ) (c : ℕ) → t ≡ rest ++ c ∷ [] → length t - 1 ≡ length rest
last_length t rest c e = omega (arith, ap length e ∙ length-append rest (c ∷ []))

-- a text that is not empty has one
last_is : (t : List ℕ) → 0 < length t → t ≡ take (length t - 1) t ++ get_or t (length t - 1) 0 ∷ []
last_is t h = sym (take_all (length t - 1 + 1) t (omega arith)) ∙ take_more t (length t - 1) 0 (omega arith)

-- ---- units with sides

pub unit_side_last : (t unit : List ℕ) (c : ℕ) → t ≡ unit ++ c ∷ [] → unit_side_of t ≡ unit_side_parts unit c
unfolding unit_side_of
unit_side_last t unit c e =
    let n = last_length t unit c e in
    ap₂ unit_side_parts (ap₂ take n e ∙ last_front unit c) (ap₂ (λ s i. get_or s i 0) e n ∙ last_index unit c)

pub unit_side_empty : (t : List ℕ) → length t ≡ 0 → unit_side_of t ≡ None
unfolding unit_side_of unit_side_parts side_of
unit_side_empty [] h = refl
unit_side_empty (c ∷ t) h = absurd (omega (arith, h))

record IsUnitSide (unit : List ℕ) (c : ℕ) (n : ℕ) (side : Side) : Type 0 where
  letter : side_of c ≡ Some side
  number : number_up_to 4294967295 unit ≡ Some n

unit_side_is : (unit : List ℕ) (c : ℕ) (n : ℕ) (side : Side) → unit_side_parts unit c ≡ Some (n, side) → IsUnitSide unit c n side
unfolding unit_side_parts
unit_side_is unit c n side h = by (side_of c) (number_up_to 4294967295 unit) refl refl h
  where
    by : (p : Option Side) (q : Option ℕ) → side_of c ≡ p → number_up_to 4294967295 unit ≡ q → option_and_then {U = ℕ × Side} (λ s. option_and_then {U = ℕ × Side} (λ m. Some (m, s)) q) p ≡ Some (n, side) → IsUnitSide unit c n side
    by (Some s) (Some m) i j e = let same = some_same _ _ e in record { letter = i ∙ ap Some (ap (λ (v : ℕ × Side). v.1) same); number = j ∙ ap Some (ap (λ (v : ℕ × Side). v.0) same) }
    by (Some s) None i j e = absurd (none_some _ e)
    by None q i j e = absurd (none_some _ e)

unit_side_filled : (t : List ℕ) (v : ℕ × Side) → unit_side_of t ≡ Some v → 0 < length t
unit_side_filled [] v h = absurd (none_some _ (sym (unit_side_empty [] refl) ∙ h))
unit_side_filled (c ∷ t) v h = omega arith

unit_side_split : (t : List ℕ) (v : ℕ × Side) → unit_side_of t ≡ Some v → IsUnitSide (take (length t - 1) t) (get_or t (length t - 1) 0) v.0 v.1
unfolding unit_side_of
unit_side_split t v h = unit_side_is _ _ v.0 v.1 h

-- a unit with a side is written as it was read
pub unit_side_canonical : (t : List ℕ) (v : ℕ × Side) → unit_side_of t ≡ Some v → unit_side_text v.0 v.1 ≡ t
unfolding unit_side_text
unit_side_canonical t v h =
    let is = unit_side_split t v h in
    let digits = decimal-number 4294967295 _ v.0 (omega arith) is.number in
    (λ i. digits i ++ side_letter-side_of _ v.1 is.letter i ∷ []) ∙ sym (last_is t (unit_side_filled t v h))

-- and read as it is written
pub unit_side_read_back : (n : ℕ) (side : Side) → n < 2 ^ 32 → unit_side_of (unit_side_text n side) ≡ Some (n, side)
unfolding unit_side_text unit_side_parts
unit_side_read_back n side h =
    unit_side_last (decimal n ++ side_letter side ∷ []) (decimal n) (side_letter side) refl
    ∙ rw (side_of-side_letter side, number-decimal 4294967295 n (omega arith) (omega arith)) refl

letter_lacks : (side : Side) → lacks slash (side_letter side ∷ []) ≡ true
letter_lacks A = refl
letter_lacks B = refl

pub unit_side_lacks : (t : List ℕ) (v : ℕ × Side) → unit_side_of t ≡ Some v → lacks slash t ≡ true
unit_side_lacks t v h =
    let is = unit_side_split t v h in
    let letter : lacks slash (get_or t (length t - 1) 0 ∷ []) ≡ true = ap (λ c. lacks slash (c ∷ [])) (sym (side_letter-side_of _ v.1 is.letter)) ∙ letter_lacks v.1 in
    ap (lacks slash) (last_is t (unit_side_filled t v h)) ∙ list_all-append (λ d. not (d == slash)) (take (length t - 1) t) (get_or t (length t - 1) 0 ∷ []) ∙ rw (number_lacks 4294967295 _ v.0 slash refl is.number, letter) refl

-- ---- names

pub lo0_read : (t s : List ℕ) → true ≡ bytes_eq t s → s ≡ codes "lo0" → Some Lo0 ≡ ifname_of t
unfolding ifname_of
lo0_read t s h same = rw (← same, ← h) refl

pub epair_read : (t s : List ℕ) → false ≡ bytes_eq t s → s ≡ codes "lo0" → epair_of t ≡ ifname_of t
unfolding ifname_of
epair_read t s h same = rw (← same, ← h) refl

lo0_text : ifname_text Lo0 ≡ codes "lo0"
unfolding ifname_text
lo0_text = refl

epair_text : (t : List ℕ) (v : ℕ × Side) → bytes_eq (take 5 t) (codes "epair") ≡ true → unit_side_of (drop 5 t) ≡ Some v → ifname_text (Epair v.0 v.1) ≡ t
unfolding ifname_text
epair_text t v front e = ap₂ ◌++◌ (sym ((bytes_eq-Decides (take 5 t) (codes "epair")).0 front)) (unit_side_canonical (drop 5 t) v e) ∙ take-append-drop 5 t

-- a name is written as it was read
pub ifname_canonical : (t : List ℕ) (o : Option IfName) → o ≡ ifname_of t → IfSome o (λ name. ifname_text name ≡ t)
unfolding ifname_of epair_of
ifname_canonical t None h = tt
ifname_canonical t (Some name) h = by (bytes_eq t (codes "lo0")) (bytes_eq (take 5 t) (codes "epair")) (unit_side_of (drop 5 t)) refl refl refl (sym h)
  where
    by : (a b : Bool) (o : Option (ℕ × Side)) → bytes_eq t (codes "lo0") ≡ a → bytes_eq (take 5 t) (codes "epair") ≡ b → unit_side_of (drop 5 t) ≡ o → cond a (Some Lo0) (cond b (option_map (λ u. Epair u.0 u.1) o) None) ≡ Some name → ifname_text name ≡ t
    by true b o i j k e = ap ifname_text (sym (some_same _ _ e)) ∙ lo0_text ∙ sym ((bytes_eq-Decides t (codes "lo0")).0 i)
    by false true (Some v) i j k e = ap ifname_text (sym (some_same _ _ e)) ∙ epair_text t v j k
    by false true None i j k e = absurd (none_some _ e)
    by false false o i j k e = absurd (none_some _ e)

pub lo0_read_back : ifname_of (ifname_text Lo0) ≡ Some Lo0
unfolding ifname_of ifname_text
lo0_read_back = refl

-- and read as it is written
pub epair_read_back : (n : ℕ) (side : Side) → n < 2 ^ 32 → ifname_of (ifname_text (Epair n side)) ≡ Some (Epair n side)
unfolding ifname_of epair_of ifname_text
epair_read_back n side h = ap (option_map (λ u. Epair u.0 u.1)) (unit_side_read_back n side h)

-- ---- what a writer puts

pub lo0_back : (name : IfName) → name ≡ Lo0 → ifname_of (ifname_text name) ≡ Some name
lo0_back name e = rw e lo0_read_back

pub epair_back : (name : IfName) (n : ℕ) (side : Side) → name ≡ Epair n side → n < 2 ^ 32 → ifname_of (ifname_text name) ≡ Some name
epair_back name n side e h = rw e (epair_read_back n side h)

pub lo0_texts : (name : IfName) → name ≡ Lo0 → codes "lo0" ++ [] ≡ ifname_text name
unfolding ifname_text
lo0_texts name e = rw e refl

pub unit_side_texts : (digits letter : List ℕ) (n : ℕ) (side : Side) → digits ≡ decimal n → letter ≡ side_letter side ∷ [] → digits ++ (letter ++ []) ≡ unit_side_text n side
unfolding unit_side_text
unit_side_texts digits letter n side d l = λ i. d i ++ (l i ++ [])

pub epair_texts : (name : IfName) (text : List ℕ) (n : ℕ) (side : Side) → name ≡ Epair n side → text ≡ unit_side_text n side → codes "epair" ++ text ≡ ifname_text name
unfolding ifname_text
epair_texts name text n side e same = rw (e, same) refl

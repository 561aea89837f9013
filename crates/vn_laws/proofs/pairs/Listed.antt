-- How often an interface is listed.
use Rattle.std.proofs.Common.{◌≡◌, ℕ, ◌+◌, Bool, true, false, ◌&&◌, ◌||◌, not, cond, List, [], ◌∷◌, ◌++◌, refl, sym, ap, ◌∙◌, arith}
use Rattle.std.specs.Prelude.{filter, count_by, if◌then◌else◌}
use Rattle.std.specs.List.{list_any}
use Rattle.std.proofs.lemmas.Bool.{true≢false}
use Rattle.std.proofs.lemmas.List.Folds.{list_any-append}
use Rattle.std.proofs.lemmas.List.Sums.{sum_by-cons}
use Rattle.vn_types.specs.declared.half.Half.{Half}
use Rattle.vn_types.specs.declared.interface.IfOf.TheVariants.{Lo0, Half as OfHalf}
use Rattle.vn_cells.specs.world.Names.{If, if_eq, half_eq, halves_of, has_half}
use Rattle.vn_cells.specs.keeping.Standing.{times}
use Rattle.vn_laws.proofs.edits.Names.{half_eq-Decides, half_eq-refl}

abbrev pub but : Half → List If → List If
but h ifs = filter (λ on. not (if_eq on (OfHalf h))) ifs

abbrev pub count : If → List If → ℕ
count on ifs = count_by (if_eq on) ifs

-- the half is one of the interfaces
abbrev pub has : Half → List If → Bool
has h ifs = list_any (if_eq (OfHalf h)) ifs

pub if_eq-is : (a b : If) → if_eq a b ≡ true → a ≡ b
if_eq-is Lo0 Lo0 e = refl
if_eq-is Lo0 (OfHalf h) e = cc
if_eq-is (OfHalf g) Lo0 e = cc
if_eq-is (OfHalf g) (OfHalf h) e = ap OfHalf ((half_eq-Decides g h).0 e)

pub if_eq-refl : (a : If) → if_eq a a ≡ true
if_eq-refl Lo0 = refl
if_eq-refl (OfHalf h) = half_eq-refl h

pub count-cons : (on k : If) (ifs : List If) → count on (k ∷ ifs) ≡ times (if_eq on k) + count on ifs
count-cons on k ifs = sum_by-cons (λ x. cond (if_eq on x) 1 0) k ifs

count-none : (on : If) → count on [] ≡ 0
count-none on = refl

pub count-last : (on : If) (h : Half) (ifs : List If) → count on (ifs ++ OfHalf h ∷ []) ≡ count on ifs + times (if_eq on (OfHalf h))
count-last on h [] = count-cons on (OfHalf h) [] ∙ omega (arith, count-none on)
count-last on h (k ∷ ifs) =
    let a = count-cons on k (ifs ++ OfHalf h ∷ []) in let b = count-cons on k ifs in let c = count-last on h ifs in omega arith

pub count-but : (on : If) (h : Half) (ifs : List If) → count on (but h ifs) ≡ (if if_eq on (OfHalf h) then 0 else count on ifs)
count-but on h [] = by (if_eq on (OfHalf h))
  where
    by : (b : Bool) → ◌≡◌ {A = ℕ} 0 (if b then 0 else 0)
    by true = refl
    by false = refl
count-but on h (k ∷ ifs) =
    rw (count-cons on k ifs) (by (if_eq k (OfHalf h)) refl (if_eq on k) refl (if_eq on (OfHalf h)) refl (count-but on h ifs))
  where
    by : (a : Bool) → if_eq k (OfHalf h) ≡ a → (b : Bool) → if_eq on k ≡ b → (c : Bool) → if_eq on (OfHalf h) ≡ c
        → count on (but h ifs) ≡ (if c then 0 else count on ifs)
        → count on (cond (not a) (k ∷ but h ifs) (but h ifs)) ≡ (if c then 0 else times b + count on ifs)
    by true e b f true i ih = ih
    by true e true f false i ih =
        let same : on ≡ OfHalf h = if_eq-is on k f ∙ if_eq-is k (OfHalf h) e in
        absurd (true≢false (sym (if_eq-refl (OfHalf h)) ∙ ap (λ x. if_eq x (OfHalf h)) (sym same) ∙ i))
    by true e false f false i ih = omega (arith, ih)
    by false e true f true i ih =
        let same : k ≡ OfHalf h = sym (if_eq-is on k f) ∙ if_eq-is on (OfHalf h) i in
        absurd (true≢false (sym (if_eq-refl (OfHalf h)) ∙ ap (λ x. if_eq x (OfHalf h)) (sym same) ∙ e))
    by false e true f false i ih = count-cons on k (but h ifs) ∙ ap (λ b. times b + count on (but h ifs)) f ∙ ap (λ n. 1 + n) ih
    by false e false f true i ih = count-cons on k (but h ifs) ∙ ap (λ b. times b + count on (but h ifs)) f ∙ ap (λ n. 0 + n) ih
    by false e false f false i ih = count-cons on k (but h ifs) ∙ ap (λ b. times b + count on (but h ifs)) f ∙ ap (λ n. 0 + n) ih ∙ omega arith

-- an interface is listed where it is counted
pub has-count : (on : If) (ifs : List If) (b : Bool) → count on ifs ≡ times b → list_any (if_eq on) ifs ≡ b
has-count on [] true e = absurd (zero_one (sym (count-none on) ∙ e))
  where
    zero_one : ◌≡◌ {A = ℕ} 0 1 → ⊥
    zero_one e = cc
has-count on [] false e = refl
has-count on (k ∷ ifs) b e = by (if_eq on k) b (sym (count-cons on k ifs) ∙ e) (has-count on ifs b)
  where
    by : (c b : Bool) → times c + count on ifs ≡ times b → (count on ifs ≡ times b → list_any (if_eq on) ifs ≡ b)
        → (c || list_any (if_eq on) ifs) ≡ b
    by true true e more = refl
    by true false e more = absurd (omega arith)
    by false b e more = more (omega arith)

pub has-but : (on : If) (h : Half) (ifs : List If)
    → list_any (if_eq on) (but h ifs) ≡ (list_any (if_eq on) ifs && not (if_eq on (OfHalf h)))
has-but on h [] = refl
has-but on h (k ∷ ifs) = by (if_eq k (OfHalf h)) refl (if_eq on k) refl (has-but on h ifs)
  where
    by : (a : Bool) → if_eq k (OfHalf h) ≡ a → (b : Bool) → if_eq on k ≡ b
        → list_any (if_eq on) (but h ifs) ≡ (list_any (if_eq on) ifs && not (if_eq on (OfHalf h)))
        → list_any (if_eq on) (cond (not a) (k ∷ but h ifs) (but h ifs)) ≡ ((b || list_any (if_eq on) ifs) && not (if_eq on (OfHalf h)))
    by true e true f ih =
        let same : if_eq on (OfHalf h) ≡ true = ap (λ x. if_eq x (OfHalf h)) (if_eq-is on k f) ∙ e in
        ih ∙ ap (λ c. list_any (if_eq on) ifs && not c) same ∙ none (list_any (if_eq on) ifs) ∙ sym (ap (λ c. true && not c) same)
      where
        none : (c : Bool) → (c && false) ≡ false
        none c = grind arith
    by true e false f ih = ih
    by false e true f ih =
        let apart : if_eq on (OfHalf h) ≡ false = ap (λ x. if_eq x (OfHalf h)) (if_eq-is on k f) ∙ e in
        ap (λ c. c || list_any (if_eq on) (but h ifs)) f ∙ sym (ap (λ c. true && not c) apart)
    by false e false f ih = ap (λ c. c || list_any (if_eq on) (but h ifs)) f ∙ ih

pub has-last : (on : If) (h : Half) (ifs : List If)
    → list_any (if_eq on) (ifs ++ OfHalf h ∷ []) ≡ (list_any (if_eq on) ifs || if_eq on (OfHalf h))
has-last on h ifs =
    let alone : (if_eq on (OfHalf h) || false) ≡ if_eq on (OfHalf h) = grind arith in
    list_any-append (if_eq on) ifs (OfHalf h ∷ []) ∙ ap (λ b. list_any (if_eq on) ifs || b) alone

-- the halves among the interfaces
pub has_half-has : (h : Half) (ifs : List If) → has_half (halves_of ifs) h ≡ has h ifs
has_half-has h [] = refl
has_half-has h (Lo0 ∷ ifs) = has_half-has h ifs
has_half-has h (OfHalf g ∷ ifs) = ap (λ b. half_eq h g || b) (has_half-has h ifs)

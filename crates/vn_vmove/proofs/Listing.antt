-- How often an interface is listed, where a half leaves a list or comes to it.
use Rattle.std.proofs.Common.{◌≡◌, ℕ, ◌+◌, Bool, true, false, ◌||◌, not, cond, List, [], ◌∷◌, ◌++◌, map, refl, sym, ap, ◌∙◌, arith}
use Rattle.std.specs.Prelude.{count_by, if◌then◌else◌}
use Rattle.std.specs.List.{list_any}
use Rattle.std.proofs.lemmas.Bool.{not-false}
use Rattle.std.proofs.lemmas.List.Sums.{sum_by-cons}
use Rattle.vn_types.specs.declared.interface.HalfId.{HalfId}
use Rattle.vn_types.specs.declared.interface.IfName.{IfName}
use Rattle.vn_types.specs.declared.interface.IfOf.{IfOf}
use Rattle.vn_types.specs.declared.interface.IfOf.TheVariants.{Half}
use Rattle.vn_types.specs.Interfaces.{half_id_eq, if_same}
use Rattle.vn_types.proofs.ListMaps.{filter_map_same}
use Rattle.vn_rules.specs.Interfaces.{with_interface, without_interface}
use Rattle.vn_rules.proofs.Kept.{count_filter}
use Rattle.vn_rules.proofs.ListTests.{all_kept}
use Rattle.vn_rules.proofs.TimerEdits.{count_filter_none}
use Rattle.vn_ifnet.specs.declared.interfaces.Attached.{Attached}
use Rattle.vn_ifnet.specs.Stacks.{without}
use Rattle.vn_vmove.specs.Sound.{times}
use Rattle.vn_vmove.proofs.Deciding.{if-Decides, if-flip, if-refl}

abbrev pub count : IfOf HalfId → List (IfOf HalfId) → ℕ
count on ifs = count_by (if_same half_id_eq on) ifs

abbrev pub what_of : List Attached → List (IfOf HalfId)
what_of attached = map (λ (a : Attached). a.what) attached

count-cons : (on k : IfOf HalfId) (ifs : List (IfOf HalfId)) → count on (k ∷ ifs) ≡ times (if_same half_id_eq on k) + count on ifs
count-cons on k ifs = sum_by-cons (λ x. cond (if_same half_id_eq on x) 1 0) k ifs

count-none : (on : IfOf HalfId) → count on [] ≡ 0
count-none on = refl

-- what is counted once is listed, and what is not counted is not
pub listed-count : (on : IfOf HalfId) (ifs : List (IfOf HalfId)) (b : Bool) → count on ifs ≡ times b → list_any (if_same half_id_eq on) ifs ≡ b
listed-count on [] true e = absurd (zero_one (sym (count-none on) ∙ e))
  where
    zero_one : ◌≡◌ {A = ℕ} 0 1 → ⊥
    zero_one e = cc
listed-count on [] false e = refl
listed-count on (k ∷ ifs) b e = by (if_same half_id_eq on k) b (sym (count-cons on k ifs) ∙ e) (listed-count on ifs b)
  where
    by : (c b : Bool) → times c + count on ifs ≡ times b → (count on ifs ≡ times b → list_any (if_same half_id_eq on) ifs ≡ b)
        → (c || list_any (if_same half_id_eq on) ifs) ≡ b
    by true true e more = refl
    by true false e more = absurd (omega arith)
    by false b e more = more (omega arith)

module _ (h : HalfId) where
  abbrev gone : IfOf HalfId → Bool
  gone own = not (if_same half_id_eq own (Half h))

  -- the half leaves the list, or not
  abbrev pub cut : Bool → List (IfOf HalfId) → List (IfOf HalfId)
  cut c ifs = if c then without_interface half_id_eq (Half h) ifs else ifs

  -- and comes, last, or not
  abbrev pub put : Bool → List (IfOf HalfId) → List (IfOf HalfId)
  put b ifs = if b then with_interface (Half h) ifs else ifs

  count-out : (ifs : List (IfOf HalfId)) → count (Half h) (without_interface half_id_eq (Half h) ifs) ≡ 0
  count-out ifs = count_filter_none gone (if_same half_id_eq (Half h)) (λ x is. ap not (if-flip x (Half h) ∙ is)) ifs

  count-other : (on : IfOf HalfId) (ifs : List (IfOf HalfId)) → if_same half_id_eq on (Half h) ≡ false
      → count on (without_interface half_id_eq (Half h) ifs) ≡ count on ifs
  count-other on ifs e = count_filter (if_same half_id_eq on) gone ifs
      (λ x is goes. ap (if_same half_id_eq on) ((if-Decides x (Half h)).0 (not-false (if_same half_id_eq x (Half h)) goes)) ∙ e)

  pub cut-other : (on : IfOf HalfId) (c : Bool) (ifs : List (IfOf HalfId)) → if_same half_id_eq on (Half h) ≡ false → count on (cut c ifs) ≡ count on ifs
  cut-other on true ifs e = count-other on ifs e
  cut-other on false ifs e = refl

  pub cut-own : (c : Bool) (ifs : List (IfOf HalfId)) → (c ≡ false → count (Half h) ifs ≡ 0) → count (Half h) (cut c ifs) ≡ 0
  cut-own true ifs out = count-out ifs
  cut-own false ifs out = out refl

  pub cut-none : (on : IfOf HalfId) (c : Bool) (ifs : List (IfOf HalfId)) → count on ifs ≡ 0 → count on (cut c ifs) ≡ 0
  cut-none on c ifs e = by (if_same half_id_eq on (Half h)) refl
    where
      by : (b : Bool) → if_same half_id_eq on (Half h) ≡ b → count on (cut c ifs) ≡ 0
      by true f = ap (λ o. count o (cut c ifs)) ((if-Decides on (Half h)).0 f)
          ∙ cut-own c ifs (λ _. ap (λ o. count o ifs) (sym ((if-Decides on (Half h)).0 f)) ∙ e)
      by false f = cut-other on c ifs f ∙ e

  count-last : (on : IfOf HalfId) (ifs : List (IfOf HalfId)) → count on (with_interface (Half h) ifs) ≡ count on ifs + times (if_same half_id_eq on (Half h))
  count-last on [] = count-cons on (Half h) [] ∙ omega (arith, count-none on)
  count-last on (k ∷ ifs) =
      let a = count-cons on k (with_interface (Half h) ifs) in
      let b = count-cons on k ifs in
      let c = count-last on ifs in
      omega arith

  pub put-other : (on : IfOf HalfId) (b : Bool) (ifs : List (IfOf HalfId)) → if_same half_id_eq on (Half h) ≡ false → count on (put b ifs) ≡ count on ifs
  put-other on true ifs e = let n = count-last on ifs ∙ ap (λ d. count on ifs + times d) e in omega arith
  put-other on false ifs e = refl

  pub put-own : (b : Bool) (ifs : List (IfOf HalfId)) → count (Half h) ifs ≡ 0 → count (Half h) (put b ifs) ≡ times b
  put-own true ifs e = let n = count-last (Half h) ifs ∙ ap (λ d. count (Half h) ifs + times d) (if-refl (Half h)) in omega arith
  put-own false ifs e = e

  -- ---- of what is attached

  pub what-without : (attached : List Attached) → what_of (without (Half h) attached) ≡ without_interface half_id_eq (Half h) (what_of attached)
  what-without attached = sym (filter_map_same (λ (a : Attached). a.what) (λ (a : Attached). gone a.what) gone (λ a. refl) attached)

  -- what is not listed is taken out of a list in vain
  pub without-none : (ifs : List (IfOf HalfId)) → count (Half h) ifs ≡ 0 → without_interface half_id_eq (Half h) ifs ≡ ifs
  without-none ifs e = all_kept (λ own. if_same half_id_eq own (Half h)) ifs
      ((λ i. list_any (λ own. if-flip own (Half h) i) ifs) ∙ listed-count (Half h) ifs false e)

  pub what-last : (name : IfName) (attached : List Attached)
      → what_of (without (Half h) attached ++ record { what = Half h; name = name } ∷ []) ≡ with_interface (Half h) (without_interface half_id_eq (Half h) (what_of attached))
  what-last name attached = last (without (Half h) attached) ∙ ap (with_interface (Half h)) (what-without attached)
    where
      last : (xs : List Attached) → what_of (xs ++ record { what = Half h; name = name } ∷ []) ≡ with_interface (Half h) (what_of xs)
      last [] = refl
      last (x ∷ xs) = ap (λ ys. x.what ∷ ys) (last xs)

-- Lists in falling order, and the halves to which frames come.
use Rattle.std.proofs.Common.{◌≡◌, ◌≢◌, ℕ, ◌+◌, ◌-◌, ◌<◌, ◌≤◌, Bool, true, false, not, leb, ◌==◌, ◌&&◌, ◌||◌, List, [], ◌∷◌, length, get_or, refl, sym, ap, ◌∙◌, arith, ⊎_elim}
use Rattle.std.specs.Prelude.{nat_lt}
use Rattle.std.specs.List.{list_any, insert, remove, Any}
use Rattle.std.specs.List.Sorted.{IsPartitionedBy}
use Rattle.std.proofs.lemmas.Bool.{eqb-true, eq-eqb, and_parts, and_right, lt-ltb, ltb-true, leb-true, le-leb, cases_lt, cases_eq, false_from_ne_true, false≢true}
use Rattle.std.proofs.lemmas.List.Edits.{length-remove, get_or-remove_below, get_or-remove_above}
use Rattle.std.proofs.lemmas.List.Folds.{Any-from_list_any, list_any_at}
use Rattle.std.proofs.lemmas.List.{get_or_default}
use Rattle.vn_types.specs.declared.interface.Side.{Side}
use Rattle.vn_types.specs.declared.interface.Side.TheVariants.{A, B}
use Rattle.vn_epair.specs.declared.line.Awaited.{Awaited}
use Rattle.vn_epair.specs.declared.pair_row.TheConstants.{UNIT_MAX}
use Rattle.vn_epair.specs.Pairs.{side_number}
use Rattle.vn_epair.specs.Line.{rank, is_ranked, place_in_order, IsInOrder}
use Rattle.vn_types.proofs.Chains.{IsChain, chain-insert}
use Rattle.vn_epair.proofs.Lists.{any-remove, any-agree}

pub side-small : (s : Side) → side_number s ≤ 1
side-small A = omega arith
side-small B = omega arith

module _ {X : Type 0} (n : X → ℕ) where
  -- n of an element is above n of any later one
  abbrev pub IsFalling : List X → Type 0
  IsFalling xs = IsChain (λ x y. n y < n x) xs

  pub partitioned : (xs : List X) (t : ℕ) → IsFalling xs → IsPartitionedBy (λ y. leb t (n y)) xs
  partitioned xs t falls i j d le within passes = ⊎_elim same apart (cases_eq i j)
    where
      same : i ≡ j → leb t (n (get_or xs i d)) ≡ true
      same e = ap (λ k. leb t (n (get_or xs k d))) e ∙ passes

      apart : i ≢ j → leb t (n (get_or xs i d)) ≡ true
      apart ne = let up = leb-true t (n (get_or xs j d)) passes in let f = falls i j d (omega arith) within in le-leb t (n (get_or xs i d)) (omega arith)

-- ---- what a test finds

module _ {X : Type 0} (test : X → Bool) (xs : List X) where
  -- a place where the test holds
  pub record Found : Type 0 where
    pub at : ℕ
    pub element : X
    pub within : at < length xs
    pub is : (d : X) → get_or xs at d ≡ element
    pub passes : test element ≡ true

  pub found : list_any test xs ≡ true → Found
  found any = by (Any-from_list_any test xs any)
    where
      by : Any (λ x. test x ≡ true) xs → Found
      by any = record {
        at = any.0;
        element = any.1;
        within = any.2;
        is = λ d. get_or_default xs any.0 d any.1 any.2 ∙ any.3;
        passes = any.4;
      }

module _ (es : List Awaited) (place count : ℕ) (falls : IsInOrder es) (in' : count ≤ length es) (behind : (k : ℕ) (d : Awaited) → k < count → place ≤ rank (get_or es k d))
    (before : (k : ℕ) (d : Awaited) → count ≤ k → k < length es → rank (get_or es k d) < place) where
  -- one that stands at the place or behind it is among those that are counted, and the last of them is not behind it
  pub counted : (k : ℕ) (e : Awaited) → k < length es → ((d : Awaited) → get_or es k d ≡ e) → place ≤ rank e → (k < count) × ((d : Awaited) → rank (get_or es (count - 1) d) ≤ rank e)
  counted k e within is up = (small, last)
    where
      small : k < count
      small = ⊎_elim (λ (lt : k < count). lt) (λ (le : count ≤ k). let low = before k e le within in let same = ap rank (is e) in absurd (omega arith)) (cases_lt k count)

      last : (d : Awaited) → rank (get_or es (count - 1) d) ≤ rank e
      last d =
          let same = ap rank (is d) in
          let s = small in
          ⊎_elim (λ (q : k ≡ count - 1). let this = ap (λ i. rank (get_or es i d)) q in omega arith)
          (λ (ne : k ≢ count - 1). let f = falls k (count - 1) d (omega arith) (omega arith) in omega arith)
          (cases_eq k (count - 1))

  -- the half at the place is the last of them
  pub found-last : list_any (is_ranked place) es ≡ true → (0 < count) × ((d : Awaited) → rank (get_or es (count - 1) d) ≡ place)
  found-last listed = by (found (is_ranked place) es listed)
    where
      by : Found (is_ranked place) es → (0 < count) × ((d : Awaited) → rank (get_or es (count - 1) d) ≡ place)
      by f =
          let at = eqb-true (rank f.element) place f.passes in
          let c = counted f.at f.element f.within f.is (omega arith) in
          (omega (arith, c.0), λ d. let le = c.1 d in let ge = behind (count - 1) d (omega (arith, c.0)) in omega arith)

  -- no half is counted that stands behind the last of them
  pub first-last : (test : Awaited → Bool) (r : Awaited) → (0 < count) → ((d : Awaited) → get_or es (count - 1) d ≡ r) → ((e : Awaited) → test e ≡ true → place ≤ rank e)
      → list_any (λ e. test e && nat_lt (rank e) (rank r)) es ≡ false
  first-last test r some is up = false_from_ne_true _ (λ listed. by (found (λ e. test e && nat_lt (rank e) (rank r)) es listed))
    where
      by : Found (λ e. test e && nat_lt (rank e) (rank r)) es → ⊥
      by f =
          let parts = and_parts (test f.element) (nat_lt (rank f.element) (rank r)) f.passes in
          let less = ltb-true (rank f.element) (rank r) parts.1 in
          let c = counted f.at f.element f.within f.is (up f.element parts.0) in
          let le = c.1 r in
          let same = ap rank (is r) in
          omega arith

-- ---- the halves of one home

at-home : (e : Awaited) (home : ℕ) → (e.home.0 == home) ≡ true → place_in_order home 0 ≤ rank e
at-home e home is = let same = eqb-true e.home.0 home is in omega arith

pub home-first : (es : List Awaited) (home count : ℕ) → IsInOrder es → count ≤ length es → ((k : ℕ) (d : Awaited) → k < count → place_in_order home 0 ≤ rank (get_or es k d))
    → ((k : ℕ) (d : Awaited) → count ≤ k → k < length es → rank (get_or es k d) < place_in_order home 0) → (r : Awaited) → 0 < count → ((d : Awaited) → get_or es (count - 1) d ≡ r)
    → list_any (λ (e : Awaited). (e.home.0 == home) && nat_lt (rank e) (rank r)) es ≡ false
home-first es home count falls in' behind before r some is = first-last es (place_in_order home 0) count falls in' behind before (λ e. e.home.0 == home) r some is (λ e h. at-home e home h)

pub home-none : (es : List Awaited) (home count : ℕ) → IsInOrder es → count ≤ length es → ((k : ℕ) (d : Awaited) → k < count → place_in_order home 0 ≤ rank (get_or es k d))
    → ((k : ℕ) (d : Awaited) → count ≤ k → k < length es → rank (get_or es k d) < place_in_order home 0) → count ≡ 0 → list_any (λ (e : Awaited). e.home.0 == home) es ≡ false
home-none es home count falls in' behind before none = false_from_ne_true _ (λ listed. by (found (λ e. e.home.0 == home) es listed))
  where
    by : Found (λ (e : Awaited). e.home.0 == home) es → ⊥
    by f = let c = counted es (place_in_order home 0) count falls in' behind before f.at f.element f.within f.is (at-home f.element home f.passes) in omega (arith, c.0)

-- where units are bounded, a lower place is that of a lower home
pub home-other : (es : List Awaited) (home count : ℕ) → IsInOrder es → count ≤ length es → ((k : ℕ) (d : Awaited) → k < count → place_in_order home 0 ≤ rank (get_or es k d))
    → ((k : ℕ) (d : Awaited) → count ≤ k → k < length es → rank (get_or es k d) < place_in_order home 0) → list_any (λ (e : Awaited). nat_lt UNIT_MAX e.unit) es ≡ false
    → (r : Awaited) → 0 < count → ((d : Awaited) → get_or es (count - 1) d ≡ r) → r.home.0 ≢ home → list_any (λ (e : Awaited). e.home.0 == home) es ≡ false
home-other es home count falls in' behind before units r some is other = false_from_ne_true _ (λ listed. by (found (λ e. e.home.0 == home) es listed))
  where
    small : (k : ℕ) (e : Awaited) → k < length es → ((d : Awaited) → get_or es k d ≡ e) → e.unit ≤ UNIT_MAX
    small k e within is = ⊎_elim (λ (gt : UNIT_MAX < e.unit). absurd (false≢true (sym units ∙ list_any_at (λ (e : Awaited). nat_lt UNIT_MAX e.unit) es k e within (ap (λ (x : Awaited). nat_lt UNIT_MAX x.unit) (is e) ∙ lt-ltb UNIT_MAX e.unit gt)))) (λ (le : e.unit ≤ UNIT_MAX). le) (cases_lt UNIT_MAX e.unit)

    by : Found (λ (e : Awaited). e.home.0 == home) es → ⊥
    by f =
        let same = eqb-true f.element.home.0 home f.passes in
        let c = counted es (place_in_order home 0) count falls in' behind before f.at f.element f.within f.is (at-home f.element home f.passes) in
        let le = c.1 r in
        let this = ap rank (is r) in
        let up = behind (count - 1) r (omega arith) in
        let su = small f.at f.element f.within f.is in
        let ru = small (count - 1) r (omega arith) is in
        let fs = side-small f.element.half.side in
        let rs = side-small r.half.side in
        other (omega arith)

-- ---- one half less

-- the element at a place within a list
first_or : {X : Type 0} (xs : List X) (i : ℕ) → i < length xs → X
first_or [] i in' = absurd (omega arith)
first_or (x ∷ xs) i in' = get_or (x ∷ xs) i x

first_or-is : {X : Type 0} (xs : List X) (i : ℕ) (in' : i < length xs) → first_or xs i in' ≡ get_or xs i (first_or xs i in')
unfolding first_or
first_or-is [] i in' = absurd (omega arith)
first_or-is (x ∷ xs) i in' = get_or_default (x ∷ xs) i x (get_or (x ∷ xs) i x) in'

pub none-left : (es : List Awaited) (i place : ℕ) → IsInOrder es → i < length es → ((d : Awaited) → rank (get_or es i d) ≡ place) → list_any (is_ranked place) (remove es i) ≡ false
none-left es i place falls in' at = false_from_ne_true _ (λ listed. by (found (is_ranked place) (remove es i) listed))
  where
    by : Found (is_ranked place) (remove es i) → ⊥
    by f =
        let this = eqb-true (rank f.element) place f.passes in
        let size = length-remove es i in' in
        let at' = at f.element in
        let is = ap rank (f.is f.element) in
        ⊎_elim (λ (lt : f.at < i). let e = ap rank (get_or-remove_below es i f.element f.at lt in') in let g = falls f.at i f.element lt in' in absurd (omega arith))
        (λ (le : i ≤ f.at). let e = ap rank (get_or-remove_above es i f.element f.at le in') in let g = falls i (f.at + 1) f.element (omega arith) (omega (arith, f.within)) in absurd (omega arith))
        (cases_lt f.at i)

pub others-remove : (es : List Awaited) (i place : ℕ) → IsInOrder es → i < length es → ((d : Awaited) → rank (get_or es i d) ≡ place) → (test : Awaited → Bool) → list_any test (remove es i) ≡ list_any (λ e. test e && not (is_ranked place e)) es
others-remove es i place falls in' at test = sym (whole ∙ first ∙ rest)
  where
    e : Awaited
    e = first_or es i in'

    whole : list_any (λ e. test e && not (is_ranked place e)) es ≡ ((test e && not (is_ranked place e)) || list_any (λ e. test e && not (is_ranked place e)) (remove es i))
    whole = any-remove (λ e. test e && not (is_ranked place e)) es i e in' (first_or-is es i in')

    first : ((test e && not (is_ranked place e)) || list_any (λ e. test e && not (is_ranked place e)) (remove es i)) ≡ list_any (λ e. test e && not (is_ranked place e)) (remove es i)
    first = ap (λ b. b || list_any (λ e. test e && not (is_ranked place e)) (remove es i)) (and_right (test e) (not (is_ranked place e)) (ap not (eq-eqb (rank e) place (ap rank (first_or-is es i in') ∙ at e))))

    rest : list_any (λ e. test e && not (is_ranked place e)) (remove es i) ≡ list_any test (remove es i)
    rest = any-agree (λ e. test e && not (is_ranked place e)) test (is_ranked place) (remove es i) (none-left es i place falls in' at) (λ e h. by (test e) (is_ranked place e) h)
      where
        by : (a b : Bool) → b ≡ false → (a && not b) ≡ a
        by a true h = absurd (false≢true (sym h))
        by true false h = refl
        by false false h = refl

-- ---- one half more

pub order-put : (es : List Awaited) (count : ℕ) (y : Awaited) → IsInOrder es → count ≤ length es → ((k : ℕ) (d : Awaited) → k < count → rank y ≤ rank (get_or es k d))
    → ((k : ℕ) (d : Awaited) → count ≤ k → k < length es → rank (get_or es k d) < rank y) → list_any (is_ranked (rank y)) es ≡ false → IsInOrder (insert es count y)
order-put es count y falls in' behind before other = chain-insert (λ x z. rank z < rank x) es count y falls in' above before
  where
    above : (k : ℕ) (d : Awaited) → k < count → rank y < rank (get_or es k d)
    above k d lt =
        let up = behind k d lt in
        let ne : rank y ≢ rank (get_or es k d) = λ e. false≢true (sym other ∙ list_any_at (is_ranked (rank y)) es k d (omega arith) (eq-eqb (rank (get_or es k d)) (rank y) (sym e))) in
        omega arith

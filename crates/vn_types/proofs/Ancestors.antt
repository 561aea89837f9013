-- The ancestors of a path: which paths it is under, and its parent.
use Rattle.std.proofs.Common.{◌∙◌, ◌≡◌, ℕ, zero, suc, ◌<◌, ◌≤◌, ◌-◌, ◌+◌, length-take, length, take, Bool, true, false, ◌&&◌, ◌||◌, not, List, [], ◌∷◌, ◌++◌, map, refl, sym, ap, arith}
use Rattle.std.specs.List.{list_any, list_all}
use Rattle.std.specs.Str.{bytes_eq}
use Rattle.std.proofs.Math.Bool.{or-false}
use Rattle.std.proofs.lemmas.List.Folds.{list_any-append}
use Rattle.std.proofs.lemmas.Bool.{and_parts, and_from}
use Rattle.std.proofs.lemmas.Bool.Decides.{nat_tests}
use Rattle.vn_types.specs.PathOrder.{path_eq-Decides}
use Rattle.vn_types.specs.Words.{is_label}
use Rattle.vn_types.specs.Paths.{Path, path_eq, is_host, is_under, is_path, above, from, first_or_host, parent}

pub is_host-is : (p : Path) → is_host p ≡ true → p ≡ []
unfolding is_host
is_host-is [] h = refl
is_host-is (x ∷ p) h = cc

pub is_host-path_eq : (p : Path) → is_host p ≡ path_eq p []
unfolding is_host path_eq
is_host-path_eq [] = refl
is_host-path_eq (x ∷ p) = refl

-- ---- one path under another

pub is_under-host : (q : Path) → is_under q [] ≡ true
unfolding is_under
is_under-host [] = refl
is_under-host (l ∷ q) = refl

pub is_under-none : (x : List ℕ) (p : Path) → is_under [] (x ∷ p) ≡ false
unfolding is_under
is_under-none x p = refl

pub is_under-cons : (l : List ℕ) (q : Path) (x : List ℕ) (p : Path) → is_under (l ∷ q) (x ∷ p) ≡ (bytes_eq x l && is_under q p)
unfolding is_under
is_under-cons l q x p = refl

-- ---- the proper ancestors other than host

below_label : (x : List ℕ) (p : Path) (l : List ℕ) (ps : List Path) → list_any (path_eq (x ∷ p)) (map (λ r. l ∷ r) ps) ≡ (bytes_eq x l && list_any (path_eq p) ps)
unfolding path_eq
below_label x p l [] = grind arith
below_label x p l (r ∷ ps) = grind (arith, below_label x p l ps)

no_host_below : (l : List ℕ) (ps : List Path) → list_any (path_eq []) (map (λ r. l ∷ r) ps) ≡ false
unfolding path_eq
no_host_below l [] = refl
no_host_below l (r ∷ ps) = no_host_below l ps

own_label : (b : Bool) (p : Path) (under same any : Bool) → (is_host p ≡ true → under ≡ true) → (is_host p ≡ true → same ≡ false) → any ≡ (under && not (is_host p) && not same)
    → ((b && any) || (b && path_eq p [])) ≡ ((b && under) && true && not (b && same))
own_label b p under same any u s e = grind (arith, is_host-path_eq p)

-- they are what the path is under, but itself and host
pub any-above : (q p : Path) → list_any (path_eq p) (above q) ≡ (is_under q p && not (is_host p) && not (path_eq p q))
unfolding above path_eq is_host is_under
any-above [] [] = refl
any-above [] (x ∷ p) = refl
any-above (l ∷ []) [] = refl
any-above (l ∷ []) (x ∷ []) = grind arith
any-above (l ∷ []) (x ∷ y ∷ p) = grind arith
any-above (l ∷ n ∷ q) [] = list_any-append (path_eq []) (map (λ r. l ∷ r) (above (n ∷ q))) ((l ∷ []) ∷ []) ∙ ap (λ b. b || false) (no_host_below l (above (n ∷ q)))
any-above (l ∷ n ∷ q) (x ∷ p) =
    list_any-append (path_eq (x ∷ p)) (map (λ r. l ∷ r) (above (n ∷ q))) ((l ∷ []) ∷ [])
    ∙ ap (λ b. b || ((bytes_eq x l && path_eq p []) || false)) (below_label x p l (above (n ∷ q)))
    ∙ ap (λ b. (bytes_eq x l && list_any (path_eq p) (above (n ∷ q))) || b) (or-false (bytes_eq x l && path_eq p []))
    ∙ own_label (bytes_eq x l) p (is_under (n ∷ q) p) (path_eq p (n ∷ q)) (list_any (path_eq p) (above (n ∷ q))) (top p) (new p) (any-above (n ∷ q) p)
  where
    top : (p : Path) → is_host p ≡ true → is_under (n ∷ q) p ≡ true
    top [] h = refl
    top (y ∷ p) h = cc

    new : (p : Path) → is_host p ≡ true → path_eq p (n ∷ q) ≡ false
    new [] h = refl
    new (y ∷ p) h = cc

-- a path is not above itself
pub not-above : (p : Path) → list_any (path_eq p) (above p) ≡ false
not-above p = any-above p p ∙ grind (arith, (path_eq-Decides p p).1 refl)

-- ---- the parent

pub parent-none : parent [] ≡ []
unfolding above
parent-none = refl

pub parent-cons : (l n : List ℕ) (q : Path) → parent (l ∷ n ∷ q) ≡ l ∷ parent (n ∷ q)
unfolding above
parent-cons l n q = by (above (n ∷ q))
  where
    by : (ps : List Path) → first_or_host (map (λ r. l ∷ r) ps ++ (l ∷ []) ∷ []) ≡ l ∷ first_or_host ps
    by [] = refl
    by (p ∷ ps) = refl

-- a path that is above another is its parent, or above that
pub under-parent : (q p : Path) → is_under q p ≡ true → path_eq p q ≡ false → is_under (parent q) p ≡ true
unfolding path_eq is_under
under-parent [] [] u e = cc
under-parent [] (x ∷ p) u e = cc
under-parent (l ∷ q) [] u e = is_under-host (parent (l ∷ q))
under-parent (l ∷ []) (x ∷ []) u e = absurd (no u e)
  where
    no : (bytes_eq x l && true) ≡ true → (bytes_eq x l && true) ≡ false → ⊥
    no u e = cc
under-parent (l ∷ []) (x ∷ y ∷ p) u e = grind arith
under-parent (l ∷ n ∷ q) (x ∷ p) u e = ap (λ r. is_under r (x ∷ p)) (parent-cons l n q) ∙ grind (arith, under-parent (n ∷ q) p, u, e)

pub length-parent : (l : List ℕ) (q : Path) → length (parent (l ∷ q)) ≡ length q
unfolding above
length-parent l [] = refl
length-parent l (n ∷ q) = ap length (parent-cons l n q) ∙ ap (λ k. suc k) (length-parent n q)

-- what the parent of each path that passes passes too, each path above it passes
module _ (passes : Path → Bool) (parents : (q : Path) → passes q ≡ true → passes (parent q) ≡ true) where
  by_parent : (q p : Path) (b : Bool) → path_eq p q ≡ b → passes q ≡ true → (path_eq p q ≡ false → passes p ≡ true) → passes p ≡ true
  by_parent q p true e h more = ap passes ((path_eq-Decides p q).0 e) ∙ h
  by_parent q p false e h more = more e

  host_above : (p : Path) → is_under [] p ≡ true → path_eq p [] ≡ true
  unfolding path_eq is_under
  host_above [] u = refl
  host_above (x ∷ p) u = cc

  up : (n : ℕ) (q p : Path) → length q ≤ n → passes q ≡ true → is_under q p ≡ true → passes p ≡ true
  up n [] p few h u = ap passes ((path_eq-Decides p []).0 (host_above p u)) ∙ h
  up zero (l ∷ q) p few h u = absurd (omega arith)
  up (suc n) (l ∷ q) p few h u =
      by_parent (l ∷ q) p (path_eq p (l ∷ q)) refl h
      (λ e. up n (parent (l ∷ q)) p (omega (arith, length-parent l q)) (parents (l ∷ q) h) (under-parent (l ∷ q) p u e))

  pub passes-above : (q p : Path) → passes q ≡ true → is_under q p ≡ true → passes p ≡ true
  passes-above q p h u = up (length q) q p (omega arith) h u

-- ---- the parent is the path without its last label

parent-init : (p : Path) (k : ℕ) → length p ≡ k + 1 → take k p ≡ parent p
unfolding above
parent-init [] k e = absurd (omega arith)
parent-init (l ∷ []) zero e = refl
parent-init (l ∷ []) (suc k) e = absurd (omega arith)
parent-init (l ∷ n ∷ q) zero e = absurd (omega arith)
parent-init (l ∷ n ∷ q) (suc k) e = ap (λ r. l ∷ r) (parent-init (n ∷ q) k (omega arith)) ∙ sym (parent-cons l n q)

take_none : (k : ℕ) → take k [] ≡ parent []
unfolding above
take_none zero = refl
take_none (suc k) = refl

parent-take : (p : Path) (k : ℕ) → k ≡ length p - 1 → take k p ≡ parent p
parent-take [] k e = take_none k
parent-take (l ∷ q) k e = parent-init (l ∷ q) k (omega arith)

-- a path's ancestors are its parent and that one's
pub above-parent : (l n : List ℕ) (q : Path) → above (l ∷ n ∷ q) ≡ parent (l ∷ n ∷ q) ∷ above (parent (l ∷ n ∷ q))
unfolding above
above-parent l n [] = refl
above-parent l n (m ∷ q) =
    ap (λ ps. map (λ r. l ∷ r) ps ++ (l ∷ []) ∷ []) (above-parent n m q)
    ∙ by (parent (n ∷ m ∷ q)) (parent-cons n m q)
    ∙ ap (λ r. r ∷ above r) (sym (parent-cons l n (m ∷ q)))
  where
    by : (r : Path) → r ≡ n ∷ parent (m ∷ q) → map (λ s. l ∷ s) (r ∷ above r) ++ (l ∷ []) ∷ [] ≡ (l ∷ r) ∷ above (l ∷ r)
    by [] e = cc
    by (x ∷ r) e = refl

-- ---- a path and its ancestors

pub from-below : (p : Path) → 0 < length p → from p ≡ p ∷ above p
from-below [] some = absurd (omega arith)
from-below (l ∷ p) some = refl

pub from-none : (p : Path) → length p ≤ 0 → from p ≡ []
from-none [] none = refl
from-none (l ∷ p) none = absurd (omega arith)

-- a path's ancestors begin with its parent
pub above-from : (p : Path) → above p ≡ from (parent p)
unfolding above
above-from [] = refl
above-from (l ∷ []) = refl
above-from (l ∷ n ∷ q) =
    above-parent l n q
    ∙ sym (from-below (parent (l ∷ n ∷ q)) (omega (arith, length-parent l (n ∷ q))))

pub shorter : (p : Path) → 0 < length p → length (parent p) < length p
shorter [] some = absurd (omega arith)
shorter (l ∷ p) some = omega (arith, length-parent l p)

-- ---- fewer labels

labels-take : (p : Path) (i : ℕ) → list_all is_label p ≡ true → list_all is_label (take i p) ≡ true
labels-take [] zero h = refl
labels-take [] (suc i) h = refl
labels-take (l ∷ p) zero h = refl
labels-take (l ∷ p) (suc i) h = and_from _ _ (and_parts _ _ h).0 (labels-take p i (and_parts _ _ h).1)

-- fewer labels are a path too
path-take : (p : Path) (i : ℕ) → is_path p ≡ true → is_path (take i p) ≡ true
unfolding is_path
path-take p i h = grind (arith, nat_tests, labels-take p i (and_parts _ _ h).0, length-take i p)

pub path-parent : (p : Path) → is_path p ≡ true → is_path (parent p) ≡ true
path-parent p h = ap is_path (sym (parent-take p (length p - 1) refl)) ∙ path-take p (length p - 1) h

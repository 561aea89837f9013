-- The tree is kept when a jail begins or ends.
use Rattle.std.proofs.Common.{◌≡◌, ◌≢◌, ℕ, zero, suc, ◌+◌, ◌-◌, ◌<◌, Bool, true, false, ◌&&◌, List, [], ◌∷◌, length, get_or, cond, refl, sym, ap, ap₂, ◌∙◌, arith, ⊎_elim}
use Rattle.std.specs.Prelude.{if◌then◌else◌, not}
use Rattle.std.specs.List.{list_any, count_by}
use Rattle.std.proofs.lemmas.Bool.{or_parts, and_parts, cases_eq, false≢true, false_from_ne_true}
use Rattle.std.proofs.lemmas.List.Sums.{sum_by-cons}
use Rattle.vn_types.specs.Paths.{Path, path_eq, above, parent, is_host, is_under}
use Rattle.vn_types.specs.PathOrder.{path_eq-Decides}
use Rattle.vn_types.proofs.Ancestors.{any-above, passes-above, not-above, shorter}
use Rattle.vn_jail.specs.declared.jail.Jail.{Jail}
use Rattle.vn_jail.specs.Tree.{at, path_at, changed, is_alive, lives_below, living_below, start, stop}
use Rattle.vn_jail.specs.Kept.{IsLinked, IsTree}
use Rattle.vn_jail.proofs.Numbers.{is-alive, Found, found, within}
use Rattle.vn_jail.proofs.Changes.{none, Stays, long, changed-at, changed-other, path-stays, alive-stays, alive-at, alive-here}

-- ---- how many live below

count-cons : {X : Type 0} (t : X → Bool) (x : X) (xs : List X) → count_by t (x ∷ xs) ≡ cond (t x) 1 0 + count_by t xs
count-cons t x xs = sum_by-cons (λ y. cond (t y) 1 0) x xs

count-same : {X : Type 0} (t : X → Bool) (d : X) (xs ys : List X) → length xs ≡ length ys → ((n : ℕ) → t (get_or xs n d) ≡ t (get_or ys n d)) → count_by t xs ≡ count_by t ys
count-same t d [] [] len same = refl
count-same t d [] (y ∷ ys) len same = absurd (omega arith)
count-same t d (x ∷ xs) [] len same = absurd (omega arith)
count-same t d (x ∷ xs) (y ∷ ys) len same = count-cons t x xs ∙ ap₂ (λ b m. cond b 1 0 + m) (same 0) (count-same t d xs ys (omega arith) (λ n. same (suc n))) ∙ sym (count-cons t y ys)

-- a test counts what it does elsewhere, and one place more
pub count-more : {X : Type 0} (t : X → Bool) (d : X) (xs ys : List X) (s : ℕ) → length xs ≡ length ys → s < length xs → ((n : ℕ) → n ≢ s → t (get_or xs n d) ≡ t (get_or ys n d)) → t (get_or ys s d) ≡ false
    → count_by t xs ≡ count_by t ys + (if t (get_or xs s d) then 1 else 0)
count-more t d [] ys s len lt same none' = absurd (omega arith)
count-more t d (x ∷ xs) [] s len lt same none' = absurd (omega arith)
count-more t d (x ∷ xs) (y ∷ ys) zero len lt same none' = count-cons t x xs ∙ by (t x) (t y) none' (count-same t d xs ys (omega arith) (λ n. same (suc n) (λ e. omega arith))) ∙ ap (λ m. m + (if t x then 1 else 0)) (sym (count-cons t y ys))
  where
    by : (a b : Bool) → b ≡ false → count_by t xs ≡ count_by t ys → cond a 1 0 + count_by t xs ≡ cond b 1 0 + count_by t ys + (if a then 1 else 0)
    by a true e rest = absurd (false≢true (sym e))
    by true false e rest = omega (arith, rest)
    by false false e rest = omega (arith, rest)
count-more t d (x ∷ xs) (y ∷ ys) (suc s) len lt same none' =
    count-cons t x xs ∙ by (t x) (t y) (t (get_or xs s d)) (same 0 (λ e. omega arith)) (count-more t d xs ys s (omega arith) (omega arith) (λ n ne. same (suc n) (λ e. ne (omega arith))) none')
    ∙ ap (λ m. m + (if t (get_or xs s d) then 1 else 0)) (sym (count-cons t y ys))
  where
    by : (a b c : Bool) → a ≡ b → count_by t xs ≡ count_by t ys + (if c then 1 else 0) → cond a 1 0 + count_by t xs ≡ cond b 1 0 + count_by t ys + (if c then 1 else 0)
    by true true c e rest = omega (arith, rest)
    by true false c e rest = absurd (false≢true (sym e))
    by false true c e rest = absurd (false≢true e)
    by false false c e rest = omega (arith, rest)

count-none : {X : Type 0} (t : X → Bool) (xs : List X) → list_any t xs ≡ false → count_by t xs ≡ 0
count-none t [] e = refl
count-none t (x ∷ xs) e = let parts = or_parts (t x) (list_any t xs) e in count-cons t x xs ∙ ap₂ (λ b m. cond b 1 0 + m) parts.0 (count-none t xs parts.1)

-- whether one lives below a path hangs on its own path and on whether it lives
below-same : (r : Path) (i j : Jail) → i.alive ≡ j.alive → i.path ≡ j.path → lives_below r i ≡ lives_below r j
below-same r i j lives path = ap₂ (λ (a : Bool) (q : Path). a && list_any (path_eq r) (above q)) lives path

under-above : (q p : Path) → list_any (path_eq p) (above q) ≡ true → is_under q p ≡ true
under-above q p is = by (is_under q p) (not (is_host p)) (not (path_eq p q)) (sym (any-above q p) ∙ is)
  where
    by : (a b c : Bool) → (a && b && c) ≡ true → a ≡ true
    by true b c e = refl
    by false b c e = absurd (false≢true e)

has-labels : (p : Path) → is_host p ≡ false → 0 < length p
unfolding is_host
has-labels [] h = cc
has-labels (l ∷ p) h = omega arith

not-own-parent : (p : Path) → is_host p ≡ false → parent p ≢ p
not-own-parent p h e = let s = shorter p (has-labels p h) in let l = ap length e in omega arith

not-host : (jails : List Jail) (linked : IsLinked jails) (s : ℕ) → is_host (path_at jails s) ≡ false → 0 ≢ s
unfolding is_host
not-host jails linked s h e = false≢true (sym h ∙ ap is_host (ap (path_at jails) (sym e) ∙ linked.host))

-- ---- a jail begins

module _ (limit : ℕ) (jails : List Jail) (linked : IsLinked jails) (tree : IsTree jails) (s : ℕ) (in' : s < length jails) (label : is_host (path_at jails s) ≡ false) (was : (at jails s).alive ≡ false) (up : is_alive (parent (path_at jails s)) jails ≡ true) where
  abbrev more : ℕ → ℕ
  more n = n + 1

  abbrev after : List Jail
  after = changed (start limit) (λ n. n + 1) (path_at jails s) jails

  start-stays : Stays (start limit)
  start-stays j = (refl, refl)

  still : (q : Path) → is_alive q jails ≡ true → is_alive q after ≡ true
  still q alive = by (path_eq q (path_at jails s)) refl
    where
      by : (b : Bool) → path_eq q (path_at jails s) ≡ b → is_alive q after ≡ true
      by true e = ap (λ r. is_alive r after) ((path_eq-Decides q (path_at jails s)).0 e) ∙ alive-here (start limit) (λ n. n + 1) start-stays jails linked s in'
      by false e = alive-at (start limit) (λ n. n + 1) start-stays jails linked s in' q (λ same. false≢true (sym e ∙ (path_eq-Decides q (path_at jails s)).1 same)) ∙ alive

  -- nothing lives below what doesn't live
  nobody : list_any (lives_below (path_at jails s)) after ≡ false
  nobody = false_from_ne_true _ (λ any. by (found (lives_below (path_at jails s)) after any))
    where
      by : Found (lives_below (path_at jails s)) after → ⊥
      by f =
          let parts = and_parts (at after f.number).alive (list_any (path_eq (path_at jails s)) (above (path_at after f.number))) f.passes in
          let path = path-stays (start limit) (λ n. n + 1) start-stays jails linked s in' f.number in
          let below : list_any (path_eq (path_at jails s)) (above (path_at jails f.number)) ≡ true = ap (λ q. list_any (path_eq (path_at jails s)) (above q)) (sym path) ∙ parts.1 in
          let other : f.number ≢ s = λ e. false≢true (sym (not-above (path_at jails s)) ∙ ap (λ m. list_any (path_eq (path_at jails s)) (above (path_at jails m))) (sym e) ∙ below) in
          let lives = sym (alive-stays (start limit) (λ n. n + 1) start-stays jails linked s in' f.number other) ∙ parts.0 in
          let alive = is-alive jails linked (path_at jails f.number) f.number (within jails f.number lives) refl ∙ lives in
          let root = passes-above (λ q. is_alive q jails) tree.rooted (path_at jails f.number) (path_at jails s) alive (under-above (path_at jails f.number) (path_at jails s) below) in
          false≢true (sym was ∙ sym (is-alive jails linked (path_at jails s) s in' refl) ∙ root)

  pub tree-started : IsTree (changed (start limit) (λ n. n + 1) (path_at jails s) jails)
  tree-started = record {
    host = alive-stays (start limit) (λ n. n + 1) start-stays jails linked s in' 0 (not-host jails linked s label) ∙ tree.host;
    rooted = rooted;
    counted = counted;
  }
    where
      rooted : (q : Path) → is_alive q after ≡ true → is_alive (parent q) after ≡ true
      rooted q alive = by (path_eq q (path_at jails s)) refl
        where
          by : (b : Bool) → path_eq q (path_at jails s) ≡ b → is_alive (parent q) after ≡ true
          by true e = still (parent q) (ap (λ r. is_alive (parent r) jails) ((path_eq-Decides q (path_at jails s)).0 e) ∙ up)
          by false e = still (parent q) (tree.rooted q (sym (alive-at (start limit) (λ n. n + 1) start-stays jails linked s in' q (λ same. false≢true (sym e ∙ (path_eq-Decides q (path_at jails s)).1 same))) ∙ alive))

      counted : (n : ℕ) → 0 < n → (at after n).alive ≡ true → (at after n).living ≡ living_below (path_at after n) after
      counted n some alive = ⊎_elim here there (cases_eq n s)
        where
          path : path_at after n ≡ path_at jails n
          path = path-stays (start limit) (λ n. n + 1) start-stays jails linked s in' n

          here : n ≡ s → (at after n).living ≡ living_below (path_at after n) after
          here e = ap (λ m. (at after m).living) e ∙ ap (λ (j : Jail). j.living) (changed-at (start limit) (λ n. n + 1) start-stays jails linked s in') ∙ sym (ap (λ q. living_below q after) (path ∙ ap (path_at jails) e) ∙ count-none (lives_below (path_at jails s)) after nobody)

          there : n ≢ s → (at after n).living ≡ living_below (path_at after n) after
          there ne =
              let lives = sym (alive-stays (start limit) (λ n. n + 1) start-stays jails linked s in' n ne) ∙ alive in
              let told = ap (λ (j : Jail). j.living) (changed-other (start limit) (λ n. n + 1) start-stays jails linked s in' n (within jails n lives) ne) in
              let count = count-more (lives_below (path_at jails n)) none after jails s (long (start limit) (λ n. n + 1) start-stays jails linked s in') (omega (arith, in', long (start limit) (λ n. n + 1) start-stays jails linked s in'))
              (λ m other. below-same (path_at jails n) (at after m) (at jails m) (alive-stays (start limit) (λ n. n + 1) start-stays jails linked s in' m other) (path-stays (start limit) (λ n. n + 1) start-stays jails linked s in' m))
              (ap (λ b. b && list_any (path_eq (path_at jails n)) (above (path_at jails s))) was) in
              let this = ap (lives_below (path_at jails n)) (changed-at (start limit) (λ n. n + 1) start-stays jails linked s in') in
              told ∙ by (list_any (path_eq (path_at jails n)) (above (path_at jails s))) (tree.counted n some lives) ∙ sym (ap (λ q. living_below q after) path ∙ count ∙ ap (λ b. living_below (path_at jails n) jails + (if b then 1 else 0)) this)
            where
              by : (b : Bool) → (at jails n).living ≡ living_below (path_at jails n) jails → (if b then record (at jails n) { living = (at jails n).living + 1 } else at jails n).living ≡ living_below (path_at jails n) jails + (if b then 1 else 0)
              by true e = ap (λ k. k + 1) e
              by false e = omega (arith, e)

-- ---- a jail ends

module _ (jails : List Jail) (linked : IsLinked jails) (tree : IsTree jails) (s : ℕ) (in' : s < length jails) (apart : s ≢ 0) (was : (at jails s).alive ≡ true) (childless : (q : Path) → is_alive q jails ≡ true → parent q ≢ path_at jails s) where
  abbrev left : List Jail
  left = changed stop (λ n. n - 1) (path_at jails s) jails

  stop-stays : Stays stop
  stop-stays j = (refl, refl)

  pub tree-ended : IsTree (changed stop (λ n. n - 1) (path_at jails s) jails)
  tree-ended = record {
    host = alive-stays stop (λ n. n - 1) stop-stays jails linked s in' 0 (λ e. apart (sym e)) ∙ tree.host;
    rooted = rooted;
    counted = counted;
  }
    where
      rooted : (q : Path) → is_alive q left ≡ true → is_alive (parent q) left ≡ true
      rooted q alive =
          let other : q ≢ path_at jails s = λ same. false≢true (sym (alive-here stop (λ n. n - 1) stop-stays jails linked s in') ∙ ap (λ r. is_alive r left) (sym same) ∙ alive) in
          let lives = sym (alive-at stop (λ n. n - 1) stop-stays jails linked s in' q other) ∙ alive in
          alive-at stop (λ n. n - 1) stop-stays jails linked s in' (parent q) (childless q lives) ∙ tree.rooted q lives

      counted : (n : ℕ) → 0 < n → (at left n).alive ≡ true → (at left n).living ≡ living_below (path_at left n) left
      counted n some alive =
          let ne : n ≢ s = λ e. false≢true (sym (ap (λ m. (at left m).alive) e ∙ ap (λ (j : Jail). j.alive) (changed-at stop (λ n. n - 1) stop-stays jails linked s in')) ∙ alive) in
          let path = path-stays stop (λ n. n - 1) stop-stays jails linked s in' n in
          let lives = sym (alive-stays stop (λ n. n - 1) stop-stays jails linked s in' n ne) ∙ alive in
          let told = ap (λ (j : Jail). j.living) (changed-other stop (λ n. n - 1) stop-stays jails linked s in' n (within jails n lives) ne) in
          let count = count-more (lives_below (path_at jails n)) none jails left s (sym (long stop (λ n. n - 1) stop-stays jails linked s in')) in'
          (λ m other. sym (below-same (path_at jails n) (at left m) (at jails m) (alive-stays stop (λ n. n - 1) stop-stays jails linked s in' m other) (path-stays stop (λ n. n - 1) stop-stays jails linked s in' m)))
          (ap (lives_below (path_at jails n)) (changed-at stop (λ n. n - 1) stop-stays jails linked s in')) in
          let this = ap (λ b. b && list_any (path_eq (path_at jails n)) (above (path_at jails s))) was in
          told ∙ by (list_any (path_eq (path_at jails n)) (above (path_at jails s))) (tree.counted n some lives ∙ count ∙ ap (λ b. living_below (path_at jails n) left + (if b then 1 else 0)) this) ∙ sym (ap (λ q. living_below q left) path)
        where
          by : (b : Bool) → (at jails n).living ≡ living_below (path_at jails n) left + (if b then 1 else 0) → (if b then record (at jails n) { living = (at jails n).living - 1 } else at jails n).living ≡ living_below (path_at jails n) left
          by true e = omega (arith, e)
          by false e = omega (arith, e)

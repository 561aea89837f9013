-- A path gets a number: what the table keeps, and what it has of the path then.
use Rattle.std.proofs.Common.{◌≡◌, ◌≢◌, ℕ, ◌+◌, ◌<◌, ◌≤◌, Bool, true, false, ◌&&◌, ◌||◌, List, [], ◌∷◌, ◌++◌, length, length-append, get_or, Option, Some, None, IfSome, cond, refl, sym, ap, ap₂, ◌∙◌, subst, arith, ⊎_elim}
use Rattle.std.specs.Prelude.{if◌then◌else◌}
use Rattle.std.specs.List.{list_any}
use Rattle.std.specs.BTreeMap.{BTreeMap, get, is_at as is_key}
use Rattle.std.specs.Ordering.{is_eq}
use Rattle.std.specs.declared.cmp.Ordering.{Ordering}
use Rattle.std.specs.declared.cmp.Ordering.TheVariants.{Less, Equal, Greater}
use Rattle.std.proofs.lemmas.Bool.{or_parts, and_from, and_right, cases_eq, cases_order, cond-true, cond-false, eq-eqb, false≢true, false_from_ne_true}
use Rattle.std.proofs.lemmas.List.{get_or_past, get_or_append_left, get_or_push}
use Rattle.std.proofs.lemmas.List.Folds.{list_any_at, list_any-append}
use Rattle.std.proofs.lemmas.List.Sums.{sum_by-append}
use Rattle.vn_types.specs.declared.interface.Sid.{Sid}
use Rattle.vn_types.specs.Paths.{Path, path_eq, path_cmp, above, parent}
use Rattle.vn_types.specs.PathOrder.{path_eq-Decides, path_cmp-exact}
use Rattle.vn_types.proofs.Ancestors.{not-above}
use Rattle.vn_jail.specs.declared.jail.Jail.{Jail}
use Rattle.vn_jail.specs.Tree.{any_full, at, is_full, known, path_at, dead_jail, is_alive, is_at, is_known, lives_at, living_below, number_of}
use Rattle.vn_jail.specs.Order.{by_path, IsInOrder, has_number}
use Rattle.vn_jail.specs.Kept.{IsLinked, IsTree, IsNumbered, IsKept}
use Rattle.vn_jail.proofs.Numbers.{number-known, number-none, alive-known, within, path-at, unknown}
use Rattle.vn_jail.proofs.Orders.{ascends, ascending, by-path-total}
use Rattle.vn_jail.proofs.Places.{itself}
use Rattle.std.proofs.Math.Bool.{or-false}

abbrev pub Numbers : Type 0
Numbers = BTreeMap Path ℕ

module _ (jails : List Jail) (numbers numbers' : Numbers) (order : List Sid) (kept : IsKept jails numbers order) (p : Path) (none' : get path_cmp numbers p ≡ None) (up : ℕ)
    (alive : is_alive (parent p) jails ≡ true) (is : up ≡ number_of (parent p) jails)
    (put : (q : Path) → get path_cmp numbers' q ≡ cond (is_key (path_cmp p) q) (Some (length jails)) (get path_cmp numbers q)) where
  abbrev none : Jail
  none = dead_jail [] 0

  abbrev new : List Jail
  new = jails ++ dead_jail p up ∷ []

  size : length (jails ++ dead_jail p up ∷ []) ≡ length jails + 1
  size = length-append jails (dead_jail p up ∷ [])

  low : (n : ℕ) → n < length jails → at (jails ++ dead_jail p up ∷ []) n ≡ at jails n
  low n lt = get_or_append_left jails (dead_jail p up ∷ []) none n lt

  last : at (jails ++ dead_jail p up ∷ []) (length jails) ≡ dead_jail p up
  last = get_or_push jails (dead_jail p up) none (length jails) refl

  -- what stands of each number
  each : (P : ℕ → Jail → Type 0) → ((n : ℕ) → n < length jails → P n (at jails n)) → P (length jails) (dead_jail p up) → (n : ℕ) → n < length (jails ++ dead_jail p up ∷ []) → P n (at (jails ++ dead_jail p up ∷ []) n)
  each P before here n lt = ⊎_elim (λ (e : n ≡ length jails). subst (λ m. P m (at new m)) (sym e) (subst (P (length jails)) (sym last) here))
      (λ ne. let l : n < length jails = omega (arith, size, lt, ne) in subst (P n) (sym (low n l)) (before n l)) (cases_eq n (length jails))

  lives : (n : ℕ) → (at (jails ++ dead_jail p up ∷ []) n).alive ≡ (at jails n).alive
  lives n = ⊎_elim (λ (e : n ≡ length jails). ap (λ m. (at new m).alive) e ∙ ap (λ (j : Jail). j.alive) last ∙ sym (ap (λ (j : Jail). j.alive) (get_or_past jails n none (omega arith))))
      (λ c. ⊎_elim (λ (lt : n < length jails). ap (λ (j : Jail). j.alive) (low n lt))
      (λ (gt : length jails < n). ap (λ (j : Jail). j.alive) (get_or_past new n none (omega (arith, size)) ∙ sym (get_or_past jails n none (omega arith)))) c) (cases_order n (length jails))

  alive-same : (q : Path) → is_alive q (jails ++ dead_jail p up ∷ []) ≡ is_alive q jails
  alive-same q = list_any-append (lives_at q) jails (dead_jail p up ∷ []) ∙ ap (λ b. is_alive q jails || (b || false)) (and_right (is_at q (dead_jail p up)) false refl) ∙ or-false (is_alive q jails)

  fresh : (n : ℕ) → n < length jails → path_at jails n ≢ p
  fresh n lt e = false≢true (sym (unknown jails numbers kept.numbered p none') ∙ list_any_at (is_at p) jails n none lt (path-at p (at jails n) e))

  root : (up < length jails) × (path_at jails up ≡ parent p)
  root = let k = number-known jails (parent p) (alive-known jails (parent p) alive) in (omega (arith, is, k.0), ap (path_at jails) is ∙ k.1)

  other-key : (n : ℕ) → n < length jails → is_key (path_cmp p) (path_at jails n) ≡ false
  other-key n lt = false_from_ne_true _ (λ e. fresh n lt (sym (path_cmp-exact p (path_at jails n) (equal _ e))))
    where
      equal : (o : Ordering) → is_eq o ≡ true → o ≡ Equal
      equal Less e = cc
      equal Equal e = refl
      equal Greater e = cc

  own-key : is_key (path_cmp p) p ≡ true
  own-key = ap is_eq (itself p)

  linked-known : IsLinked (jails ++ dead_jail p up ∷ [])
  linked-known = record {
    distinct = λ i j li lj e. ⊎_elim
        (λ (a : i ≡ length jails). ⊎_elim (λ (b : j ≡ length jails). a ∙ sym b)
        (λ nb. let l : j < length jails = omega (arith, size, lj, nb) in absurd (fresh j l (ap (λ (x : Jail). x.path) (sym (low j l)) ∙ sym e ∙ ap (path_at new) a ∙ ap (λ (x : Jail). x.path) last))) (cases_eq j (length jails)))
        (λ na. let k : i < length jails = omega (arith, size, li, na) in ⊎_elim
        (λ (b : j ≡ length jails). absurd (fresh i k (ap (λ (x : Jail). x.path) (sym (low i k)) ∙ e ∙ ap (path_at new) b ∙ ap (λ (x : Jail). x.path) last)))
        (λ nb. let l : j < length jails = omega (arith, size, lj, nb) in kept.linked.distinct i j k l (ap (λ (x : Jail). x.path) (sym (low i k)) ∙ e ∙ ap (λ (x : Jail). x.path) (low j l))) (cases_eq j (length jails)))
        (cases_eq i (length jails));
    some = omega (arith, size);
    host = ap (λ (x : Jail). x.path) (low 0 kept.linked.some) ∙ kept.linked.host;
    inside = λ n some lt. each (λ n j. 0 < n → j.parent < length new) (λ n l some. omega (arith, size, kept.linked.inside n some l)) (λ some. omega (arith, size, root.0)) n lt some;
    linked = λ n some lt. each (λ n j. 0 < n → path_at new j.parent ≡ parent j.path) (λ n l some. ap (λ (x : Jail). x.path) (low _ (kept.linked.inside n some l)) ∙ kept.linked.linked n some l)
        (λ some. ap (λ (x : Jail). x.path) (low up root.0) ∙ root.1) n lt some;
  }

  tree-known : IsTree (jails ++ dead_jail p up ∷ [])
  tree-known = record {
    host = lives 0 ∙ kept.tree.host;
    rooted = λ q h. alive-same (parent q) ∙ kept.tree.rooted q (sym (alive-same q) ∙ h);
    counted = λ n some h.
        let a = sym (lives n) ∙ h in
        let l = low n (within jails n a) in
        ap (λ (x : Jail). x.living) l ∙ kept.tree.counted n some a ∙ sym (ap (λ (x : Jail). living_below x.path new) l ∙ sum_by-append _ jails (dead_jail p up ∷ []) ∙ more (living_below (path_at jails n) jails));
  }
    where
      more : (m : ℕ) → m + 0 ≡ m
      more m = omega arith

  numbered-known : IsNumbered (jails ++ dead_jail p up ∷ []) numbers'
  numbered-known = record {
    found = each (λ n j. get path_cmp numbers' j.path ≡ Some n) (λ n l. put (path_at jails n) ∙ cond-false _ _ _ (other-key n l) ∙ kept.numbered.found n l) (put p ∙ cond-true _ _ _ own-key);
    inside = λ q. subst (λ o. IfSome o (λ n. n < length new)) (sym (put q)) (inner q (is_key (path_cmp p) q) (get path_cmp numbers q) (kept.numbered.inside q));
    right = λ q. subst (λ o. IfSome o (λ n. path_at new n ≡ q)) (sym (put q)) (right q (path_cmp p q) refl (get path_cmp numbers q) (kept.numbered.inside q) (kept.numbered.right q));
  }
    where
      inner : (q : Path) (b : Bool) (o : Option ℕ) → IfSome o (λ n. n < length jails) → IfSome (cond b (Some (length jails)) o) (λ n. n < length new)
      inner q true o h = omega (arith, size)
      inner q false None h = tt
      inner q false (Some n) h = omega (arith, size, h)

      right : (q : Path) (c : Ordering) → path_cmp p q ≡ c → (o : Option ℕ) → IfSome o (λ n. n < length jails) → IfSome o (λ n. path_at jails n ≡ q) → IfSome (cond (is_eq c) (Some (length jails)) o) (λ n. path_at new n ≡ q)
      right q Equal e o l h = ap (λ (x : Jail). x.path) last ∙ path_cmp-exact p q e
      right q Less e None l h = tt
      right q Less e (Some n) l h = ap (λ (x : Jail). x.path) (low n l) ∙ h
      right q Greater e None l h = tt
      right q Greater e (Some n) l h = ap (λ (x : Jail). x.path) (low n l) ∙ h

  ordered-known : IsInOrder (jails ++ dead_jail p up ∷ []) order
  ordered-known = record {
    rises = ascending (by_path new) (by-path-total new) order (λ i j d less lt. ap₂ path_cmp (same i d (omega arith)) (same j d lt) ∙ ascends (by_path jails) (by-path-total jails) order kept.ordered.rises i j d less lt);
    living = λ n. kept.ordered.living n ∙ sym (lives n);
  }
    where
      same : (k : ℕ) (d : Sid) → k < length order → path_at new (get_or order k d).0 ≡ path_at jails (get_or order k d).0
      same k d lt =
          let a = sym (kept.ordered.living (get_or order k d).0) ∙ list_any_at (has_number (get_or order k d).0) order k d lt (eq-eqb (get_or order k d).0 (get_or order k d).0 refl) in
          ap (λ (x : Jail). x.path) (low (get_or order k d).0 (within jails (get_or order k d).0 a))

  pub kept-known : IsKept (jails ++ dead_jail p up ∷ []) numbers' order
  kept-known = record { linked = linked-known; tree = tree-known; numbered = numbered-known; ordered = ordered-known }

-- what a table with a path's number has of it
module _ (p : Path) (jails : List Jail) (dead' : is_alive p jails ≡ false) where
  pub record Numbered (k : List Jail) : Type 0 where
    pub within : number_of p jails < length k
    pub path : path_at k (number_of p jails) ≡ p
    pub dead : (at k (number_of p jails)).alive ≡ false
    pub same : (q : Path) → is_alive q k ≡ is_alive q jails
    pub room : any_full k (above p) ≡ any_full jails (above p)

  pub numbered-known' : is_known p jails ≡ true → Numbered jails
  numbered-known' known =
      let f = number-known jails p known in
      record {
        within = f.0;
        path = f.1;
        dead = false_from_ne_true _ (λ alive. false≢true (sym dead' ∙ list_any_at (lives_at p) jails (number_of p jails) (dead_jail [] 0) f.0 (and_from _ _ (path-at p (at jails (number_of p jails)) f.1) alive)));
        same = λ q. refl;
        room = refl;
      }

  pub numbered-new : is_known p jails ≡ false → (up : ℕ) → Numbered (jails ++ dead_jail p up ∷ [])
  numbered-new unknown' up =
      let e = number-none jails p unknown' in
      let here = ap (at (jails ++ dead_jail p up ∷ [])) e ∙ get_or_push jails (dead_jail p up) (dead_jail [] 0) (length jails) refl in
      record {
        within = omega (arith, e, length-append jails (dead_jail p up ∷ []));
        path = ap (λ (j : Jail). j.path) here;
        dead = ap (λ (j : Jail). j.alive) here;
        same = λ q. list_any-append (lives_at q) jails (dead_jail p up ∷ []) ∙ ap (λ b. is_alive q jails || (b || false)) (and_right (is_at q (dead_jail p up)) false refl) ∙ or-false (is_alive q jails);
        room = room (above p) (not-above p);
      }
    where
      room : (ps : List Path) → list_any (path_eq p) ps ≡ false → any_full (jails ++ dead_jail p up ∷ []) ps ≡ any_full jails ps
      room [] e = refl
      room (q ∷ ps) e =
          let parts = or_parts (path_eq p q) (list_any (path_eq p) ps) e in
          let other : is_at q (dead_jail p up) ≡ false = false_from_ne_true _ (λ h. false≢true (sym parts.0 ∙ (path_eq-Decides p q).1 (sym ((path_eq-Decides q p).0 h)))) in
          let first = list_any-append (λ jail. is_at q jail && is_full jail) jails (dead_jail p up ∷ []) ∙ ap (λ b. list_any (λ jail. is_at q jail && is_full jail) jails || ((b && is_full (dead_jail p up)) || false)) other ∙ or-false (list_any (λ jail. is_at q jail && is_full jail) jails) in
          ap₂ (λ a b. a || b) first (room ps parts.1)

  pub numbered-either : Numbered (known p jails)
  numbered-either = by (is_known p jails) refl
    where
      by : (b : Bool) → is_known p jails ≡ b → Numbered (if b then jails else jails ++ dead_jail p (number_of (parent p) jails) ∷ [])
      by true e = numbered-known' e
      by false e = numbered-new e (number_of (parent p) jails)

pub known-is : (p : Path) (jails : List Jail) → is_known p jails ≡ true → known p jails ≡ jails
known-is p jails e = ap (λ b. if b then jails else jails ++ dead_jail p (number_of (parent p) jails) ∷ []) e

pub known-new : (p : Path) (jails : List Jail) → is_known p jails ≡ false → known p jails ≡ jails ++ dead_jail p (number_of (parent p) jails) ∷ []
known-new p jails e = ap (λ b. if b then jails else jails ++ dead_jail p (number_of (parent p) jails) ∷ []) e

-- at most one number is given
pub one-number : (p : Path) (jails : List Jail) → length (known p jails) ≤ length jails + 1
one-number p jails = by (is_known p jails)
  where
    by : (b : Bool) → length (if b then jails else jails ++ dead_jail p (number_of (parent p) jails) ∷ []) ≤ length jails + 1
    by true = omega arith
    by false = omega (arith, length-append jails (dead_jail p (number_of (parent p) jails) ∷ []))

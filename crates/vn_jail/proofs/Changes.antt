-- A change of one jail and of those above it: what stays, and what is another.
use Rattle.std.proofs.Common.{◌≡◌, ◌≢◌, ℕ, ◌<◌, ◌≤◌, Bool, true, false, List, [], length, map, get_or, Option, Some, None, IfSome, refl, sym, ap, ◌∙◌, subst, arith, ⊎_elim}
use Rattle.std.specs.Prelude.{if◌then◌else◌, slice_set}
use Rattle.std.specs.List.{list_any}
use Rattle.std.specs.BTreeMap.{BTreeMap, get}
use Rattle.std.specs.Cmp.{both_ways}
use Rattle.std.proofs.lemmas.Bool.{and_parts, and_from, cases_eq, cases_lt, cond-true, cond-false, false_from_ne_true}
use Rattle.std.proofs.lemmas.List.{get_or_default, get_or-map, get_or_past, length-map, length-set, get_or-set_same, get_or-set_other, same_lists}
use Rattle.std.proofs.lemmas.List.Folds.{list_any_at}
use Rattle.vn_types.specs.Paths.{Path, path_eq, path_cmp, above, parent}
use Rattle.vn_jail.specs.declared.jail.Jail.{Jail}
use Rattle.vn_jail.specs.Tree.{at, path_at, recount, dead_jail, changed, is_alive, is_at, lives_at}
use Rattle.vn_jail.specs.Kept.{IsLinked, IsNumbered}
use Rattle.vn_jail.proofs.Numbers.{is-alive, found, within, path-at, at-path}
use Rattle.vn_jail.proofs.Upwards.{over, untold}

-- what stands where no jail does
abbrev pub none : Jail
none = dead_jail [] 0

-- the path and the parent stay
abbrev pub Stays : (Jail → Jail) → Type 0
Stays edit = (j : Jail) → ((edit j).path ≡ j.path) × ((edit j).parent ≡ j.parent)

-- and so does whatever hangs not on the number of living descendants
recount-same : {A : Type 0} (part : Jail → A) → ((j : Jail) (n : ℕ) → part (record j { living = n }) ≡ part j) → (f : ℕ → ℕ) (ps : List Path) (j : Jail) → part (recount f ps j) ≡ part j
recount-same part apart f ps j = by (list_any (path_eq j.path) ps)
  where
    by : (b : Bool) → part (if b then record j { living = f j.living } else j) ≡ part j
    by true = apart j (f j.living)
    by false = refl

-- and so does how many there are
pub as-many : (edit : Jail → Jail) (f : ℕ → ℕ) (p : Path) (jails : List Jail) → length (changed edit f p jails) ≡ length jails
unfolding changed
as-many edit f p jails = length-map jails _

-- a jail counts nothing where those above it do
pub untouched : (f : ℕ → ℕ) (jails : List Jail) (linked : IsLinked jails) (s : ℕ) → s < length jails → 0 < s → (js : List Jail) → js ≡ map (recount f (above (path_at jails s))) jails → (d : Jail) → get_or js s d ≡ at jails s
untouched f jails linked s within some js told d =
    ap (λ ks. get_or ks s d) (told ∙ ap (λ ps. map (recount f ps) jails) (sym (over jails linked s within some))) ∙ untold f jails linked s within some d

module _ (edit : Jail → Jail) (f : ℕ → ℕ) (stays : Stays edit) (jails : List Jail) (linked : IsLinked jails) (s : ℕ) (in' : s < length jails) where
  abbrev p : Path
  p = path_at jails s

  abbrev new : List Jail
  new = changed edit f (path_at jails s) jails

  pub long : length (changed edit f (path_at jails s) jails) ≡ length jails
  unfolding changed
  long = length-map jails _

  -- the jail itself
  pub changed-at : at (changed edit f (path_at jails s) jails) s ≡ edit (at jails s)
  unfolding changed
  changed-at = get_or-map _ jails s none none in' ∙ cond-true (is_at p (at jails s)) (edit (at jails s)) (recount f (above p) (at jails s)) (path-at p (at jails s) refl)

  -- each other one
  pub changed-other : (n : ℕ) → n < length jails → n ≢ s → at (changed edit f (path_at jails s) jails) n ≡ recount f (above (path_at jails s)) (at jails n)
  unfolding changed
  changed-other n lt ne = get_or-map _ jails n none none lt
      ∙ cond-false (is_at p (at jails n)) (edit (at jails n)) (recount f (above p) (at jails n)) (false_from_ne_true _ (λ e. ne (linked.distinct n s lt in' (at-path p (at jails n) e))))

  pub path-stays : (n : ℕ) → path_at (changed edit f (path_at jails s) jails) n ≡ path_at jails n
  path-stays n = ⊎_elim
      (λ (lt : n < length jails). ⊎_elim
      (λ (e : n ≡ s). ap (path_at new) e ∙ ap (λ (j : Jail). j.path) changed-at ∙ (stays (at jails s)).0 ∙ ap (path_at jails) (sym e))
      (λ ne. ap (λ (j : Jail). j.path) (changed-other n lt ne) ∙ recount-same (λ (i : Jail). i.path) (λ i m. refl) f (above p) (at jails n)) (cases_eq n s))
      (λ (le : length jails ≤ n). ap (λ (j : Jail). j.path) (get_or_past new n none (omega (arith, long)) ∙ sym (get_or_past jails n none le)))
      (cases_lt n (length jails))

  pub parent-stays : (n : ℕ) → (at (changed edit f (path_at jails s) jails) n).parent ≡ (at jails n).parent
  parent-stays n = ⊎_elim
      (λ (lt : n < length jails). ⊎_elim
      (λ (e : n ≡ s). ap (λ m. (at new m).parent) e ∙ ap (λ (j : Jail). j.parent) changed-at ∙ (stays (at jails s)).1 ∙ ap (λ m. (at jails m).parent) (sym e))
      (λ ne. ap (λ (j : Jail). j.parent) (changed-other n lt ne) ∙ recount-same (λ (i : Jail). i.parent) (λ i m. refl) f (above p) (at jails n)) (cases_eq n s))
      (λ (le : length jails ≤ n). ap (λ (j : Jail). j.parent) (get_or_past new n none (omega (arith, long)) ∙ sym (get_or_past jails n none le)))
      (cases_lt n (length jails))

  -- who lives, but the jail itself
  pub alive-stays : (n : ℕ) → n ≢ s → (at (changed edit f (path_at jails s) jails) n).alive ≡ (at jails n).alive
  alive-stays n ne = ⊎_elim
      (λ (lt : n < length jails). ap (λ (j : Jail). j.alive) (changed-other n lt ne) ∙ recount-same (λ (i : Jail). i.alive) (λ i m. refl) f (above p) (at jails n))
      (λ (le : length jails ≤ n). ap (λ (j : Jail). j.alive) (get_or_past new n none (omega (arith, long)) ∙ sym (get_or_past jails n none le)))
      (cases_lt n (length jails))

  pub linked-changed : IsLinked (changed edit f (path_at jails s) jails)
  linked-changed = record {
    distinct = λ i j li lj e. linked.distinct i j (omega (arith, long)) (omega (arith, long)) (sym (path-stays i) ∙ e ∙ path-stays j);
    some = omega (arith, long, linked.some);
    host = path-stays 0 ∙ linked.host;
    inside = λ n some lt. omega (arith, long, parent-stays n, linked.inside n some (omega (arith, long)));
    linked = λ n some lt. path-stays (at new n).parent ∙ ap (path_at jails) (parent-stays n) ∙ linked.linked n some (omega (arith, long)) ∙ ap parent (sym (path-stays n));
  }

  pub numbered-changed : (numbers : BTreeMap Path ℕ) → IsNumbered jails numbers → IsNumbered (changed edit f (path_at jails s) jails) numbers
  numbered-changed numbers numbered = record {
    found = λ n lt. ap (get path_cmp numbers) (path-stays n) ∙ numbered.found n (omega (arith, long));
    inside = λ q. subst (λ m. IfSome (get path_cmp numbers q) (λ n. n < m)) (sym long) (numbered.inside q);
    right = λ q. by q (get path_cmp numbers q) (numbered.right q);
  }
    where
      by : (q : Path) (o : Option ℕ) → IfSome o (λ n. path_at jails n ≡ q) → IfSome o (λ n. path_at new n ≡ q)
      by q None h = tt
      by q (Some n) h = path-stays n ∙ h

  -- the jail is written after those above it have counted
  pub changed-is : (js : List Jail) → js ≡ map (recount f (above (path_at jails s))) jails → slice_set js s (edit (at jails s)) ≡ changed edit f (path_at jails s) jails
  changed-is js told = ap (λ ks. slice_set ks s (edit (at jails s))) told ∙ same_lists _ _ (size ∙ sym long) each
    where
      size : length (slice_set (map (recount f (above p)) jails) s (edit (at jails s))) ≡ length jails
      size = length-set _ s _ ∙ length-map jails _

      each : (k : ℕ) (d : Jail) → k < length (slice_set (map (recount f (above p)) jails) s (edit (at jails s)))
          → get_or (slice_set (map (recount f (above p)) jails) s (edit (at jails s))) k d ≡ get_or (changed edit f (path_at jails s) jails) k d
      each k d lt = ⊎_elim
          (λ (e : k ≡ s). ap (λ m. get_or (slice_set (map (recount f (above p)) jails) s (edit (at jails s))) m d) e ∙ get_or-set_same _ s _ d (omega (arith, in', length-map jails (recount f (above p))))
          ∙ sym (get_or_default new k d none (omega (arith, long, size, lt)) ∙ ap (at new) e ∙ changed-at))
          (λ ne. get_or-set_other _ s k _ d ne ∙ get_or-map _ jails k none d (omega (arith, size, lt))
          ∙ sym (get_or_default new k d none (omega (arith, long, size, lt)) ∙ changed-other k (omega (arith, size, lt)) ne))
          (cases_eq k s)

  -- who lives at a path
  pub alive-at : (q : Path) → q ≢ path_at jails s → is_alive q (changed edit f (path_at jails s) jails) ≡ is_alive q jails
  alive-at q ne = both_ways _ _ to from'
    where
      to : is_alive q new ≡ true → is_alive q jails ≡ true
      to alive =
          let f = found (lives_at q) new alive in
          let parts = and_parts (is_at q (at new f.number)) (at new f.number).alive f.passes in
          let path : path_at jails f.number ≡ q = sym (path-stays f.number) ∙ at-path q (at new f.number) parts.0 in
          let other : f.number ≢ s = λ e. ne (sym path ∙ ap (path_at jails) e) in
          let lives = sym (alive-stays f.number other) ∙ parts.1 in
          list_any_at (lives_at q) jails f.number none (within jails f.number lives) (and_from _ _ (path-at q (at jails f.number) path) lives)

      from' : is_alive q jails ≡ true → is_alive q new ≡ true
      from' alive =
          let f = found (lives_at q) jails alive in
          let parts = and_parts (is_at q (at jails f.number)) (at jails f.number).alive f.passes in
          let path : path_at jails f.number ≡ q = at-path q (at jails f.number) parts.0 in
          let other : f.number ≢ s = λ e. ne (sym path ∙ ap (path_at jails) e) in
          let lives = alive-stays f.number other ∙ parts.1 in
          list_any_at (lives_at q) new f.number none (within new f.number lives) (and_from _ _ (path-at q (at new f.number) (path-stays f.number ∙ path)) lives)

  -- who lives at the path itself
  pub alive-here : is_alive (path_at jails s) (changed edit f (path_at jails s) jails) ≡ (edit (at jails s)).alive
  alive-here = is-alive new linked-changed p s (omega (arith, long)) (path-stays s) ∙ ap (λ (j : Jail). j.alive) changed-at

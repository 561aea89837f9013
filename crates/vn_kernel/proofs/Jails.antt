-- What a creation makes of the jails, by their paths and by their numbers.
use Rattle.std.proofs.Common.{◌≡◌, ◌≢◌, ◌⊎◌, ℕ, ◌+◌, ◌<◌, ◌≤◌, ◌==◌, Bool, true, false, List, [], ◌∷◌, ◌++◌, length, length-append, map, Option, Some, None, inl, inr, refl, sym, ap, ◌∙◌, arith, ⊎_elim}
use Rattle.std.specs.Prelude.{if◌then◌else◌}
use Rattle.std.specs.List.{list_any}
use Rattle.std.proofs.lemmas.Bool.{cases_eq, cases_lt, eq-eqb, ne_eqb, false≢true}
use Rattle.std.proofs.lemmas.List.{get_or-map, get_or_past, get_or_append_left, get_or_push, length-map}
use Rattle.vn_types.specs.Paths.{Path, above, is_host, parent, path_eq}
use Rattle.vn_jail.specs.declared.jail.Jail.{Jail}
use Rattle.vn_jail.specs.Kept.{IsLinked}
use Rattle.vn_jail.specs.Tree.{at, changed, created, dead_jail, is_alive, is_at, is_known, known, number_of, path_at, recount, start}
use Rattle.vn_jail.proofs.Changes.{alive-at, alive-here, alive-stays, changed-at, changed-other, none}
use Rattle.vn_jail.proofs.Known.{Numbered, numbered-either}
use Rattle.vn_jail.proofs.Numbers.{alive-known, is-known, number-is, number-known}
use Rattle.vn_cells.specs.declared.world.Children.{Children}
use Rattle.vn_cells.specs.commands.Jails.{counted_by, one_more}
use Rattle.vn_kernel.specs.Worlds.{children_at}

-- a path other than host's has a label
pub labelled : (q : Path) → is_host q ≡ false → q ≢ []
unfolding is_host
labelled q label e = false≢true (sym label ∙ ap is_host e)

-- a living path has a number, which is its own
pub alive-numbered : (jails : List Jail) (q : Path) → is_alive q jails ≡ true → (number_of q jails < length jails) × (path_at jails (number_of q jails) ≡ q)
alive-numbered jails q alive = number-known jails q (alive-known jails q alive)

-- a part that a map keeps in each jail
mapped-at : {A : Type 0} (h : Jail → Jail) (part : Jail → A) → ((j : Jail) → part (h j) ≡ part j) → (jails : List Jail) (n : ℕ) → part (at (map h jails) n) ≡ part (at jails n)
mapped-at h part same jails n = ⊎_elim
    (λ (lt : n < length jails). ap part (get_or-map h jails n none none lt) ∙ same (at jails n))
    (λ (le : length jails ≤ n). ap part (get_or_past (map h jails) n none (omega (arith, length-map jails h)) ∙ sym (get_or_past jails n none le)))
    (cases_lt n (length jails))

-- a number of living descendants, told to the jail of a number
pub recounted : (f : ℕ → ℕ) (jails : List Jail) (n : ℕ) (ps : List Path) (js : List Jail) → at js n ≡ recount f ps (at jails n)
    → children_at js n ≡ (if list_any (path_eq (path_at jails n)) ps then counted_by f (children_at jails n) else children_at jails n)
recounted f jails n ps js is = ap (λ (j : Jail). if n == 0 then None else Some (record { limit = j.limit; living = j.living })) is ∙ by (n == 0) (list_any (path_eq (path_at jails n)) ps)
  where
    by : (a b : Bool) → ◌≡◌ {A = Option Children} (if a then None else Some (record { limit = (if b then record (at jails n) { living = f (at jails n).living } else at jails n).limit; living = (if b then record (at jails n) { living = f (at jails n).living } else at jails n).living }))
        (if b then counted_by f (if a then None else Some (record { limit = (at jails n).limit; living = (at jails n).living })) else (if a then None else Some (record { limit = (at jails n).limit; living = (at jails n).living })))
    by true true = refl
    by true false = refl
    by false true = refl
    by false false = refl

module _ (jails : List Jail) (linked : IsLinked jails) (p : Path) (label : is_host p ≡ false) (dead : is_alive p jails ≡ false) (limit : ℕ) where
  -- ---- the path has its number, and does not live yet

  abbrev middle : List Jail
  middle = known p jails

  numbered : Numbered p jails dead (known p jails)
  numbered = numbered-either p jails dead

  low : (n : ℕ) → n < length jails → at (known p jails) n ≡ at jails n
  low n lt = by (is_known p jails)
    where
      by : (b : Bool) → at (if b then jails else jails ++ dead_jail p (number_of (parent p) jails) ∷ []) n ≡ at jails n
      by true = refl
      by false = get_or_append_left jails (dead_jail p (number_of (parent p) jails) ∷ []) none n lt

  longer : length jails ≤ length (known p jails)
  longer = by (is_known p jails)
    where
      by : (b : Bool) → length jails ≤ length (if b then jails else jails ++ dead_jail p (number_of (parent p) jails) ∷ [])
      by true = omega arith
      by false = omega (arith, length-append jails (dead_jail p (number_of (parent p) jails) ∷ []))

  -- each number past the others is the path's
  last : (n : ℕ) → n < length (known p jails) → length jails ≤ n → path_at (known p jails) n ≡ p
  last n lt past = by (is_known p jails) lt
    where
      by : (b : Bool) → n < length (if b then jails else jails ++ dead_jail p (number_of (parent p) jails) ∷ []) → path_at (if b then jails else jails ++ dead_jail p (number_of (parent p) jails) ∷ []) n ≡ p
      by true lt = absurd (omega arith)
      by false lt = let e : n ≡ length jails = omega (arith, lt, length-append jails (dead_jail p (number_of (parent p) jails) ∷ [])) in
          ap (λ (j : Jail). j.path) (get_or_push jails (dead_jail p (number_of (parent p) jails)) none n (sym e))

  middle-alive : (n : ℕ) → (at (known p jails) n).alive ≡ (at jails n).alive
  middle-alive n = ⊎_elim
      (λ (lt : n < length jails). ap (λ (j : Jail). j.alive) (low n lt))
      (λ (le : length jails ≤ n). beyond le ∙ sym (ap (λ (j : Jail). j.alive) (get_or_past jails n none le)))
      (cases_lt n (length jails))
    where
      beyond : length jails ≤ n → (at (known p jails) n).alive ≡ false
      beyond le = by (is_known p jails)
        where
          by : (b : Bool) → (at (if b then jails else jails ++ dead_jail p (number_of (parent p) jails) ∷ []) n).alive ≡ false
          by true = ap (λ (j : Jail). j.alive) (get_or_past jails n none le)
          by false = ⊎_elim
              (λ (e : n ≡ length jails). ap (λ (j : Jail). j.alive) (get_or_push jails (dead_jail p (number_of (parent p) jails)) none n (sym e)))
              (λ ne. ap (λ (j : Jail). j.alive) (get_or_past (jails ++ dead_jail p (number_of (parent p) jails) ∷ []) n none (omega (arith, ne, length-append jails (dead_jail p (number_of (parent p) jails) ∷ [])))))
              (cases_eq n (length jails))

  -- the number that it has or gets doesn't live
  pub free-number : (at jails (number_of p jails)).alive ≡ false
  free-number = sym (middle-alive (number_of p jails)) ∙ numbered.dead

  -- ---- it lives

  abbrev after : List Jail
  after = created p limit jails

  each-kept : {A : Type 0} (part : Jail → A) → ((j : Jail) → part (start limit j) ≡ part j) → ((j : Jail) (n : ℕ) → part (record j { living = n }) ≡ part j)
      → (n : ℕ) → part (at (created p limit jails) n) ≡ part (at (known p jails) n)
  unfolding changed
  each-kept part starts counts n = mapped-at (λ (j : Jail). if is_at p j then start limit j else recount (λ n. n + 1) (above p) j) part same (known p jails) n
    where
      same : (j : Jail) → part (if is_at p j then start limit j else recount (λ n. n + 1) (above p) j) ≡ part j
      same j = by (is_at p j) (list_any (path_eq j.path) (above p))
        where
          by : (a b : Bool) → part (if a then start limit j else (if b then record j { living = j.living + 1 } else j)) ≡ part j
          by true b = starts j
          by false true = counts j (j.living + 1)
          by false false = refl

  same-path : (n : ℕ) → path_at (created p limit jails) n ≡ path_at (known p jails) n
  same-path n = each-kept (λ (j : Jail). j.path) (λ j. refl) (λ j n. refl) n

  same-parent : (n : ℕ) → (at (created p limit jails) n).parent ≡ (at (known p jails) n).parent
  same-parent n = each-kept (λ (j : Jail). j.parent) (λ j. refl) (λ j n. refl) n

  same-length : length (created p limit jails) ≡ length (known p jails)
  unfolding changed
  same-length = length-map (known p jails) _

  -- each path has its number still
  pub created-paths : (n : ℕ) → n < length jails → path_at (created p limit jails) n ≡ path_at jails n
  created-paths n lt = same-path n ∙ ap (λ (j : Jail). j.path) (low n lt)

  module _ (kept : IsLinked (created p limit jails)) where
    middle-linked : IsLinked (known p jails)
    middle-linked = record {
      distinct = λ i j li lj e. kept.distinct i j (omega (arith, same-length)) (omega (arith, same-length)) (same-path i ∙ e ∙ sym (same-path j));
      some = omega (arith, same-length, kept.some);
      host = sym (same-path 0) ∙ kept.host;
      inside = λ n some lt. omega (arith, same-length, same-parent n, kept.inside n some (omega (arith, same-length)));
      linked = λ n some lt. sym (same-path (at (known p jails) n).parent) ∙ ap (path_at (created p limit jails)) (sym (same-parent n)) ∙ kept.linked n some (omega (arith, same-length)) ∙ ap parent (same-path n);
    }

    as-changed : created p limit jails ≡ changed (start limit) (λ n. n + 1) (path_at (known p jails) (number_of p jails)) (known p jails)
    as-changed = ap (λ q. changed (start limit) (λ n. n + 1) q (known p jails)) (sym numbered.path)

    number-own-within : number_of p jails < length (created p limit jails)
    number-own-within = omega (arith, same-length, numbered.within)

    pub created-number : number_of p (created p limit jails) ≡ number_of p jails
    created-number = number-is (created p limit jails) kept p (number_of p jails) number-own-within (same-path (number_of p jails) ∙ numbered.path)

    pub created-alive : is_alive p (created p limit jails) ≡ true
    created-alive =
        ap (is_alive p) as-changed ∙ ap (λ q. is_alive q (changed (start limit) (λ n. n + 1) (path_at (known p jails) (number_of p jails)) (known p jails))) (sym numbered.path)
        ∙ alive-here (start limit) (λ n. n + 1) (λ j. (refl, refl)) (known p jails) middle-linked (number_of p jails) numbered.within

    pub created-others-alive : (q : Path) → q ≢ p → is_alive q (created p limit jails) ≡ is_alive q jails
    created-others-alive q ne =
        ap (is_alive q) as-changed ∙ alive-at (start limit) (λ n. n + 1) (λ j. (refl, refl)) (known p jails) middle-linked (number_of p jails) numbered.within q (λ e. ne (e ∙ numbered.path))
        ∙ numbered.same q

    -- a path that had a number has it still
    pub created-others-number : (q : Path) → is_known q jails ≡ true → number_of q (created p limit jails) ≡ number_of q jails
    created-others-number q here = let n = number-known jails q here in
        number-is (created p limit jails) kept q (number_of q jails) (omega (arith, same-length, longer, n.0)) (created-paths (number_of q jails) n.0 ∙ n.1)

    own-jail : at (created p limit jails) (number_of p jails) ≡ start limit (at (known p jails) (number_of p jails))
    own-jail = ap (λ js. at js (number_of p jails)) as-changed ∙ changed-at (start limit) (λ n. n + 1) (λ j. (refl, refl)) (known p jails) middle-linked (number_of p jails) numbered.within

    not-first : number_of p jails ≢ 0
    not-first e = labelled p label (sym numbered.path ∙ ap (path_at (known p jails)) e ∙ middle-linked.host)

    pub created-children : children_at (created p limit jails) (number_of p jails) ≡ Some (record { limit = limit; living = 0 })
    created-children =
        ap (λ b. if b then None else Some (record { limit = (at (created p limit jails) (number_of p jails)).limit; living = (at (created p limit jails) (number_of p jails)).living })) (ne_eqb (number_of p jails) 0 not-first)
        ∙ ap (λ (j : Jail). Some (record { limit = j.limit; living = j.living })) own-jail

    pub created-others-children : (n : ℕ) → n < length jails → n ≢ number_of p jails
        → children_at (created p limit jails) n ≡ (if list_any (path_eq (path_at jails n)) (above p) then counted_by one_more (children_at jails n) else children_at jails n)
    created-others-children n lt ne = recounted (λ m. m + 1) jails n (above p) (created p limit jails)
        (ap (λ js. at js n) as-changed
        ∙ changed-other (start limit) (λ n. n + 1) (λ j. (refl, refl)) (known p jails) middle-linked (number_of p jails) numbered.within n (omega (arith, longer)) ne
        ∙ ap (λ q. recount (λ n. n + 1) (above q) (at (known p jails) n)) numbered.path ∙ ap (recount (λ n. n + 1) (above p)) (low n lt))

    -- who lives, by number
    pub created-lives : (n : ℕ) → (if n == number_of p jails then true else (at jails n).alive) ≡ (at (created p limit jails) n).alive
    created-lives n = ⊎_elim here there (cases_eq n (number_of p jails))
      where
        here : n ≡ number_of p jails → (if n == number_of p jails then true else (at jails n).alive) ≡ (at (created p limit jails) n).alive
        here e = ap (λ b. if b then true else (at jails n).alive) (eq-eqb n (number_of p jails) e) ∙ sym (ap (λ m. (at (created p limit jails) m).alive) e ∙ ap (λ (j : Jail). j.alive) own-jail)

        there : n ≢ number_of p jails → (if n == number_of p jails then true else (at jails n).alive) ≡ (at (created p limit jails) n).alive
        there ne = ap (λ b. if b then true else (at jails n).alive) (ne_eqb n (number_of p jails) ne)
            ∙ sym (ap (λ js. (at js n).alive) as-changed ∙ alive-stays (start limit) (λ n. n + 1) (λ j. (refl, refl)) (known p jails) middle-linked (number_of p jails) numbered.within n ne ∙ middle-alive n)

    -- which paths have a number
    pub created-known : (q : Path) → is_known q (created p limit jails) ≡ true → (q ≡ p) ⊎ (is_known q jails ≡ true)
    created-known q here = let n = number-known (created p limit jails) q here in by n.0 n.1 (cases_lt (number_of q (created p limit jails)) (length jails))
      where
        by : number_of q (created p limit jails) < length (created p limit jails) → path_at (created p limit jails) (number_of q (created p limit jails)) ≡ q
            → (number_of q (created p limit jails) < length jails) ⊎ (length jails ≤ number_of q (created p limit jails)) → (q ≡ p) ⊎ (is_known q jails ≡ true)
        by lt is (inl low') = inr (is-known jails linked q (number_of q (created p limit jails)) low' (sym (created-paths (number_of q (created p limit jails)) low') ∙ is))
        by lt is (inr past) = inl (sym is ∙ same-path (number_of q (created p limit jails)) ∙ last (number_of q (created p limit jails)) (omega (arith, same-length)) past)

-- The pairs that are homed in a stack end, one after another.
use Rattle.std.proofs.Common.{◌≡◌, ◌≢◌, ◌⊎◌, inl, inr, ℕ, ◌==◌, Bool, true, false, not, cond, List, [], ◌∷◌, length, map, Option, Some, None, IfSome, IsSome, refl, sym, ap, ap₂, ◌∙◌, subst}
use Rattle.std.specs.Prelude.{filter, if◌then◌else◌}
use Rattle.std.specs.BTreeMap.{is_at}
use Rattle.std.specs.List.{AllByRecursion}
use Rattle.std.specs.List.Sorted.{IsStrictlySortedBy}
use Rattle.std.specs.Map.{keys_of, lookup, remove_entry}
use Rattle.std.specs.Cmp.{Equal-is}
use Rattle.std.specs.Option.{option_map}
use Rattle.std.specs.Ordering.{is_eq}
use Rattle.std.proofs.lemmas.Bool.{true≢false}
use Rattle.std.proofs.lemmas.List.Kept.{IsStrictlySortedBy-filter}
use Rattle.vn_types.specs.Entries.{find}
use Rattle.vn_types.specs.PathOrder.{key_ties, path_eq-Decides}
use Rattle.vn_types.specs.Paths.{Path, Key, key_cmp, key_eq, path_eq}
use Rattle.vn_types.proofs.EntryLaws.{keys_of-each}
use Rattle.vn_types.proofs.Options.{none_some, some_same}
use Rattle.vn_types.proofs.PathNames.{key_cmp-exact, key_eq-Decides}
use Rattle.vn_epair.specs.Halves.{Pair}
use Rattle.vn_epair.specs.Pairs.{pair_of}
use Rattle.vn_jail.specs.declared.jail.Jail.{Jail}
use Rattle.vn_jail.specs.Tree.{at, path_at}
use Rattle.vn_jail.proofs.Numbers.{within}
use Rattle.vn_vmove.specs.Parts.{pair_at}
use Rattle.vn_cells.specs.commands.Pairs.{destroyed_pair}
use Rattle.vn_cells.specs.commands.Removal.{homed_at, without_pairs}
use Rattle.vn_kernel.specs.Fields.{Fields}
use Rattle.vn_kernel.specs.Naming.{key_by, key_in}
use Rattle.vn_kernel.specs.Removal.{EndsHomed, EndsPair, EndsSome, homed_numbers}
use Rattle.vn_kernel.specs.Stands.{Stands, reading}
use Rattle.vn_kernel.specs.Worlds.{pair_of as pair_named, world_of}
use Rattle.vn_kernel.proofs.moving.Ended.{home-known, its_pair}
use Rattle.vn_kernel.proofs.moving.Faithful.{key-found, key-is}
use Rattle.vn_kernel.proofs.moving.Unmade.{removed-key, without_key}
use Rattle.vn_kernel.proofs.removing.Rest.{leaves-same, same-jails}

-- ---- keys of one home

module _ (p : Path) where
  -- those entries whose pair is homed at a path
  abbrev pub homed : List (Key × ℕ) → List (Key × ℕ)
  homed units = filter (λ e. path_eq e.0.0 p) units

  pub keys-homed : (units : List (Key × ℕ)) → keys_of (homed units) ≡ filter (λ k. path_eq k.0 p) (keys_of units)
  keys-homed [] = refl
  keys-homed (e ∷ units) = by (path_eq e.0.0 p) (homed units) (filter (λ k. path_eq k.0 p) (keys_of units)) (keys-homed units)
    where
      by : (b : Bool) (rest : List (Key × ℕ)) (ks : List Key) → keys_of rest ≡ ks → keys_of (cond b (e ∷ rest) rest) ≡ cond b (e.0 ∷ ks) ks
      by true rest ks more = ap (λ ks. e.0 ∷ ks) more
      by false rest ks more = more

  -- the two tests in either order
  homed-without : (k : Key) (units : List (Key × ℕ)) → homed (without_key k units) ≡ without_key k (homed units)
  homed-without k [] = refl
  homed-without k (e ∷ units) = by (not (key_eq e.0 k)) (path_eq e.0.0 p) refl refl (without_key k units) (homed units) (homed-without k units)
    where
      by : (a b : Bool) → not (key_eq e.0 k) ≡ a → path_eq e.0.0 p ≡ b → (ws hs : List (Key × ℕ)) → homed ws ≡ without_key k hs
          → homed (cond a (e ∷ ws) ws) ≡ without_key k (cond b (e ∷ hs) hs)
      by true true is at ws hs more = ap (λ c. cond c (e ∷ homed ws) (homed ws)) at ∙ ap (λ rest. e ∷ rest) more ∙ sym (ap (λ c. cond c (e ∷ without_key k hs) (without_key k hs)) is)
      by true false is at ws hs more = ap (λ c. cond c (e ∷ homed ws) (homed ws)) at ∙ more
      by false true is at ws hs more = more ∙ sym (ap (λ c. cond c (e ∷ without_key k hs) (without_key k hs)) is)
      by false false is at ws hs more = more

  -- in order, the first of them goes with its key
  pub first-goes : (k : Key) (n : ℕ) (rest units : List (Key × ℕ)) → IsStrictlySortedBy key_cmp (keys_of units) → homed units ≡ (k, n) ∷ rest → homed (without_key k units) ≡ rest
  first-goes k n rest units sorted is =
      homed-without k units ∙ ap (without_key k) is
      ∙ sym (removed-key k ((k, n) ∷ rest) (subst (λ es. IsStrictlySortedBy key_cmp (keys_of es)) is
      (subst (IsStrictlySortedBy key_cmp) (sym (keys-homed units)) (IsStrictlySortedBy-filter key_cmp (λ k. path_eq k.0 p) (keys_of units) sorted))))
      ∙ ap (λ b. cond b rest ((k, n) ∷ remove_entry (is_at (key_cmp k)) rest)) (sym (key_ties k k) ∙ (key_eq-Decides k k).1 refl)

  -- where there is none, none is found
  pub none-found : (unit : ℕ) (units : List (Key × ℕ)) (n : ℕ) → homed units ≡ [] → find key_cmp (p, unit) units ≡ Some n → ⊥
  unfolding find
  none-found unit [] n none found = none_some n found
  none-found unit (e ∷ units) n none found = by (path_eq e.0.0 p) (is_eq (key_cmp (p, unit) e.0)) refl refl none found (λ none found. none-found unit units n none found)
    where
      by : (a b : Bool) → path_eq e.0.0 p ≡ a → is_eq (key_cmp (p, unit) e.0) ≡ b → cond a (e ∷ homed units) (homed units) ≡ [] → cond b (Some e.1) (lookup (is_at (key_cmp (p, unit))) units) ≡ Some n
          → (homed units ≡ [] → lookup (is_at (key_cmp (p, unit))) units ≡ Some n → ⊥) → ⊥
      by true b at is none found more = cc
      by false true at is none found more =
          true≢false (sym ((path_eq-Decides e.0.0 p).1 (ap (λ (k : Key). k.0) (sym (key_cmp-exact (p, unit) e.0 ((Equal-is (key_cmp (p, unit) e.0)).0 is))))) ∙ at)
      by false false at is none found more = more none found

-- those of the world
pub homed-world : (f : Fields) (p : Path) → homed_at (world_of f) p ≡ keys_of (homed p f.units)
unfolding world_of
homed-world f p = ap (filter (λ (k : Key). path_eq k.0 p)) (keys_of-each (pair_named f) f.units) ∙ sym (keys-homed p f.units)

-- ---- one after another

-- so many pairs ended, and those that are homed there still are to end
pub record Ending (q : ℕ) (f g : Fields) : Type 0 where
  pub ended : EndsSome f g
  pub stands : Stands g
  pub world : without_pairs (homed_at (world_of g) (path_at f.jails q)) (world_of g) ≡ without_pairs (homed_at (world_of f) (path_at f.jails q)) (world_of f)

pub ending-none : (q : ℕ) (f : Fields) → Stands f → Ending q f f
ending-none q f s = record { ended = record { fewer = λ n. inl refl; numbers = refl; others = refl }; stands = s; world = refl }

module _ (q : ℕ) (f g : Fields) (so : Ending q f g) where
  abbrev p : Path
  p = path_at f.jails q

  -- ---- the next one

  module _ (n : ℕ) (more : List ℕ) (next : homed_numbers p g.units ≡ n ∷ more) where
    record First : Type 0 where
      key : Key
      rest : List (Key × ℕ)
      is : homed p g.units ≡ (key, n) ∷ rest
      behind : map (λ (e : Key × ℕ). e.1) rest ≡ more

    first : First
    first = by (homed p g.units) refl next
      where
        by : (es : List (Key × ℕ)) → homed p g.units ≡ es → map (λ (e : Key × ℕ). e.1) es ≡ n ∷ more → First
        by [] is e = cc
        by (x ∷ rest) is e = record {
          key = x.0;
          rest = rest;
          is = is ∙ (λ i. (x.0, first-same (map (λ (e : Key × ℕ). e.1) rest) x.1 e i) ∷ rest);
          behind = rest-same (map (λ (e : Key × ℕ). e.1) rest) x.1 e;
        }
          where
            first-same : (xs : List ℕ) (m : ℕ) → ◌≡◌ {A = List ℕ} (m ∷ xs) (n ∷ more) → m ≡ n
            first-same xs m e = cc

            rest-same : (xs : List ℕ) (m : ℕ) → ◌≡◌ {A = List ℕ} (m ∷ xs) (n ∷ more) → xs ≡ more
            rest-same xs m e = cc

    -- it is the pair of its number
    its-key : key_in g n ≡ Some first.key
    its-key = by g.units so.stands.paired first.is
      where
        by : (es : List (Key × ℕ)) → AllByRecursion (λ (e : Key × ℕ). key_in g e.1 ≡ Some e.0) es → homed p es ≡ (first.key, n) ∷ first.rest → key_in g n ≡ Some first.key
        by [] all is = cc
        by (e ∷ es) all is = here (path_eq e.0.0 p) (homed p es) is (by es all.1)
          where
            here : (b : Bool) (hs : List (Key × ℕ)) → cond b (e ∷ hs) hs ≡ (first.key, n) ∷ first.rest → (hs ≡ (first.key, n) ∷ first.rest → key_in g n ≡ Some first.key) → key_in g n ≡ Some first.key
            here true hs is more = let same : e ≡ (first.key, n) = cc in ap (λ (x : Key × ℕ). key_in g x.1) (sym same) ∙ all.0 ∙ ap (λ (x : Key × ℕ). Some x.0) same
            here false hs is more = more is

    pub next-exists : IsSome (pair_at g.tables n)
    unfolding key_in
    next-exists = by (pair_at g.tables n) its-key
      where
        by : (o : Option Pair) → option_map (key_by g.jails) o ≡ Some first.key → IsSome o
        by None e = absurd (none_some first.key e)
        by (Some pair) e = refl

    key-same : key_by g.jails (pair_of g.tables.pairs n) ≡ first.key
    key-same = some_same _ first.key (sym (key-is g n (pair_of g.tables.pairs n) (its_pair g so.stands n next-exists)) ∙ its-key)

    module _ (k : Fields) (c : EndsPair n g k) where
      left : homed p k.units ≡ first.rest
      left = ap (homed p) (c.units ∙ ap (λ key. without_key key g.units) key-same) ∙ first-goes p first.key n first.rest g.units so.stands.units_rise first.is

      pub next-left : homed_numbers p k.units ≡ more
      next-left = ap (map (λ (e : Key × ℕ). e.1)) left ∙ first.behind

      now : homed_at (world_of g) p ≡ first.key ∷ keys_of first.rest
      now = homed-world g p ∙ ap keys_of first.is

      world : without_pairs (homed_at (world_of k) p) (world_of k) ≡ without_pairs (homed_at (world_of g) p) (world_of g)
      unfolding without_pairs
      world =
          ap₂ without_pairs (homed-world k p ∙ ap keys_of left) (c.leaves.world ∙ ap (λ key. destroyed_pair key (world_of g)) key-same)
          ∙ ap (λ ks. without_pairs ks (world_of g)) (sym now)

      fewer : (m : ℕ) → (pair_at k.tables m ≡ pair_at f.tables m) ⊎ (pair_at k.tables m ≡ None)
      fewer m = by (m == n) (c.pairs m) (so.ended.fewer m)
        where
          by : (b : Bool) → pair_at k.tables m ≡ (if b then None else pair_at g.tables m) → (pair_at g.tables m ≡ pair_at f.tables m) ⊎ (pair_at g.tables m ≡ None)
              → (pair_at k.tables m ≡ pair_at f.tables m) ⊎ (pair_at k.tables m ≡ None)
          by true e before = inr e
          by false e (inl same) = inl (e ∙ same)
          by false e (inr gone) = inr (e ∙ gone)

      pub ending-next : Ending q f k
      ending-next = record {
        ended = record {
          fewer = fewer;
          numbers = c.numbers ∙ so.ended.numbers;
          others = c.others ∙ ap (λ (x : Fields). record x { units = k.units; tables = k.tables }) so.ended.others;
        };
        stands = c.leaves.stands;
        world = world ∙ so.world;
      }

  -- ---- none is left

  module _ (alive : (at f.jails q).alive ≡ true) (all : homed_numbers p g.units ≡ []) where
    none-homed : homed p g.units ≡ []
    none-homed = by (homed p g.units) all
      where
        by : (es : List (Key × ℕ)) → map (λ (e : Key × ℕ). e.1) es ≡ [] → es ≡ []
        by [] e = refl
        by (x ∷ es) e = cc

    all-ended : world_of g ≡ without_pairs (homed_at (world_of f) p) (world_of f)
    unfolding without_pairs
    all-ended = ap (λ ks. without_pairs ks (world_of g)) (sym (homed-world g p ∙ ap keys_of none-homed)) ∙ so.world

    none-there : (n : ℕ) → IfSome (pair_at g.tables n) (λ pair. pair.home ≢ q)
    none-there n = by (pair_at g.tables n) refl
      where
        by : (o : Option Pair) → pair_at g.tables n ≡ o → IfSome o (λ pair. pair.home ≢ q)
        by None is = tt
        by (Some pair) is = λ home. none-found p pair.unit g.units n none-homed
            (ap (λ r. find key_cmp (r, pair.unit) g.units) (ap (λ jails. path_at jails q) (sym (same-jails f g so.ended.others)) ∙ ap (path_at g.jails) (sym home)) ∙ key-found so.stands n (key_by g.jails pair) (key-is g n pair is))

    pub ending-done : EndsHomed q f g
    ending-done = record {
      leaves = leaves-same all-ended so.stands (ap (λ (jails : List Jail). length jails) (same-jails f g so.ended.others)) so.ended.numbers (ap reading so.ended.others);
      ended = so.ended;
      none = none-there;
    }

-- ---- where no pair is homed

-- what passes is homed there
passes-first : (p : Path) (k : Key) (n : ℕ) (rest es : List (Key × ℕ)) → homed p es ≡ (k, n) ∷ rest → path_eq k.0 p ≡ true
passes-first p k n rest [] is = cc
passes-first p k n rest (e ∷ es) is = here (path_eq e.0.0 p) refl (homed p es) is (passes-first p k n rest es)
  where
    here : (b : Bool) → path_eq e.0.0 p ≡ b → (hs : List (Key × ℕ)) → cond b (e ∷ hs) hs ≡ (k, n) ∷ rest → (hs ≡ (k, n) ∷ rest → path_eq k.0 p ≡ true) → path_eq k.0 p ≡ true
    here true at hs is more = let same : e ≡ (k, n) = cc in ap (λ (x : Key × ℕ). path_eq x.0.0 p) (sym same) ∙ at
    here false at hs is more = more is

-- by numbers none is homed there, so by keys none is
pub homeless-none : (q : ℕ) (f : Fields) → Stands f → (at f.jails q).alive ≡ true → ((n : ℕ) → IfSome (pair_at f.tables n) (λ pair. pair.home ≢ q))
    → homed_at (world_of f) (path_at f.jails q) ≡ []
homeless-none q f s alive homeless = homed-world f (path_at f.jails q) ∙ ap keys_of (by (homed (path_at f.jails q) f.units) refl)
  where
    clash : (n : ℕ) (more : List ℕ) → homed_numbers (path_at f.jails q) f.units ≡ n ∷ more → ⊥
    clash n more next =
        subst (λ o. IfSome o (λ pair. pair.home ≢ q)) (its_pair f s n there) (homeless n)
        (s.linked.distinct (pair_of f.tables.pairs n).home q (home-known f s n there (pair_of f.tables.pairs n).home refl) (within f.jails q alive)
        (ap (λ (k : Key). k.0) (key-same q f f (ending-none q f s) n more next) ∙ (path_eq-Decides one.key.0 (path_at f.jails q)).0 (passes-first (path_at f.jails q) one.key n one.rest f.units one.is)))
      where
        there : IsSome (pair_at f.tables n)
        there = next-exists q f f (ending-none q f s) n more next

        one : First q f f (ending-none q f s) n more next
        one = first q f f (ending-none q f s) n more next

    by : (es : List (Key × ℕ)) → homed (path_at f.jails q) f.units ≡ es → es ≡ []
    by [] is = refl
    by (x ∷ rest) is = absurd (clash x.1 (map (λ (e : Key × ℕ). e.1) rest) (ap (map (λ (e : Key × ℕ). e.1)) is))

-- What the world has of a path, and of an entry more.
use Rattle.std.proofs.Common.{◌≡◌, Bool, true, false, List, [], ◌∷◌, ◌++◌, map, Option, Some, None, refl, sym, ap, ◌∙◌}
use Rattle.std.specs.Prelude.{if◌then◌else◌, is_some, unwrap_or}
use Rattle.std.specs.List.Sorted.{IsStrictlySortedBy}
use Rattle.std.specs.BTreeMap.{insert_entry, is_at}
use Rattle.std.specs.Map.{keys_of, lookup, set_value}
use Rattle.std.specs.Option.{option_map}
use Rattle.std.proofs.lemmas.Bool.{false≢true, false_from_ne_true}
use Rattle.vn_types.specs.Entries.{find, put, each}
use Rattle.vn_types.specs.Paths.{Path, path_cmp, path_eq}
use Rattle.vn_types.specs.PathOrder.{path_cmp-exact, path_eq-Decides, path_ties, path_total}
use Rattle.vn_types.proofs.EntryLaws.{each-put, find-each, find-put, set_value-insert_entry, sorted-put}
use Rattle.vn_jail.specs.Tree.{is_alive, number_of}
use Rattle.vn_jail.proofs.Numbers.{alive-known}
use Rattle.vn_cells.specs.declared.transcript.Entry.{Entry}
use Rattle.vn_cells.specs.declared.world.Stack.{Stack}
use Rattle.vn_cells.specs.world.World.{edit_stack, is_alive as lives_in, no_stack, noting, stack_at}
use Rattle.vn_kernel.specs.Fields.{Fields}
use Rattle.vn_kernel.specs.Naming.{name_of}
use Rattle.vn_kernel.specs.Stands.{AreRead, Stands}
use Rattle.vn_kernel.specs.Worlds.{live_of, logged, pair_of, readers_of, stack_of, with_entry, world_of}
use Rattle.vn_kernel.specs.Readers.{OpenReader, reader_by}
use Rattle.vn_kernel.proofs.Names.{stands-same}

-- ---- transcripts

module _ (p : Path) (es : List Entry) (logs : List (Path × List Entry)) where
  pub listed-logged : (q : Path) → is_some (find path_cmp q (logged p es logs)) ≡ (if path_eq q p then true else is_some (find path_cmp q logs))
  unfolding logged
  listed-logged q =
      ap is_some (find-put path_cmp path_eq-Decides path_ties p (unwrap_or (find path_cmp p logs) [] ++ es) logs q)
      ∙ by (path_eq q p)
    where
      by : (b : Bool) → is_some (if b then Some (unwrap_or (find path_cmp p logs) [] ++ es) else find path_cmp q logs) ≡ (if b then true else is_some (find path_cmp q logs))
      by true = refl
      by false = refl

  -- what was listed is still
  pub still-listed : (q : Path) → is_some (find path_cmp q logs) ≡ true → is_some (find path_cmp q (logged p es logs)) ≡ true
  still-listed q there = listed-logged q ∙ by (path_eq q p)
    where
      by : (b : Bool) → (if b then true else is_some (find path_cmp q logs)) ≡ true
      by true = refl
      by false = there

  -- and so is the path
  pub own-listed : is_some (find path_cmp p (logged p es logs)) ≡ true
  own-listed = listed-logged p ∙ ap (λ b. if b then true else is_some (find path_cmp p logs)) ((path_eq-Decides p p).1 refl)

  -- and what is read is
  pub logged-read : (readers : List (Path × List OpenReader)) → AreRead logs readers → AreRead (logged p es logs) readers
  logged-read readers read = record {
    listed = λ q none. read.listed q (by (path_eq q p) (is_some (find path_cmp q logs)) (sym (listed-logged q) ∙ none));
    rise = read.rise;
  }
    where
      by : (b c : Bool) → (if b then true else c) ≡ false → c ≡ false
      by true c e = cc
      by false c e = e

  pub logged-rises : IsStrictlySortedBy path_cmp (keys_of logs) → IsStrictlySortedBy path_cmp (keys_of (logged p es logs))
  unfolding logged
  logged-rises rise = sorted-put path_cmp path_total p (unwrap_or (find path_cmp p logs) [] ++ es) logs rise

-- where the path has a transcript, and where it has none
pub logged-there : (p : Path) (es : List Entry) (logs : List (Path × List Entry)) (old new : List Entry) → IsStrictlySortedBy path_cmp (keys_of logs)
    → Some old ≡ lookup (is_at (path_cmp p)) logs → new ≡ old ++ es → set_value (is_at (path_cmp p)) logs new ≡ logged p es logs
unfolding logged put find
logged-there p es logs old new sorted there is =
    set_value-insert_entry path_cmp path_total p logs old new sorted (sym there)
    ∙ ap (λ (v : List Entry). insert_entry path_cmp logs p v) (is ∙ ap (λ (o : Option (List Entry)). unwrap_or o [] ++ es) there)

pub logged-absent : (p : Path) (es : List Entry) (logs now : List (Path × List Entry)) (path : Path) (new : List Entry) → now ≡ logs → path ≡ p
    → None ≡ lookup (is_at (path_cmp p)) logs → new ≡ es → insert_entry path_cmp now path new ≡ logged p es logs
unfolding logged put find
logged-absent p es logs now path new same at none is =
    (λ i. insert_entry path_cmp (same i) (at i) (is i)) ∙ ap (λ (o : Option (List Entry)). insert_entry path_cmp logs p (unwrap_or o [] ++ es)) none

-- ---- the stack of a path

pub stack-dead : (f : Fields) (p : Path) (es : List Entry) → is_alive p f.jails ≡ false → stack_of f p es ≡ record { entries = es; readers = readers_of f p; live = None }
unfolding stack_of
stack-dead f p es dead i = record { entries = es; readers = readers_of f p; live = if dead i then Some (live_of f (number_of p f.jails)) else None }

pub stack-live : (f : Fields) (p : Path) (es : List Entry) → is_alive p f.jails ≡ true → stack_of f p es ≡ record { entries = es; readers = readers_of f p; live = Some (live_of f (number_of p f.jails)) }
unfolding stack_of
stack-live f p es alive i = record { entries = es; readers = readers_of f p; live = if alive i then Some (live_of f (number_of p f.jails)) else None }

module _ (f : Fields) (s : Stands f) where
  unlisted-dead : (p : Path) → is_some (find path_cmp p f.logs) ≡ false → is_alive p f.jails ≡ false
  unlisted-dead p none = false_from_ne_true _ (λ alive. false≢true (sym none ∙ s.listed p (alive-known f.jails p alive)))

  pub stack-here : (p : Path) → stack_at (world_of f) p ≡ stack_of f p (unwrap_or (find path_cmp p f.logs) [])
  unfolding stack_at world_of
  stack-here p =
      ap (λ (o : Option Stack). unwrap_or o no_stack) (find-each path_cmp path_eq-Decides path_ties (stack_of f) f.logs p)
      ∙ by (find path_cmp p f.logs) (unlisted-dead p) (s.read.listed p)
    where
      by : (o : Option (List Entry)) → (is_some o ≡ false → is_alive p f.jails ≡ false) → (is_some o ≡ false → find path_cmp p f.readers ≡ None)
          → unwrap_or (option_map (stack_of f p) o) no_stack ≡ stack_of f p (unwrap_or o [])
      by (Some es) dead read = refl
      by None dead read = sym (stack-dead f p [] (dead refl) ∙ (λ i. record { entries = []; readers = map reader_by (unwrap_or (read refl i) []); live = None }))

  -- what lives there
  pub live-here : (p : Path) → (stack_at (world_of f) p).live ≡ (if is_alive p f.jails then Some (live_of f (number_of p f.jails)) else None)
  unfolding stack_of
  live-here p = ap (λ (x : Stack). x.live) (stack-here p)

  pub alive-is : (p : Path) → lives_in (world_of f) p ≡ is_alive p f.jails
  alive-is p = ap is_some (live-here p) ∙ by (is_alive p f.jails)
    where
      by : (b : Bool) → is_some (if b then Some (live_of f (number_of p f.jails)) else None) ≡ b
      by true = refl
      by false = refl

  -- ---- an entry more

  module _ (p : Path) (entry : Entry) where
    same-stacks : stack_of (with_entry p entry f) ≡ stack_of f
    unfolding stack_of name_of
    same-stacks = refl

    same-pairs : pair_of (with_entry p entry f) ≡ pair_of f
    unfolding pair_of
    same-pairs = refl

    noted-here : stack_of f p (unwrap_or (find path_cmp p f.logs) [] ++ entry ∷ []) ≡ noting entry (stack_at (world_of f) p)
    unfolding stack_of
    noted-here = sym (ap (noting entry) (stack-here p))

    noted-stacks : each (stack_of f) (logged p (entry ∷ []) f.logs) ≡ put path_cmp p (noting entry (stack_at (world_of f) p)) (each (stack_of f) f.logs)
    unfolding logged
    noted-stacks =
        each-put path_cmp path_total path_cmp-exact (stack_of f) (stack_of f) p (λ q ne v. refl) (unwrap_or (find path_cmp p f.logs) [] ++ entry ∷ []) f.logs s.logs_rise
        ∙ ap (λ (x : Stack). put path_cmp p x (each (stack_of f) f.logs)) noted-here

    -- it is in the world too
    pub world-entry : world_of (with_entry p entry f) ≡ edit_stack p (noting entry) (world_of f)
    unfolding world_of edit_stack
    world-entry i = record {
      clock = f.clock;
      stacks = (ap (λ (of : Path → List Entry → Stack). each of (logged p (entry ∷ []) f.logs)) same-stacks ∙ noted-stacks) i;
      pairs = each (same-pairs i) f.units;
    }

    pub stands-entry : Stands (with_entry p entry f)
    stands-entry =
        stands-same f (with_entry p entry f) s (λ n lt. refl) (λ n. refl) refl s.linked s.tree s.living s.sound
        (λ q known. still-listed p (entry ∷ []) f.logs q (s.listed q known)) (logged-rises p (entry ∷ []) f.logs s.logs_rise) (logged-read p (entry ∷ []) f.logs f.readers s.read)

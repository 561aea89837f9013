-- A jail ends: what is kept without it stands for the world in which its stack lives no more.
use Rattle.std.proofs.Common.{◌≡◌, ◌≢◌, ℕ, ◌<◌, ◌==◌, Bool, true, false, List, length, None, refl, sym, ap, ◌∙◌, arith, ⊎_elim}
use Rattle.std.specs.Prelude.{if◌then◌else◌}
use Rattle.std.specs.List.{list_any}
use Rattle.std.proofs.lemmas.Bool.{both_ways, cases_eq, eq-eqb, ne_eqb}
use Rattle.vn_types.specs.Entries.{each}
use Rattle.vn_types.specs.Paths.{Path, above, path_eq}
use Rattle.vn_types.specs.PathOrder.{path_eq-Decides}
use Rattle.vn_jail.specs.declared.jail.Jail.{Jail}
use Rattle.vn_jail.specs.Kept.{IsLinked, IsTree}
use Rattle.vn_jail.specs.Tree.{at, is_alive, is_known, number_of, path_at, removed, stop}
use Rattle.vn_jail.proofs.Changes.{alive-at, alive-here, alive-stays, changed-at, changed-other, long, path-stays}
use Rattle.vn_jail.proofs.Numbers.{alive-known, is-alive, is-known, number-is, number-known, within}
use Rattle.vn_vmove.specs.declared.tables.Tables.{Tables}
use Rattle.vn_cells.specs.declared.transcript.Entry.{Entry}
use Rattle.vn_cells.specs.declared.world.Stack.{Stack}
use Rattle.vn_cells.specs.commands.Jails.{counted_by, one_less, recount_above}
use Rattle.vn_cells.specs.commands.Removal.{killed}
use Rattle.vn_cells.specs.world.World.{each_stack}
use Rattle.vn_kernel.specs.Destruction.{Destructs}
use Rattle.vn_kernel.specs.Fields.{Fields}
use Rattle.vn_kernel.specs.Stands.{Stands}
use Rattle.vn_kernel.specs.Worlds.{children_at, stack_of, world_of}
use Rattle.vn_kernel.proofs.Created.{each-each}
use Rattle.vn_kernel.proofs.Jails.{alive-numbered, recounted}
use Rattle.vn_kernel.proofs.Names.{pairs-same, stands-same}
use Rattle.vn_kernel.proofs.Others.{EditsStack, other-stack, pairs-kept}
use Rattle.vn_kernel.proofs.Views.{stack-dead, stack-live}

-- ---- the jails, by their paths and by their numbers

module _ (jails : List Jail) (linked : IsLinked jails) (number : ℕ) (alive : (at jails number).alive ≡ true) where
  in-jails : number < length jails
  in-jails = within jails number alive

  -- each path has its number still
  removed-paths : (n : ℕ) → path_at (removed (path_at jails number) jails) n ≡ path_at jails n
  removed-paths n = path-stays stop one_less (λ j. (refl, refl)) jails linked number in-jails n

  removed-length : length (removed (path_at jails number) jails) ≡ length jails
  removed-length = long stop one_less (λ j. (refl, refl)) jails linked number in-jails

  lived : is_alive (path_at jails number) jails ≡ true
  lived = is-alive jails linked (path_at jails number) number in-jails refl ∙ alive

  removed-dead : is_alive (path_at jails number) (removed (path_at jails number) jails) ≡ false
  removed-dead = alive-here stop one_less (λ j. (refl, refl)) jails linked number in-jails

  removed-others-alive : (q : Path) → q ≢ path_at jails number → is_alive q (removed (path_at jails number) jails) ≡ is_alive q jails
  removed-others-alive q ne = alive-at stop one_less (λ j. (refl, refl)) jails linked number in-jails q ne

  removed-others-children : (n : ℕ) → n < length jails → n ≢ number → children_at (removed (path_at jails number) jails) n
      ≡ (if list_any (path_eq (path_at jails n)) (above (path_at jails number)) then counted_by one_less (children_at jails n) else children_at jails n)
  removed-others-children n lt ne =
      recounted one_less jails n (above (path_at jails number)) (removed (path_at jails number) jails)
      (changed-other stop one_less (λ j. (refl, refl)) jails linked number in-jails n lt ne)

  -- who lives, by number
  removed-lives : (n : ℕ) → (if n == number then false else (at jails n).alive) ≡ (at (removed (path_at jails number) jails) n).alive
  removed-lives n = ⊎_elim
      (λ (e : n ≡ number). ap (λ b. if b then false else (at jails n).alive) (eq-eqb n number e)
      ∙ sym (ap (λ m. (at (removed (path_at jails number) jails) m).alive) e ∙ ap (λ (j : Jail). j.alive) (changed-at stop one_less (λ j. (refl, refl)) jails linked number in-jails)))
      (λ ne. ap (λ b. if b then false else (at jails n).alive) (ne_eqb n number ne) ∙ sym (alive-stays stop one_less (λ j. (refl, refl)) jails linked number in-jails n ne))
      (cases_eq n number)

  -- no other path has a number
  removed-known : (q : Path) → is_known q (removed (path_at jails number) jails) ≡ true → is_known q jails ≡ true
  removed-known q here =
      let n = number-known (removed (path_at jails number) jails) q here in
      is-known jails linked q (number_of q (removed (path_at jails number) jails)) (omega (arith, removed-length, n.0))
      (sym (removed-paths (number_of q (removed (path_at jails number) jails))) ∙ n.1)

  -- a path that had a number has it still
  removed-number : IsLinked (removed (path_at jails number) jails) → (q : Path) → is_known q jails ≡ true → number_of q (removed (path_at jails number) jails) ≡ number_of q jails
  removed-number kept q here =
      let n = number-known jails q here in
      number-is (removed (path_at jails number) jails) kept q (number_of q jails) (omega (arith, removed-length, n.0)) (removed-paths (number_of q jails) ∙ n.1)

-- ---- the world

module _ (f : Fields) (s : Stands f) (number : ℕ) (alive : (at f.jails number).alive ≡ true)
    (linked : IsLinked (removed (path_at f.jails number) f.jails)) (tree : IsTree (removed (path_at f.jails number) f.jails))
    (u : Tables) (d : Destructs number f.tables u) where
  abbrev p : Path
  p = path_at f.jails number

  -- what is kept then
  abbrev pub gone : Fields
  gone = record f { jails = removed (path_at f.jails number) f.jails; tables = u }

  edits : EditsStack number p one_less f gone
  edits = record {
    paths = λ n lt. removed-paths f.jails s.linked number alive n;
    children = removed-others-children f.jails s.linked number alive;
    pairs = d.pairs;
    others = d.others;
    readers = refl;
  }

  -- ---- each stack

  abbrev kill : Path → Stack → Stack
  kill q x = if path_eq q p then record x { live = None } else recount_above p one_less q x

  own-stack : (q : Path) → q ≡ path_at f.jails number → (es : List Entry) → stack_of gone q es ≡ record (stack_of f q es) { live = None }
  own-stack q e es =
      stack-dead gone q es (ap (λ r. is_alive r (removed (path_at f.jails number) f.jails)) e ∙ removed-dead f.jails s.linked number alive)
      ∙ sym (ap (λ (x : Stack). record x { live = None }) (stack-live f q es (ap (λ r. is_alive r f.jails) e ∙ lived f.jails s.linked number alive)))

  stack-killed : (q : Path) (es : List Entry) → stack_of gone q es ≡ (if path_eq q p then record (stack_of f q es) { live = None } else recount_above p one_less q (stack_of f q es))
  stack-killed q es = by (path_eq q p) refl
    where
      by : (b : Bool) → path_eq q p ≡ b → stack_of gone q es ≡ (if b then record (stack_of f q es) { live = None } else recount_above p one_less q (stack_of f q es))
      by true is = own-stack q ((path_eq-Decides q p).0 is) es
      by false is =
          let ne : q ≢ p = λ e. both_ways _ is ((path_eq-Decides q p).1 e) in
          other-stack s edits q es (removed-others-alive f.jails s.linked number alive q ne)
          (λ living. (
            removed-number f.jails s.linked number alive linked q (alive-known f.jails q living),
            λ e. ne (sym (alive-numbered f.jails q living).1 ∙ ap (path_at f.jails) e),
          ))

  stacks-killed : each (stack_of gone) f.logs ≡ each kill (each (stack_of f) f.logs)
  stacks-killed = ap (λ (h : Path → List Entry → Stack). each h f.logs) (λ i q es. stack-killed q es i) ∙ sym (each-each (stack_of f) kill f.logs)

  pub world-killed : world_of gone ≡ killed p (world_of f)
  unfolding world_of killed each_stack
  world-killed i = record {
    clock = f.clock;
    stacks = stacks-killed i;
    pairs = each (pairs-same f gone s edits.paths (pairs-kept f.tables u d.pairs) i) f.units;
  }

  pub stands-killed : Stands gone
  stands-killed =
      stands-same f gone s edits.paths (pairs-kept f.tables u d.pairs) refl linked tree
      (λ n. d.living n ∙ ap (λ b. if n == number then false else b) (s.living n) ∙ removed-lives f.jails s.linked number alive n)
      d.sound (λ q known. s.listed q (removed-known f.jails s.linked number alive q known)) s.logs_rise s.read

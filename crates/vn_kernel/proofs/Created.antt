-- A jail is made: what its tables, its number and its transcript stand for is the world of the machine.
use Rattle.std.proofs.Common.{◌≡◌, ◌≢◌, ◌⊎◌, ℕ, ◌+◌, ◌<◌, ◌≤◌, ◌==◌, Bool, true, false, List, [], ◌∷◌, ◌++◌, length, map, Option, Some, None, inl, inr, refl, sym, ap, ap₂, ◌∙◌, arith}
use Rattle.std.specs.Prelude.{if◌then◌else◌, is_some, unwrap_or}
use Rattle.std.specs.List.{list_any}
use Rattle.vn_types.specs.Entries.{each, find, put}
use Rattle.vn_types.specs.Paths.{Path, above, is_host, path_cmp, path_eq}
use Rattle.vn_types.specs.PathOrder.{path_cmp-exact, path_total}
use Rattle.vn_types.proofs.Ancestors.{not-above}
use Rattle.vn_types.proofs.EntryLaws.{each-put}
use Rattle.vn_types.specs.declared.half.Half.{Half}
use Rattle.vn_types.specs.declared.interface.HalfId.{HalfId}
use Rattle.vn_rules.specs.Construction.{constructed_parts}
use Rattle.vn_rules.specs.Renamed.{renamed}
use Rattle.vn_rules.proofs.Renaming.{constructed_parts-renamed}
use Rattle.vn_epair.specs.Pairs.{of}
use Rattle.vn_jail.specs.Kept.{IsLinked, IsTree}
use Rattle.vn_jail.specs.Tree.{created as created_of, is_alive, is_known, number_of, path_at}
use Rattle.vn_jail.proofs.Numbers.{alive-known, number-known, number-none}
use Rattle.vn_vmove.specs.declared.tables.Tables.{Tables}
use Rattle.vn_vmove.specs.Parts.{pair_at, parts}
use Rattle.vn_cells.specs.declared.transcript.Entry.{Entry}
use Rattle.vn_cells.specs.declared.world.Children.{Children}
use Rattle.vn_cells.specs.declared.world.Live.{Live}
use Rattle.vn_cells.specs.declared.world.Reader.{Reader}
use Rattle.vn_cells.specs.declared.world.Stack.{Stack}
use Rattle.vn_cells.specs.declared.world.World.{World}
use Rattle.vn_cells.specs.commands.Jails.{construct, counted_by, created, init_entry, one_more, recount, recount_above, rows}
use Rattle.vn_cells.specs.world.World.{each_stack, edit_stack, live_map, stack_at}
use Rattle.vn_laws.proofs.edits.Cells.{none_lives, stack_at-each_stack}
use Rattle.vn_kernel.specs.Construction.{Constructs}
use Rattle.vn_kernel.specs.Fields.{Fields}
use Rattle.vn_kernel.specs.Naming.{name_of}
use Rattle.vn_kernel.specs.Stands.{Leaves, Stands}
use Rattle.vn_kernel.specs.Worlds.{children_at, live_at, live_of, logged, readers_of, stack_of, world_of}
use Rattle.vn_kernel.proofs.Jails.{alive-numbered, created-alive, created-children, created-known, created-lives, created-number, created-others-alive, created-others-children, created-others-number, created-paths}
use Rattle.vn_kernel.proofs.Names.{pairs-same, stands-same}
use Rattle.vn_kernel.proofs.Others.{EditsStack, other-stack, pairs-kept}
use Rattle.vn_kernel.proofs.Views.{logged-read, logged-rises, own-listed, stack-dead, stack-here, stack-live, still-listed}

-- each value made anew from what was made
pub each-each : {K U V W : Type 0} (f : K → U → V) (g : K → V → W) (es : List (K × U)) → each g (each f es) ≡ each (λ k u. g k (f k u)) es
unfolding each
each-each f g [] = refl
each-each f g (e ∷ es) = λ i. (e.0, g e.0 (f e.0 e.1)) ∷ each-each f g es i

-- the stack of a path that was just constructed, by what it had
pub constructed-stack : (g : Fields) (p : Path) (clock : ℕ) (children : Option Children) (es : List Entry) (was : Option Live) → is_alive p g.jails ≡ true
    → children_at g.jails (number_of p g.jails) ≡ children → parts g.tables (number_of p g.jails) ≡ constructed_parts
    → stack_of g p (es ++ map (init_entry clock) rows) ≡ construct clock children (record { entries = es; readers = readers_of g p; live = was })
constructed-stack g p clock children es was alive told here =
    stack-live g p (es ++ map (init_entry clock) rows) alive
    ∙ (λ i. record {
      entries = es ++ map (init_entry clock) rows;
      readers = readers_of g p;
      live = Some (record { children = told i; parts = (ap (renamed (name_of g)) here ∙ constructed_parts-renamed (name_of g)) i });
    })

stack-shape : (f : Fields) (p : Path) (es : List Entry) → stack_of f p es ≡ record { entries = es; readers = readers_of f p; live = live_at f p }
unfolding stack_of
stack-shape f p es = refl

module _ (f : Fields) (s : Stands f) (p : Path) (label : is_host p ≡ false) (dead : is_alive p f.jails ≡ false) (limit : ℕ)
    (linked : IsLinked (created_of p limit f.jails)) (tree : IsTree (created_of p limit f.jails)) (few : length (created_of p limit f.jails) ≤ length f.jails + 1)
    (u : Tables) (c : Constructs (number_of p f.jails) f.tables u) where
  -- what is kept then
  abbrev pub made : Fields
  made = record f { jails = created_of p limit f.jails; logs = logged p (map (init_entry f.clock) rows) f.logs; tables = u }

  paths : (n : ℕ) → n < length f.jails → path_at (created_of p limit f.jails) n ≡ path_at f.jails n
  paths = created-paths f.jails s.linked p label dead limit

  edits : EditsStack (number_of p f.jails) p one_more f made
  edits = record {
    paths = paths;
    children = created-others-children f.jails s.linked p label dead limit linked;
    pairs = c.pairs;
    others = c.others;
    readers = refl;
  }

  another : (q : Path) → q ≢ p → (es : List Entry) → stack_of made q es ≡ recount_above p one_more q (stack_of f q es)
  another q ne es =
      other-stack s edits q es (created-others-alive f.jails s.linked p label dead limit linked q ne)
      (λ alive. (created-others-number f.jails s.linked p label dead limit linked q (alive-known f.jails q alive), apart alive))
    where
      apart : is_alive q f.jails ≡ true → number_of q f.jails ≢ number_of p f.jails
      apart alive e = by (is_known p f.jails) refl
        where
          by : (b : Bool) → is_known p f.jails ≡ b → ⊥
          by true here = ne (sym (alive-numbered f.jails q alive).1 ∙ ap (path_at f.jails) e ∙ (number-known f.jails p here).1)
          by false here = absurd (omega (arith, e, (alive-numbered f.jails q alive).0, number-none f.jails p here))

  -- ---- its own

  abbrev log : List Entry
  log = unwrap_or (find path_cmp p f.logs) []

  abbrev counted : World
  counted = each_stack (recount_above p one_more) (world_of f)

  untold : stack_at (each_stack (recount_above p one_more) (world_of f)) p ≡ record { entries = log; readers = readers_of f p; live = live_at f p }
  untold =
      stack_at-each_stack (recount_above p one_more) (world_of f) p (none_lives (list_any (path_eq p) (above p)) (recount one_more))
      ∙ ap (λ b. if b then live_map (recount one_more) (stack_at (world_of f) p) else stack_at (world_of f) p) (not-above p)
      ∙ stack-here f s p ∙ stack-shape f p log

  same-own : number_of p (created_of p limit f.jails) ≡ number_of p f.jails
  same-own = created-number f.jails s.linked p label dead limit linked

  own-stack : stack_of made p (log ++ map (init_entry f.clock) rows) ≡ construct f.clock (Some (record { limit = limit; living = 0 })) (stack_at (each_stack (recount_above p one_more) (world_of f)) p)
  own-stack =
      constructed-stack made p f.clock (Some (record { limit = limit; living = 0 })) log (live_at f p)
      (created-alive f.jails s.linked p label dead limit linked)
      (ap (children_at (created_of p limit f.jails)) same-own ∙ created-children f.jails s.linked p label dead limit linked)
      (ap (parts u) same-own ∙ c.here)
      ∙ ap (construct f.clock (Some (record { limit = limit; living = 0 }))) (sym untold)

  -- ---- the world

  stacks-created : each (stack_of made) (logged p (map (init_entry f.clock) rows) f.logs)
      ≡ put path_cmp p (construct f.clock (Some (record { limit = limit; living = 0 })) (stack_at (each_stack (recount_above p one_more) (world_of f)) p)) (each (recount_above p one_more) (each (stack_of f) f.logs))
  unfolding logged
  stacks-created =
      each-put path_cmp path_total path_cmp-exact (λ q es. recount_above p one_more q (stack_of f q es)) (stack_of made) p (λ q ne es. another q ne es)
      (log ++ map (init_entry f.clock) rows) f.logs s.logs_rise
      ∙ ap₂ (λ (x : Stack) (es : List (Path × Stack)). put path_cmp p x es) own-stack (sym (each-each (stack_of f) (recount_above p one_more) f.logs))

  world-created : world_of made ≡ created f.clock p limit (world_of f)
  unfolding world_of created edit_stack each_stack
  world-created i = record {
    clock = f.clock;
    stacks = stacks-created i;
    pairs = each (pairs-same f made s paths (pairs-kept f.tables u c.pairs) i) f.units;
  }

  stands-created : Stands made
  stands-created =
      stands-same f made s paths (pairs-kept f.tables u c.pairs) refl linked tree
      (λ n. c.living n ∙ ap (λ b. if n == number_of p f.jails then true else b) (s.living n) ∙ created-lives f.jails s.linked p label dead limit linked n)
      c.sound listed (logged-rises p (map (init_entry f.clock) rows) f.logs s.logs_rise) (logged-read p (map (init_entry f.clock) rows) f.logs f.readers s.read)
    where
      listed : (q : Path) → is_known q (created_of p limit f.jails) ≡ true → is_some (find path_cmp q (logged p (map (init_entry f.clock) rows) f.logs)) ≡ true
      listed q known = by (created-known f.jails s.linked p label dead limit linked q known)
        where
          by : (q ≡ p) ⊎ (is_known q f.jails ≡ true) → is_some (find path_cmp q (logged p (map (init_entry f.clock) rows) f.logs)) ≡ true
          by (inl e) = ap (λ r. is_some (find path_cmp r (logged p (map (init_entry f.clock) rows) f.logs))) e ∙ own-listed p (map (init_entry f.clock) rows) f.logs
          by (inr here) = still-listed p (map (init_entry f.clock) rows) f.logs q (s.listed q here)

  -- the machine's world of a creation
  pub leaves-created : Leaves (created f.clock p limit (world_of f)) f made
  leaves-created = record {
    world = world-created;
    stands = stands-created;
    grows = record { jails = few; pairs = omega (arith, ap length c.pairs) };
    read = refl;
  }

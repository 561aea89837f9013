-- A pair that is made under a number: what the world becomes, and that all fits together still.
use Rattle.std.proofs.Common.{◌≡◌, ◌≢◌, ℕ, ◌<◌, ◌^◌, ◌==◌, Bool, true, false, List, [], Option, Some, None, IfSome, unwrap_or, refl, sym, ap, ap₂, ◌∙◌, subst, arith, ⊎_elim}
use Rattle.std.specs.Prelude.{if◌then◌else◌}
use Rattle.std.specs.List.{AllByRecursion}
use Rattle.std.specs.Option.{option_map}
use Rattle.std.proofs.lemmas.Bool.{cases_eq, false_from_ne_true, ne_eqb, true≢false}
use Rattle.std.proofs.lemmas.List.{get_or_past}
use Rattle.vn_types.specs.declared.half.Half.{Half}
use Rattle.vn_types.specs.declared.interface.HalfId.{HalfId}
use Rattle.vn_types.specs.declared.interface.Side.{Side}
use Rattle.vn_types.specs.declared.interface.Side.TheVariants.{A, B}
use Rattle.vn_types.specs.Entries.{each, find, put}
use Rattle.vn_types.specs.PathOrder.{key_ties}
use Rattle.vn_types.specs.Paths.{Path, Key, key_cmp, key_eq, path_eq}
use Rattle.vn_types.specs.PerStack.{ChangesOnly}
use Rattle.vn_types.proofs.EntryLaws.{each-put, find-put, sorted-put}
use Rattle.vn_types.proofs.Options.{none_some}
use Rattle.vn_types.proofs.PathNames.{key_cmp-exact, key_eq-Decides, key_total}
use Rattle.vn_rules.specs.declared.parts.PartsOf.{PartsOf}
use Rattle.vn_rules.specs.Renamed.{renamed}
use Rattle.vn_epair.specs.Halves.{Pair as PairOfNumber}
use Rattle.vn_epair.specs.Pairs.{new_pair}
use Rattle.vn_jail.specs.Tree.{is_alive, number_of, path_at}
use Rattle.vn_vmove.specs.declared.tables.Tables.{Tables}
use Rattle.vn_vmove.specs.Moves.{half_on as number_on}
use Rattle.vn_vmove.specs.Nets.{attached as attached_at}
use Rattle.vn_vmove.specs.Parts.{pair_at, parts}
use Rattle.vn_vmove.specs.Sound.{stands_at}
use Rattle.vn_vmove.proofs.Deciding.{eq-refl}
use Rattle.vn_vmove.proofs.Edits.{each_pair, some_map}
use Rattle.vn_cells.specs.declared.transcript.Entry.{Entry}
use Rattle.vn_cells.specs.declared.world.Stack.{Stack}
use Rattle.vn_cells.specs.world.Names.{half_on}
use Rattle.vn_cells.specs.world.World.{add_pair, each_stack}
use Rattle.vn_cells.specs.commands.Pairs.{attached, made_pair, new_pair as pair_made}
use Rattle.vn_laws.proofs.pairs.Cut.{changed}
use Rattle.vn_laws.proofs.pairs.Made.{two}
use Rattle.vn_kernel.specs.Fields.{Fields}
use Rattle.vn_kernel.specs.Makings.{made, Makes}
use Rattle.vn_kernel.specs.Naming.{half_by, key_by, key_in, name_of}
use Rattle.vn_kernel.specs.Stands.{Leaves, Stands}
use Rattle.vn_kernel.specs.Worlds.{children_at, live_of, pair_by, pair_of, readers_of, stack_of, world_of}
use Rattle.vn_kernel.proofs.making.Entries.{all-put, all_entries}
use Rattle.vn_kernel.proofs.NamedThere.{same-named}
use Rattle.vn_kernel.proofs.moving.Halves.{attached-renamed}
use Rattle.vn_kernel.proofs.moving.Nets.{each-agree, each-twice, number-alive}
use Rattle.vn_kernel.proofs.moving.Refused.{number-lives, number-path}

module _ (f : Fields) (s : Stands f) (p : Path) (alive : is_alive p f.jails ≡ true) (unit : ℕ) (fits : unit < 2 ^ 32) (n : ℕ) (u : Tables)
    (m : Makes (number_of p f.jails) unit n f.tables u) (free : find key_cmp (p, unit) f.units ≡ None) where
  abbrev home : ℕ
  home = number_of p f.jails

  abbrev k : Key
  k = (p, unit)

  abbrev g : Fields
  g = record f { tables = u; units = put key_cmp (p, unit) n f.units }

  -- ---- pairs and names

  back : path_at f.jails home ≡ p
  back = number-path s p alive

  pair-new : pair_at u n ≡ Some (new_pair home unit)
  unfolding made
  pair-new = m.pairs n ∙ ap (λ b. if b then Some (new_pair home unit) else pair_at f.tables n) (eq-refl n)

  pair-other : ChangesOnly n (pair_at f.tables) (pair_at u)
  unfolding made
  pair-other = record { others = λ j ne. m.pairs j ∙ ap (λ b. if b then Some (new_pair home unit) else pair_at f.tables j) (ne_eqb j n ne) }

  fresh : pair_at f.tables n ≡ None
  fresh = get_or_past f.tables.pairs n None (omega (arith, m.number))

  key-new : key_in g n ≡ Some (p, unit)
  unfolding key_in
  key-new = ap (option_map (key_by f.jails)) pair-new ∙ (λ i. Some (back i, unit))

  key-other : (j : ℕ) → j ≢ n → key_in g j ≡ key_in f j
  unfolding key_in
  key-other j ne = ap (option_map (key_by f.jails)) (pair-other.others j ne)

  -- what has a home and a unit is another pair
  called-other : (j : ℕ) (q : Key) → key_in f j ≡ Some q → j ≢ n
  unfolding key_in
  called-other j q is e = none_some q (sym (ap (λ o. option_map (key_by f.jails) o) (ap (pair_at f.tables) e ∙ fresh)) ∙ is)

  name-new : (side : Side) → name_of g (number_on side n) ≡ half_on side (p, unit)
  unfolding name_of
  name-new side = ap (half_by f.jails (number_on side n)) pair-new ∙ (λ i. record { home = back i; unit = unit; side = side })

  name-other : (h : HalfId) → h.pair ≢ n → name_of g h ≡ name_of f h
  unfolding name_of
  name-other h ne = ap (half_by f.jails h) (pair-other.others h.pair ne)

  -- ---- the tables of each stack

  abbrev both : Bool → PartsOf Half → PartsOf Half
  both b x = if b then attached (half_on B (p, unit)) (attached (half_on A (p, unit)) x) else x

  parts-old : (q : ℕ) → renamed (name_of g) (parts f.tables q) ≡ renamed (name_of f) (parts f.tables q)
  parts-old q = same-named s.sound q (name_of g) (name_of f) (λ h there. name-other h (λ e. true≢false (sym there ∙ ap (stands_at q h.side) (ap (pair_at f.tables) e ∙ fresh))))

  parts-new : (q : ℕ) (b : Bool) → (q == home) ≡ b → renamed (name_of g) (parts u q) ≡ both b (renamed (name_of f) (parts f.tables q))
  unfolding made
  parts-new q b e = ap (renamed (name_of g)) (m.parts q ∙ ap (λ c. if c then attached_at (number_on B n) (if c then attached_at (number_on A n) (parts f.tables q) else parts f.tables q) else (if c then attached_at (number_on A n) (parts f.tables q) else parts f.tables q)) e) ∙ by b
    where
      by : (b : Bool) → renamed (name_of g) (if b then attached_at (number_on B n) (if b then attached_at (number_on A n) (parts f.tables q) else parts f.tables q) else (if b then attached_at (number_on A n) (parts f.tables q) else parts f.tables q))
          ≡ both b (renamed (name_of f) (parts f.tables q))
      by true =
          attached-renamed (name_of g) (number_on B n) (attached_at (number_on A n) (parts f.tables q))
          ∙ ap (attached (name_of g (number_on B n))) (attached-renamed (name_of g) (number_on A n) (parts f.tables q))
          ∙ (λ i. attached (name-new B i) (attached (name-new A i) (parts-old q i)))
      by false = parts-old q

  -- ---- stacks

  same_number : (q : Path) → is_alive q f.jails ≡ true → (number_of q f.jails == home) ≡ path_eq q p
  same_number q lives = sym (number-alive f s.linked home (number-lives s p alive) q lives) ∙ ap (path_eq q) back

  stacks-made : (q : Path) (es : List Entry) → stack_of g q es ≡ two p unit (path_eq q p) (stack_of f q es)
  unfolding stack_of
  stacks-made q es = by (path_eq q p) refl (is_alive q f.jails) refl
    where
      by : (b : Bool) → path_eq q p ≡ b → (a : Bool) → is_alive q f.jails ≡ a
          → ◌≡◌ {A = Stack} (record { entries = es; readers = readers_of f q; live = if a then Some (live_of g (number_of q f.jails)) else None })
          (two p unit b (record { entries = es; readers = readers_of f q; live = if a then Some (live_of f (number_of q f.jails)) else None }))
      by true e false d = refl
      by false e false d = refl
      by true e true d = λ i. record {
        entries = es;
        readers = readers_of f q;
        live = Some (record { children = children_at f.jails (number_of q f.jails); parts = parts-new (number_of q f.jails) true (same_number q d ∙ e) i });
      }
      by false e true d = λ i. record {
        entries = es;
        readers = readers_of f q;
        live = Some (record { children = children_at f.jails (number_of q f.jails); parts = parts-new (number_of q f.jails) false (same_number q d ∙ e) i });
      }

  -- ---- the world

  stacks-after : each (stack_of g) f.logs ≡ each (λ q x. changed (attached (half_on B (p, unit))) (path_eq q p) x) (each (λ q x. changed (attached (half_on A (p, unit))) (path_eq q p) x) (each (stack_of f) f.logs))
  stacks-after =
      (λ i. each (λ q es. stacks-made q es i) f.logs)
      ∙ sym (each-twice (λ q es. changed (attached (half_on A (p, unit))) (path_eq q p) (stack_of f q es)) (λ q x. changed (attached (half_on B (p, unit))) (path_eq q p) x) f.logs)
      ∙ ap (each (λ q x. changed (attached (half_on B (p, unit))) (path_eq q p) x)) (sym (each-twice (stack_of f) (λ q x. changed (attached (half_on A (p, unit))) (path_eq q p) x) f.logs))

  its-pair : pair_of g (p, unit) n ≡ pair_made (p, unit)
  unfolding pair_of
  its-pair = ap (λ (o : Option PairOfNumber). pair_by f.jails (unwrap_or o (new_pair 0 0))) pair-new ∙ (λ i. pair_made (back i, unit))

  other-pair : (q : Key) (j : ℕ) → key_in f j ≡ Some q → pair_of g q j ≡ pair_of f q j
  unfolding pair_of
  other-pair q j is = ap (λ (o : Option PairOfNumber). pair_by f.jails (unwrap_or o (new_pair 0 0))) (pair-other.others j (called-other j q is))

  pairs-after : each (pair_of g) (put key_cmp (p, unit) n f.units) ≡ put key_cmp (p, unit) (pair_made (p, unit)) (each (pair_of f) f.units)
  pairs-after =
      each-put key_cmp key_total key_cmp-exact (pair_of g) (pair_of g) (p, unit) (λ q ne v. refl) n f.units s.units_rise
      ∙ ap₂ (put key_cmp (p, unit)) its-pair (each-agree (pair_of g) (pair_of f) (λ (e : Key × ℕ). key_in f e.1 ≡ Some e.0) other-pair f.units s.paired)

  world-made : world_of g ≡ made_pair (p, unit) (world_of f)
  unfolding world_of made_pair each_stack add_pair
  world-made i = record { clock = f.clock; stacks = stacks-after i; pairs = pairs-after i }

  -- ---- what fits together

  keyed-made : (j : ℕ) → IfSome (key_in g j) (λ q. find key_cmp q (put key_cmp (p, unit) n f.units) ≡ Some j)
  keyed-made j = ⊎_elim here there (cases_eq j n)
    where
      here : j ≡ n → IfSome (key_in g j) (λ q. find key_cmp q (put key_cmp (p, unit) n f.units) ≡ Some j)
      here e = subst (λ o. IfSome o (λ q. find key_cmp q (put key_cmp (p, unit) n f.units) ≡ Some j)) (sym (ap (key_in g) e ∙ key-new))
          (find-put key_cmp key_eq-Decides key_ties (p, unit) n f.units (p, unit) ∙ ap (λ b. if b then Some n else find key_cmp (p, unit) f.units) ((key_eq-Decides (p, unit) (p, unit)).1 refl) ∙ ap Some (sym e))

      there : j ≢ n → IfSome (key_in g j) (λ q. find key_cmp q (put key_cmp (p, unit) n f.units) ≡ Some j)
      there ne = subst (λ o. IfSome o (λ q. find key_cmp q (put key_cmp (p, unit) n f.units) ≡ Some j)) (sym (key-other j ne))
          (some_map (key_in f j) (λ q. find key_cmp q f.units ≡ Some j) (λ q. find key_cmp q (put key_cmp (p, unit) n f.units) ≡ Some j) old (s.keyed j))
        where
          old : (q : Key) → find key_cmp q f.units ≡ Some j → find key_cmp q (put key_cmp (p, unit) n f.units) ≡ Some j
          old q is = find-put key_cmp key_eq-Decides key_ties (p, unit) n f.units q
              ∙ ap (λ b. if b then Some n else find key_cmp q f.units) (false_from_ne_true (key_eq q (p, unit)) (λ e. none_some j (sym free ∙ ap (λ x. find key_cmp x f.units) (sym ((key_eq-Decides q (p, unit)).0 e)) ∙ is)))
              ∙ is

  paired-made : AllByRecursion (λ (e : Key × ℕ). key_in g e.1 ≡ Some e.0) (put key_cmp (p, unit) n f.units)
  paired-made = all-put (λ (e : Key × ℕ). key_in g e.1 ≡ Some e.0) key_cmp key_cmp-exact (p, unit) n key-new f.units
      (all_entries (λ (e : Key × ℕ). key_in f e.1 ≡ Some e.0) (λ (e : Key × ℕ). key_in g e.1 ≡ Some e.0) (λ e is. key-other e.1 (called-other e.1 e.0 is) ∙ is) f.units s.paired)

  pub made-leaves : Leaves (made_pair (p, unit) (world_of f)) f (record f { tables = u; units = put key_cmp (p, unit) n f.units })
  made-leaves = record {
    world = world-made;
    stands = record {
      linked = s.linked;
      tree = s.tree;
      living = λ q. m.lives q ∙ s.living q;
      sound = m.sound;
      listed = s.listed;
      logs_rise = s.logs_rise;
      read = s.read;
      keyed = keyed-made;
      paired = paired-made;
      units_rise = sorted-put key_cmp key_total (p, unit) n f.units s.units_rise;
      small = each_pair n (Some (new_pair home unit)) (pair_at f.tables) (pair_at u) pair-new pair-other (λ j pair. pair.unit < 2 ^ 32) fits s.small;
    };
    grows = record { jails = omega arith; pairs = omega (arith, m.numbers) };
    read = refl;
  }

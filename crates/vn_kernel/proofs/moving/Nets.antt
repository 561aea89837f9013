-- The world that a net of stacks and pairs stands for, and what each edit of the net makes of it.
use Rattle.std.proofs.Common.{◌≡◌, ℕ, ◌==◌, Bool, true, false, not, cond, List, [], ◌∷◌, Some, None, refl, sym, ap, ◌∙◌}
use Rattle.std.specs.Prelude.{filter, unwrap_or, if◌then◌else◌}
use Rattle.std.specs.Cmp.{both_ways}
use Rattle.std.specs.List.{AllByRecursion}
use Rattle.std.specs.Option.{option_map}
use Rattle.std.proofs.lemmas.Bool.{eq-eqb, eqb-true, false≢true, not-true, true≢false}
use Rattle.vn_types.specs.declared.half.Half.{Half}
use Rattle.vn_types.specs.declared.interface.HalfId.{HalfId}
use Rattle.vn_types.specs.Entries.{each}
use Rattle.vn_types.specs.Paths.{Path, Key, key_eq, path_eq}
use Rattle.vn_types.specs.PathOrder.{path_eq-Decides}
use Rattle.vn_rules.specs.declared.parts.PartsOf.{PartsOf}
use Rattle.vn_rules.specs.Renamed.{renamed}
use Rattle.vn_epair.specs.Halves.{Pair as PairOfNumber}
use Rattle.vn_epair.specs.Pairs.{new_pair}
use Rattle.vn_jail.specs.Kept.{IsLinked}
use Rattle.vn_jail.specs.Tree.{at, is_alive, number_of, path_at}
use Rattle.vn_jail.proofs.Numbers.{number-is, within}
use Rattle.vn_vmove.specs.declared.tables.Tables.{Tables}
use Rattle.vn_vmove.specs.Nets.{Becomes, Net, net_of, on_pair, on_stack, without_pair}
use Rattle.vn_cells.specs.declared.transcript.Entry.{Entry}
use Rattle.vn_cells.specs.declared.world.Live.{Live}
use Rattle.vn_cells.specs.declared.world.Pair.{Pair}
use Rattle.vn_cells.specs.declared.world.Stack.{Stack}
use Rattle.vn_cells.specs.declared.world.World.{World}
use Rattle.vn_cells.specs.world.World.{drop_pair, each_pair, each_stack, edit_live, edit_pair, live_map, on_parts}
use Rattle.vn_kernel.specs.Fields.{Fields}
use Rattle.vn_kernel.specs.Naming.{key_in, name_of}
use Rattle.vn_kernel.specs.Stands.{Stands}
use Rattle.vn_kernel.specs.Worlds.{children_at, pair_by, pair_of, readers_of, stack_of, world_of}
use Rattle.vn_kernel.proofs.Jails.{alive-numbered}
use Rattle.vn_kernel.proofs.moving.Faithful.{key-number}

-- ---- lists of keys with values

module _ {K V W : Type 0} where
  -- values that are made one after another
  pub each-twice : {X : Type 0} (f : K → V → W) (g : K → W → X) (es : List (K × V)) → each g (each f es) ≡ each (λ k v. g k (f k v)) es
  unfolding each
  each-twice f g [] = refl
  each-twice f g (e ∷ es) = ap (λ xs. (e.0, g e.0 (f e.0 e.1)) ∷ xs) (each-twice f g es)

  -- values that are made alike of each entry for which something holds
  pub each-agree : (f g : K → V → W) (P : K × V → Type 0) → ((k : K) (v : V) → P (k, v) → f k v ≡ g k v) → (es : List (K × V)) → AllByRecursion P es → each f es ≡ each g es
  unfolding each
  each-agree f g P same [] all = refl
  each-agree f g P same (e ∷ es) all = λ i. (e.0, same e.0 e.1 all.0 i) ∷ each-agree f g P same es all.1 i

  -- and of those alone that pass a test of keys
  each-left : (f g : K → V → W) (P : K × V → Type 0) (test : K → Bool) → ((k : K) (v : V) → P (k, v) → test k ≡ true → f k v ≡ g k v) → (es : List (K × V)) → AllByRecursion P es
      → each f (filter (λ e. test e.0) es) ≡ filter (λ e. test e.0) (each g es)
  unfolding each
  each-left f g P test same [] all = refl
  each-left f g P test same (e ∷ es) all = by (test e.0) refl (each-left f g P test same es all.1)
    where
      by : (b : Bool) → test e.0 ≡ b → each f (filter (λ e. test e.0) es) ≡ filter (λ e. test e.0) (each g es)
          → each f (cond b (e ∷ filter (λ e. test e.0) es) (filter (λ e. test e.0) es)) ≡ cond b ((e.0, g e.0 e.1) ∷ filter (λ e. test e.0) (each g es)) (filter (λ e. test e.0) (each g es))
      by true t more = λ i. (e.0, same e.0 e.1 all.0 t i) ∷ more i
      by false t more = more

-- ---- the world of a net

-- what lives under a number
abbrev pub live_in : Fields → (HalfId → Half) → Net → ℕ → Live
live_in f r net number = record { children = children_at f.jails number; parts = renamed r (net.parts number) }

-- the stack of a path
abbrev pub stack_in : Fields → (HalfId → Half) → Net → Path → List Entry → Stack
stack_in f r net p entries = record {
  entries = entries;
  readers = readers_of f p;
  live = if is_alive p f.jails then Some (live_in f r net (number_of p f.jails)) else None;
}

-- the pair of a number
abbrev pub pair_in : Fields → Net → Key → ℕ → Pair
pair_in f net k number = pair_by f.jails (unwrap_or (net.pairs number) (new_pair 0 0))

-- all stacks and pairs, where halves are called so
abbrev pub world_in : Fields → (HalfId → Half) → Net → World
world_in f r net = record { clock = f.clock; stacks = each (stack_in f r net) f.logs; pairs = each (pair_in f net) f.units }

pub world-net : (f : Fields) → world_of f ≡ world_in f (name_of f) (net_of f.tables)
unfolding world_of stack_of pair_of
world-net f = refl

-- the world after a call
pub world-becomes : (f : Fields) (r : HalfId → Half) (net : Net) (old new : Tables) → Becomes net old new → world_in f r (net_of new) ≡ world_in f r net
world-becomes f r net old new b i = world_in f r (record { parts = λ q. b.parts q i; pairs = λ n. b.pairs n i })

-- halves may be called otherwise where that makes no difference to any stack
pub world-agree : (f : Fields) (r s : HalfId → Half) (net : Net) → ((q : ℕ) → renamed r (net.parts q) ≡ renamed s (net.parts q)) → world_in f r net ≡ world_in f s net
world-agree f r s net same i = record {
  clock = f.clock;
  stacks = each (λ p entries. record {
    entries = entries;
    readers = readers_of f p;
    live = if is_alive p f.jails then Some (record { children = children_at f.jails (number_of p f.jails); parts = same (number_of p f.jails) i }) else None;
  }) f.logs;
  pairs = each (pair_in f net) f.units;
}

-- ---- one stack

-- a living path is that of a number where its own number is that
pub number-alive : (f : Fields) → IsLinked f.jails → (q : ℕ) → (at f.jails q).alive ≡ true → (p : Path) → is_alive p f.jails ≡ true
    → path_eq p (path_at f.jails q) ≡ (number_of p f.jails == q)
number-alive f linked q alive p lives = both_ways _ _
    (λ e. eq-eqb (number_of p f.jails) q (number-is f.jails linked p q (within f.jails q alive) (sym ((path_eq-Decides p (path_at f.jails q)).0 e))))
    (λ e. (path_eq-Decides p (path_at f.jails q)).1 (sym (alive-numbered f.jails p lives).1 ∙ ap (path_at f.jails) (eqb-true (number_of p f.jails) q e)))

module _ (f : Fields) (s : Stands f) (r : HalfId → Half) (net : Net) where
  module _ (q : ℕ) (alive : (at f.jails q).alive ≡ true) (g : PartsOf HalfId → PartsOf HalfId) (g' : PartsOf Half → PartsOf Half)
      (same : (p : PartsOf HalfId) → renamed r (g p) ≡ g' (renamed r p)) where
    edited : (p : Path) (entries : List Entry) → stack_in f r (on_stack q g net) p entries
        ≡ (if path_eq p (path_at f.jails q) then live_map (on_parts g') (stack_in f r net p entries) else stack_in f r net p entries)
    edited p entries = by (is_alive p f.jails) (path_eq p (path_at f.jails q)) (number_of p f.jails == q) (λ lives. number-alive f s.linked q alive p lives)
      where
        number : ℕ
        number = number_of p f.jails

        old : Bool → Stack
        old a = record { entries = entries; readers = readers_of f p; live = if a then Some (live_in f r net number) else None }

        by : (a b c : Bool) → (a ≡ true → b ≡ c)
            → ◌≡◌ {A = Stack} (record { entries = entries; readers = readers_of f p; live = if a then Some (record { children = children_at f.jails number; parts = renamed r (if c then g (net.parts number) else net.parts number) }) else None })
            (if b then live_map (on_parts g') (old a) else old a)
        by true true true e = λ i. record { entries = entries; readers = readers_of f p; live = Some (record { children = children_at f.jails number; parts = same (net.parts number) i }) }
        by true false false e = refl
        by true true false e = absurd (true≢false (e refl))
        by true false true e = absurd (false≢true (e refl))
        by false true c e = refl
        by false false c e = refl

    -- the tables of one living stack change
    pub stack-edited : world_in f r (on_stack q g net) ≡ edit_live (path_at f.jails q) (on_parts g') (world_in f r net)
    unfolding each_stack
    stack-edited i = record {
      clock = f.clock;
      stacks = ((λ j. each (λ p entries. edited p entries j) f.logs)
          ∙ sym (each-twice (stack_in f r net) (λ p st. if path_eq p (path_at f.jails q) then live_map (on_parts g') st else st) f.logs)) i;
      pairs = each (pair_in f net) f.units;
    }

-- ---- one pair

module _ (f : Fields) (s : Stands f) (r : HalfId → Half) (net : Net) (n : ℕ) (k : Key) (at : key_in f n ≡ Some k) where
  -- a pair changes
  module _ (pair : PairOfNumber) (is : net.pairs n ≡ Some pair) (g : PairOfNumber → PairOfNumber) (g' : Pair → Pair) (same : pair_by f.jails (g pair) ≡ g' (pair_by f.jails pair)) where
    changed : (j : Key) (m : ℕ) → key_in f m ≡ Some j → pair_in f (on_pair n g net) j m ≡ (if key_eq j k then g' (pair_in f net j m) else pair_in f net j m)
    changed j m own = by (m == n) refl ∙ ap (λ b. if b then g' (pair_in f net j m) else pair_in f net j m) (sym (key-number s m n j k own at))
      where
        by : (b : Bool) → (m == n) ≡ b → pair_by f.jails (unwrap_or (if b then option_map g (net.pairs m) else net.pairs m) (new_pair 0 0))
            ≡ (if b then g' (pair_in f net j m) else pair_in f net j m)
        by true e =
            let there = ap net.pairs (eqb-true m n e) ∙ is in
            ap (λ o. pair_by f.jails (unwrap_or (option_map g o) (new_pair 0 0))) there ∙ same ∙ ap (λ o. g' (pair_by f.jails (unwrap_or o (new_pair 0 0)))) (sym there)
        by false e = refl

    pub pair-edited : world_in f r (on_pair n g net) ≡ edit_pair k g' (world_in f r net)
    unfolding each_pair
    pair-edited i = record {
      clock = f.clock;
      stacks = each (stack_in f r net) f.logs;
      pairs = (each-agree (pair_in f (on_pair n g net)) (λ j m. if key_eq j k then g' (pair_in f net j m) else pair_in f net j m) (λ (e : Key × ℕ). key_in f e.1 ≡ Some e.0) changed f.units s.paired
          ∙ sym (each-twice (pair_in f net) (λ j pair. if key_eq j k then g' pair else pair) f.units)) i;
    }

  -- a pair goes, with its home and unit
  left : (j : Key) (m : ℕ) → key_in f m ≡ Some j → not (key_eq j k) ≡ true → pair_in f (without_pair n net) j m ≡ pair_in f net j m
  left j m own apart = ap (λ b. pair_by f.jails (unwrap_or (if b then None else net.pairs m) (new_pair 0 0))) (sym (key-number s m n j k own at) ∙ not-true (key_eq j k) apart)

  pub pair-dropped : world_in (record f { units = filter (λ e. not (key_eq e.0 k)) f.units }) r (without_pair n net) ≡ drop_pair k (world_in f r net)
  unfolding drop_pair
  pair-dropped i = record {
    clock = f.clock;
    stacks = each (stack_in f r net) f.logs;
    pairs = each-left (pair_in f (without_pair n net)) (pair_in f net) (λ (e : Key × ℕ). key_in f e.1 ≡ Some e.0) (λ j. not (key_eq j k)) left f.units s.paired i;
  }

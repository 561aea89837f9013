-- jail(8), -r: what becomes of the halves and pairs of a stack that goes.
use Rattle.std.specs.Prelude.{◌≡◌, ◌≢◌, ◌⊎◌, ℕ, true, false, ◌==◌, not, codes, List, length, map, filter, take, Option, Some, None, IfSome, if◌then◌else◌}
use Rattle.vn_types.specs.declared.half.Half.{Half as HalfOfPath}
use Rattle.vn_types.specs.declared.interface.HalfId.{HalfId}
use Rattle.vn_types.specs.declared.interface.IfOf.{IfOf}
use Rattle.vn_types.specs.declared.interface.IfOf.TheVariants.{Lo0, Half}
use Rattle.vn_types.specs.Paths.{Path, Key, key_eq, path_eq}
use Rattle.vn_rules.specs.Construction.{RowOf}
use Rattle.vn_epair.specs.Halves.{Pair}
use Rattle.vn_epair.specs.Pairs.{half_of, pair_of}
use Rattle.vn_jail.specs.Tree.{path_at, removed}
use Rattle.vn_vmove.specs.Moves.{homeward}
use Rattle.vn_vmove.specs.Nets.{Becomes, net_of}
use Rattle.vn_vmove.specs.Parts.{pair_at}
use Rattle.vn_vmove.specs.Sound.{stands_at}
use Rattle.vn_vmove.specs.declared.tables.Tables.{Tables}
use Rattle.vn_cells.specs.commands.Jails.{rows}
use Rattle.vn_cells.specs.commands.Moves.{moved}
use Rattle.vn_cells.specs.commands.Pairs.{destroyed_pair}
use Rattle.vn_cells.specs.commands.Removal.{destroyed, homed_at, killed, lent_here, sent_home, torn_down, without_pairs}
use Rattle.vn_cells.specs.declared.transcript.Entry.{Entry}
use Rattle.vn_cells.specs.declared.transcript.What.TheVariants.{Uninit}
use Rattle.vn_cells.specs.world.World.{entry_of}
use Rattle.vn_kernel.specs.Fields.{Fields}
use Rattle.vn_kernel.specs.Naming.{key_by, name_of}
use Rattle.vn_kernel.specs.Stands.{Leaves}
use Rattle.vn_kernel.specs.Worlds.{world_of}

-- ---- what stays

-- no pair gets a number
abbrev pub GivesNoNumber : Fields → Fields → Type 0
GivesNoNumber f g = length g.tables.pairs ≡ length f.tables.pairs

-- nothing but the tables is another
abbrev pub ChangesTables : Fields → Fields → Type 0
ChangesTables f g = g ≡ record f { tables = g.tables }

-- nothing but the tables and the numbers by home and unit is another
abbrev pub ChangesPairs : Fields → Fields → Type 0
ChangesPairs f g = g ≡ record f { units = g.units; tables = g.tables }

-- ---- halves go home

-- the half, if its pair is homed elsewhere
abbrev pub homed_elsewhere : ℕ → HalfId → Option Pair → Option HalfId
homed_elsewhere q h None = None
homed_elsewhere q h (Some pair) = if pair.home == q then None else Some h

-- the half of an interface, if it is homed elsewhere than in the stack
abbrev pub lent_half : Tables → ℕ → IfOf HalfId → Option HalfId
lent_half t q Lo0 = None
lent_half t q (Half h) = homed_elsewhere q h (pair_at t h.pair)

-- a half goes home from where it stands
pub record ComesHome (h : HalfId) (f g : Fields) : Type 0 where
  -- by the names of half, path and home
  pub leaves : Leaves
      (moved (name_of f h) (path_at f.jails (half_of f.tables.pairs h).at) (name_of f h).home (world_of f)) f g
  -- by their numbers
  pub tables : Becomes (homeward h (pair_at f.tables h.pair) (net_of f.tables)) f.tables g.tables
  -- the rest stays
  pub others : ChangesTables f g

-- the halves that are lent to a stack go home, one after another
pub record SendsLentHome (q : ℕ) (f g : Fields) : Type 0 where
  -- in the world
  pub leaves : let w = world_of f in let p = path_at f.jails q in Leaves (sent_home p (lent_here w p) w) f g
  -- the rest stays
  pub others : ChangesTables f g
  -- no pair gets a number
  pub numbers : GivesNoNumber f g
  -- what stands in the stack is homed there
  pub own : (h : HalfId) → stands_at q h.side (pair_at g.tables h.pair) ≡ true
      → IfSome (pair_at g.tables h.pair) (λ pair. pair.home ≡ q)

-- ---- pairs end

-- the numbers of the pairs that are homed at a path, lowest unit first
abbrev pub homed_numbers : Path → List (Key × ℕ) → List ℕ
homed_numbers p units = map (λ e. e.1) (filter (λ e. path_eq e.0.0 p) units)

-- the pair of a number ends
pub record EndsPair (n : ℕ) (f g : Fields) : Type 0 where
  -- by its home and unit
  pub leaves : let k = key_by f.jails (pair_of f.tables.pairs n) in Leaves (destroyed_pair k (world_of f)) f g
  -- by its number
  pub pairs : (m : ℕ) → pair_at g.tables m ≡ (if m == n then None else pair_at f.tables m)
  -- its home and unit have no number
  pub units : let k = key_by f.jails (pair_of f.tables.pairs n) in g.units ≡ filter (λ e. not (key_eq e.0 k)) f.units
  -- no pair gets a number
  pub numbers : GivesNoNumber f g
  -- the rest stays
  pub others : ChangesPairs f g

-- some pairs end, and the others are what they were
pub record EndsSome (f g : Fields) : Type 0 where
  -- a pair is what it was, or gone
  pub fewer : (n : ℕ) → (pair_at g.tables n ≡ pair_at f.tables n) ⊎ (pair_at g.tables n ≡ None)
  -- no pair gets a number
  pub numbers : GivesNoNumber f g
  -- the rest stays
  pub others : ChangesPairs f g

-- the pairs that are homed in a stack end, lowest unit first
pub record EndsHomed (q : ℕ) (f g : Fields) : Type 0 where
  -- in the world
  pub leaves : let w = world_of f in let p = path_at f.jails q in Leaves (without_pairs (homed_at w p) w) f g
  -- no other pair changes
  pub ended : EndsSome f g
  -- none that is left is homed in the stack
  pub none : (n : ℕ) → IfSome (pair_at g.tables n) (λ pair. pair.home ≢ q)

-- ---- a stack ends

-- no half stands in a stack, and no pair is homed there
pub record IsAlone (q : ℕ) (t : Tables) : Type 0 where
  -- halves
  pub empty : (h : HalfId) → stands_at q h.side (pair_at t h.pair) ≡ false
  -- pairs
  pub homeless : (n : ℕ) → IfSome (pair_at t n) (λ pair. pair.home ≢ q)

-- the constructors that are destroyed after vnet_if_return, in the order of their table
abbrev pub rows_before_return : List (RowOf HalfOfPath)
rows_before_return = take 10 rows

-- the entry of vnet_if_return as it is destroyed
abbrev pub return_entry : ℕ → Entry
return_entry clock = entry_of clock (Uninit (codes "vnet_if_return"))

-- the jail of a stack ends
pub record EndsJail (q : ℕ) (f g : Fields) : Type 0 where
  -- it lives no more
  pub jails : g.jails ≡ removed (path_at f.jails q) f.jails
  -- no pair gets a number
  pub numbers : GivesNoNumber f g
  -- no time passes
  pub clock : g.clock ≡ f.clock

-- a stack in which nothing but lo0 stands is destroyed
pub record Buries (q : ℕ) (f g : Fields) : Type 0 where
  -- in the world
  pub leaves : let p = path_at f.jails q in
      Leaves (killed p (torn_down f.clock p rows_before_return (world_of f))) f g
  -- and its jail ends
  pub ended : EndsJail q f g

-- a stack is destroyed
pub record EndsStack (q : ℕ) (f g : Fields) : Type 0 where
  -- in the world
  pub leaves : Leaves (destroyed f.clock (path_at f.jails q) (world_of f)) f g
  -- and its jail ends
  pub ended : EndsJail q f g

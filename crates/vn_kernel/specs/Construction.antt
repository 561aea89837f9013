-- What construction makes of the tables.
use Rattle.std.specs.Prelude.{◌≡◌, ℕ, Bool, true, ◌==◌, nat_lt, List, [], ◌∷◌, take, Some, None, if◌then◌else◌}
use Rattle.vn_types.specs.declared.interface.HalfId.{HalfId}
use Rattle.vn_types.specs.declared.interface.IfName.TheVariants as ifname
use Rattle.vn_types.specs.declared.interface.IfOf.TheVariants.{Lo0}
use Rattle.vn_types.specs.PerStack.{ChangesOnly}
use Rattle.vn_rules.specs.declared.parts.PartsOf.{PartsOf}
use Rattle.vn_rules.specs.Construction.{bare_parts, constructed_parts, constructor_rows, run_up}
use Rattle.vn_rules.specs.Variables.{declarations, declared_variables}
use Rattle.vn_ifnet.specs.declared.interfaces.Attached.{Attached}
use Rattle.vn_inaddr.specs.Stacks.{of as addresses_of}
use Rattle.vn_loop.specs.Queues.{of as loopback_of}
use Rattle.vn_route.specs.Stacks.{of as routes_of}
use Rattle.vn_store.specs.Held.{of as variables_of}
use Rattle.vn_vmove.specs.declared.tables.Tables.{Tables}
use Rattle.vn_vmove.specs.Parts.{held, lives, parts}
use Rattle.vn_vmove.specs.Places.{KeepsNames}
use Rattle.vn_vmove.specs.Sound.{IsSound}
use Rattle.vn_vmove.specs.Tallies.{first_counts, of as tallies_of}
use Rattle.vn_kernel.specs.Constructors.{number_before}
use Rattle.vn_kernel.specs.declared.constructors.Constructor.{Constructor}
use Rattle.vn_kernel.specs.declared.constructors.Constructor.TheVariants as constructor

-- a stack gets other tables, and lives or does not
pub record Rebuilds (alive : Bool) (made : PartsOf HalfId) (number : ℕ) (old new : Tables) : Type 0 where
  -- its tables
  pub here : parts new number ≡ made
  -- those of each other stack
  pub others : ChangesOnly number (parts old) (parts new)
  -- who lives
  pub living : (q : ℕ) → lives new q ≡ (if q == number then alive else lives old q)
  -- the pairs
  pub pairs : new.pairs ≡ old.pairs
  -- the names that are reserved
  pub names : KeepsNames old new
  -- what the tables keep together
  pub sound : IsSound new

-- a stack that did not live has what the constructors leave, and lives
abbrev pub Constructs : ℕ → Tables → Tables → Type 0
Constructs = Rebuilds true constructed_parts

-- ---- one constructor after another

-- whether a constructor is among the first so many
abbrev pub is_among : ℕ → Constructor → Bool
is_among n c = nat_lt (number_before c) n

-- lo0, under its name
abbrev pub lo0 : List Attached
lo0 = record { what = Lo0; name = ifname.Lo0 } ∷ []

-- the first n constructors have run in a stack
pub record HaveRun (n number : ℕ) (t : Tables) : Type 0 where
  -- its tables are what their rows make of them
  pub rows : parts t number ≡ run_up (take n constructor_rows) bare_parts
  -- it counts
  pub counts : tallies_of t.tallies number
      ≡ (if is_among n constructor.VnetData then Some first_counts else None)
  -- the variables are those that are declared
  pub declared : t.vars.declared ≡ declarations
  -- it has each of them
  pub variables : variables_of t.vars number
      ≡ (if is_among n constructor.VnetData then Some declared_variables else None)
  -- lo0 stands in it, under its name
  pub interfaces : (held t number).attached ≡ (if is_among n constructor.Loif then lo0 else [])
  -- it has a loopback queue
  pub loopback : loopback_of t.loops number
      ≡ (if is_among n constructor.Loif then Some [] else None)

-- tables, with those that constructors write taken from others
abbrev pub with_built : Tables → Tables → Tables
with_built new old = record old {
  tallies = new.tallies;
  vars = new.vars;
  ifs = new.ifs;
  loops = new.loops;
  addrs = new.addrs;
  routes = new.routes;
}

-- constructors ran in a stack: each other stack has what it had, and no other table changed
pub record BuildsOnly (number : ℕ) (old new : Tables) : Type 0 where
  -- counts
  pub counts : ChangesOnly number (tallies_of old.tallies) (tallies_of new.tallies)
  -- variables
  pub variables : ChangesOnly number (variables_of old.vars) (variables_of new.vars)
  -- those that are declared
  pub declared : new.vars.declared ≡ old.vars.declared
  -- interfaces
  pub interfaces : ChangesOnly number (held old) (held new)
  -- the names that are reserved in the stack
  pub reserved : (held new number).reserved ≡ (held old number).reserved
  -- loopback queues
  pub loopback : ChangesOnly number (loopback_of old.loops) (loopback_of new.loops)
  -- addresses
  pub addresses : ChangesOnly number (addresses_of old.addrs) (addresses_of new.addrs)
  -- routes
  pub routes : ChangesOnly number (routes_of old.routes) (routes_of new.routes)
  -- all other tables
  pub rest : new ≡ with_built new old

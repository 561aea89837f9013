-- What destruction makes of the tables and of a transcript.
use Rattle.std.specs.Prelude.{ℕ, false, List, [], ◌∷◌}
use Rattle.vn_types.specs.Paths.{Path}
use Rattle.vn_rules.specs.Construction.{bare_parts}
use Rattle.vn_vmove.specs.declared.tables.Tables.{Tables}
use Rattle.vn_cells.specs.declared.transcript.Entry.{Entry}
use Rattle.vn_cells.specs.declared.transcript.What.TheVariants.{Uninit}
use Rattle.vn_cells.specs.world.World.{entry_of}
use Rattle.vn_kernel.specs.Construction.{Rebuilds}
use Rattle.vn_kernel.specs.Constructors.{constructor_name}
use Rattle.vn_kernel.specs.declared.constructors.Constructor.{Constructor}
use Rattle.vn_kernel.specs.Fields.{Fields}
use Rattle.vn_kernel.specs.Worlds.{with_entry}

-- a stack that lived has what a stack has before construction, and lives no more
abbrev pub Destructs : ℕ → Tables → Tables → Type 0
Destructs = Rebuilds false bare_parts

-- ---- entries

-- the entry of a destructor
abbrev pub uninit_entry : ℕ → Constructor → Entry
uninit_entry clock c = entry_of clock (Uninit (constructor_name c))

-- the entries of some destructors at a path, one after another
unfoldable pub with_destructors : Path → ℕ → List Constructor → Fields → Fields
with_destructors p clock [] f = f
with_destructors p clock (c ∷ more) f = with_destructors p clock more (with_entry p (uninit_entry clock c) f)

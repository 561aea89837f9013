-- What the kernel keeps, as a clause sees it.
use Rattle.std.specs.Prelude.{ℕ, List}
use Rattle.vn_types.specs.Paths.{Path, Key}
use Rattle.vn_jail.specs.declared.jail.Jail.{Jail}
use Rattle.vn_vmove.specs.declared.tables.Tables.{Tables}
use Rattle.vn_cells.specs.declared.transcript.Entry.{Entry}
use Rattle.vn_kernel.specs.Readers.{OpenReader}
use Rattle.vn_kernel.specs.declared.state.State.{State}

-- jails, transcripts, and the tables of stacks and pairs
pub record Fields : Type 0 where
  -- milliseconds
  pub clock : ℕ
  -- the paths that were ever constructed, by their numbers
  pub jails : List Jail
  -- the transcripts by path; a path that was never constructed may have one
  pub logs : List (Path × List Entry)
  -- the open readers by path, at each in the order of their opening
  pub readers : List (Path × List OpenReader)
  -- how many versions of listings were retired while a reader was open
  pub retired : ℕ
  -- the numbers of the pairs that exist, by home and unit
  pub units : List (Key × ℕ)
  -- what is kept of stacks and pairs, by their numbers
  pub tables : Tables

-- those of a state
abbrev pub fields : State → Fields
fields s = record {
  clock = s.clock;
  jails = s.jails;
  logs = s.logs.entries;
  readers = s.readers.entries;
  retired = s.retired;
  units = s.units.entries;
  tables = s.tables;
}

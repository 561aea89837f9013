-- Histories of a pair of host, and sets of cells with that pair.
use Rattle.std.specs.Prelude.{List, [], ◌∷◌, ◌++◌}
use Rattle.vn_types.specs.declared.interface.IfName.TheVariants.{Epair}
use Rattle.vn_types.specs.declared.interface.Side.TheVariants.{A, B}
use Rattle.vn_cells.specs.declared.cell.Cells.{Cells}
use Rattle.vn_cells.specs.declared.command.Command.TheVariants as command
use Rattle.vn_cells.specs.declared.event.Event.{Event}
use Rattle.vn_cells.specs.declared.event.Event.TheVariants as event
use Rattle.vn_laws.specs.WorkedRows.{jail_a, makes, makes_pair, lends}

-- host makes a pair of any unit on lane 1
abbrev pub makes_any : Event
makes_any = event.Cmd 1 [] command.EpairAny

-- the same as a history
abbrev pub any_pair : List Event
any_pair = makes_any ∷ []

-- host makes a jail and the pair of unit 0, and lends half b to the jail
abbrev pub loan : List Event
loan = makes jail_a 0 ∷ makes_pair 0 ∷ lends 0 B jail_a ∷ []

-- host sets half a up
abbrev pub sets_up : Event
sets_up = event.Cmd 1 [] (command.Up (Epair 0 A))

-- after the loan
abbrev pub raised : List Event
raised = loan ++ sets_up ∷ []

-- the set of host's pair of unit 0
abbrev pub pair_alone : Cells
pair_alone = record { paths = []; units = 0 ∷ [] }

-- the set of the jail and that pair
abbrev pub jail_and_pair : Cells
jail_and_pair = record { paths = jail_a ∷ []; units = 0 ∷ [] }

-- What an event changes, closed sets, and the part of a history that is a set's own.
use Rattle.std.specs.Prelude.{Bool, true, false, ◌&&◌, ◌||◌, ◌==◌, List, [], ◌∷◌, ◌++◌, map, filter, not, IsTrue, if◌then◌else◌}
use Rattle.std.specs.List.{list_any, list_all}
use Rattle.std.specs.Coded.{Coded, coded_option}
use base.Stored.{Gv, gnil, gnum, gcons}
use Rattle.vn_cells.specs.declared.cell.Cells.{Cells}
use Rattle.vn_cells.specs.declared.cell.CellName.{CellName}
use Rattle.vn_cells.specs.declared.cell.CellName.TheVariants.{Stack as OfStack, Pair as OfPair}
use Rattle.vn_cells.specs.declared.event.Event.{Event}
use Rattle.vn_cells.specs.declared.event.Event.TheVariants as event
use Rattle.vn_cells.specs.declared.world.World.{World}
use Rattle.vn_cells.specs.declared.world.Stack.{Stack}
use Rattle.vn_cells.specs.declared.world.Pair.{Pair}
use Rattle.vn_cells.specs.world.Names.{path_cmp, key_cmp}
use Rattle.vn_types.specs.Entries.{keys_in}
use Rattle.vn_cells.specs.world.World.{stack_at, pair_at}
use Rattle.vn_cells.specs.machine.Step.{step, opening}
use Rattle.vn_cells.specs.sets.Sets.{in_set, deciders}

-- each value is told apart by the tree of numbers that codes it
unfoldable pub same_tree : Gv → Gv → Bool
same_tree gnil gnil = true
same_tree (gnum m) (gnum n) = m == n
same_tree (gcons a b) (gcons c d) = same_tree a c && same_tree b d
same_tree _ _ = false

-- whether two values have one code
unfoldable pub same : {T : Type 0} → Coded T → T → T → Bool
same coded x y = same_tree (coded.code x) (coded.code y)

-- the code of a stack
abbrev pub stack_code : Coded Stack
stack_code = Rattle.vn_cells.specs.contracts.world.Stack.the_row.coded

-- the code of a pair
abbrev pub pair_code : Coded Pair
pair_code = Rattle.vn_cells.specs.contracts.world.Pair.the_row.coded

-- whether a cell differs between two worlds
unfoldable pub differs : World → World → CellName → Bool
differs old new (OfStack p) = not (same stack_code (stack_at old p) (stack_at new p))
differs old new (OfPair home unit) = not (same (coded_option pair_code) (pair_at old (home, unit)) (pair_at new (home, unit)))

-- the cells that are listed in one of two worlds, stacks first, each kind in order
unfoldable pub listed : World → World → List CellName
listed old new = map OfStack (keys_in path_cmp old.stacks new.stacks) ++ map (λ k. OfPair k.0 k.1) (keys_in key_cmp old.pairs new.pairs)

-- the cells that the event changes, transcripts included, stacks first, each kind in order
unfoldable pub changed : World → Event → List CellName
changed w event = filter (differs w (step w event)) (listed w (step w event))

-- whether the event changes a cell of the set
unfoldable pub touches : Cells → World → Event → Bool
touches set w event = list_any (in_set set) (changed w event)

-- ---- closed sets

-- where it changes a cell of the set, all that decides it is in the set
unfoldable pub is_closed_at : Cells → World → Event → Bool
is_closed_at set w event = if touches set w event then list_all (in_set set) (deciders w event) else true

-- the same of each event of a history that begins in a world
unfoldable pub is_closed_from : Cells → World → List Event → Bool
is_closed_from set w [] = true
is_closed_from set w (event ∷ events) = is_closed_at set w event && is_closed_from set (step w event) events

-- nothing decided outside the set changes a cell of it
abbrev pub IsClosed : Cells → List Event → Type 0
IsClosed set events = IsTrue (is_closed_from set opening events)

-- ---- projection

-- an event that is common to all cells, and kept in each projection
unfoldable pub is_common : Event → Bool
is_common (event.Tick n) = true
is_common _ = false

-- whether the event is in the projection onto the set
unfoldable pub is_kept : Cells → World → Event → Bool
is_kept set w event = is_common event || touches set w event

-- the projection of a history that begins in a world
unfoldable pub project_from : Cells → World → List Event → List Event
project_from set w [] = []
project_from set w (event ∷ events) =
    let rest = project_from set (step w event) events in
    if is_kept set w event then event ∷ rest else rest

-- the common events, and those that change a cell of the set
abbrev pub project : Cells → List Event → List Event
project set events = project_from set opening events

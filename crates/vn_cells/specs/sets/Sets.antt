-- Sets of cells, and which cells decide an event.
use Rattle.std.specs.Prelude.{ℕ, Option, Some, None, Bool, ◌&&◌, ◌||◌, ◌==◌, List, [], ◌∷◌, ◌++◌, map, if◌then◌else◌}
use Rattle.std.specs.List.{list_any}
use Rattle.vn_cells.specs.declared.cell.Cells.{Cells}
use Rattle.vn_cells.specs.declared.cell.CellName.{CellName}
use Rattle.vn_cells.specs.declared.cell.CellName.TheVariants.{Stack as OfStack, Pair as OfPair}
use Rattle.vn_cells.specs.declared.event.Event.{Event}
use Rattle.vn_cells.specs.declared.event.Event.TheVariants as event
use Rattle.vn_cells.specs.declared.world.World.{World}
use Rattle.vn_cells.specs.world.Names.{Path, Key, path_eq, is_host, above, key_of}
use Rattle.vn_cells.specs.world.World.{pair_at, place}
use Rattle.vn_cells.specs.machine.Reach.{Reach, reach, Near, MakesJail, RemovesJail, MakesPair, DestroysPair, SetsMac, Lends, Reclaims, MovesLo0}

-- a stack is in the set where its path is listed
unfoldable pub in_stacks : Cells → Path → Bool
in_stacks set p = list_any (path_eq p) set.paths

-- a pair is in the set where its home is listed, one of host also where its unit is
unfoldable pub in_pairs : Cells → Key → Bool
in_pairs set k = in_stacks set k.0 || (is_host k.0 && list_any (λ unit. unit == k.1) set.units)

-- whether a cell is in the set
unfoldable pub in_set : Cells → CellName → Bool
in_set set (OfStack p) = in_stacks set p
in_set set (OfPair home unit) = in_pairs set (home, unit)

-- ---- deciders

-- the issuer's stack, unless the issuer is host
abbrev pub unless_host : Path → List CellName
unless_host issuer = if is_host issuer then [] else OfStack issuer ∷ []

-- a jail that is made or removed: the jail, its ancestors other than host from the parent upwards, the issuer unless it
-- is host
abbrev pub jail_deciders : Path → Path → List CellName
jail_deciders issuer jail = OfStack jail ∷ map OfStack (above jail) ++ unless_host issuer

-- who may make, change or move a pair: at host that pair of host, elsewhere the issuer
abbrev pub pair_deciders : Path → ℕ → List CellName
pair_deciders issuer unit = if is_host issuer then OfPair issuer unit ∷ [] else OfStack issuer ∷ []

-- a pair of some unit, which at host any unit may be
abbrev pub new_pair_deciders : Path → Option ℕ → List CellName
new_pair_deciders issuer None = OfStack issuer ∷ []
new_pair_deciders issuer (Some unit) = pair_deciders issuer unit

-- what decides a command, by its issuer and how far it reaches
unfoldable pub command_deciders : Path → Reach → List CellName
command_deciders issuer Near = OfStack issuer ∷ []
command_deciders issuer (MakesJail jail limit) = jail_deciders issuer jail
command_deciders issuer (RemovesJail jail) = jail_deciders issuer jail
command_deciders issuer (MakesPair unit) = new_pair_deciders issuer unit
command_deciders issuer (DestroysPair unit side) = pair_deciders issuer unit
command_deciders issuer (SetsMac unit side mac) = pair_deciders issuer unit
command_deciders issuer (Lends unit side jail) = OfStack jail ∷ pair_deciders issuer unit
command_deciders issuer (Reclaims unit side jail) = OfStack jail ∷ pair_deciders issuer unit
command_deciders issuer (MovesLo0 jail lent) = OfStack jail ∷ OfStack issuer ∷ []

-- the stack where a half stands, if its pair exists
abbrev pub place_decider : Option Path → List CellName
place_decider None = []
place_decider (Some p) = OfStack p ∷ []

-- what decides an event in a world
unfoldable pub deciders : World → Event → List CellName
deciders w (event.Tick n) = []
deciders w (event.Cmd lane issuer command) = command_deciders issuer (reach issuer command)
deciders w (event.Deliver half) = place_decider (place half (pair_at w (key_of half)))
deciders w (event.LoopDeliver path) = OfStack path ∷ []
deciders w (event.Fire path) = OfStack path ∷ []
deciders w (event.Open lane path table) = OfStack path ∷ []
deciders w (event.Next lane path) = OfStack path ∷ []
deciders w (event.Close lane path) = OfStack path ∷ []

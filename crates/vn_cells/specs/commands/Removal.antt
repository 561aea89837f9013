-- jail(8), -r: a jail and its living descendants are destroyed.
use Rattle.std.specs.Prelude.{ℕ, ◌&&◌, not, List, [], ◌∷◌, filter, None, if◌then◌else◌}
use Rattle.std.specs.Map.{keys_of}
use Rattle.vn_types.specs.declared.errno.Errno.TheVariants as errno
use Rattle.vn_types.specs.declared.half.Half.{Half}
use Rattle.vn_rules.specs.Construction.{RowOf, DownOf, Clears, SendsHome, DestroysHomed}
use Rattle.vn_rules.specs.Rules.{Common, Rule, done}
use Rattle.vn_cells.specs.declared.transcript.What.TheVariants.{Uninit}
use Rattle.vn_cells.specs.declared.world.World.{World}
use Rattle.vn_cells.specs.world.Names.{Path, Key, path_eq, is_under, halves_of}
use Rattle.vn_cells.specs.world.World.{stack_at, is_alive, ifs_of, on_parts, noted, each_stack, edit_live}
use Rattle.vn_cells.specs.commands.Jails.{rows, recount_above, one_less}
use Rattle.vn_cells.specs.commands.Pairs.{destroyed_pair}
use Rattle.vn_cells.specs.commands.Moves.{moved}

-- ---- what the destructors reach (VNET(9))

-- the halves that are homed elsewhere, in the order of the interfaces
abbrev pub lent_here : World → Path → List Half
lent_here w p = filter (λ h. not (path_eq h.home p)) (halves_of (ifs_of (stack_at w p)))

-- the pairs that are homed there, lowest unit first
abbrev pub homed_at : World → Path → List Key
homed_at w p = filter (λ k. path_eq k.0 p) (keys_of w.pairs)

-- halves move to their homes, one after another
unfoldable pub sent_home : Path → List Half → World → World
sent_home p [] w = w
sent_home p (h ∷ halves) w = sent_home p halves (moved h p h.home w)

-- pairs are destroyed, one after another
unfoldable pub without_pairs : List Key → World → World
without_pairs [] w = w
without_pairs (k ∷ ks) w = without_pairs ks (destroyed_pair k w)

-- a destructor at a path
unfoldable pub run_down : Path → DownOf Half → World → World
run_down p (Clears f) w = edit_live p (on_parts f) w
run_down p SendsHome w = sent_home p (lent_here w p) w
run_down p DestroysHomed w = without_pairs (homed_at w p) w

-- the destructors of some rows, from the last to the first, each with its entry
unfoldable pub torn_down : ℕ → Path → List (RowOf Half) → World → World
torn_down clock p [] w = w
torn_down clock p (row ∷ more) w =
    noted clock p (Uninit row.name) (run_down p row.down (torn_down clock p more w))

-- ---- jails

-- the stack lives no more, and its ancestors other than host have one living descendant less
unfoldable pub killed : Path → World → World
killed p w =
    each_stack
    (λ q s. if path_eq q p then record s { live = None } else recount_above p one_less q s) w

-- one stack is destroyed
abbrev pub destroyed : ℕ → Path → World → World
destroyed clock p w = killed p (torn_down clock p rows w)

-- a path, where it lives, and its living descendants, in order
abbrev pub living_under : World → Path → List Path
living_under w p = filter (λ q. is_alive w q && is_under q p) (keys_of w.stacks)

-- stacks are destroyed one by one, the last of the list first
unfoldable pub destroyed_all : ℕ → List Path → World → World
destroyed_all clock [] w = w
destroyed_all clock (p ∷ ps) w = destroyed clock p (destroyed_all clock ps w)

-- a jail and its living descendants, by falling order of their paths
abbrev pub removed : ℕ → Path → World → World
removed clock p w = destroyed_all clock (living_under w p) w

-- the jail lives
abbrev pub removal : Common → Path → World → Rule World
removal common p w = record {
  refusals = (not (is_alive w p), errno.NoEnt) ∷ [];
  otherwise = done (removed common.clock p w);
}

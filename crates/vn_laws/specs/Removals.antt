-- What holds while a jail is removed.
use Rattle.std.specs.Prelude.{◌≡◌, ℕ, Bool, true, false, List, [], ◌∷◌, ◌++◌, Some, if◌then◌else◌}
use Rattle.vn_types.specs.declared.half.Half.{Half}
use Rattle.vn_rules.specs.Construction.{RowOf, DownOf, Clears, SendsHome, DestroysHomed}
use Rattle.vn_cells.specs.declared.world.Pair.{Pair}
use Rattle.vn_cells.specs.declared.world.World.{World}
use Rattle.vn_cells.specs.world.Names.{Path, Key, path_eq}
use Rattle.vn_cells.specs.world.World.{pair_at}
use Rattle.vn_cells.specs.commands.Jails.{rows}
use Rattle.vn_cells.specs.commands.Removal.{torn_down, destroyed_all, living_under}

-- a pair that is homed there stands there with both ends
abbrev pub HomeAlone : Path → World → Type 0
HomeAlone q v =
    (k : Key) (pair : Pair) → path_eq k.0 q ≡ true → pair_at v k ≡ Some pair
    → (pair.a.at ≡ q) × (pair.b.at ≡ q)

-- whether a destructor destroys the pairs that are homed in the stack
abbrev pub is_cloner : DownOf Half → Bool
is_cloner (Clears f) = false
is_cloner SendsHome = false
is_cloner DestroysHomed = true

-- the rows after the first that does, whose destructors run before
abbrev pub past_cloner : List (RowOf Half) → List (RowOf Half)
past_cloner [] = []
past_cloner (row ∷ more) = if is_cloner row.down then more else past_cloner more

-- when the pairs that are homed in one of the stacks of a removal are destroyed, after the stacks that
-- come later in order, they stand there
abbrev pub DestroysAtHome : ℕ → Path → World → Type 0
DestroysAtHome clock p w =
    (before : List Path) (q : Path) (after : List Path) → living_under w p ≡ before ++ q ∷ after
    → HomeAlone q (torn_down clock q (past_cloner rows) (destroyed_all clock after w))

-- What stands in each cell of a world, and the few edits that the machine's rules are made of.
use Rattle.std.specs.Prelude.{ℕ, ◌+◌, Bool, not, List, [], ◌∷◌, ◌++◌, filter, Option, Some, None, unwrap_or, if◌then◌else◌}
use Rattle.std.specs.Option.{option_map, is_some}
use Rattle.vn_types.specs.declared.half.Half.{Half}
use Rattle.vn_types.specs.declared.interface.Side.{Side}
use Rattle.vn_types.specs.declared.interface.Side.TheVariants.{A, B}
use Rattle.vn_rules.specs.declared.parts.PartsOf.{PartsOf}
use Rattle.vn_rules.specs.Rules.{Common}
use Rattle.vn_cells.specs.declared.transcript.Entry.{Entry}
use Rattle.vn_cells.specs.declared.transcript.What.{What}
use Rattle.vn_cells.specs.declared.world.End.{End}
use Rattle.vn_cells.specs.declared.world.Pair.{Pair}
use Rattle.vn_cells.specs.declared.world.Live.{Live}
use Rattle.vn_cells.specs.declared.world.Stack.{Stack}
use Rattle.vn_cells.specs.declared.world.World.{World}
use Rattle.vn_cells.specs.world.Names.{Path, Key, If, path_eq, path_cmp, key_eq, key_cmp, key_of}
use Rattle.vn_types.specs.Entries.{find, put, each}

-- the stack of a path that is not listed
abbrev pub no_stack : Stack
no_stack = record { entries = []; readers = []; live = None }

-- the stack of a path, living or not
unfoldable pub stack_at : World → Path → Stack
stack_at w p = unwrap_or (find path_cmp p w.stacks) no_stack

-- the pair of a home and a unit, if it exists
unfoldable pub pair_at : World → Key → Option Pair
pair_at w k = find key_cmp k w.pairs

-- what all cells share
abbrev pub common_of : World → Common
common_of w = record { clock = w.clock }

-- whether a path's stack lives
abbrev pub is_alive : World → Path → Bool
is_alive w p = is_some (stack_at w p).live

-- the interfaces of what lives
abbrev pub ifs_in : Option Live → List If
ifs_in None = []
ifs_in (Some live) = live.parts.interfaces

-- the interfaces of a stack, none where it is not alive
abbrev pub ifs_of : Stack → List If
ifs_of s = ifs_in s.live

-- the end of that side
abbrev pub end_of : Side → Pair → End
end_of A pair = pair.a
end_of B pair = pair.b

-- where the half stands, if its pair exists
abbrev pub place : Half → Option Pair → Option Path
place h None = None
place h (Some pair) = Some (end_of h.side pair).at

-- what is kept of a half, if its pair exists
abbrev pub end_at : World → Half → Option End
end_at w h = option_map (end_of h.side) (pair_at w (key_of h))

-- ---- edits of one stack

-- what lives, changed
abbrev pub live_map : (Live → Live) → Stack → Stack
live_map f s = record s { live = option_map f s.live }

-- the tables of what lives, changed
abbrev pub on_parts : (PartsOf Half → PartsOf Half) → Live → Live
on_parts f live = record live { parts = f live.parts }

-- a line of a transcript
abbrev pub entry_of : ℕ → What → Entry
entry_of clock what = record { clock = clock; what = what }

-- an entry at the end of the transcript
abbrev pub noting : Entry → Stack → Stack
noting entry s = record s { entries = s.entries ++ entry ∷ [] }

-- ---- edits of a pair

-- another end on that side
abbrev pub with_end : Side → End → Pair → Pair
with_end A end pair = record pair { a = end }
with_end B end pair = record pair { b = end }

-- ---- edits of a world

-- a path's stack, changed; the path is listed then
unfoldable pub edit_stack : Path → (Stack → Stack) → World → World
edit_stack p f w = record w { stacks = put path_cmp p (f (stack_at w p)) w.stacks }

-- each of the stacks that are listed
unfoldable pub each_stack : (Path → Stack → Stack) → World → World
each_stack f w = record w { stacks = each f w.stacks }

-- what lives at a path, changed in its place; a path that is not listed stays so
abbrev pub edit_live : Path → (Live → Live) → World → World
edit_live p f w = each_stack (λ q s. if path_eq q p then live_map f s else s) w

-- a line more in the transcript of a path
abbrev pub noted : ℕ → Path → What → World → World
noted clock p what w = edit_stack p (noting (entry_of clock what)) w

-- one pair more
unfoldable pub add_pair : Key → Pair → World → World
add_pair k pair w = record w { pairs = put key_cmp k pair w.pairs }

-- each pair, changed in its place
unfoldable pub each_pair : (Key → Pair → Pair) → World → World
each_pair f w = record w { pairs = each f w.pairs }

-- one pair, changed in its place
abbrev pub edit_pair : Key → (Pair → Pair) → World → World
edit_pair k f w = each_pair (λ q pair. if key_eq q k then f pair else pair) w

-- without a pair
unfoldable pub drop_pair : Key → World → World
drop_pair k w = record w { pairs = filter (λ e. not (key_eq e.0 k)) w.pairs }

-- so many milliseconds later
unfoldable pub later : ℕ → World → World
later n w = record w { clock = w.clock + n }

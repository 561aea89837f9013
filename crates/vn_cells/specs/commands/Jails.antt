-- jail(8), -c: a jail is made.
use Rattle.std.specs.Prelude.{ℕ, ◌+◌, ◌-◌, Bool, false, not, nat_le, List, [], ◌∷◌, ◌++◌, map, Option, Some, None, if◌then◌else◌}
use Rattle.std.specs.List.{list_any}
use Rattle.vn_types.specs.declared.half.Half.{Half}
use Rattle.vn_types.specs.declared.errno.Errno.TheVariants as errno
use Rattle.vn_rules.specs.Construction.{RowOf, bare_parts, constructor_rows, run_up}
use Rattle.vn_rules.specs.Rules.{Common, Rule, done}
use Rattle.vn_cells.specs.declared.transcript.Entry.{Entry}
use Rattle.vn_cells.specs.declared.transcript.What.TheVariants as what
use Rattle.vn_cells.specs.declared.world.Children.{Children}
use Rattle.vn_cells.specs.declared.world.Live.{Live}
use Rattle.vn_cells.specs.declared.world.Stack.{Stack}
use Rattle.vn_cells.specs.declared.world.World.{World}
use Rattle.vn_cells.specs.world.Names.{Path, path_eq, above, parent}
use Rattle.vn_cells.specs.world.World.{stack_at, is_alive, entry_of, live_map, edit_stack, each_stack}

-- ---- construction (VNET(9))

-- the rows by which stacks are constructed and destroyed
abbrev pub rows : List (RowOf Half)
rows = constructor_rows

-- a constructor's line in the transcript
abbrev pub init_entry : ℕ → RowOf Half → Entry
init_entry clock row = entry_of clock (what.Init row.name)

-- the constructors run in the order of their table, each with its entry; transcript and readers
-- go on
abbrev pub construct : ℕ → Option Children → Stack → Stack
construct clock children s = record s {
  entries = s.entries ++ map (init_entry clock) rows;
  live = Some (record { children = children; parts = run_up rows bare_parts });
}

-- ---- the number of living descendants

-- another number, where one is kept
abbrev pub counted_by : (ℕ → ℕ) → Option Children → Option Children
counted_by f None = None
counted_by f (Some children) = Some (record children { living = f children.living })

-- another number of living descendants
abbrev pub recount : (ℕ → ℕ) → Live → Live
recount f live = record live { children = counted_by f live.children }

-- in each ancestor of the path, but not in host
abbrev pub recount_above : Path → (ℕ → ℕ) → Path → Stack → Stack
recount_above p f q s = if list_any (path_eq q) (above p) then live_map (recount f) s else s

-- one living descendant more
abbrev pub one_more : ℕ → ℕ
one_more n = n + 1

-- one living descendant less
abbrev pub one_less : ℕ → ℕ
one_less n = n - 1

-- one more in a stack
abbrev pub one_more_below : Stack → Stack
one_more_below s = live_map (recount one_more) s

-- ---- the rule

-- the jail is constructed, and its ancestors other than host have one more living descendant
unfoldable pub created : ℕ → Path → ℕ → World → World
created clock p limit w =
    edit_stack p (construct clock (Some (record { limit = limit; living = 0 })))
    (each_stack (recount_above p one_more) w)

-- as many living descendants as the limit, or more
abbrev pub has_no_room : Option Children → Bool
has_no_room None = false
has_no_room (Some children) = nat_le children.limit children.living

-- the same of what lives; host has no limit
abbrev pub is_full : Option Live → Bool
is_full None = false
is_full (Some live) = has_no_room live.children

-- whether one of these jails is full
unfoldable pub any_full : World → List Path → Bool
any_full w paths = list_any (λ p. is_full (stack_at w p).live) paths

-- the parent lives, the jail does not, and no ancestor other than host is full
abbrev pub creation : Common → Path → ℕ → World → Rule World
creation common p limit w = record {
  refusals =
      (not (is_alive w (parent p)), errno.NoEnt) ∷ (is_alive w p, errno.Exist)
      ∷ (any_full w (above p), errno.Perm) ∷ [];
  otherwise = done (created common.clock p limit w);
}

-- A stack dies, and its ancestors have one living descendant less.
use Rattle.std.proofs.Common.{◌≡◌, Bool, true, false, ◌&&◌, not, None, refl, sym, ap, ◌∙◌, subst, arith}
use Rattle.std.specs.Prelude.{if◌then◌else◌}
use Rattle.std.specs.Option.{is_some}
use Rattle.std.specs.List.{list_any}
use Rattle.std.specs.Map.{keys_of}
use Rattle.std.specs.List.Sorted.{IsStrictlySortedBy}
use Rattle.vn_cells.specs.declared.world.Stack.{Stack}
use Rattle.vn_cells.specs.declared.world.World.{World}
use Rattle.vn_cells.specs.world.Names.{Path, Key, key_cmp, path_eq, above}
use Rattle.vn_cells.specs.world.World.{no_stack, stack_at, pair_at, is_alive, live_map}
use Rattle.vn_cells.specs.commands.Jails.{recount, recount_above, one_less}
use Rattle.vn_cells.specs.commands.Removal.{killed}
use Rattle.vn_laws.proofs.edits.Cells.{stack_at-each_stack, pair_at-each_stack, ordered-each_stack, pairs-each_stack, none_lives, Ordered, OrderedPairs}
use Rattle.vn_laws.proofs.jails.Counted.{recounted}

-- ---- cells afterwards

abbrev gone_dead : Path → Path → Stack → Stack
gone_dead q r s = if path_eq r q then record s { live = None } else recount_above q one_less r s

-- what is not listed stays so
pub none-killed : (a b : Bool) → (if a then no_stack else (if b then live_map (recount one_less) no_stack else no_stack)) ≡ no_stack
none-killed true b = refl
none-killed false b = none_lives b (recount one_less)

pub killed_stack : (q : Path) (v : World) (r : Path) → stack_at (killed q v) r ≡ gone_dead q r (stack_at v r)
unfolding killed
killed_stack q v r = stack_at-each_stack (gone_dead q) v r (none-killed (path_eq r q) (list_any (path_eq r) (above q)))

pub killed_pair : (q : Path) (v : World) (k : Key) → pair_at (killed q v) k ≡ pair_at v k
unfolding killed
killed_pair q v k = pair_at-each_stack (gone_dead q) v k

pub killed_ordered : (q : Path) (v : World) → Ordered v → Ordered (killed q v)
unfolding killed
killed_ordered q v s = ordered-each_stack (gone_dead q) v s

pub killed_pairs : (q : Path) (v : World) → OrderedPairs v → OrderedPairs (killed q v)
unfolding killed
killed_pairs q v s = subst (λ es. IsStrictlySortedBy key_cmp (keys_of es)) (sym (pairs-each_stack (gone_dead q) v)) s

pub killed_alive : (q : Path) (v : World) (r : Path) → is_alive (killed q v) r ≡ (is_alive v r && not (path_eq r q))
killed_alive q v r = ap (λ (s : Stack). is_some s.live) (killed_stack q v r) ∙ by (path_eq r q)
  where
    by : (b : Bool) → is_some (if b then record (stack_at v r) { live = None } else recount_above q one_less r (stack_at v r)).live ≡ (is_alive v r && not b)
    by true = grind arith
    by false = recounted is_some (λ live c. refl) (list_any (path_eq r) (above q)) one_less (stack_at v r) ∙ grind arith

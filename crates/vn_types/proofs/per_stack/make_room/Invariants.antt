use Rattle.std.proofs.Common.{◌≡◌, ℕ, slice_index_or, ◌+◌, ◌-◌}
use Rattle.vn_types.proofs.per_stack.make_room.Given as goal

abbrev pub invariant-loop-alloc : goal.invariant-loop-alloc
invariant-loop-alloc g l = (q : ℕ) → slice_index_or l.rows.items q g.V.Empty.empty ≡ slice_index_or l.fn.rows.items q g.V.Empty.empty

abbrev pub decreases-loop-alloc : goal.decreases-loop-alloc
decreases-loop-alloc g l = l.sid + 1 - l.rows.len

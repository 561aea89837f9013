use Rattle.std.proofs.Common.{◌≡◌, ◌++◌, reverse}
use Rattle.vn_sysinit.specs.Table.{down_names}
use Rattle.vn_sysinit.proofs.table.SysTable.down_list.Given as goal

-- the names so far and those to come
abbrev pub invariant-loop-name : goal.invariant-loop-name
invariant-loop-name l = l.down ++ reverse l.name-iterator.iter ≡ down_names l.self

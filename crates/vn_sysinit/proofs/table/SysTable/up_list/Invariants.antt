use Rattle.std.proofs.Common.{◌≡◌, ◌++◌}
use Rattle.vn_sysinit.specs.Table.{up_names}
use Rattle.vn_sysinit.proofs.table.SysTable.up_list.Given as goal

-- the names so far and those to come
abbrev pub invariant-loop-name : goal.invariant-loop-name
invariant-loop-name l = l.up ++ l.name-iterator ≡ up_names l.self

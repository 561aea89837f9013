use Rattle.std.proofs.Common.{sym, ◌∙◌}
use Rattle.vn_sysinit.proofs.AnyOrder.{IsPermutation-with_entry}
use Rattle.vn_sysinit.proofs.table.SysTable.register.Goals as goal

pub returns-clause-every : goal.returns-clause-every
returns-clause-every c =
    rw (c.in_ok-insert.ensures.entries, c.self.view_is) (IsPermutation-with_entry c.args.entry c.args.self.now (sym c.is_taken.ensures ∙ c.if-is_taken.false))

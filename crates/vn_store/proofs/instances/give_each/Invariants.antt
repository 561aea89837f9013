use Rattle.std.proofs.Common.{◌≡◌, length}
use Rattle.vn_store.proofs.Rows.{IsGiven}
use Rattle.vn_store.proofs.instances.give_each.Given as goal

abbrev pub invariant-loop-sid : goal.invariant-loop-sid
invariant-loop-sid l = record {
  given : IsGiven l.count l.value l.initial.stacks l.stacks l.sid;
  same_length : length l.stacks ≡ length l.initial.stacks;
}

use Rattle.std.proofs.Common.{◌≡◌, take}
use Rattle.std.specs.List.{filter}
use Rattle.vn_types.specs.declared.interface.Sid.{Sid}
use Rattle.vn_types.specs.Paths.{is_under}
use Rattle.vn_jail.specs.Tree.{path_at}
use Rattle.vn_jail.proofs.order.list_under.Given as goal

abbrev pub invariant-loop-sid : goal.invariant-loop-sid
invariant-loop-sid l = l.under.items ≡ filter (λ (sid : Sid). is_under (path_at l.jails sid.0) l.path) (take l.sid-index l.order)

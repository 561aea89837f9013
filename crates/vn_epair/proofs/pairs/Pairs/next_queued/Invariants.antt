use Rattle.std.proofs.Common.{◌≡◌, ℕ, ◌<◌, false, ◌==◌, get_or}
use Rattle.std.specs.List.{list_any}
use Rattle.vn_types.specs.declared.interface.Sid.{Sid}
use Rattle.vn_epair.specs.declared.line.Awaited.{Awaited}
use Rattle.vn_epair.proofs.pairs.Pairs.next_queued.Given as goal

-- none is listed of the homes so far
abbrev pub invariant-loop-home : goal.invariant-loop-home
invariant-loop-home l = (k : ℕ) (d : Sid) → k < l.home-index → list_any (λ (e : Awaited). e.home.0 == (get_or l.order k d).0) l.self-inside.line.listed ≡ false

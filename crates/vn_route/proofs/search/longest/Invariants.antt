use Rattle.std.proofs.Common.{◌≡◌, ◌≤◌}
use Rattle.vn_route.specs.Lengths.{shorter_than}
use Rattle.vn_route.specs.Wanted.{is_wanted}
use Rattle.vn_route.proofs.search.longest.Given as goal

-- no longer one is there
abbrev pub invariant-loop-len : goal.invariant-loop-len
invariant-loop-len l = record {
  within : l.len ≤ 33;
  so_far : shorter_than (is_wanted l.wanted) l.ip l.routes.entries 33 ≡ shorter_than (is_wanted l.wanted) l.ip l.routes.entries l.len;
}

abbrev pub decreases-loop-len : goal.decreases-loop-len
decreases-loop-len l = l.len

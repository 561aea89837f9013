use Rattle.std.proofs.Common.{◌-◌, arith}
use Rattle.vn_route.specs.Lengths.{as_route}
use Rattle.vn_route.specs.Wanted.{is_wanted}
use Rattle.vn_route.proofs.Lengths.{longest-at, none-at, none-left}
use Rattle.vn_route.proofs.search.longest.Goals as goal

pub returns-in-Some : goal.returns-in-Some
returns-in-Some c = longest-at (is_wanted c.args.wanted) c.args.ip as_route c.args.routes.now.entries c.loop-len.len c.loop-len.invariant.so_far (c.loop-len.len - 1) (let some = c.loop-len-test.true in omega arith) c.requires _ c.in-Some.ensures

pub loop-len-preserved : goal.loop-len-preserved
loop-len-preserved c = record {
  within = let le = c.loop-len.invariant.within in omega arith;
  so_far = none-at (is_wanted c.args.wanted) c.args.ip as_route c.args.routes.now.entries c.loop-len.len c.loop-len.invariant.so_far (c.loop-len.len - 1) (let some = c.loop-len-test.true in omega arith) c.in_default.ensures;
}

pub returns : goal.returns
returns c = none-left (is_wanted c.args.wanted) c.args.ip as_route c.args.routes.now.entries c.loop-len.len c.loop-len.invariant.so_far (let none = c.loop-len-test.false in omega arith) c.requires

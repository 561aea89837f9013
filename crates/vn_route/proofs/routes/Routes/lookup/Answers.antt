use Rattle.std.proofs.Common.{◌≡◌, true, rules}
use Rattle.std.specs.Option.{option_map}
use Rattle.vn_rules.specs.Orders.{are_routes}
use Rattle.vn_rules.specs.Routes.{lookup}
use Rattle.vn_route.specs.Lengths.{as_route}
use Rattle.vn_route.specs.Stacks.{of}
use Rattle.vn_route.proofs.Choice.{choice-longest, choice-none, choice-only}
use Rattle.vn_route.proofs.routes.Routes.lookup.Goals as goal

pub returns-clause-longest : goal.returns-clause-longest
returns-clause-longest c = let is : c.longest.result ≡ option_map as_route (lookup c.args.ip (of c.args.self.now c.args.sid.0)) = search rules in rw is (choice-longest c.args.ip (of c.args.self.now c.args.sid.0))

pub returns-clause-none : goal.returns-clause-none
returns-clause-none c = let is : c.longest.result ≡ option_map as_route (lookup c.args.ip (of c.args.self.now c.args.sid.0)) = search rules in rw is (choice-none c.args.ip (of c.args.self.now c.args.sid.0))

pub returns-clause-only : goal.returns-clause-only
returns-clause-only c =
    let is : c.longest.result ≡ option_map as_route (lookup c.args.ip (of c.args.self.now c.args.sid.0)) = search rules in
    let right : are_routes (of c.args.self.now c.args.sid.0) ≡ true = search rules in
    rw is (choice-only c.args.ip (of c.args.self.now c.args.sid.0) right)

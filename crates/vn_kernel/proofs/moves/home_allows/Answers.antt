use Rattle.std.proofs.Common.{ap₂, ◌∙◌}
use Rattle.vn_types.specs.Paths.{is_under}
use Rattle.vn_jail.specs.Tree.{path_at}
use Rattle.vn_kernel.specs.Fields.{fields}
use Rattle.vn_kernel.proofs.Stacks.{its-number}
use Rattle.vn_kernel.proofs.moving.Answered.{home-allows, home-within}
use Rattle.vn_kernel.proofs.moving.Found.{found-exists}
use Rattle.vn_kernel.proofs.moves.home_allows.Goals as goal

pub home-home-requires : goal.home-home-requires
home-home-requires c =
    found-exists c.requires.stands c.in-Some.sid.0 c.args.name c.in-Some-Half.half (rw c.in-Some-Half.field-0-is at c.in-Some-Half.ensures)

pub path-requires : goal.path-requires
path-requires c = its-number c.requires

pub path-requires-in-Some-Half : goal.path-requires-in-Some-Half
path-requires-in-Some-Half c =
    home-within (fields c.args.state.now) c.requires.stands c.args.name c.in-Some.sid c.in-Some-Half.half (rw c.in-Some-Half.field-0-is at c.in-Some-Half.ensures)
    c.home-home.result c.home-home.ensures

pub returns-in-Some-Half : goal.returns-in-Some-Half
returns-in-Some-Half c =
    home-allows (fields c.args.state.now) c.requires.stands c.args.name c.in-Some.sid c.in-Some-Half.half (rw c.in-Some-Half.field-0-is at c.in-Some-Half.ensures)
    c.args.source c.in-Some.is (path_at c.args.state.now.jails c.args.to.0) c.home-home.result c.is_under.result c.home-home.ensures
    (c.is_under.ensures.test ∙ ap₂ is_under c.path.ensures c.path-in-Some-Half.ensures)

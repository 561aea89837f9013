use Rattle.std.proofs.Common.{◌∙◌}
use Rattle.vn_types.specs.Paths.{key_cmp, path_cmp}
use Rattle.vn_kernel.specs.Fields.{fields}
use Rattle.vn_kernel.proofs.moving.Ended.{ended, home-known}
use Rattle.vn_kernel.proofs.ending.end_pair.Goals as goal

pub path-requires : goal.path-requires
path-requires c = home-known (fields c.args.state.now) c.requires.stands c.args.pair c.requires.exists c.home-home.result.0 c.home-home.ensures

pub returns : goal.returns
unfolding key_cmp path_cmp
returns c =
    ended (fields c.args.state.now) c.requires.stands c.args.pair c.requires.exists c.destroy_pair.new.tables c.destroy_pair.ensures.destroyed c.destroy_pair.ensures.sound
    c.home-home.result.0 c.in_ok-home.home c.unit-unit.result c.home-home.ensures (c.in_ok-home.ensures ∙ c.path.ensures) c.unit-unit.ensures.unit
    c.remove.new.self.entries c.remove.ensures.entries

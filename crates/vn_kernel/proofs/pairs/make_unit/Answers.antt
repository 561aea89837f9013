use Rattle.std.proofs.Common.{◌≡◌, IfOk, OnErr, ◌∙◌, subst}
use Rattle.vn_types.specs.Paths.{key_cmp}
use Rattle.vn_types.specs.Refusals.{IsRefusedBy}
use Rattle.vn_jail.specs.Tree.{path_at}
use Rattle.vn_kernel.specs.Fields.{fields}
use Rattle.vn_kernel.proofs.Stacks.{its-path}
use Rattle.vn_kernel.specs.Makings.{making_refusal, Makes}
use Rattle.vn_kernel.proofs.making.Answered.{made-unit, refused-unit}
use Rattle.vn_kernel.proofs.pairs.make_unit.Goals as goal

pub make_pair-requires-clause-living : goal.make_pair-requires-clause-living
make_pair-requires-clause-living c = c.requires.stack.stands.living c.args.home.0 ∙ c.requires.stack.alive

pub returns-in-Err : goal.returns-in-Err
returns-in-Err c = refused-unit (fields c.args.state.now) c.requires.stack.stands (path_at c.args.state.now.jails c.args.home.0) (its-path c.requires.stack).0 c.args.home.0 (its-path c.requires.stack).1 c.args.unit c.in-Err.errno
    (subst (IsRefusedBy (making_refusal c.args.state.now.tables c.args.home.0 c.args.unit)) c.in-Err.is c.in_ok-number.ensures.answer)
    c.make_pair.new.tables (subst (λ a. OnErr a (c.make_pair.new.tables ≡ c.args.state.now.tables)) c.in-Err.is c.in_ok-number.ensures.refused)

pub returns : goal.returns
unfolding key_cmp
returns c = made-unit (fields c.args.state.now) c.requires.stack.stands (path_at c.args.state.now.jails c.args.home.0) (its-path c.requires.stack).0 c.args.home.0 (its-path c.requires.stack).1 c.args.unit
    (subst (IsRefusedBy (making_refusal c.args.state.now.tables c.args.home.0 c.args.unit)) c.in-Ok.is c.in_ok-number.ensures.answer)
    c.in-Ok.number c.make_pair.new.tables (subst (λ a. IfOk a (λ n. Makes c.args.home.0 c.args.unit n c.args.state.now.tables c.make_pair.new.tables)) c.in-Ok.is c.in_ok-number.ensures.made)
    c.in_ok-path.path (c.in_ok-path.ensures ∙ c.path.ensures) c.insert.new.self.entries c.in_ok-insert.ensures.entries c.in_ok-name.name c.in_ok-name.ensures

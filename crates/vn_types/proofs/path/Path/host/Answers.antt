use Rattle.std.proofs.Common.{refl}
use Rattle.vn_types.specs.Paths.{is_path}
use Rattle.vn_types.specs.PathTexts.{labels_in}
use Rattle.vn_types.proofs.path.Path.host.Goals as goal

pub invariant_of-result : goal.invariant_of-result
unfolding labels_in is_path
invariant_of-result c = rw c.new.ensures refl

pub returns : goal.returns
unfolding labels_in
returns c = rw c.new.ensures refl

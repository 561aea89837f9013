use Rattle.std.proofs.Common.{rules, tests, ◌∙◌}
use Rattle.std.specs.Str.{bytes_eq}
use Rattle.std.proofs.lemmas.Iterator.{YieldsList-from_slice}
use Rattle.std.proofs.lemmas.Iterator.Search.{find_from_yields_List}
use Rattle.vn_kernel.specs.Constructors.{constructors, constructor_name}
use Rattle.vn_kernel.specs.declared.constructors.Constructor.{Constructor}
use Rattle.vn_kernel.proofs.constructors.Constructor.named.Goals as goal

pub returns : goal.returns
returns c =
    c.copied.ensures
    ∙ find_from_yields_List (λ (constructor : Constructor). bytes_eq (constructor_name constructor) c.args.name.now) _ _ c.find.result c.find.ensures.ran (YieldsList-from_slice constructors (cc)) (λ x b q k. search (rules, tests))

use Rattle.std.proofs.Common.{◌∙◌, sym, arith}
use Rattle.std.proofs.lemmas.Grind.{common_steps}
use Rattle.vn_link.proofs.MacLaws.{bytes-mac}
use Rattle.vn_link.proofs.mac.write_mac.Goals as goal

pub returns-clause-mac : goal.returns-clause-mac
returns-clause-mac c = grind (arith, common_steps)

pub returns-clause-written : goal.returns-clause-written
returns-clause-written c = c.copy_from_slice.ensures.after ∙ sym (bytes-mac c.args.mac (returns-clause-mac c))

use Rattle.std.proofs.Common.{Some, cond, sym, ap, ap₂, ◌∙◌}
use Rattle.vn_types.specs.OctetOrder.{octets_ties}
use Rattle.vn_sock.specs.Names.{told}
use Rattle.vn_sock.proofs.name_index.NameIndex.add.Goals as goal

pub returns-clause-added : goal.returns-clause-added
returns-clause-added c = λ q.
    c.in_ok-insert.ensures.updates.0 q ∙ ap₂ (λ is other. cond is (Some c.args.place) other) (sym (octets_ties c.args.name q)) (ap (told q) c.self.view_is)

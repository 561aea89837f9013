use Rattle.std.proofs.Common.{◌≢◌, sym, ap, ◌∙◌}
use Rattle.std.specs.Cmp.{unsigned_ties}
use Rattle.vn_ifnet.specs.Names.{name_number}
use Rattle.vn_ifnet.specs.Stacks.{reserved_by}
use Rattle.vn_ifnet.proofs.Entries.{by-order}
use Rattle.std.proofs.lemmas.Bool.{cond-false, ne_eqb}
use Rattle.vn_ifnet.proofs.Numbers.{other-name}
use Rattle.vn_ifnet.proofs.interfaces.Interfaces.release.Goals as goal

pub returns-clause-others : goal.returns-clause-others
returns-clause-others c = λ other ne.
    let apart : c.name_number.result ≢ name_number other = λ e. ne (other-name other c.args.name (sym e ∙ c.name_number.ensures)) in
    by-order (name_number other) c.remove.new.self.entries ∙ c.remove.ensures.updates.0 (name_number other)
    ∙ cond-false _ _ _ (sym (unsigned_ties c.name_number.result (name_number other)) ∙ ne_eqb c.name_number.result (name_number other) apart)
    ∙ sym (by-order (name_number other) c.self.inside.reserved.entries) ∙ ap (reserved_by other) c.self.view_is

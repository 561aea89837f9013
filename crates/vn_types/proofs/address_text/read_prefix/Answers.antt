use Rattle.std.proofs.Common.{◌∙◌, sym, ap}
use Rattle.vn_types.specs.AddressWords.{prefix_of, prefix_pieces}
use Rattle.vn_types.proofs.AddressReading.{prefix_cut, prefix_canonical, prefix_bound}
use Rattle.vn_types.proofs.address_text.read_prefix.Goals as goal

pub returns-in_err-ip-clause-prefix : goal.returns-in_err-ip-clause-prefix
unfolding prefix_of prefix_pieces
returns-in_err-ip-clause-prefix c = c.from_residual.ensures ∙ sym (ap prefix_pieces c.in_err-ip.ensures.whole)

pub returns-clause-prefix : goal.returns-clause-prefix
returns-clause-prefix c = c.prefix_of_parts.ensures ∙ prefix_cut _ _ _ c.in_ok-ip.ensures.parts

pub returns-clause-bound : goal.returns-clause-bound
returns-clause-bound c = prefix_bound _ _ _ c.prefix_of_parts.ensures

pub returns-clause-canonical : goal.returns-clause-canonical
returns-clause-canonical c = prefix_canonical _ _ (c.prefix_of_parts.ensures ∙ prefix_cut _ _ _ c.in_ok-ip.ensures.parts)

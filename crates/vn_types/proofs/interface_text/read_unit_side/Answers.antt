use Rattle.std.proofs.Common.{◌∙◌, sym}
use Rattle.vn_types.proofs.InterfaceReading.{unit_side_empty, unit_side_last}
use Rattle.vn_types.proofs.interface_text.read_unit_side.Goals as goal

pub returns-in_err-side : goal.returns-in_err-side
returns-in_err-side c = c.from_residual.ensures ∙ sym (unit_side_empty _ c.in_err-side.ensures.cases)

pub returns : goal.returns
returns c = c.unit_side_of_parts.ensures ∙ sym (unit_side_last _ _ _ c.in_ok-side.ensures.cases.0)

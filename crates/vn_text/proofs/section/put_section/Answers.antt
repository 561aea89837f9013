use Rattle.std.proofs.Common.{sym, ◌∙◌}
use Rattle.vn_cells.specs.texts.Text.{section_text}
use Rattle.vn_text.proofs.Putting.{no_entry, nothing_put}
use Rattle.vn_text.proofs.section.put_section.Goals as goal

pub returns-then-is_empty-clause-put : goal.returns-then-is_empty-clause-put
returns-then-is_empty-clause-put c = nothing_put (section_text _) _ _ (no_entry _) (sym c.is_empty.ensures ∙ c.if-is_empty.true)

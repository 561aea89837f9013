-- A report as text.
use Rattle.std.specs.Prelude.{ℕ, Bool, true, List, [], ◌++◌, Option, Some, None, if◌then◌else◌}
use Rattle.std.specs.Borrow.{Bor}
use Rattle.std.specs.List.{flat_map}
use Rattle.std.specs.Option.{option_map}
use Rattle.vn_cells.specs.declared.cell.Cells.{Cells}
use Rattle.vn_cells.specs.declared.report.Report.{Report}
use Rattle.vn_cells.specs.declared.report.SectionText.{SectionText}
use Rattle.vn_cells.specs.sets.Sets.{in_stacks}
use Rattle.vn_cells.specs.texts.Text.{history_text, section_text}
use Rattle.vn_cells.specs.world.Names.{Path}
pub use Rattle.vn_cells.specs.texts.Text.{pool_text}

-- the set that a reference points to, where there is one
abbrev pub given : Option (Bor Cells) → Option Cells
given only = option_map (λ set. set.now) only

-- whether a path is asked for: each is where no set is given
abbrev pub is_chosen : Option Cells → Path → Bool
is_chosen None path = true
is_chosen (Some set) path = in_stacks set path

-- a transcript, nothing where its path is not asked for
abbrev pub chosen_text : Option Cells → SectionText → List ℕ
chosen_text only s = if is_chosen only s.path then section_text s.path s.entries else []

-- the transcripts that are asked for, in their order, and the readers and versions
unfoldable pub transcripts_text : Option Cells → Report → List ℕ
transcripts_text only r = flat_map (chosen_text only) r.sections ++ pool_text r.opened r.kept

-- all transcripts, the readers and versions, and the history
unfoldable pub report_text : Report → List ℕ
report_text r = transcripts_text None r ++ history_text r.history

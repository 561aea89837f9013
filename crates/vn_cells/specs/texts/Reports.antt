-- What a run leaves.
use Rattle.std.specs.Prelude.{Bool, true, false, List, [], ◌∷◌, map}
use Rattle.std.specs.List.{filter}
use Rattle.vn_cells.specs.declared.event.Event.{Event}
use Rattle.vn_cells.specs.declared.report.Report.{Report}
use Rattle.vn_cells.specs.declared.report.SectionText.{SectionText}
use Rattle.vn_cells.specs.declared.transcript.Entry.{Entry}
use Rattle.vn_cells.specs.declared.world.Stack.{Stack}
use Rattle.vn_cells.specs.declared.world.World.{World}
use Rattle.vn_cells.specs.world.Names.{Path}
use Rattle.vn_cells.specs.machine.Step.{run}
use Rattle.vn_cells.specs.machine.Versions.{kept, open_readers}

-- whether a transcript is not empty
abbrev pub has_entry : List Entry → Bool
has_entry [] = false
has_entry (e ∷ es) = true

-- a path's transcript, as it is written
abbrev pub section_of : Path × Stack → SectionText
section_of s = record { path = s.0; entries = s.1.entries }

-- the transcripts that are not empty, in the order of their paths
unfoldable pub sections_of : World → List SectionText
sections_of w = map section_of (filter (λ s. has_entry s.1.entries) w.stacks)

-- what the run of a history leaves
abbrev pub report_of : List Event → Report
report_of events = record {
  history = events;
  sections = sections_of (run events);
  opened = open_readers (run events);
  kept = kept events;
}

-- A section without entries has no text.
use Rattle.std.proofs.Common.{◌≡◌, List, [], ◌∷◌, ◌++◌, cond, map, refl, ap, ◌∙◌}
use Rattle.std.specs.List.{filter, flat_map}
use Rattle.vn_cells.specs.declared.event.Event.{Event}
use Rattle.vn_cells.specs.declared.transcript.Entry.{Entry}
use Rattle.vn_cells.specs.declared.world.Stack.{Stack}
use Rattle.vn_cells.specs.declared.world.World.{World}
use Rattle.vn_cells.specs.world.Names.{Path}
use Rattle.vn_cells.specs.texts.Reports.{has_entry, report_of, section_of, sections_of}
use Rattle.vn_cells.specs.machine.Step.{run}
use Rattle.vn_cells.specs.machine.Versions.{kept, open_readers}
use Rattle.vn_cells.specs.texts.Text.{history_text, pool_text, section_text, sections_text, text}
use Rattle.vn_text.specs.Whole.{report_text, transcripts_text}

shown : (stacks : List (Path × Stack)) → flat_map (λ s. section_text s.path s.entries) (map section_of (filter (λ s. has_entry s.1.entries) stacks)) ≡ flat_map (λ s. section_text s.0 s.1.entries) stacks
unfolding section_text
shown [] = refl
shown (s ∷ stacks) = by s.1.entries refl (shown stacks)
  where
    by : (es : List Entry) → s.1.entries ≡ es
        → flat_map (λ s. section_text s.path s.entries) (map section_of (filter (λ s. has_entry s.1.entries) stacks)) ≡ flat_map (λ s. section_text s.0 s.1.entries) stacks
        → flat_map (λ s. section_text s.path s.entries) (map section_of (cond (has_entry es) (s ∷ filter (λ s. has_entry s.1.entries) stacks) (filter (λ s. has_entry s.1.entries) stacks)))
        ≡ section_text s.0 es ++ flat_map (λ s. section_text s.0 s.1.entries) stacks
    by [] is more = more
    by (e ∷ es) is more = ap (λ t. section_text s.0 t ++ flat_map (λ s. section_text s.path s.entries) (map section_of (filter (λ s. has_entry s.1.entries) stacks))) is ∙ ap (λ t. section_text s.0 (e ∷ es) ++ t) more

all_shown : (w : World) → flat_map (λ s. section_text s.path s.entries) (sections_of w) ≡ sections_text w
unfolding sections_of sections_text
all_shown w = shown w.stacks

pub written_report : (events : List Event) → report_text (report_of events) ≡ text events
unfolding report_text transcripts_text text
written_report events =
    ap (λ t. t ++ pool_text (open_readers (run events)) (kept events) ++ history_text events) (all_shown (run events))

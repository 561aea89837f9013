-- The transcripts that have a section.
use Rattle.std.proofs.Common.{◌≡◌, Bool, true, false, List, [], ◌∷◌, ◌++◌, map, length, refl, ap}
use Rattle.std.specs.Prelude.{if◌then◌else◌}
use Rattle.std.specs.List.{filter}
use Rattle.vn_types.specs.Entries.{each}
use Rattle.vn_types.specs.Paths.{Path}
use Rattle.vn_cells.specs.declared.report.SectionText.{SectionText}
use Rattle.vn_cells.specs.declared.transcript.Entry.{Entry}
use Rattle.vn_cells.specs.declared.world.Stack.{Stack}
use Rattle.vn_cells.specs.texts.Reports.{has_entry, section_of, sections_of}
use Rattle.vn_kernel.specs.Fields.{Fields}
use Rattle.vn_kernel.specs.Worlds.{section_by, stack_of, world_of}

-- a path without entries has no section
pub skipped : (logs : List (Path × List Entry)) (log : Path × List Entry) → length log.1 ≡ 0
    → map section_by (filter (λ log. has_entry log.1) (logs ++ log ∷ [])) ≡ map section_by (filter (λ log. has_entry log.1) logs)
skipped logs log none = ap (map section_by) (go logs)
  where
    bare : (entries : List Entry) → length entries ≡ 0 → has_entry entries ≡ false
    bare [] is = refl
    bare (e ∷ es) is = cc

    go : (ls : List (Path × List Entry)) → filter (λ log. has_entry log.1) (ls ++ log ∷ []) ≡ filter (λ log. has_entry log.1) ls
    go [] = rw (bare log.1 none) refl
    go (l ∷ ls) = ap (λ xs. if has_entry l.1 then l ∷ xs else xs) (go ls)

-- the sections of transcripts are those of the world
sections-of-logs : (f : Fields) (logs : List (Path × List Entry))
    → map section_by (filter (λ log. has_entry log.1) logs) ≡ map section_of (filter (λ (s : Path × Stack). has_entry s.1.entries) (each (stack_of f) logs))
unfolding each stack_of
sections-of-logs f [] = refl
sections-of-logs f (log ∷ logs) = by (has_entry log.1) (sections-of-logs f logs)
  where
    by : (b : Bool) → map section_by (filter (λ log. has_entry log.1) logs) ≡ map section_of (filter (λ (s : Path × Stack). has_entry s.1.entries) (each (stack_of f) logs))
        → map section_by (if b then log ∷ filter (λ log. has_entry log.1) logs else filter (λ log. has_entry log.1) logs)
        ≡ map section_of (if b then (log.0, stack_of f log.0 log.1) ∷ filter (λ (s : Path × Stack). has_entry s.1.entries) (each (stack_of f) logs) else filter (λ (s : Path × Stack). has_entry s.1.entries) (each (stack_of f) logs))
    by true more = ap (λ (sections : List SectionText). record { path = log.0; entries = log.1 } ∷ sections) more
    by false more = more

pub sections-are : (f : Fields) → map section_by (filter (λ log. has_entry log.1) f.logs) ≡ sections_of (world_of f)
unfolding sections_of world_of
sections-are f = sections-of-logs f f.logs

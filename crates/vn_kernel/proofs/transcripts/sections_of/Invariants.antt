use Rattle.std.proofs.Common.{◌≡◌, map}
use Rattle.std.specs.List.{filter}
use Rattle.vn_cells.specs.texts.Reports.{has_entry}
use Rattle.vn_kernel.specs.Worlds.{section_by}
use Rattle.vn_kernel.proofs.transcripts.sections_of.Given as goal

abbrev pub invariant-loop-path : goal.invariant-loop-path
invariant-loop-path l = l.sections ≡ map section_by (filter (λ log. has_entry log.1) l.yielded)

use Rattle.std.proofs.Common.{◌≡◌, ◌+◌, ◌≤◌, length}
use Rattle.vn_shell.specs.Grammar.{items_from, lines_of}
use Rattle.vn_shell.specs.Readings.{parts_in}
use Rattle.vn_shell.proofs.Scripts.{parts_with}
use Rattle.vn_shell.proofs.script.read_parts.Given as goal

abbrev pub invariant-loop-line : goal.invariant-loop-line
invariant-loop-line l = record {
  so_far : parts_in (items_from l.forms 1 (lines_of l.text)) ≡ parts_with l.parts (items_from l.forms (l.number + 1) (lines_of l.rest));
  few : l.number + length l.rest ≤ length l.text;
}

abbrev pub decreases-loop-line : goal.decreases-loop-line
decreases-loop-line l = length l.rest

use Rattle.std.proofs.Common.{◌≡◌, length}
use Rattle.std.specs.List.{list_all}
use Rattle.vn_types.specs.Words.{is_label}
use Rattle.vn_types.specs.PathTexts.{pieces}
use Rattle.vn_types.proofs.path_text.are_labels.Given as goal

abbrev pub invariant-loop-piece : goal.invariant-loop-piece
invariant-loop-piece l = list_all is_label (pieces l.rest) ≡ list_all is_label (pieces l.text)

abbrev pub decreases-loop-piece : goal.decreases-loop-piece
decreases-loop-piece l = length l.rest

use Rattle.std.proofs.Common.{◌≡◌, ◌++◌, true, length}
use Rattle.std.specs.List.{list_all}
use Rattle.vn_types.specs.Words.{is_label}
use Rattle.vn_types.specs.PathTexts.{pieces, labels_in}
use Rattle.vn_types.proofs.label.labels_in.Given as goal

abbrev pub invariant-loop-piece : goal.invariant-loop-piece
invariant-loop-piece l = record {
  whole : l.labels ++ pieces l.rest ≡ labels_in l.text;
  labels : list_all is_label (pieces l.rest) ≡ true;
}

abbrev pub decreases-loop-piece : goal.decreases-loop-piece
decreases-loop-piece l = length l.rest

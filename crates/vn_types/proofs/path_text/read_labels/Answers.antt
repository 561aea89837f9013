use Rattle.std.proofs.Common.{◌∙◌, ap, Some}
use Rattle.vn_types.proofs.PathReading.{path_in, labels_read, no_labels}
use Rattle.vn_types.proofs.path_text.read_labels.Goals as goal

pub returns-then-not-are_labels : goal.returns-then-not-are_labels
returns-then-not-are_labels c = no_labels c.args.text.now _ c.are_labels.ensures c.if-not-are_labels.true

pub spelt-requires : goal.spelt-requires
spelt-requires c = path_in c.args.text.now _ c.are_labels.ensures c.if-not-are_labels.false

pub returns : goal.returns
returns c = ap Some c.in_ok-path.ensures ∙ labels_read c.args.text.now _ c.are_labels.ensures c.if-not-are_labels.false

use Rattle.std.proofs.Common.{◌++◌, ◌∷◌, [], ap, ◌∙◌}
use Rattle.std.specs.BTreeMap.{BTreeMap}
use Rattle.std.proofs.lemmas.Result.{on_ok_weaker}
use Rattle.vn_types.specs.Paths.{Path}
use Rattle.std.specs.Prelude.{List}
use Rattle.vn_cells.specs.declared.transcript.Entry.{Entry}
use Rattle.vn_kernel.proofs.Views.{logged-absent, logged-there}
use Rattle.vn_kernel.proofs.transcripts.note.Goals as goal

pub returns-in-Some : goal.returns-in-Some
returns-in-Some c =
    on_ok_weaker c.push.result
    (λ is. (c.get_mut.follows.holds c.push.new.self).0
    ∙ logged-there c.args.path.now (c.args.entry ∷ []) c.args.logs.now.entries c.in-Some.entries.now c.push.new.self c.in-Some.ensures.ordered c.in-Some.ensures.value is)
    c.push.ensures.ok

pub returns : goal.returns
returns c =
    c.in_ok-insert.ensures.entries
    ∙ logged-absent c.args.path.now (c.args.entry ∷ []) c.args.logs.now.entries _ c.in_ok-path.path c.push-2.new.self
    (ap (λ (m : BTreeMap Path (List Entry)). m.entries) c.get_mut.follows.holds-at-none) c.in_ok-path.ensures c.in_default.ensures.value
    (c.in_ok-push.ensures.ok ∙ ap (λ (es : List Entry). es ++ c.args.entry ∷ []) c.in_ok-entries.ensures)

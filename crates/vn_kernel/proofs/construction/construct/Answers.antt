use Rattle.std.proofs.Common.{◌++◌, map, refl, ap, ◌∙◌}
use Rattle.std.specs.Prelude.{List}
use Rattle.std.specs.BTreeMap.{BTreeMap}
use Rattle.std.proofs.lemmas.Result.{on_ok_weaker}
use Rattle.vn_types.specs.Paths.{Path}
use Rattle.vn_cells.specs.commands.Jails.{init_entry, rows}
use Rattle.vn_cells.specs.declared.transcript.Entry.{Entry}
use Rattle.vn_kernel.specs.Fields.{fields}
use Rattle.vn_kernel.proofs.Views.{logged-absent, logged-there}
use Rattle.vn_kernel.proofs.construction.construct.Goals as goal

pub returns-in-Some-clause-noted : goal.returns-in-Some-clause-noted
returns-in-Some-clause-noted c =
    on_ok_weaker c.run_up.result
    (λ is. ap (λ (logs : List (Path × List Entry)). record (fields c.args.state.now) { logs = logs; tables = c.run_up.new.tables })
    ((c.get_mut.follows.holds c.run_up.new.entries).0
    ∙ logged-there c.args.path (map (init_entry c.args.state.now.clock) rows) c.args.state.now.logs.entries c.in-Some.entries.now c.run_up.new.entries c.in-Some.ensures.ordered c.in-Some.ensures.value is))
    c.run_up.ensures.noted

pub returns-clause-noted : goal.returns-clause-noted
returns-clause-noted c =
    ap (λ (logs : List (Path × List Entry)). record (fields c.args.state.now) { logs = logs; tables = c.run_up-2.new.tables })
    (c.in_ok-insert.ensures.entries
    ∙ logged-absent c.args.path (map (init_entry c.args.state.now.clock) rows) c.args.state.now.logs.entries _ c.args.path c.run_up-2.new.entries
    (ap (λ (m : BTreeMap Path (List Entry)). m.entries) c.get_mut.follows.holds-at-none) refl c.in_default.ensures.value
    (c.in_ok-run_up.ensures.noted ∙ ap (λ (es : List Entry). es ++ map (init_entry c.args.state.now.clock) rows) c.in_ok-entries.ensures))

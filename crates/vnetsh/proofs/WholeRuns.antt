-- The parts of a whole script make the history of its run, which can happen.
use Rattle.std.proofs.Common.{◌≡◌, true, ◌≤◌, ◌++◌, List, [], ◌∷◌, length, refl, sym, ap, subst, ◌∙◌, arith, true≢false}
use Rattle.std.specs.List.{list_all}
use Rattle.std.proofs.lemmas.Bool.{and_parts, and_from}
use Rattle.std.proofs.lemmas.List.Folds.{list_all-append}
use Rattle.vn_cells.specs.declared.event.TheConstants.{EVENTS_MAX}
use Rattle.vn_cells.specs.declared.script.Part.{Part}
use Rattle.vn_cells.specs.declared.script.Part.TheVariants as part
use Rattle.vn_cells.specs.declared.script.Script.{Script}
use Rattle.vn_cells.specs.declared.world.World.{World}
use Rattle.vn_cells.specs.texts.Schedule.{part_events, parts_events, serial_run}
use Rattle.vn_cells.specs.machine.Step.{opening, run, run_from}
use Rattle.vn_cells.specs.machine.Events.{IsValid, is_valid_event, is_valid_part, is_valid_script}
use Rattle.vn_kernel.specs.Machines.{Machine, opened}
use Rattle.vn_shell.specs.Readings.{is_built_part, is_built_script}
use Rattle.vnetsh.specs.Runs.{StandsForHistory}
use Rattle.vnetsh.proofs.EventsOfLines.{lines_valid}

-- ---- a new kernel

-- it stands for no events
pub new_stands : (kernel : Machine) → kernel ≡ opened → StandsForHistory kernel
unfolding run_from
new_stands kernel is_new = subst StandsForHistory (sym is_new) refl

-- it has room
pub new_room : (kernel : Machine) → kernel ≡ opened → length kernel.events ≤ EVENTS_MAX
new_room kernel is_new = omega (arith, ap (λ (m : Machine). length m.events) is_new)

-- the parts of a script make its run happen there
pub new_run : (script : Script) (kernel : Machine) → kernel ≡ opened → kernel.events ++ parts_events (run kernel.events) script.parts ≡ serial_run script
unfolding run_from
new_run script kernel is_new = ap (λ (m : Machine). m.events ++ parts_events (run m.events) script.parts) is_new

-- ---- the history of a script

part_valid : (w : World) (one : Part) → is_valid_part one ≡ true → is_built_part one ≡ true → IsValid (part_events w one)
unfolding part_events is_valid_part
part_valid w (part.Phase lines) valid built = lines_valid w lines valid
part_valid w _ valid built = absurd (true≢false (sym built))

parts_valid : (w : World) (parts : List Part) → list_all is_valid_part parts ≡ true → list_all is_built_part parts ≡ true → IsValid (parts_events w parts)
unfolding parts_events
parts_valid w [] valid built = refl
parts_valid w (one ∷ parts) valid built =
    let v = and_parts (is_valid_part one) (list_all is_valid_part parts) valid in
    let b = and_parts (is_built_part one) (list_all is_built_part parts) built in
    list_all-append is_valid_event (part_events w one) (parts_events (run_from w (part_events w one)) parts)
    ∙ and_from _ _ (part_valid w one v.0 b.0) (parts_valid (run_from w (part_events w one)) parts v.1 b.1)

-- the history of a script is valid
pub serial_valid : (script : Script) → is_valid_script script ≡ true → is_built_script script ≡ true → IsValid (serial_run script)
serial_valid script valid built = parts_valid opening script.parts valid built

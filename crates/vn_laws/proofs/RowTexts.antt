-- The texts of some histories, by computation.
use Rattle.std.proofs.Common.{◌≡◌, ℕ, true, refl, ap₂, ◌∙◌, List, [], ◌∷◌, ◌++◌}
use Rattle.std.specs.List.{list_all}
use Rattle.std.specs.Fmt.{digits}
use Rattle.vn_types.specs.Paths.{joined, path_cmp, path_text, path_eq, above}
use Rattle.vn_types.specs.Entries.{find, put, each}
use Rattle.vn_cells.specs.world.World.{stack_at, edit_stack, each_stack}
use Rattle.vn_rules.specs.Rules.{answer_by}
use Rattle.vn_cells.specs.machine.Reach.{reach}
use Rattle.vn_cells.specs.commands.Jails.{any_full, created}
use Rattle.vn_cells.specs.machine.Commands.{far_rule}
use Rattle.vn_cells.specs.declared.script.Part.{Part}
use Rattle.vn_cells.specs.declared.script.Part.TheVariants.{Phase, Settle, Sleep}
use Rattle.vn_cells.specs.declared.script.Script.{Script}
use Rattle.vn_cells.specs.declared.event.Event.{Event}
use Rattle.vn_laws.specs.Versions.{is_command}
use Rattle.vn_cells.specs.machine.Step.{ran_by, commanded, step, run, run_from, opening}
use Rattle.vn_cells.specs.texts.Schedule.{lines_events, part_events, parts_events, serial_run}
use Rattle.vn_cells.specs.texts.Text.{command_text, outcome_text, what_text, section_text, sections_text, event_text, history_text, pool_text, text}
use Rattle.vn_laws.proofs.versions.Unread.{none_open, none_kept}
use Rattle.vn_laws.specs.WorkedRows.{is_empty_part, has_no_line, twice, no_parent_no_room, two_children, grandchild, empty_text, twice_text, no_parent_no_room_text, two_children_text, grandchild_text}

-- the text of a run in which no reader is opened
unfoldable pub unread_text : List Event → List ℕ
unread_text events = sections_text (run events) ++ pool_text 0 0 ++ history_text events

pub unread_is : (events : List Event) → list_all is_command events ≡ true → text events ≡ unread_text events
unfolding text unread_text
unread_is events all =
    ap₂ (λ opened versions. sections_text (run events) ++ pool_text opened versions ++ history_text events)
    (none_open events all) (none_kept events all)

empty_unread : unread_text [] ≡ empty_text
unfolding unread_text sections_text section_text what_text history_text run_from path_text digits
empty_unread = refl

pub empty_is : text [] ≡ empty_text
empty_is = unread_is [] refl ∙ empty_unread

-- the other histories of the rows, in their order
unread_texts : (unread_text twice ≡ twice_text) × (unread_text no_parent_no_room ≡ no_parent_no_room_text) × (unread_text two_children ≡ two_children_text) × (unread_text grandchild ≡ grandchild_text)
unfolding unread_text sections_text section_text what_text outcome_text command_text history_text event_text run_from path_text digits step commanded ran_by reach far_rule answer_by any_full created edit_stack each_stack stack_at find put each path_cmp path_eq joined above
unread_texts = (refl, refl, refl, refl)

pub texts_are : (text twice ≡ twice_text) × (text no_parent_no_room ≡ no_parent_no_room_text) × (text two_children ≡ two_children_text) × (text grandchild ≡ grandchild_text)
unfolding is_command
texts_are =
    let (t_twice, t_no, t_two, t_grand) = unread_texts in
    (unread_is twice refl ∙ t_twice, unread_is no_parent_no_room refl ∙ t_no, unread_is two_children refl ∙ t_two, unread_is grandchild refl ∙ t_grand)

-- ---- scripts without lines

parts_none : (parts : List Part) → list_all is_empty_part parts ≡ true → parts_events opening parts ≡ []
unfolding parts_events part_events lines_events run_from
parts_none [] all = refl
parts_none (Phase [] ∷ parts) all = parts_none parts all
parts_none (Phase (line ∷ lines) ∷ parts) all = cc
parts_none (Settle ∷ parts) all = cc
parts_none (Sleep n ∷ parts) all = cc

pub no_line_runs : (script : Script) → has_no_line script ≡ true → serial_run script ≡ []
no_line_runs script all = parts_none script.parts all

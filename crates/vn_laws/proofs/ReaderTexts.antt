-- The texts of some histories with readers, by computation.
use Rattle.std.proofs.Common.{◌≡◌, [], refl, ap, ◌∙◌}
use Rattle.std.specs.Fmt.{digits}
use Rattle.vn_types.specs.AddressWords.{ip4_text, prefix_text}
use Rattle.vn_types.specs.InterfaceWords.{ifname_text}
use Rattle.vn_types.specs.Paths.{joined, path_cmp, path_text, path_eq, above, is_under}
use Rattle.vn_types.specs.Entries.{find, put, each}
use Rattle.vn_rules.specs.Arp.{without_entries}
use Rattle.vn_rules.specs.Pings.{without_pings}
use Rattle.vn_rules.specs.Rules.{answer_by}
use Rattle.vn_cells.specs.world.World.{stack_at, edit_stack, each_stack}
use Rattle.vn_cells.specs.machine.Commands.{far_rule}
use Rattle.vn_cells.specs.machine.Listings.{if_row, if_rows, route_rows, in_arp_order, arp_rows, rows_of, if_line, route_line, lines_of_rows}
use Rattle.vn_cells.specs.machine.Local.{scene_in, placed_if, told, act_by, local}
use Rattle.vn_cells.specs.machine.Reach.{reach}
use Rattle.vn_cells.specs.machine.Readers.{reader_of, open_rule, read_on, next_rule, close_rule}
use Rattle.vn_cells.specs.machine.Step.{ran_by, commanded, acting, acted, step, run_from}
use Rattle.vn_cells.specs.machine.Versions.{left_by, readers_in, retired}
use Rattle.vn_cells.specs.commands.Jails.{any_full, created}
use Rattle.vn_cells.specs.commands.Removal.{sent_home, without_pairs, run_down, torn_down, killed, destroyed_all}
use Rattle.vn_cells.specs.texts.Schedule.{listing_events, line_events, lines_events, part_events, parts_events, serial_run}
use Rattle.vn_cells.specs.texts.Text.{command_text, outcome_text, what_text, section_text, sections_text, event_text, history_text, text}
use Rattle.vn_laws.specs.WorkedReaders.{removed_unread, removed_read, listed, lists, lists_at, removed_unread_text, removed_read_text, listed_text, listed_host_text, listed_absent_text}
use Rattle.vn_laws.specs.WorkedRows.{jail_a}

-- a jail is removed while a reader is open there
pub removed_unread_is : text removed_unread ≡ removed_unread_text
unfolding text sections_text section_text what_text outcome_text history_text event_text path_text joined command_text left_by readers_in retired route_rows route_line arp_rows in_arp_order run_from acting acted act_by scene_in placed_if told local reader_of open_rule next_rule read_on close_rule rows_of if_rows if_row lines_of_rows if_line ifname_text prefix_text ip4_text digits step commanded ran_by reach far_rule answer_by any_full created edit_stack each_stack stack_at find put each path_cmp path_eq above is_under without_entries without_pings sent_home without_pairs run_down torn_down killed destroyed_all
removed_unread_is = refl

-- the reader is read to its end, and closed
pub removed_read_is : text removed_read ≡ removed_read_text
unfolding text sections_text section_text what_text outcome_text history_text event_text path_text joined command_text left_by readers_in retired route_rows route_line arp_rows in_arp_order run_from acting acted act_by scene_in placed_if told local reader_of open_rule next_rule read_on close_rule rows_of if_rows if_row lines_of_rows if_line ifname_text prefix_text ip4_text digits step commanded ran_by reach far_rule answer_by any_full created edit_stack each_stack stack_at find put each path_cmp path_eq above is_under without_entries without_pings sent_home without_pairs run_down torn_down killed destroyed_all
removed_read_is = refl

-- ---- listings

pub lists_is : serial_run lists ≡ listed
unfolding parts_events part_events lines_events line_events listing_events run_from acting acted act_by scene_in placed_if told local reader_of open_rule next_rule read_on close_rule rows_of if_rows if_row lines_of_rows if_line ifname_text prefix_text ip4_text digits step commanded ran_by reach far_rule answer_by any_full created edit_stack each_stack stack_at find put each path_cmp path_eq above joined
lists_is = refl

listed_is : text listed ≡ listed_text
unfolding text sections_text section_text what_text outcome_text history_text event_text path_text joined command_text left_by readers_in retired route_rows route_line arp_rows in_arp_order run_from acting acted act_by scene_in placed_if told local reader_of open_rule next_rule read_on close_rule rows_of if_rows if_row lines_of_rows if_line ifname_text prefix_text ip4_text digits step commanded ran_by reach far_rule answer_by any_full created edit_stack each_stack stack_at find put each path_cmp path_eq above
listed_is = refl

pub lists_text_is : text (serial_run lists) ≡ listed_text
lists_text_is = ap text lists_is ∙ listed_is

pub host_is : text (serial_run (lists_at [])) ≡ listed_host_text
unfolding parts_events part_events lines_events line_events listing_events text sections_text section_text what_text outcome_text history_text event_text path_text joined left_by readers_in retired route_rows route_line arp_rows in_arp_order run_from acting acted act_by scene_in placed_if told local reader_of open_rule next_rule read_on close_rule rows_of if_rows if_row lines_of_rows if_line ifname_text prefix_text ip4_text digits step answer_by edit_stack stack_at find put path_cmp
host_is = refl

pub absent_is : text (serial_run (lists_at jail_a)) ≡ listed_absent_text
unfolding parts_events part_events lines_events line_events listing_events text sections_text section_text what_text outcome_text history_text event_text path_text joined left_by readers_in retired route_rows route_line arp_rows in_arp_order run_from acting acted act_by scene_in placed_if told local reader_of open_rule next_rule read_on close_rule rows_of if_rows if_row lines_of_rows if_line ifname_text prefix_text ip4_text digits step answer_by edit_stack stack_at find put path_cmp
absent_is = refl

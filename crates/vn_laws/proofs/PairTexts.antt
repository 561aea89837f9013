-- The texts of some histories of pairs, by computation.
use Rattle.std.proofs.Common.{◌≡◌, refl, [], ◌∷◌, ◌++◌, ◌∙◌}
use Rattle.std.specs.Fmt.{digits}
use Rattle.vn_types.specs.InterfaceWords.{unit_side_text, ifname_text}
use Rattle.vn_types.specs.Paths.{joined, path_cmp, path_text, path_eq, key_cmp, key_eq, above, is_under}
use Rattle.vn_types.specs.Entries.{find, put, each}
use Rattle.vn_rules.specs.Arp.{without_entries}
use Rattle.vn_rules.specs.Named.{interface_named}
use Rattle.vn_rules.specs.Pings.{without_pings}
use Rattle.vn_rules.specs.Purge.{without_addr, without_names, purged}
use Rattle.vn_rules.specs.Rules.{answer_by}
use Rattle.vn_rules.specs.Sockets.{without_grams_by}
use Rattle.vn_cells.specs.world.Names.{half_eq}
use Rattle.vn_cells.specs.world.World.{stack_at, pair_at, ifs_of, edit_stack, each_stack, add_pair, drop_pair, each_pair}
use Rattle.vn_cells.specs.machine.Commands.{far_rule}
use Rattle.vn_cells.specs.machine.Reach.{reach}
use Rattle.vn_cells.specs.machine.Step.{ran_by, commanded, step, run, run_from}
use Rattle.vn_cells.specs.commands.Jails.{any_full, created}
use Rattle.vn_cells.specs.commands.Moves.{moved, moved_on}
use Rattle.vn_cells.specs.commands.Pairs.{made_pair, unmade, told_lowest}
use Rattle.vn_cells.specs.commands.Removal.{sent_home, without_pairs, run_down, torn_down, killed, destroyed_all}
use Rattle.vn_cells.specs.commands.Taken.{is_reserved, is_taken, is_unit_free, first_unit, lowest_free}
use Rattle.vn_cells.specs.texts.Text.{command_text, outcome_text, what_text, section_text, sections_text, event_text, history_text, text}
use Rattle.vn_laws.specs.Versions.{is_command}
use Rattle.vn_laws.proofs.RowTexts.{unread_text, unread_is}
use Rattle.vn_laws.specs.WorkedRows.{two_pairs, taken, lent, removes, two_pairs_text, taken_text, removed_text, ifs_lent, ifs_home}

-- by computation
computed : (unread_text two_pairs ≡ two_pairs_text) × (unread_text taken ≡ taken_text) × (unread_text (lent ++ removes ∷ []) ≡ removed_text)
    × (ifs_of (stack_at (run lent) []) ≡ ifs_lent) × (ifs_of (stack_at (run (lent ++ removes ∷ [])) []) ≡ ifs_home)
unfolding unread_text sections_text section_text what_text outcome_text command_text history_text event_text path_text digits unit_side_text ifname_text run_from step commanded ran_by reach far_rule answer_by any_full created edit_stack each_stack stack_at pair_at add_pair drop_pair each_pair find put each path_cmp path_eq key_cmp key_eq half_eq joined above is_under interface_named is_reserved is_taken is_unit_free first_unit lowest_free told_lowest made_pair unmade moved moved_on purged without_addr without_names without_entries without_pings without_grams_by sent_home without_pairs run_down torn_down killed destroyed_all
computed = (refl, refl, refl, refl, refl)

pub two_pairs_is : text two_pairs ≡ two_pairs_text
unfolding is_command
two_pairs_is = unread_is two_pairs refl ∙ computed.0

pub taken_is : text taken ≡ taken_text
unfolding is_command
taken_is = unread_is taken refl ∙ computed.1

pub removed_is : text (lent ++ removes ∷ []) ≡ removed_text
unfolding is_command
removed_is = unread_is (lent ++ removes ∷ []) refl ∙ computed.2

pub lent_is : ifs_of (stack_at (run lent) []) ≡ ifs_lent
lent_is = computed.3

pub home_is : ifs_of (stack_at (run (lent ++ removes ∷ [])) []) ≡ ifs_home
home_is = computed.4

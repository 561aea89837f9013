-- Closedness of sets with a pair of host.
use Rattle.std.proofs.Common.{◌≡◌, Bool, true, false, ◌&&◌, List, [], ◌∷◌, ◌++◌, Option, Some, refl, sym, ap, ◌∙◌, arith}
use Rattle.std.specs.Prelude.{if◌then◌else◌}
use Rattle.std.specs.Option.{is_some, option_map}
use Rattle.std.specs.List.{list_all}
use Rattle.std.proofs.lemmas.Bool.{true≢false}
use Rattle.vn_types.specs.Entries.{find, put, each}
use Rattle.vn_types.specs.Paths.{joined, path_cmp, path_eq, key_cmp, key_eq, above, is_host}
use Rattle.vn_rules.specs.Arp.{without_entries}
use Rattle.vn_rules.specs.LinkCommands.{set_up}
use Rattle.vn_rules.specs.Named.{interface_named}
use Rattle.vn_rules.specs.Pings.{without_pings}
use Rattle.vn_rules.specs.Purge.{without_addr, without_names, purged}
use Rattle.vn_rules.specs.Rules.{answer_by}
use Rattle.vn_rules.specs.Scenes.{link_of, on_link}
use Rattle.vn_rules.specs.Sockets.{unbound_from, without_grams_by}
use Rattle.vn_packets.specs.AddressLinks.{up_rule, come_up_on, all_announced}
use Rattle.vn_cells.specs.declared.cell.Cells.{Cells}
use Rattle.vn_cells.specs.declared.event.Event.{Event}
use Rattle.vn_cells.specs.declared.world.Pair.{Pair}
use Rattle.vn_cells.specs.declared.world.World.{World}
use Rattle.vn_cells.specs.world.Names.{half_eq}
use Rattle.vn_cells.specs.world.World.{stack_at, pair_at, edit_stack, each_stack, add_pair, each_pair}
use Rattle.vn_cells.specs.commands.Jails.{any_full, created}
use Rattle.vn_cells.specs.commands.Moves.{moved, moved_on}
use Rattle.vn_cells.specs.commands.Pairs.{made_pair, told_lowest}
use Rattle.vn_cells.specs.commands.Taken.{is_reserved, is_taken, is_unit_free, first_unit, lowest_free}
use Rattle.vn_cells.specs.machine.Commands.{near_rule, far_rule}
use Rattle.vn_cells.specs.machine.Local.{scene_in, placed, placed_if, told, act_by, near_answer, local}
use Rattle.vn_cells.specs.machine.Reach.{reach}
use Rattle.vn_cells.specs.machine.Step.{ran_by, commanded, step, opening, run_from}
use Rattle.vn_cells.specs.sets.Changed.{touches, is_closed_at, is_closed_from}
use Rattle.vn_cells.specs.sets.Sets.{in_set, in_stacks, in_pairs, command_deciders, deciders}
use Rattle.vn_laws.specs.PairSets.{makes_any, any_pair, loan, sets_up, raised, pair_alone, jail_and_pair}
use Rattle.vn_laws.specs.WorkedRows.{only}
use Rattle.vn_laws.proofs.ClosedRows.{closed_if_decided}
use Rattle.vn_laws.proofs.Touched.{touched_pair}

-- the world after the loan
abbrev loan_world : World
loan_world = run_from opening loan

pub host_closed : is_closed_from (only []) opening any_pair ≡ true
unfolding deciders command_deciders reach in_set in_stacks path_eq above is_host
host_closed = closed_if_decided (only []) opening any_pair refl

pub loan_closed : is_closed_from jail_and_pair opening loan ≡ true
unfolding deciders command_deciders reach in_set in_stacks in_pairs path_eq above is_host
loan_closed = closed_if_decided jail_and_pair opening loan refl

-- ---- a set that is not closed

-- an event that changes a cell of the set, and is decided outside
open_at : (set : Cells) (w : World) (event : Event) → touches set w event ≡ true → list_all (in_set set) (deciders w event) ≡ false
    → is_closed_from set w (event ∷ []) ≡ false
unfolding is_closed_from is_closed_at
open_at set w event e f = by (touches set w event) (list_all (in_set set) (deciders w event)) e f
  where
    by : (b c : Bool) → b ≡ true → c ≡ false → ((if b then c else true) && true) ≡ false
    by b c e f = grind (arith, e, f)

-- the same after other events
open_later : (set : Cells) (w : World) (before events : List Event) → is_closed_from set (run_from w before) events ≡ false
    → is_closed_from set w (before ++ events) ≡ false
unfolding is_closed_from run_from
open_later set w [] events e = e
open_later set w (event ∷ before) events e = grind (arith, open_later set (step w event) before events e)

-- ---- a pair of host that is made of any unit is decided by host

abbrev pair_0 : World → Option Pair
pair_0 w = pair_at w ([], 0)

none_at_first : is_some (pair_0 opening) ≡ false
unfolding pair_at find
none_at_first = refl

made_then : is_some (pair_0 (step opening makes_any)) ≡ true
unfolding pair_at step commanded ran_by reach far_rule answer_by told_lowest lowest_free first_unit is_unit_free interface_named made_pair add_pair edit_stack each_stack stack_at find put each path_cmp path_eq key_cmp joined
made_then = refl

alone_inside : in_pairs pair_alone ([], 0) ≡ true
unfolding in_pairs in_stacks is_host
alone_inside = refl

any_touches : touches pair_alone opening makes_any ≡ true
any_touches =
    touched_pair pair_alone opening makes_any ([], 0) alone_inside
    (λ e. true≢false (sym made_then ∙ ap (λ (o : Option Pair). is_some o) (sym e) ∙ none_at_first))

any_undecided : list_all (in_set pair_alone) (deciders opening makes_any) ≡ false
unfolding deciders command_deciders reach in_set in_stacks is_host
any_undecided = refl

pub alone_open : is_closed_from pair_alone opening any_pair ≡ false
alone_open = open_at pair_alone opening makes_any any_touches any_undecided

-- ---- a half that host sets up is decided by host

abbrev a_is_up : World → Option Bool
a_is_up w = option_map (λ (pair : Pair). pair.a.up) (pair_0 w)

-- the worlds before and after
a_down_then_up : (a_is_up loan_world ≡ Some false) × (a_is_up (step loan_world sets_up) ≡ Some true)
unfolding pair_at run_from step commanded ran_by reach far_rule answer_by is_unit_free interface_named made_pair add_pair edit_stack each_stack each_pair stack_at find put each path_cmp path_eq key_cmp key_eq joined any_full created is_taken is_reserved moved_on moved purged without_names without_addr without_entries without_pings without_grams_by unbound_from half_eq near_answer near_rule local act_by placed_if placed told scene_in set_up on_link link_of above up_rule come_up_on all_announced
a_down_then_up = (refl, refl)

jail_inside : in_pairs jail_and_pair ([], 0) ≡ true
unfolding in_pairs in_stacks is_host path_eq
jail_inside = refl

up_touches : touches jail_and_pair loan_world sets_up ≡ true
up_touches =
    touched_pair jail_and_pair loan_world sets_up ([], 0) jail_inside
    (λ e. apart (sym a_down_then_up.0 ∙ ap (option_map (λ (pair : Pair). pair.a.up)) e ∙ a_down_then_up.1))
  where
    apart : Some false ≡ Some true → ⊥
    apart e = cc

up_undecided : list_all (in_set jail_and_pair) (deciders loan_world sets_up) ≡ false
unfolding deciders command_deciders reach in_set in_stacks path_eq is_host
up_undecided = refl

pub raised_open : is_closed_from jail_and_pair opening raised ≡ false
raised_open =
    open_later jail_and_pair opening loan (sets_up ∷ []) (open_at jail_and_pair loan_world sets_up up_touches up_undecided)

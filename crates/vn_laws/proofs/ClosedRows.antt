-- Closedness of some sets in some histories.
use Rattle.std.proofs.Common.{◌≡◌, Bool, true, false, ◌&&◌, List, [], ◌∷◌, None, refl, sym, ap, ◌∙◌, arith}
use Rattle.std.specs.Prelude.{if◌then◌else◌}
use Rattle.std.specs.Option.{is_some}
use Rattle.std.specs.List.{list_all}
use Rattle.std.proofs.lemmas.Bool.{and_parts, and_from, true≢false}
use Rattle.vn_types.specs.Paths.{joined, path_cmp, path_eq, above, is_host}
use Rattle.vn_rules.specs.Rules.{answer_by}
use Rattle.vn_cells.specs.declared.cell.Cells.{Cells}
use Rattle.vn_cells.specs.declared.command.Command.TheVariants as command
use Rattle.vn_cells.specs.declared.event.Event.{Event}
use Rattle.vn_cells.specs.declared.event.Event.TheVariants as event
use Rattle.vn_cells.specs.declared.world.Stack.{Stack}
use Rattle.vn_cells.specs.declared.world.World.{World}
use Rattle.vn_types.specs.Entries.{find, put, each}
use Rattle.vn_cells.specs.world.World.{stack_at, edit_stack, each_stack}
use Rattle.vn_cells.specs.machine.Reach.{reach}
use Rattle.vn_cells.specs.commands.Jails.{any_full, created}
use Rattle.vn_cells.specs.machine.Commands.{far_rule}
use Rattle.vn_cells.specs.machine.Step.{ran_by, commanded, far_refusal_at, step, opening}
use Rattle.vn_cells.specs.sets.Sets.{in_set, in_stacks, command_deciders, deciders}
use Rattle.vn_cells.specs.sets.Changed.{touches, is_closed_at, is_closed_from}
use Rattle.vn_laws.specs.WorkedRows.{jail_a, jail_a_b, makes, only, family, twice, child}
use Rattle.vn_laws.proofs.Touched.{touched}
use Rattle.vn_laws.proofs.Reach.{adds-jail, may}

-- whether the deciders of a command are in the set
abbrev decides : Cells → Event → Bool
decides set (event.Cmd lane issuer command) = list_all (in_set set) (command_deciders issuer (reach issuer command))
decides set _ = false

-- a set that decides each event of a history is closed in it
pub closed_if_decided : (set : Cells) (w : World) (events : List Event)
    → list_all (decides set) events ≡ true → is_closed_from set w events ≡ true
unfolding is_closed_from is_closed_at deciders
closed_if_decided set w [] all = refl
closed_if_decided set w (event.Cmd lane issuer command ∷ events) all =
    let parts = and_parts _ _ all in
    by (touches set w (event.Cmd lane issuer command)) parts.0 (closed_if_decided set (step w (event.Cmd lane issuer command)) events parts.1)
  where
    by : (b : Bool) → list_all (in_set set) (command_deciders issuer (reach issuer command)) ≡ true
        → is_closed_from set (step w (event.Cmd lane issuer command)) events ≡ true
        → ((if b then list_all (in_set set) (command_deciders issuer (reach issuer command)) else true)
        && is_closed_from set (step w (event.Cmd lane issuer command)) events) ≡ true
    by true inside more = and_from _ _ inside more
    by false inside more = more
closed_if_decided set w (_ ∷ events) all = cc

pub alone_closed : is_closed_from (only jail_a) opening twice ≡ true
unfolding deciders command_deciders reach in_set in_stacks path_eq above is_host
alone_closed = closed_if_decided (only jail_a) opening twice refl

pub family_closed : is_closed_from family opening child ≡ true
unfolding deciders command_deciders reach in_set in_stacks path_eq above is_host
family_closed = closed_if_decided family opening child refl

-- the world in which the child is made
abbrev parent_made : World
parent_made = step opening (makes jail_a 1)

child_accepted : far_refusal_at parent_made [] (command.JailCreate jail_a_b 0) ≡ None
unfolding step commanded ran_by reach far_rule answer_by any_full created edit_stack each_stack stack_at find put each path_cmp path_eq joined above
child_accepted = refl

child_inside : in_stacks (only jail_a_b) jail_a_b ≡ true
unfolding in_stacks path_eq
child_inside = refl

-- a jail that is made is another stack
child_touches : touches (only jail_a_b) parent_made (makes jail_a_b 0) ≡ true
child_touches =
    touched (only jail_a_b) parent_made (makes jail_a_b 0) jail_a_b child_inside
    (λ e. true≢false (sym (ap (λ (s : Stack). is_some s.live) (e ∙ (adds-jail parent_made 1 [] jail_a_b 0 child_accepted).own))
    ∙ (may parent_made 1 [] jail_a_b 0 child_accepted).dead))

-- the second event is decided by the parent too
child_undecided : list_all (in_set (only jail_a_b)) (deciders parent_made (makes jail_a_b 0)) ≡ false
unfolding deciders command_deciders reach in_set in_stacks path_eq above is_host
child_undecided = refl

pub child_open : is_closed_from (only jail_a_b) opening child ≡ false
unfolding is_closed_from is_closed_at
child_open =
    last (if touches (only jail_a_b) opening (makes jail_a 1) then list_all (in_set (only jail_a_b)) (deciders opening (makes jail_a 1)) else true)
    (touches (only jail_a_b) parent_made (makes jail_a_b 0)) _ child_touches child_undecided
  where
    last : (a b c : Bool) → b ≡ true → c ≡ false → (a && ((if b then c else true) && true)) ≡ false
    last a b c e f = grind (arith, e, f)

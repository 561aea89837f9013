use Rattle.std.proofs.Common.{cond, None, Some, ap, ◌∙◌}
use Rattle.std.specs.BTreeMap.{is_at}
use Rattle.std.specs.Map.{remove_entry}
use Rattle.std.specs.Ordering.{nat_cmp}
use Rattle.vn_ifnet.specs.Kept.{number_of_name, told}
use Rattle.vn_ifnet.proofs.Entries.{insert-last, none-below, remove-pushed}
use Rattle.vn_ifnet.proofs.Indexed.{index-come}
use Rattle.vn_ifnet.proofs.interfaces.put_in.Goals as goal

pub returns-in_default-clause-kept : goal.returns-in_default-clause-kept
returns-in_default-clause-kept c =
    c.remove.ensures.entries
    ∙ ap (λ xs. remove_entry (is_at (nat_cmp c.args.order)) xs) (c.in_ok-insert.ensures.entries ∙ insert-last c.args.order c.args.last c.args.attached.now.entries c.requires.behind)
    ∙ remove-pushed c.args.order c.args.last c.args.attached.now.entries c.requires.behind

pub returns-clause-index : goal.returns-clause-index
returns-clause-index c =
    index-come number_of_name c.args.attached.now.entries c.args.names.now.entries c.requires.index
    c.args.order c.args.last (none-below c.args.order c.args.attached.now.entries c.requires.behind) None c.requires.free c.insert.new.self.entries c.insert-2.new.self.entries
    (λ k. c.in_ok-insert.ensures.updates.0 k)
    (λ v. c.in-Ok.ensures.updates.0 v ∙ ap (λ q. cond (is_at (nat_cmp q) v) (Some c.args.order) (told v c.args.names.now.entries)) c.name_number.ensures)

pub returns-clause-entries : goal.returns-clause-entries
returns-clause-entries c = c.in_ok-insert.ensures.entries ∙ insert-last c.args.order c.args.last c.args.attached.now.entries c.requires.behind

use Rattle.std.proofs.Common.{◌==◌, cond, Some, None, not, refl, sym, ap, ◌∙◌}
use Rattle.vn_types.specs.declared.interface.HalfId.{HalfId}
use Rattle.vn_types.specs.declared.errno.Errno.TheVariants.{NoEnt}
use Rattle.vn_types.proofs.ListMaps.{any_map_same}
use Rattle.vn_rules.specs.declared.arp.ArpEntryOf.{ArpEntryOf}
use Rattle.vn_callout.specs.Stacks.{of as timers_of}
use Rattle.vn_arp.proofs.Edits.{Kept}
use Rattle.vn_arp.proofs.Followed.{deleted}
use Rattle.vn_arp.proofs.neighbours.Neighbours.delete.Goals as goal

pub returns-then-not-has_address-clause-answer : goal.returns-then-not-has_address-clause-answer
returns-then-not-has_address-clause-answer c =
    ap (λ b. cond (not b) (Some NoEnt) None)
    (any_map_same (λ (k : Kept). k.entry) (λ (k : Kept). k.entry.ip.0 == c.args.ip.0) (λ (e : ArpEntryOf HalfId). e.ip.0 == c.args.ip.0) (λ k. refl) c.args.self.now ∙ sym c.has_address.ensures ∙ c.if-not-has_address.true)

pub returns-clause-answer : goal.returns-clause-answer
returns-clause-answer c =
    ap (λ b. cond (not b) (Some NoEnt) None)
    (any_map_same (λ (k : Kept). k.entry) (λ (k : Kept). k.entry.ip.0 == c.args.ip.0) (λ (e : ArpEntryOf HalfId). e.ip.0 == c.args.ip.0) (λ k. refl) c.args.self.now ∙ sym c.has_address.ensures ∙ c.if-not-has_address.false)

pub returns-clause-deleted : goal.returns-clause-deleted
returns-clause-deleted c = deleted c.args.self.now c.remove.new.self (timers_of c.args.wheel.now c.args.sid.0) (timers_of c.remove.new.wheel c.args.sid.0) c.args.ip c.remove.ensures.left c.remove.ensures.stopped

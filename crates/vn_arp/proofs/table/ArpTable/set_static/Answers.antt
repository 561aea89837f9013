use Rattle.std.proofs.Common.{rules, None, OnOk}
use Rattle.vn_types.specs.Interfaces.{half_id_eq}
use Rattle.vn_callout.specs.Stacks.{of as timers_of}
use Rattle.vn_arp.specs.declared.change.Change.TheVariants.{Static}
use Rattle.vn_arp.specs.Changes.{after_change}
use Rattle.vn_arp.specs.Kept.{Follows}
use Rattle.vn_arp.specs.Stacks.{of}
use Rattle.vn_arp.proofs.Edits.{for_ok}
use Rattle.vn_arp.proofs.Followed.{set}
use Rattle.vn_arp.proofs.table.ArpTable.set_static.Goals as goal

pub returns-clause-here : goal.returns-clause-here
returns-clause-here c =
    let here : OnOk c.change.result (Follows (after_change half_id_eq (Static c.args.mac) None c.args.half c.args.ip) (of c.args.self.now c.args.sid.0) (timers_of c.args.wheel.now c.args.sid.0) (of (c.at_or_new.follows.lender c.change.new.self) c.args.sid.0) (timers_of c.change.new.wheel c.args.sid.0)) = search rules in
    for_ok _ _ c.change.result (set (of c.args.self.now c.args.sid.0) (of (c.at_or_new.follows.lender c.change.new.self) c.args.sid.0) (timers_of c.args.wheel.now c.args.sid.0) (timers_of c.change.new.wheel c.args.sid.0) c.args.half c.args.ip c.args.mac) here

use Rattle.vn_arp.proofs.Edits.{new_index}
use Rattle.vn_arp.proofs.neighbours.NeighboursEmpty.empty.Goals as goal

pub invariant_of-result : goal.invariant_of-result
invariant_of-result c = new_index c.new-2.result.items c.new.result.items c.new-2.ensures.items c.new.ensures.items

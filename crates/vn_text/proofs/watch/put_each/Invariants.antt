use Rattle.std.proofs.Common.{take}
use Rattle.std.specs.List.{flat_map}
use Rattle.vn_text.specs.Watches.{watch_text}
use Rattle.vn_text.proofs.Putting.{IsPut}
use Rattle.vn_text.proofs.watch.put_each.Given as goal

abbrev pub invariant-loop-watch : goal.invariant-loop-watch
invariant-loop-watch l = IsPut l.fn.out.items l.out.items (flat_map watch_text (take l.watch-index l.watches))

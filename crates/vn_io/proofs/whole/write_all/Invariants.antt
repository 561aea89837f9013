use Rattle.std.proofs.Common.{◌-◌, ◌≤◌, length, take}
use Rattle.std.specs.Io.KnownBytes.{Appends}
use Rattle.vn_io.specs.Counts.{Stayed}
use Rattle.vn_io.proofs.whole.write_all.Given as goal

abbrev pub invariant-loop-done : goal.invariant-loop-done
invariant-loop-done g l = record {
  given : Appends (g.K.Sink.written l.initial.sink) (g.K.Sink.written l.sink) (take l.done l.octets);
  few : l.done ≤ length l.octets;
  counted : Stayed (g.K.Sink.faults l.initial.sink) (g.K.Sink.faults l.sink);
}

abbrev pub decreases-loop-done : goal.decreases-loop-done
decreases-loop-done g l = length l.octets - l.done

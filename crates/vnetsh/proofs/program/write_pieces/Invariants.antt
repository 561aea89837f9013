use Rattle.std.proofs.Common.{take}
use Rattle.std.specs.Io.KnownBytes.{Appends}
use Rattle.std.specs.List.{flat_map}
use Rattle.vn_io.specs.Counts.{Stayed}
use Rattle.vnetsh.proofs.program.write_pieces.Given as goal

abbrev pub invariant-loop-piece : goal.invariant-loop-piece
invariant-loop-piece g l = record {
  so_far : Appends (g.E.Sink.written l.initial.errors) (g.E.Sink.written l.errors) (flat_map (λ piece. piece.now) (take l.piece-index l.pieces));
  counted : Stayed (g.E.Sink.faults l.initial.errors) (g.E.Sink.faults l.errors);
}

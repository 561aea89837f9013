use Rattle.std.proofs.Common.{◌≡◌, ◌++◌, length}
use Rattle.byteorder.specs.Endian.{big_bytes}
use Rattle.vn_cksum.specs.Sums.{sum_of}
use Rattle.vn_types.specs.Fields.{AreOctets}
use Rattle.vn_icmpfmt.proofs.sum.sum16_long.Given as goal

abbrev pub invariant-loop-rest : goal.invariant-loop-rest
invariant-loop-rest l = record {
  same : sum_of (big_bytes 2 l.sum ++ l.rest) ≡ sum_of l.octets;
  octets : AreOctets l.rest;
}

abbrev pub decreases-loop-rest : goal.decreases-loop-rest
decreases-loop-rest l = length l.rest

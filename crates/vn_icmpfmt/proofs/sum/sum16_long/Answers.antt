use Rattle.std.proofs.Common.{◌≡◌, ◌<◌, ◌++◌, List, ℕ, take, drop, refl, sym, ap, ◌∙◌, subst, arith}
use Rattle.std.proofs.lemmas.List.Elements.{All-drop}
use Rattle.byteorder.specs.Endian.{big_bytes}
use Rattle.vn_cksum.specs.Sums.{sum_of}
use Rattle.vn_types.specs.Fields.{AreOctets}
use Rattle.vn_types.proofs.OctetNumbers.{octets-slice}
use Rattle.vn_icmpfmt.proofs.Pieces.{none_before, piece_summed}
use Rattle.vn_icmpfmt.proofs.sum.sum16_long.Goals as goal

pub loop-rest-init : goal.loop-rest-init
loop-rest-init c =
    let octets : AreOctets c.args.octets.now = octets-slice c.args.octets.now c.type_inv.octets in
    record { same = none_before c.args.octets.now octets; octets = octets }

pub loop-rest-preserved : goal.loop-rest-preserved
loop-rest-preserved c =
    let sum = c.loop-rest.sum in
    let rest = c.loop-rest.rest.now in
    let piece : c.split_at.result.0.now ≡ take 65536 rest = c.split_at.ensures.front in
    let tail : c.split_at.result.1.now ≡ drop 65536 rest = c.split_at.ensures.back in
    let now : c.sum16_parts-sum.result ≡ sum_of (big_bytes 2 sum ++ take 65536 rest) =
    c.sum16_parts-sum.ensures ∙ ap (λ (ys : List ℕ). sum_of (ys ++ c.split_at.result.0.now)) c.to_be_bytes.ensures
    ∙ ap (λ (ys : List ℕ). sum_of (big_bytes 2 sum ++ ys)) piece in
    record {
      same =
          ap (λ (n : ℕ). sum_of (big_bytes 2 n ++ c.split_at.result.1.now)) now
          ∙ ap (λ (ys : List ℕ). sum_of (big_bytes 2 (sum_of (big_bytes 2 sum ++ take 65536 rest)) ++ ys)) tail
          ∙ piece_summed sum 65536 rest c.loop-rest.invariant.octets refl (omega arith)
          ∙ c.loop-rest.invariant.same;
      octets = subst AreOctets (sym tail) (All-drop (λ x. x < 256) 65536 rest c.loop-rest.invariant.octets);
    }

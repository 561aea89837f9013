use Rattle.std.proofs.Common.{◌∙◌, sym, arith}
use Rattle.vn_udpfmt.proofs.Headers.{sums}
use Rattle.vn_udpfmt.proofs.view.UdpView.read.Goals as goal

pub returns-clause-grammar : goal.returns-clause-grammar
returns-clause-grammar c = record {
  long_enough = omega arith;
  holds_header = omega arith;
  is_whole = omega arith;
  sums_up = sums c.args.src c.args.dst c.args.body.now c.word_at-checksum.result c.from-len.result c.word_at-checksum.ensures
      (c.from-len.ensures ∙ c.word_at.ensures) (sym c.sums_up.ensures ∙ c.if-not-sums_up.false);
  has_port = λ none. c.if-word_at-eq0.false (c.word_at-2.ensures ∙ none);
}

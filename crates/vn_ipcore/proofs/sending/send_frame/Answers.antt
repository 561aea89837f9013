use Rattle.std.proofs.Common.{sym, ◌∙◌}
use Rattle.vn_packets.specs.declared.tally.Tally.TheVariants.{Full, Link}
use Rattle.vn_epair.specs.Pairs.{half_of, send_refusal}
use Rattle.vn_ipcore.proofs.Sent.{if_err, if_ok, on_refusal, on_sent, replaces_down, replaces_full, replaces_put}
use Rattle.vn_ipcore.proofs.sending.send_frame.Goals as goal

pub count-requires-clause-fits : goal.count-requires-clause-fits
count-requires-clause-fits c = c.requires.room Link

pub count-requires-then-is_err-clause-fits : goal.count-requires-then-is_err-clause-fits
count-requires-then-is_err-clause-fits c = c.requires.room Full

pub returns-then-not-is_up : goal.returns-then-not-is_up
returns-then-not-is_up c =
    replaces_down c.requires.here.sound c.args.sid.0 c.args.half c.requires.here.stands c.args.frame c.count.new.self
    (sym c.is_up.ensures ∙ c.if-not-is_up.true) c.count.ensures.counted c.count.ensures.others

pub returns-then-is_err : goal.returns-then-is_err
returns-then-is_err c =
    let bad = sym c.is_err.ensures.value ∙ c.if-is_err.true in
    let refusal = on_refusal c.send.result (send_refusal (half_of c.args.tables.now.pairs c.args.half)) bad c.send.ensures.answer in
    replaces_full c.requires.here.sound c.args.sid.0 c.args.half c.requires.here.stands c.args.frame c.send.new.self c.count-then-is_err.new.self refusal.0
    (if_err c.send.result _ bad c.send.ensures.refused) (sym c.is_up.ensures ∙ c.if-not-is_up.false) refusal.1
    c.count-then-is_err.ensures.counted c.count-then-is_err.ensures.others

pub returns-else-is_err : goal.returns-else-is_err
returns-else-is_err c =
    let good = sym c.is_err.ensures.value ∙ c.if-is_err.false in
    replaces_put c.requires.here.sound c.args.sid.0 c.args.half c.requires.here.stands c.args.frame c.send.new.self
    (on_sent c.send.result (send_refusal (half_of c.args.tables.now.pairs c.args.half)) good c.send.ensures.answer)
    (if_ok c.send.result _ good c.send.ensures.sent) c.send.ensures.others c.send.ensures.numbers

use Rattle.std.proofs.Common.{sym, ◌∙◌}
use Rattle.vn_types.proofs.PerStackLaws.{after}
use Rattle.vn_vmove.specs.Parts.{parts}
use Rattle.vn_vmove.proofs.Addressed.{end-reached, is_done, next, turn}
use Rattle.vn_vmove.proofs.Founded.{sound-addresses}
use Rattle.vn_vmove.proofs.Leaving.{rest_after}
use Rattle.vn_vmove.proofs.purging.drop_addresses.Goals as goal

pub unwrap-requires : goal.unwrap-requires
unwrap-requires c =
    let step = next c.args.half c.in-Some.ip (parts c.loop-ip.tables c.args.sid.0) (sound-addresses c.loop-ip.tables c.loop-ip.invariant.sound c.args.sid.0) (sym c.in-Some.ensures) in
    is_done _ c.drop_address.result c.drop_address.ensures.answer step.there

pub loop-ip-smaller : goal.loop-ip-smaller
loop-ip-smaller c =
    (turn c.args.half c.in-Some.ip c.args.sid.0 c.loop-ip.tables c.drop_address.new.tables c.loop-ip.invariant.sound (sym c.in-Some.ensures) c.drop_address.ensures.dropped c.drop_address.ensures.rest c.drop_address.ensures.sound).fewer

pub loop-ip-preserved : goal.loop-ip-preserved
loop-ip-preserved c =
    let t = c.loop-ip.tables in
    let u = c.drop_address.new.tables in
    let done = turn c.args.half c.in-Some.ip c.args.sid.0 t u c.loop-ip.invariant.sound (sym c.in-Some.ensures) c.drop_address.ensures.dropped c.drop_address.ensures.rest c.drop_address.ensures.sound in
    record {
      sound = c.drop_address.ensures.sound;
      end = done.end ∙ c.loop-ip.invariant.end;
      others = after c.args.sid.0 (parts c.args.tables.now) (parts t) (parts u) c.loop-ip.invariant.others done.others;
      rest = rest_after c.args.tables.now t u c.loop-ip.invariant.rest c.drop_address.ensures.rest;
    }

pub returns : goal.returns
returns c = record {
  here = sym (end-reached c.args.half (parts c.loop-ip.tables c.args.sid.0) (sym c.in_default.ensures)) ∙ c.loop-ip.invariant.end;
  others = c.loop-ip.invariant.others;
  arms = λ q known. c.loop-ip.invariant.sound.arms q;
  rest = c.loop-ip.invariant.rest;
}

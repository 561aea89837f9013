use Rattle.std.proofs.Common.{sym, ◌^◌, ◌≡◌, true, arith}
use Rattle.std.proofs.lemmas.Bool.{lt-ltb}
use Rattle.vn_vmove.proofs.Walk.{is_word}
use Rattle.vn_ipcore.proofs.Announced.{at_first, at_last, few_places, nearer, one_more, still_room}
use Rattle.vn_ipcore.proofs.Back.{still_there}
use Rattle.vn_ipcore.proofs.links.announce_all.Goals as goal

pub loop-addr-init : goal.loop-addr-init
loop-addr-init c = at_first c.requires.here.sound c.args.sid.0 c.args.half

pub announce_own-requires : goal.announce_own-requires
announce_own-requires c = record {
  here = still_there c.loop-addr.invariant.replaces c.requires.here;
  room = still_room c.loop-addr.invariant c.requires.counters (few_places c.requires.here.sound c.loop-addr.invariant c.in-Some.addr (sym c.in-Some.ensures.at));
}

pub overflow_add-place : goal.overflow_add-place
overflow_add-place c =
    let few = few_places c.requires.here.sound c.loop-addr.invariant c.in-Some.addr (sym c.in-Some.ensures.at) in
    omega (arith, few)

pub loop-addr-preserved : goal.loop-addr-preserved
loop-addr-preserved c =
    let word : is_word c.in-Some.addr ≡ true = lt-ltb c.in-Some.addr.ip.0 (2 ^ 32) (omega arith) in
    one_more c.loop-addr.invariant c.announce_own.new.tables c.in-Some.addr (sym c.in-Some.ensures.at) word c.in_ok-announce_own.ensures

pub loop-addr-smaller : goal.loop-addr-smaller
loop-addr-smaller c =
    let word : is_word c.in-Some.addr ≡ true = lt-ltb c.in-Some.addr.ip.0 (2 ^ 32) (omega arith) in
    nearer c.loop-addr.invariant (one_more c.loop-addr.invariant c.announce_own.new.tables c.in-Some.addr (sym c.in-Some.ensures.at) word c.in_ok-announce_own.ensures)
    c.in-Some.addr (sym c.in-Some.ensures.at)

pub returns : goal.returns
returns c = at_last c.loop-addr.invariant (sym c.in_default.ensures.at)

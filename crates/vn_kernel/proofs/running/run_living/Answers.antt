use Rattle.std.proofs.lemmas.Result.{IfOk-weaker}
use Rattle.vn_kernel.proofs.Arms.{addressed, any_made, created, destroyed, lent, lowered, only_built, raised, reclaimed, removed, unit_made}
use Rattle.vn_kernel.proofs.running.run_living.Goals as goal

-- ---- jails

pub returns-in_ok-jail-in-JailCreate : goal.returns-in_ok-jail-in-JailCreate
returns-in_ok-jail-in-JailCreate c = IfOk-weaker c.make_jail.result _ _
    (λ outcome is. created c.requires.stack c.args.issuer.now c.requires.own c.args.command.now _ _ c.in_ok-jail-in-JailCreate.ensures _ c.in-JailCreate.is is)
    c.make_jail.ensures

pub returns-in_ok-jail-in-JailRemove : goal.returns-in_ok-jail-in-JailRemove
returns-in_ok-jail-in-JailRemove c = IfOk-weaker c.remove_jail.result _ _
    (λ outcome is. removed c.requires.stack c.args.issuer.now c.requires.own c.args.command.now _ _ c.in_ok-jail-in-JailRemove.ensures c.in-JailRemove.is is)
    c.remove_jail.ensures

-- ---- pairs

pub returns-in-EpairAny : goal.returns-in-EpairAny
returns-in-EpairAny c = IfOk-weaker c.make_pair.result _ _
    (λ outcome is. any_made c.requires.stack c.args.issuer.now c.requires.own c.args.command.now c.in-EpairAny.is is)
    c.make_pair.ensures

pub returns-in-EpairCreate : goal.returns-in-EpairCreate
returns-in-EpairCreate c = IfOk-weaker c.make_pair-in-EpairCreate.result _ _
    (λ outcome is. unit_made c.requires.stack c.args.issuer.now c.requires.own c.args.command.now _ c.in-EpairCreate.is is)
    c.make_pair-in-EpairCreate.ensures

pub returns-in-Destroy : goal.returns-in-Destroy
returns-in-Destroy c = IfOk-weaker c.destroy_half.result _ _
    (λ outcome is. destroyed c.requires.stack c.args.issuer.now c.requires.own c.args.command.now _ c.in-Destroy.is is)
    c.destroy_half.ensures

pub returns-in-Ether : goal.returns-in-Ether
returns-in-Ether c = addressed c.requires.stack c.args.issuer.now c.requires.own c.args.command.now _ _ c.in-Ether.is c.set_mac.ensures

-- ---- moves

pub returns-in_ok-to-in-Vnet : goal.returns-in_ok-to-in-Vnet
returns-in_ok-to-in-Vnet c = IfOk-weaker c.lend_half.result _ _
    (λ outcome is. lent c.requires.stack c.args.issuer.now c.requires.own c.args.command.now _ _ c.in_ok-to-in-Vnet.ensures _ c.in-Vnet.is is)
    c.lend_half.ensures

pub returns-in_ok-from-in-VnetBack : goal.returns-in_ok-from-in-VnetBack
returns-in_ok-from-in-VnetBack c = IfOk-weaker c.reclaim_half.result _ _
    (λ outcome is. reclaimed c.requires.stack c.args.issuer.now c.requires.own c.args.command.now _ _ c.in_ok-from-in-VnetBack.ensures _ c.in-VnetBack.is is)
    c.reclaim_half.ensures

-- ---- links

pub returns-in-Up : goal.returns-in-Up
returns-in-Up c = IfOk-weaker c.set_up.result _ _
    (λ outcome is. raised c.requires.stack c.args.issuer.now c.requires.own c.args.command.now _ c.in-Up.is is)
    c.set_up.ensures

pub returns-in-Down : goal.returns-in-Down
returns-in-Down c = lowered c.requires.stack c.args.issuer.now c.requires.own c.args.command.now _ c.in-Down.is c.set_down.ensures

-- ---- no other

pub unreachable-requires : goal.unreachable-requires
unreachable-requires c = only_built c.args.command.now c.in_default.not-JailCreate c.in_default.not-JailRemove c.in_default.not-EpairAny c.in_default.not-EpairCreate c.in_default.not-Destroy
    c.in_default.not-Vnet c.in_default.not-VnetBack c.in_default.not-Up c.in_default.not-Down c.in_default.not-Ether c.requires.built

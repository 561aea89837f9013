use Rattle.std.proofs.Common.{◌≡◌, ◌<◌, ap, sym, ◌∙◌, arith, rules, [], true, false, ◌||◌}
use Rattle.std.proofs.lemmas.Bool.{or_left}
use Rattle.std.proofs.lemmas.List.{get_or_read}
use Rattle.vn_types.specs.Paths.{from}
use Rattle.vn_jail.specs.declared.jail.Jail.{Jail}
use Rattle.vn_jail.specs.Tree.{any_full, at, dead_jail, is_full, path_at}
use Rattle.vn_jail.proofs.Upwards.{full-parent, upwards}
use Rattle.vn_jail.proofs.counting.+is_any_full.Goals as goal

pub returns-then-is_full : goal.returns-then-is_full
returns-then-is_full t c =
    let some : 0 < c.args.number = search rules in
    let this : c.index-jails-number.result ≡ at c.args.jails.now c.args.number = (get_or_read c.args.jails.now _ _ c.requires.number c.index-jails-number.is (dead_jail [] 0)) in
    let full : is_full (at c.args.jails.now c.args.number) ≡ true = ap is_full (sym this) ∙ search rules in
    sym (full-parent c.args.jails.now c.requires.linked c.args.number c.requires.number some ∙ or_left _ _ full)

pub is_any_full-requires : goal.is_any_full-requires
is_any_full-requires t c =
    let some : 0 < c.args.number = search rules in
    let this : c.index-jails-number.result ≡ at c.args.jails.now c.args.number = (get_or_read c.args.jails.now _ _ c.requires.number c.index-jails-number.is (dead_jail [] 0)) in
    let up = upwards c.args.jails.now c.requires.linked c.args.number c.requires.number some c.index-jails-number.result this in
    (omega (arith, c.decreases, up.0), (c.requires.linked, up.1))

pub returns : goal.returns
returns t c =
    let some : 0 < c.args.number = search rules in
    let this : c.index-jails-number.result ≡ at c.args.jails.now c.args.number = (get_or_read c.args.jails.now _ _ c.requires.number c.index-jails-number.is (dead_jail [] 0)) in
    let other : is_full (at c.args.jails.now c.args.number) ≡ false = ap is_full (sym this) ∙ search rules in
    c.is_any_full.ensures
    ∙ ap (λ (j : Jail). any_full c.args.jails.now (from (path_at c.args.jails.now j.parent))) this
    ∙ sym (full-parent c.args.jails.now c.requires.linked c.args.number c.requires.number some ∙ ap (λ b. b || any_full c.args.jails.now (from (path_at c.args.jails.now (at c.args.jails.now c.args.number).parent))) other)

use Rattle.std.proofs.Common.{◌≡◌, ◌-◌, [], length, drop, refl, sym, ap, ◌∙◌, subst, rules, arith}
use Rattle.std.proofs.lemmas.List.{get_or_read}
use Rattle.vn_types.specs.Paths.{is_host}
use Rattle.vn_jail.specs.declared.jail.Jail.{Jail}
use Rattle.vn_jail.specs.Kept.{IsKept}
use Rattle.vn_jail.specs.Tree.{changed, dead_jail, is_alive, path_at, stop}
use Rattle.vn_jail.proofs.Numbers.{lives-within}
use Rattle.vn_jail.proofs.Changes.{long}
use Rattle.vn_jail.proofs.Places.{divided}
use Rattle.vn_jail.proofs.Tables.{ends-within, kept-ended, label-of, written}
use Rattle.vn_jail.proofs.jails.Jails.remove.Goals as goal

pub count_before-place-requires-clause-label : goal.count_before-place-requires-clause-label
count_before-place-requires-clause-label c =
    let lives = lives-within c.self.inside.jails.items c.args.self.now c.self.view_is c.args.sid.0 c.requires.alive in
    let path = ap (λ (j : Jail). j.path) (get_or_read c.self.inside.jails.items c.args.sid.0 c.index.result.now lives.1 c.index.ensures (dead_jail [] 0)) in
    ap is_host path ∙ label-of c.self.inside.jails.items c.self.invariant.linked c.args.sid.0 lives.1 c.requires.jail

pub remove-requires : goal.remove-requires
remove-requires c =
    let lives = lives-within c.self.inside.jails.items c.args.self.now c.self.view_is c.args.sid.0 c.requires.alive in
    let divides = divided c.deref.result.now c.self.inside.jails.items c.deref-2.result.now c.self.inside.order.items c.index.result.now c.args.sid.0 c.count_before-place.result lives.1 c.index.ensures c.deref.ensures.value c.deref-2.ensures.value c.count_before-place.ensures.within c.count_before-place.ensures.before c.count_before-place.ensures.behind in
    let ends = ends-within c.self.inside.jails.items c.self.inside.numbers c.self.inside.order.items c.self.invariant c.args.sid lives.1 c.count_before-place.result divides lives.0 in
    omega (arith, ends, c.deref-2.ensures.len, ap length c.deref-2.ensures.value)

pub invariant_of-self : goal.invariant_of-self
invariant_of-self c =
    let lives = lives-within c.self.inside.jails.items c.args.self.now c.self.view_is c.args.sid.0 c.requires.alive in
    let divides = divided c.deref.result.now c.self.inside.jails.items c.deref-2.result.now c.self.inside.order.items c.index.result.now c.args.sid.0 c.count_before-place.result lives.1 c.index.ensures c.deref.ensures.value c.deref-2.ensures.value c.count_before-place.ensures.within c.count_before-place.ensures.before c.count_before-place.ensures.behind in
    let ended : c.end.new.jails ≡ changed stop (λ n. n - 1) (path_at c.self.inside.jails.items c.args.sid.0) c.self.inside.jails.items =
    c.end.ensures ∙ ap (λ ls. changed stop (λ n. n - 1) (path_at ls c.args.sid.0) ls) c.deref_mut.ensures.value in
    let size : length c.end.new.jails ≡ c.self.inside.jails.len = ap length ended ∙ long stop (λ n. n - 1) (λ j. (refl, refl)) c.self.inside.jails.items c.self.invariant.linked c.args.sid.0 lives.1 ∙ search rules in
    let whole = written c.self.inside.jails.len c.end.new.jails (drop (length c.end.new.jails) c.self.inside.jails.items) size in
    subst (λ ls. IsKept ls c.self.inside.numbers c.remove.new.self.items) (sym (whole ∙ ended)) (subst (λ ls. IsKept (changed stop (λ n. n - 1) (path_at c.self.inside.jails.items c.args.sid.0) c.self.inside.jails.items) c.self.inside.numbers ls) (sym c.remove.ensures.items)
    (kept-ended c.self.inside.jails.items c.self.inside.numbers c.self.inside.order.items c.self.invariant c.args.sid lives.1 c.count_before-place.result divides lives.0 c.requires.jail
    (λ q alive e. c.requires.childless q (sym (ap (is_alive q) c.self.view_is) ∙ alive) (e ∙ ap (λ ls. path_at ls c.args.sid.0) c.self.view_is))))

use Rattle.std.proofs.Common.{◌≡◌, ◌<◌, ◌+◌, length, drop, refl, sym, ap, ◌∙◌, subst, rules}
use Rattle.std.specs.List.{insert}
use Rattle.vn_types.specs.Paths.{is_host, parent}
use Rattle.vn_jail.specs.Kept.{IsKept}
use Rattle.vn_jail.specs.Tree.{at, changed, is_alive, path_at, start}
use Rattle.vn_jail.proofs.Changes.{long}
use Rattle.vn_jail.proofs.Places.{divided}
use Rattle.vn_jail.proofs.Tables.{kept-started, written}
use Rattle.vn_jail.proofs.jails.Jails.start.Goals as goal

pub invariant_of-self-2 : goal.invariant_of-self-2
invariant_of-self-2 c =
    let in' : c.args.sid.0 < length c.self.inside.jails.items = subst (λ js. c.args.sid.0 < length js) (sym c.self.view_is) c.requires.number in
    let divides = divided c.deref.result.now c.self.inside.jails.items c.deref-2.result.now c.self.inside.order.items c.index.result.now c.args.sid.0 c.count_before-place.result in' c.index.ensures c.deref.ensures.value c.deref-2.ensures.value c.count_before-place.ensures.within c.count_before-place.ensures.before c.count_before-place.ensures.behind in
    let begun : c.begin.new.jails ≡ changed (start c.args.limit) (λ n. n + 1) (path_at c.self.inside.jails.items c.args.sid.0) c.self.inside.jails.items =
    c.begin.ensures ∙ ap (λ ls. changed (start c.args.limit) (λ n. n + 1) (path_at ls c.args.sid.0) ls) c.deref_mut.ensures.value in
    let size : length c.begin.new.jails ≡ c.self.inside.jails.len = ap length begun ∙ long (start c.args.limit) (λ n. n + 1) (λ j. (refl, refl)) c.self.inside.jails.items c.self.invariant.linked c.args.sid.0 in' ∙ search rules in
    let whole = written c.self.inside.jails.len c.begin.new.jails (drop (length c.begin.new.jails) c.self.inside.jails.items) size in
    let put : c.insert.new.self.items ≡ insert c.self.inside.order.items c.count_before-place.result c.args.sid = search rules in
    subst (λ ls. IsKept ls c.self.inside.numbers c.insert.new.self.items) (sym (whole ∙ begun)) (subst (λ ls. IsKept (changed (start c.args.limit) (λ n. n + 1) (path_at c.self.inside.jails.items c.args.sid.0) c.self.inside.jails.items) c.self.inside.numbers ls) (sym put)
    (kept-started c.self.inside.jails.items c.self.inside.numbers c.self.inside.order.items c.self.invariant c.args.sid in' c.count_before-place.result divides
    c.args.limit
    (ap (λ ls. is_host (path_at ls c.args.sid.0)) c.self.view_is ∙ c.requires.jail)
    (ap (λ ls. (at ls c.args.sid.0).alive) c.self.view_is ∙ c.requires.dead)
    (ap (λ ls. is_alive (parent (path_at ls c.args.sid.0)) ls) c.self.view_is ∙ c.requires.parent)))

use Rattle.std.proofs.Common.{◌≡◌, ◌<◌, true, length, reverse, sym, ap, ap₂, ◌∙◌, subst, rules, slice_index_or}
use Rattle.std.specs.List.{filter}
use Rattle.vn_types.specs.declared.interface.Sid.{Sid}
use Rattle.vn_types.specs.Paths.{is_under}
use Rattle.vn_jail.specs.Order.{IsTeardown}
use Rattle.vn_jail.specs.Tree.{is_alive, path_at}
use Rattle.vn_jail.proofs.Tables.{order-within, torn}
use Rattle.vn_jail.proofs.jails.Jails.teardown.Goals as goal

pub list_under-requires : goal.list_under-requires
list_under-requires c = λ k d lt.
    subst (λ js. (slice_index_or c.deref-2.result.now k d).0 < length js) (sym c.deref.ensures.value)
    (subst (λ os. (slice_index_or os k d).0 < length c.self.inside.jails.items) (sym c.deref-2.ensures.value)
    (order-within c.self.inside.jails.items c.self.inside.order.items c.self.invariant.ordered k d (subst (λ os. k < length os) c.deref-2.ensures.value lt)))

pub returns-clause-listed : goal.returns-clause-listed
returns-clause-listed c =
    let alive : is_alive c.args.path.now c.self.inside.jails.items ≡ true = ap (is_alive c.args.path.now) c.self.view_is ∙ c.alive.ensures.alive.0 (search rules) in
    let items : c.reverse.new.self.items ≡ reverse (filter (λ (sid : Sid). is_under (path_at c.self.inside.jails.items sid.0) c.args.path.now) c.self.inside.order.items) =
    c.reverse.ensures.items ∙ ap reverse (c.in_ok-sids.ensures ∙ ap₂ (λ js os. filter (λ (sid : Sid). is_under (path_at js sid.0) c.args.path.now) os) c.deref.ensures.value c.deref-2.ensures.value) in
    subst (λ js. IsTeardown c.args.path.now js c.reverse.new.self.items) c.self.view_is
    (subst (IsTeardown c.args.path.now c.self.inside.jails.items) (sym items) (torn c.self.inside.jails.items c.self.inside.order.items c.self.invariant.ordered c.args.path.now alive))

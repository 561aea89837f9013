use Rattle.std.proofs.Common.{rules, tests, ◌≡◌, Some, sym, ap, ◌∙◌}
use Rattle.std.proofs.lemmas.Iterator.{YieldsList-from_slice}
use Rattle.std.proofs.lemmas.Iterator.Search.{position_from_yields_List}
use Rattle.std.specs.List.{find, position}
use Rattle.vn_rules.specs.Pings.{after_first}
use Rattle.vn_icmp.specs.Which.{is_one}
use Rattle.vn_icmp.proofs.First.{first-at, no-first}
use Rattle.vn_icmp.proofs.awaited.Awaited.take.Goals as goal

pub returns-in_err-place-clause-taken : goal.returns-in_err-place-clause-taken
returns-in_err-place-clause-taken c =
    let at : c.position.result ≡ position (is_one c.args.which) c.args.self.now.awaited = position_from_yields_List (is_one c.args.which) c.position.new.self _ c.position.result c.position.ensures.ran (YieldsList-from_slice c.args.self.now.awaited cc) (λ x b q k. search (rules, tests)) in
    c.from_residual.ensures ∙ sym (no-first (is_one c.args.which) c.args.self.now.awaited (sym c.in_err-place.was ∙ at)).0

pub returns-in_err-place-clause-left : goal.returns-in_err-place-clause-left
returns-in_err-place-clause-left c =
    let at : c.position.result ≡ position (is_one c.args.which) c.args.self.now.awaited = position_from_yields_List (is_one c.args.which) c.position.new.self _ c.position.result c.position.ensures.ran (YieldsList-from_slice c.args.self.now.awaited cc) (λ x b q k. search (rules, tests)) in
    λ i. record c.args.self.now { awaited = sym (no-first (is_one c.args.which) c.args.self.now.awaited (sym c.in_err-place.was ∙ at)).1 i }

pub returns-clause-taken : goal.returns-clause-taken
returns-clause-taken c =
    let at : c.position.result ≡ position (is_one c.args.which) c.self.inside.items.items = position_from_yields_List (is_one c.args.which) c.position.new.self _ c.position.result c.position.ensures.ran (YieldsList-from_slice c.self.inside.items.items cc) (λ x b q k. search (rules, tests)) in
    ap Some c.remove.ensures.value ∙ (first-at (is_one c.args.which) c.self.inside.items.items c.in_ok-place.place c.remove.result (sym c.in_ok-place.was ∙ at)).0
    ∙ ap (λ p. find (is_one c.args.which) p.awaited) c.self.view_is

pub returns-clause-left : goal.returns-clause-left
returns-clause-left c =
    let at : c.position.result ≡ position (is_one c.args.which) c.self.inside.items.items = position_from_yields_List (is_one c.args.which) c.position.new.self _ c.position.result c.position.ensures.ran (YieldsList-from_slice c.self.inside.items.items cc) (λ x b q k. search (rules, tests)) in
    (λ i. record {
      next = c.self.inside.next;
      awaited = (c.remove.ensures.items ∙ (first-at (is_one c.args.which) c.self.inside.items.items c.in_ok-place.place c.remove.result (sym c.in_ok-place.was ∙ at)).1) i;
    })
    ∙ ap (after_first (is_one c.args.which)) c.self.view_is

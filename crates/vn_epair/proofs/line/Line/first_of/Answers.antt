use Rattle.std.proofs.Common.{◌≡◌, ◌≢◌, ◌-◌, ◌<◌, false, length, arith, rules, ap, sym, ◌∙◌, ◌==◌}
use Rattle.std.specs.Prelude.{nat_lt}
use Rattle.std.specs.List.{list_any}
use Rattle.std.proofs.lemmas.List.{get_or_read}
use Rattle.vn_epair.specs.declared.line.Awaited.{Awaited}
use Rattle.vn_epair.specs.declared.pair_row.TheConstants.{UNIT_MAX}
use Rattle.vn_epair.specs.Line.{Halves}
use Rattle.vn_epair.proofs.Order.{home-first, home-none, home-other}
use Rattle.vn_epair.proofs.line.Line.first_of.Goals as goal

pub returns-then-behind-eq0-clause-none : goal.returns-then-behind-eq0-clause-none
returns-then-behind-eq0-clause-none c =
    let held : c.self.inside.listed.items ≡ c.args.self.now.listed = ap (λ (h : Halves). h.listed) c.self.view_is in
    sym (ap (list_any (λ (e : Awaited). e.home.0 == c.args.home.0)) held)
    ∙ home-none c.self.inside.listed.items c.args.home.0 c.count_behind-behind.result c.self.invariant.0 (search rules) (search rules) (search rules) c.if-behind-eq0.true

pub returns-then-ne-clause-none : goal.returns-then-ne-clause-none
returns-then-ne-clause-none c =
    let held : c.self.inside.listed.items ≡ c.args.self.now.listed = ap (λ (h : Halves). h.listed) c.self.view_is in
    let some : 0 < c.count_behind-behind.result = omega arith in
    let within : c.count_behind-behind.result - 1 < length c.self.inside.listed.items = omega (arith, c.count_behind-behind.ensures.within, c.deref.ensures.len) in
    let units : list_any (λ (e : Awaited). nat_lt UNIT_MAX e.unit) c.self.inside.listed.items ≡ false = ap (list_any (λ (e : Awaited). nat_lt UNIT_MAX e.unit)) held ∙ c.requires in
    let other : c.index-first.result.now.home.0 ≢ c.args.home.0 = search rules in
    sym (ap (list_any (λ (e : Awaited). e.home.0 == c.args.home.0)) held)
    ∙ home-other c.self.inside.listed.items c.args.home.0 c.count_behind-behind.result c.self.invariant.0 (search rules) (search rules) (search rules) units c.index-first.result.now some (λ d. sym (get_or_read c.self.inside.listed.items _ _ within c.index-first.ensures d)) other

pub returns-clause-first : goal.returns-clause-first
returns-clause-first c =
    let held : c.self.inside.listed.items ≡ c.args.self.now.listed = ap (λ (h : Halves). h.listed) c.self.view_is in
    let some : 0 < c.count_behind-behind.result = omega arith in
    let within : c.count_behind-behind.result - 1 < length c.self.inside.listed.items = omega (arith, c.count_behind-behind.ensures.within, c.deref.ensures.len) in
    sym (ap (list_any _) held)
    ∙ home-first c.self.inside.listed.items c.args.home.0 c.count_behind-behind.result c.self.invariant.0 (search rules) (search rules) (search rules) c.index-first.result.now some (λ d. sym (get_or_read c.self.inside.listed.items _ _ within c.index-first.ensures d))

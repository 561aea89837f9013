use Rattle.std.proofs.Common.{◌≡◌, ◌≤◌, false, length, arith, rules, ap, ◌∙◌}
use Rattle.std.specs.List.{insert, list_any}
use Rattle.std.proofs.lemmas.List.Edits.{length-insert}
use Rattle.vn_epair.specs.Line.{Halves, rank, is_ranked}
use Rattle.vn_epair.proofs.Lists.{any-insert}
use Rattle.vn_epair.proofs.Order.{order-put}
use Rattle.vn_epair.proofs.line.Line.put.Goals as goal

pub invariant_of-self : goal.invariant_of-self
invariant_of-self c =
    let held : c.self.inside.listed.items ≡ c.args.self.now.listed = ap (λ (h : Halves). h.listed) c.self.view_is in
    let room : c.self.inside.room ≡ c.args.self.now.room = ap (λ (h : Halves). h.room) c.self.view_is in
    let is : c.insert.new.self.items ≡ insert c.self.inside.listed.items c.count_behind-place.result c.args.new = search rules in
    let other : list_any (is_ranked (rank c.args.new)) c.self.inside.listed.items ≡ false = ap (list_any (is_ranked (rank c.args.new))) held ∙ c.requires.other in
    let within : c.count_behind-place.result ≤ length c.self.inside.listed.items = search rules in
    let size = length-insert c.self.inside.listed.items c.count_behind-place.result c.args.new within in
    let len = ap length is in
    (rw is (order-put c.self.inside.listed.items c.count_behind-place.result c.args.new c.self.invariant.0 within (search rules) (search rules) other), omega (arith, c.self.invariant.1, c.insert.ensures.capacity, c.requires.room))

pub returns-clause-listed : goal.returns-clause-listed
returns-clause-listed c = λ test.
    let held : c.self.inside.listed.items ≡ c.args.self.now.listed = ap (λ (h : Halves). h.listed) c.self.view_is in
    let is : c.insert.new.self.items ≡ insert c.self.inside.listed.items c.count_behind-place.result c.args.new = search rules in
    ap (list_any test) (is ∙ ap (λ xs. insert xs c.count_behind-place.result c.args.new) held) ∙ any-insert test c.args.self.now.listed c.count_behind-place.result c.args.new

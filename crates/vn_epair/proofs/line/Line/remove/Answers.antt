use Rattle.std.proofs.Common.{◌≡◌, ◌-◌, ◌<◌, ◌≤◌, true, length, arith, rules, ap, ◌∙◌}
use Rattle.std.specs.List.{remove, list_any}
use Rattle.std.proofs.lemmas.List.Edits.{length-remove}
use Rattle.vn_epair.specs.Line.{Halves, rank, is_ranked}
use Rattle.vn_types.proofs.Chains.{chain-remove}
use Rattle.vn_epair.proofs.Order.{found-last, others-remove}
use Rattle.vn_epair.proofs.line.Line.remove.Goals as goal

pub overflow_sub-behind : goal.overflow_sub-behind
overflow_sub-behind c =
    let held : c.self.inside.listed.items ≡ c.args.self.now.listed = ap (λ (h : Halves). h.listed) c.self.view_is in
    let listed : list_any (is_ranked (rank c.args.old)) c.self.inside.listed.items ≡ true = ap (list_any (is_ranked (rank c.args.old))) held ∙ c.requires.listed in
    let last = found-last c.self.inside.listed.items (rank c.args.old) c.count_behind-behind.result c.self.invariant.0 (search rules) (search rules) (search rules) listed in
    omega (arith, last.0)

pub invariant_of-self : goal.invariant_of-self
invariant_of-self c =
    let held : c.self.inside.listed.items ≡ c.args.self.now.listed = ap (λ (h : Halves). h.listed) c.self.view_is in
    let listed : list_any (is_ranked (rank c.args.old)) c.self.inside.listed.items ≡ true = ap (list_any (is_ranked (rank c.args.old))) held ∙ c.requires.listed in
    let in' : c.count_behind-behind.result ≤ length c.self.inside.listed.items = search rules in
    let last = found-last c.self.inside.listed.items (rank c.args.old) c.count_behind-behind.result c.self.invariant.0 in' (search rules) (search rules) listed in
    let within : c.count_behind-behind.result - 1 < length c.self.inside.listed.items = omega (arith, last.0) in
    let is : c.remove.new.self.items ≡ remove c.self.inside.listed.items (c.count_behind-behind.result - 1) = c.remove.ensures.items in
    let size = length-remove c.self.inside.listed.items (c.count_behind-behind.result - 1) within in
    let len = ap length is in
    (rw is (chain-remove (λ x y. rank y < rank x) c.self.inside.listed.items (c.count_behind-behind.result - 1) c.self.invariant.0 within), omega (arith, c.self.invariant.1, c.remove.ensures.capacity))

pub returns-clause-others : goal.returns-clause-others
returns-clause-others c = λ test.
    let held : c.self.inside.listed.items ≡ c.args.self.now.listed = ap (λ (h : Halves). h.listed) c.self.view_is in
    let listed : list_any (is_ranked (rank c.args.old)) c.self.inside.listed.items ≡ true = ap (list_any (is_ranked (rank c.args.old))) held ∙ c.requires.listed in
    let in' : c.count_behind-behind.result ≤ length c.self.inside.listed.items = search rules in
    let last = found-last c.self.inside.listed.items (rank c.args.old) c.count_behind-behind.result c.self.invariant.0 in' (search rules) (search rules) listed in
    let within : c.count_behind-behind.result - 1 < length c.self.inside.listed.items = omega (arith, last.0) in
    ap (list_any test) c.remove.ensures.items
    ∙ others-remove c.self.inside.listed.items (c.count_behind-behind.result - 1) (rank c.args.old) c.self.invariant.0 within last.1 test
    ∙ ap (list_any _) held

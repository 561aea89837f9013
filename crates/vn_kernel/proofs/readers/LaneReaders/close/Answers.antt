use Rattle.std.proofs.Common.{◌≡◌, List, rules, length, ap, ap₂, ◌∙◌}
use Rattle.std.specs.Prelude.{not, nat_lt}
use Rattle.std.proofs.lemmas.Fn.{filter_same}
use Rattle.vn_kernel.specs.Readers.{OpenReader, is_of, without}
use Rattle.vn_kernel.proofs.Lanes.{fewer}
use Rattle.vn_kernel.proofs.readers.LaneReaders.close.Goals as goal

-- what is left of them
left : (c : goal.After-len) → c.retain.new.self.items ≡ without c.args.lane c.args.self.now
left c = filter_same _ (λ r. not (is_of c.args.lane r)) _ (λ a b f k. search rules) _ _ c.retain.ensures.filtered ∙ ap (without c.args.lane) c.self.view_is

pub returns-clause-had : goal.returns-clause-had
returns-clause-had c =
    ap₂ nat_lt (c.len.ensures ∙ c.retain.new.self.ok.0 ∙ ap (λ (rs : List OpenReader). length rs) (left c)) (c.len-before.ensures ∙ c.self.inside.readers.ok.0 ∙ ap (λ (rs : List OpenReader). length rs) c.self.view_is)
    ∙ fewer c.args.lane c.args.self.now

pub returns-clause-left : goal.returns-clause-left
returns-clause-left c = left c

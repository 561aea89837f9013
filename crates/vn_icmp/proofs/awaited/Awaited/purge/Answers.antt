use Rattle.std.proofs.Common.{rules, not, ap, ◌∙◌}
use Rattle.std.proofs.lemmas.Fn.{filter_same}
use Rattle.vn_rules.specs.Pings.{pings_without}
use Rattle.vn_icmp.specs.Which.{is_one}
use Rattle.vn_icmp.proofs.awaited.Awaited.purge.Goals as goal

pub returns : goal.returns
returns c =
    (λ i. record { next = c.self.inside.next; awaited = filter_same _ (λ ping. not (is_one c.args.which ping)) _ (λ a b f k. search rules) _ _ c.retain.ensures.filtered i })
    ∙ ap (pings_without (is_one c.args.which)) c.self.view_is

use Rattle.std.proofs.Common.{not, ◌==◌, rules, ap, ◌∙◌}
use Rattle.std.proofs.lemmas.Map.Made.{filter_same_pairs}
use Rattle.vn_rules.specs.Timers.{without_timer}
use Rattle.vn_callout.proofs.Entries.{numbered-filter}
use Rattle.vn_callout.proofs.timers.Timers.stop.Goals as goal

pub invariant_of-self : goal.invariant_of-self
invariant_of-self c =
    numbered-filter c.self.inside.armed (λ e. not (e.0.1 == c.args.arm)) _ _ (filter_same_pairs _ (λ e. not (e.0.1 == c.args.arm)) _ (λ k v b w f t. search rules) _ _ c.retain.ensures.filtered) c.self.invariant

pub returns-clause-stopped : goal.returns-clause-stopped
returns-clause-stopped c =
    (λ i. record {
      armed = c.self.inside.armed;
      standing = filter_same_pairs _ (λ e. not (e.0.1 == c.args.arm)) _ (λ k v b w f t. search rules) _ _ c.retain.ensures.filtered i;
    })
    ∙ ap (without_timer c.args.arm) c.self.view_is

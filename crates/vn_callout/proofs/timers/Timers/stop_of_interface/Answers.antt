use Rattle.std.proofs.Common.{not, rules, ap, ◌∙◌}
use Rattle.std.proofs.lemmas.Map.Made.{filter_same_pairs}
use Rattle.vn_types.specs.Interfaces.{half_id_eq}
use Rattle.vn_rules.specs.Interfaces.{is_timer_of}
use Rattle.vn_rules.specs.Timers.{times_without}
use Rattle.vn_callout.proofs.Entries.{numbered-filter}
use Rattle.vn_callout.proofs.timers.Timers.stop_of_interface.Goals as goal

pub invariant_of-self : goal.invariant_of-self
invariant_of-self c =
    numbered-filter c.self.inside.armed (λ e. not (is_timer_of half_id_eq c.args.half e.1)) _ _ (filter_same_pairs _ (λ e. not (is_timer_of half_id_eq c.args.half e.1)) _ (λ k v b w f t. search rules) _ _ c.retain.ensures.filtered) c.self.invariant

pub returns : goal.returns
returns c =
    (λ i. record {
      armed = c.self.inside.armed;
      standing = filter_same_pairs _ (λ e. not (is_timer_of half_id_eq c.args.half e.1)) _ (λ k v b w f t. search rules) _ _ c.retain.ensures.filtered i;
    })
    ∙ ap (times_without half_id_eq c.args.half) c.self.view_is

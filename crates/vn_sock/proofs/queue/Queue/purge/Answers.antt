use Rattle.std.proofs.Common.{rules, not, ap, ◌∙◌}
use Rattle.std.specs.List.{filter}
use Rattle.std.proofs.lemmas.Fn.{filter_same}
use Rattle.vn_types.specs.Interfaces.{half_id_eq, if_same}
use Rattle.vn_rules.specs.declared.socket.GramOf.{GramOf}
use Rattle.vn_types.specs.declared.interface.HalfId.{HalfId}
use Rattle.vn_sock.proofs.queue.Queue.purge.Goals as goal

pub returns : goal.returns
returns c =
    filter_same _ (λ g. not (if_same half_id_eq g.via c.args.via)) _ (λ a b f k. search rules) _ _ c.retain.ensures.filtered
    ∙ ap (filter (λ (g : GramOf HalfId). not (if_same half_id_eq g.via c.args.via))) c.self.view_is

use Rattle.std.proofs.Common.{refl, sym, ap, ◌∙◌}
use Rattle.std.specs.Map.Iter.{deref_pair}
use Rattle.std.proofs.lemmas.Map.Iter.{rest_all, rest_so_far}
use Rattle.vn_jail.specs.Tree.{path_at}
use Rattle.vn_types.specs.Paths.{key_cmp, path_cmp}
use Rattle.vn_kernel.specs.Fields.{fields}
use Rattle.vn_kernel.proofs.removing.Between.{goes-forward, numbers-between}
use Rattle.vn_kernel.proofs.removal.homed_pairs.Goals as goal

pub range-pair-items-requires : goal.range-pair-items-requires
unfolding key_cmp path_cmp
range-pair-items-requires c =
    goes-forward (path_at c.args.state.now.jails c.args.sid.0) 4294967295 _ _
    (ap (λ r. r.now) c.new.ensures.start ∙ (λ i. ((c.in_ok-copy.ensures ∙ c.path.ensures) i, 0)))
    (ap (λ r. r.now) c.new.ensures.end ∙ (λ i. ((c.in_ok-copy-2.ensures ∙ c.path-2.ensures) i, 4294967295)))

pub returns : goal.returns
unfolding key_cmp path_cmp
returns c =
    numbers-between (fields c.args.state.now) c.requires.stands (path_at c.args.state.now.jails c.args.sid.0) deref_pair (λ e. e.1.now) (λ x. refl) c.loop-pair.pairs.items c.range-pair-items.result c.loop-pair.pair-iterator c.loop-pair.yielded
    c.loop-pair.invariant (sym c.into_iter-pair-iterator.ensures.into_iter_gives ∙ rest_so_far deref_pair c.loop-pair.yielded _ _ c.loop-pair.yielded_by)
    (rest_all deref_pair _ _ _ c.in-None.is c.next.ensures.steps) _ _ 4294967295
    (ap (λ r. r.now) c.new.ensures.start ∙ (λ i. ((c.in_ok-copy.ensures ∙ c.path.ensures) i, 0)))
    (ap (λ r. r.now) c.new.ensures.end ∙ (λ i. ((c.in_ok-copy-2.ensures ∙ c.path-2.ensures) i, 4294967295)))
    refl (c.range-pair-items.ensures.between tt)

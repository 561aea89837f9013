use Rattle.std.proofs.Common.{rules, tests, ◌≡◌, Bool, ◌&&◌, List, Option, Some, find, sym, ap, ◌∙◌}
use Rattle.std.specs.Option.{option_map}
use Rattle.std.specs.BTreeMap.Range.{entries_between}
use Rattle.std.specs.declared.ops.Bound.TheVariants.{Unbounded}
use Rattle.std.proofs.lemmas.Iterator.Consumers.{YieldsList-from_rest}
use Rattle.std.proofs.lemmas.Iterator.Search.{find_from_yields_List}
use Rattle.vn_types.specs.declared.interface.HalfId.{HalfId}
use Rattle.vn_types.specs.declared.address.Prefix.{Prefix}
use Rattle.vn_types.specs.Interfaces.{half_id_eq}
use Rattle.vn_rules.specs.Routes.{Routed, is_stranded, prefix_cmp}
use Rattle.vn_route.specs.Behind.{bound_behind, is_behind}
use Rattle.vn_route.proofs.Behind.{found-between}
use Rattle.vn_route.proofs.stranded.next_stranded.Goals as goal

-- the first that passes of those in the range behind the last prefix is the first that stands behind it and passes
first-behind : (last : Option Prefix) (p : Routed HalfId → Bool) (es : List (Routed HalfId)) (o : Option (Routed HalfId)) → o ≡ find p (entries_between prefix_cmp (bound_behind last) Unbounded es)
    → option_map (λ (e : Routed HalfId). e.0) o ≡ option_map (λ (e : Routed HalfId). e.0) (find (λ (e : Routed HalfId). is_behind last e.0 && p e) es)
first-behind last p es o is = ap (option_map (λ (e : Routed HalfId). e.0)) (is ∙ found-between last p es)

pub returns-in_err-network : goal.returns-in_err-network
returns-in_err-network c =
    c.from_residual.ensures
    ∙ sym (ap (λ o. option_map (λ (e : Routed HalfId). e.0) (option_map (λ p. (p.0.now, p.1.now)) o)) c.in_err-network.was)
    ∙ first-behind c.args.last (λ (e : Routed HalfId). is_stranded half_id_eq c.args.on c.args.routes.now.entries e.1) c.args.routes.now.entries _
    (find_from_yields_List _ c.find.new.self _ c.find.result c.find.ensures.ran
    (YieldsList-from_rest _ (c.range.ensures.between tt ∙ ap (λ b. entries_between prefix_cmp b Unbounded c.args.routes.now.entries) c.bound_behind.ensures))
    (λ x b q k. search (rules, tests)))

pub returns : goal.returns
returns c =
    ap Some c.prefix.ensures
    ∙ sym (ap (λ o. option_map (λ (e : Routed HalfId). e.0) (option_map (λ p. (p.0.now, p.1.now)) o)) c.in_ok-network.was)
    ∙ first-behind c.args.last (λ (e : Routed HalfId). is_stranded half_id_eq c.args.on c.args.routes.now.entries e.1) c.args.routes.now.entries _
    (find_from_yields_List _ c.find.new.self _ c.find.result c.find.ensures.ran
    (YieldsList-from_rest _ (c.range.ensures.between tt ∙ ap (λ b. entries_between prefix_cmp b Unbounded c.args.routes.now.entries) c.bound_behind.ensures))
    (λ x b q k. search (rules, tests)))

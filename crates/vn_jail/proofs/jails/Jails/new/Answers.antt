use Rattle.std.proofs.Common.{◌≡◌, Some, sym, ap, ◌∙◌, subst, rules, ◌∷◌, [], cond}
use Rattle.std.specs.Map.{lookup}
use Rattle.std.specs.BTreeMap.{get, is_at}
use Rattle.vn_types.specs.Paths.{path_cmp}
use Rattle.vn_jail.specs.Tree.{host_jail}
use Rattle.vn_jail.specs.Kept.{IsKept}
use Rattle.vn_jail.proofs.Tables.{kept-opened}
use Rattle.vn_jail.proofs.jails.Jails.new.Goals as goal

pub invariant_of-result : goal.invariant_of-result
invariant_of-result c =
    let jails : c.push_reserved.new.self.items ≡ host_jail ∷ [] = search rules in
    let order : c.push_reserved-2.new.self.items ≡ record { 0 = 0 } ∷ [] = search rules in
    let own = c.host-2.ensures in
    subst (λ js. IsKept js c.insert.new.self c.push_reserved-2.new.self.items) (sym jails) (subst (λ os. IsKept (host_jail ∷ []) c.insert.new.self os) (sym order)
    (kept-opened c.new-numbers.result c.insert.new.self (λ q. ap (lookup (is_at (path_cmp q))) c.new-numbers.ensures.empty)
    (λ q. c.in_ok-insert.ensures.updates.0 q ∙ ap (λ p. cond (is_at (path_cmp p) q) (Some 0) (get path_cmp c.new-numbers.result q)) own)))

-- The order of prefixes is total, and what it finds equal is an equality.
use Rattle.std.specs.Prelude.{Some, refl}
use Rattle.std.specs.Ordering.{eq_by_cmp}
use Rattle.std.specs.Cmp.{IsTotalOrder, IsEquivalence, IsPartialOrder, eq_by_cmp_equiv, po}
use Rattle.vn_rules.specs.Routes.{prefix_cmp}
use Rattle.vn_rules.proofs.OrderLaws.{prefix_cmp_total}

-- the order is total
pub prefix_total : IsTotalOrder prefix_cmp
prefix_total = prefix_cmp_total

-- prefixes that compare as equal are an equivalence
pub prefix_equiv : IsEquivalence (eq_by_cmp prefix_cmp)
prefix_equiv = eq_by_cmp_equiv prefix_cmp_total

-- the order is one with that equality
pub prefix_po : IsPartialOrder (eq_by_cmp prefix_cmp) (λ a b. Some (prefix_cmp a b))
prefix_po = po prefix_cmp_total (λ a b. refl)

-- The tests on paths and on the names of pairs decide equality, and their orders are exact.
use Rattle.std.proofs.Common.{◌≡◌, ◌==◌, ap, ◌∙◌}
use Rattle.std.specs.Bool.{Decides}
use Rattle.std.specs.Cmp.{IsTotalOrder, Equal-is, then_total, on_total, nat_cmp_total}
use Rattle.std.specs.declared.cmp.Ordering.TheVariants.{Equal}
use Rattle.std.proofs.lemmas.Bool.Decides.{Decides-eqb, Decides-and, Decides-like}
use Rattle.vn_types.specs.Paths.{Path, Key, path_eq, key_eq, key_cmp}
use Rattle.vn_types.specs.PathOrder

-- of two paths
pub path_eq-Decides : (p q : Path) → Decides (path_eq p q) (p ≡ q)
path_eq-Decides = PathOrder.path_eq-Decides

-- of two homes with units
pub key_eq-Decides : (a b : Key) → Decides (key_eq a b) (a ≡ b)
unfolding key_eq
key_eq-Decides a b =
    Decides-like (key_eq a b) (λ e i. (e.0 i, e.1 i)) (λ e. (ap (λ (k : Key). k.0) e, ap (λ (k : Key). k.1) e))
    (Decides-and (path_eq a.0 b.0) (a.1 == b.1) (path_eq-Decides a.0 b.0) (Decides-eqb a.1 b.1))

-- homes with units that compare equal are one
pub key_cmp-exact : (a b : Key) → key_cmp a b ≡ Equal → a ≡ b
key_cmp-exact a b e = (key_eq-Decides a b).0 (PathOrder.key_ties a b ∙ (Equal-is (key_cmp a b)).1 e)

pub key_total : IsTotalOrder key_cmp
unfolding key_cmp
key_total = then_total (on_total (λ (a : Key). a.0) PathOrder.path_total) (on_total (λ (a : Key). a.1) nat_cmp_total)

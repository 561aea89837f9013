-- Paths below others, and how the order of paths tells of them.
use Rattle.std.proofs.Common.{◌∙◌, ◌≡◌, true, false, ◌&&◌, not, [], ◌∷◌, ◌++◌, refl, ap, arith}
use Rattle.std.specs.List.{list_any}
use Rattle.std.proofs.lemmas.Slice.Eq.{bytes_eq-Decides}
use Rattle.vn_types.specs.PathOrder.{path_eq-Decides}
use Rattle.vn_types.proofs.Ancestors.{any-above, is_under-host, parent-cons}
use Rattle.vn_cells.specs.world.Names.{Path, path_eq, is_host, is_under, is_below, above, parent}

pub path_eq-sym : (p q : Path) → path_eq p q ≡ path_eq q p
path_eq-sym p q = grind (arith, path_eq-Decides p q, path_eq-Decides q p)

pub below-parent : (p : Path) → is_host p ≡ false → is_below p (parent p) ≡ true
unfolding is_host above path_eq is_under
below-parent [] e = cc
below-parent (l ∷ []) e = refl
below-parent (l ∷ n ∷ q) e = ap (λ r. is_under (l ∷ n ∷ q) r && not (path_eq r (l ∷ n ∷ q))) (parent-cons l n q) ∙ grind (arith, bytes_eq-Decides l l, below-parent (n ∷ q) refl)

-- whether a path is among another's proper ancestors other than host
pub above-below : (q p : Path) → is_host p ≡ false → list_any (path_eq p) (above q) ≡ is_below q p
above-below q p top = any-above q p ∙ grind arith

pub under-trans : (r q p : Path) → is_under r q ≡ true → is_under q p ≡ true → is_under r p ≡ true
unfolding is_under
under-trans r q [] u t = is_under-host r
under-trans r [] (x ∷ p) u t = cc
under-trans [] (m ∷ q) (x ∷ p) u t = cc
under-trans (l ∷ r) (m ∷ q) (x ∷ p) u t = grind (arith, bytes_eq-Decides x m, bytes_eq-Decides m l, bytes_eq-Decides x l, under-trans r q p, u, t)

-- ---- what is under a path other than host

pub not_host_under : (q p : Path) → is_host p ≡ false → is_under q p ≡ true → is_host q ≡ false
unfolding is_host is_under
not_host_under q [] top under = cc
not_host_under [] (x ∷ p) top under = cc
not_host_under (l ∷ q) (x ∷ p) top under = refl

pub parent_host : (r : Path) → is_host r ≡ true → is_host (parent r) ≡ true
unfolding is_host above
parent_host [] e = refl
parent_host (l ∷ r) e = cc

pub under-append : (p q : Path) → is_under (p ++ q) p ≡ true
unfolding is_under
under-append [] q = is_under-host q
under-append (l ∷ p) q = grind (arith, bytes_eq-Decides l l, under-append p q)

pub append-not_host : (p q : Path) → is_host q ≡ false → is_host (p ++ q) ≡ false
unfolding is_host
append-not_host [] q e = e
append-not_host (l ∷ p) q e = refl

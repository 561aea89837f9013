-- How the order of paths tells of those that are under another.
use Rattle.std.proofs.Common.{◌∙◌, ◌≡◌, ℕ, true, false, ◌&&◌, List, [], ◌∷◌, ◌++◌, append_assoc, refl, sym, ap, ap₂, arith}
use Rattle.std.specs.Ordering.{nat_cmp, ordering_then}
use Rattle.std.specs.Cmp.{nat_cmp_total}
use Rattle.std.specs.Cmp.Lexicographic.{slice_cmp}
use Rattle.std.specs.Str.{bytes_eq}
use Rattle.std.specs.declared.cmp.Ordering.TheVariants.{Less, Equal}
use Rattle.std.proofs.lemmas.Bool.{true≢false}
use Rattle.std.proofs.lemmas.Slice.Eq.{bytes_eq-Decides}
use Rattle.vn_types.specs.OctetOrder.{self_equal}
use Rattle.vn_types.specs.Paths.{Path, path_eq, path_cmp, is_under, joined}

pub under-refl : (p : Path) → is_under p p ≡ true
unfolding is_under
under-refl [] = refl
under-refl (l ∷ p) = grind (arith, bytes_eq-Decides l l, under-refl p)

-- the text of what is below comes later
text_below : (l : List ℕ) (p q : Path) → is_under q (l ∷ p) ≡ true → path_eq (l ∷ p) q ≡ false → (rest : List ℕ) × (joined q ≡ joined (l ∷ p) ++ 46 ∷ rest)
unfolding is_under path_eq joined
text_below l p [] under apart = cc
text_below l [] (m ∷ []) under apart = absurd (true≢false (sym under ∙ apart))
text_below l [] (m ∷ n ∷ q) under apart = (joined (n ∷ q), ap (λ t. t ++ 46 ∷ joined (n ∷ q)) (sym ((bytes_eq-Decides l m).0 (grind (arith, under)))))
text_below l (x ∷ p) (m ∷ []) under apart = absurd (no under)
  where
    no : (bytes_eq l m && false) ≡ true → ⊥
    no u = grind arith
text_below l (x ∷ p) (m ∷ n ∷ q) under apart =
    let same : l ≡ m = (bytes_eq-Decides l m).0 (grind (arith, under)) in
    let more = text_below x p (n ∷ q) (grind (arith, under)) (rest_apart same) in
    (more.0, ap₂ (λ a b. a ++ 46 ∷ b) (sym same) more.1 ∙ sym (append_assoc l (46 ∷ joined (x ∷ p)) (46 ∷ more.0)))
  where
    rest_apart : l ≡ m → path_eq (x ∷ p) (n ∷ q) ≡ false
    rest_apart same = grind (arith, bytes_eq-Decides l m, apart)

nat_self : (n : ℕ) → nat_cmp n n ≡ Equal
nat_self n = self_equal (nat_cmp n n) (nat_cmp_total.antisymm n n)

less_longer : (xs : List ℕ) (y : ℕ) (ys : List ℕ) → slice_cmp nat_cmp xs (xs ++ y ∷ ys) ≡ Less
less_longer [] y ys = refl
less_longer (x ∷ xs) y ys = rw (nat_self x) (less_longer xs y ys)

less_or_equal : (ys : List ℕ) (p q : Path) → p ≡ [] → path_eq p q ≡ false → ordering_then (slice_cmp nat_cmp [] ys) (slice_cmp (slice_cmp nat_cmp) p q) ≡ Less
unfolding path_eq
less_or_equal [] p [] e apart = cc
less_or_equal [] p (l ∷ q) e apart = ap (λ r. slice_cmp (slice_cmp nat_cmp) r (l ∷ q)) e
less_or_equal (y ∷ ys) p q e apart = refl

pub less-below : (p q : Path) → is_under q p ≡ true → path_eq p q ≡ false → path_cmp p q ≡ Less
unfolding path_cmp joined
less-below [] q under apart = less_or_equal (joined q) [] q refl apart
less-below (l ∷ p) q under apart =
    let t = text_below l p q under apart in
    ap (λ s. ordering_then (slice_cmp nat_cmp (joined (l ∷ p)) s) (slice_cmp (slice_cmp nat_cmp) (l ∷ p) q)) t.1 ∙ ap (λ r. ordering_then r (slice_cmp (slice_cmp nat_cmp) (l ∷ p) q)) (less_longer (joined (l ∷ p)) 46 t.0)

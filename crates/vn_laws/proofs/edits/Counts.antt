-- How many live below a path, and which, is told by who lives.
use Rattle.std.proofs.Common.{◌≡◌, ◌+◌, Bool, true, false, ◌&&◌, not, length, refl, sym, ap, ◌∙◌, arith}
use Rattle.std.specs.Prelude.{filter}
use Rattle.std.specs.Map.{keys_of}
use Rattle.std.proofs.lemmas.Bool.{and_parts}
use Rattle.vn_cells.specs.declared.world.World.{World}
use Rattle.vn_cells.specs.world.Names.{Path, path_eq, path_cmp, is_below}
use Rattle.vn_cells.specs.world.World.{is_alive}
use Rattle.vn_cells.specs.keeping.Sound.{living_below}
use Rattle.vn_types.specs.PathOrder.{path_eq-Decides, path_ties, path_total}
use Rattle.vn_laws.proofs.edits.Lists.{same-filter, length-filter-but}
use Rattle.vn_laws.proofs.edits.Cells.{Ordered, alive_listed}

-- the paths that pass are the same where those that live are
pub same_paths : (test : Path → Bool) (v w : World) → Ordered v → Ordered w → ((q : Path) → (is_alive w q && test q) ≡ (is_alive v q && test q))
    → filter (λ q. is_alive w q && test q) (keys_of w.stacks) ≡ filter (λ q. is_alive v q && test q) (keys_of v.stacks)
same_paths test v w s t e =
    (λ i. filter (λ q. e q i) (keys_of w.stacks))
    ∙ same-filter path_cmp path_total path_eq-Decides path_ties (λ q. is_alive v q && test q) (keys_of w.stacks) (keys_of v.stacks) t s
    (λ q h. alive_listed w q ((and_parts _ _ (e q ∙ h)).0) ∙ sym (alive_listed v q (and_parts _ _ h).0))

pub same_living : (v w : World) → Ordered v → Ordered w → ((q : Path) → is_alive w q ≡ is_alive v q) → (p : Path) → living_below w p ≡ living_below v p
unfolding living_below
same_living v w s t e p = ap length (same_paths (λ q. is_below q p) v w s t (λ q. ap (λ b. b && is_below q p) (e q)))

-- ---- one less

module _ (v w : World) (q : Path) (s : Ordered v) (t : Ordered w) (alive : is_alive v q ≡ true) (e : (r : Path) → is_alive w r ≡ (is_alive v r && not (path_eq r q))) where
  same_test : (p r : Path) → (is_alive w r && is_below r p) ≡ ((is_alive v r && is_below r p) && not (path_eq r q))
  same_test p r = ap (λ b. b && is_below r p) (e r) ∙ by (is_alive v r) (is_below r p) (path_eq r q)
    where
      by : (a b c : Bool) → ((a && not c) && b) ≡ ((a && b) && not c)
      by a b c = grind arith

  pub one_living_less : (p : Path) → is_below q p ≡ true → living_below v p ≡ living_below w p + 1
  unfolding living_below
  one_living_less p below =
      length-filter-but path_cmp path_total path_eq-Decides path_ties (λ r. is_alive v r && is_below r p) q (keys_of v.stacks) s (alive_listed v q alive) (both alive below)
      ∙ ap (λ n. n + 1) (ap length (sym same))
    where
      both : is_alive v q ≡ true → is_below q p ≡ true → (is_alive v q && is_below q p) ≡ true
      both a b = grind arith

      same : filter (λ r. is_alive w r && is_below r p) (keys_of w.stacks) ≡ filter (λ r. (is_alive v r && is_below r p) && not (path_eq r q)) (keys_of v.stacks)
      same =
          (λ i. filter (λ r. same_test p r i) (keys_of w.stacks))
          ∙ same-filter path_cmp path_total path_eq-Decides path_ties (λ r. (is_alive v r && is_below r p) && not (path_eq r q)) (keys_of w.stacks) (keys_of v.stacks) t s
          (λ r h. alive_listed w r (and_parts _ _ (same_test p r ∙ h)).0 ∙ sym (alive_listed v r (and_parts _ _ (and_parts _ _ h).0).0))

  pub same_living_but : (p : Path) → is_below q p ≡ false → living_below w p ≡ living_below v p
  unfolding living_below
  same_living_but p apart = ap length (same_paths (λ r. is_below r p) v w s t (λ r. same_test p r ∙ by r (path_eq r q) refl))
    where
      by : (r : Path) (c : Bool) → path_eq r q ≡ c → ((is_alive v r && is_below r p) && not c) ≡ (is_alive v r && is_below r p)
      by r true f = ap (λ r. (is_alive v r && is_below r p) && false) ((path_eq-Decides r q).0 f) ∙ grind (arith, apart) ∙ ap (λ r. is_alive v r && is_below r p) (sym ((path_eq-Decides r q).0 f))
      by r false f = grind arith

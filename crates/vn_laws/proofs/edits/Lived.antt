-- Who lives after an edit.
use Rattle.std.proofs.Common.{◌≡◌, Bool, true, false, ◌||◌, ◌⊎◌, inl, inr, refl, sym, ap, ◌∙◌}
use Rattle.vn_types.specs.PathOrder.{path_eq-Decides}
use Rattle.vn_cells.specs.declared.world.World.{World}
use Rattle.vn_cells.specs.world.Names.{Path, path_eq}
use Rattle.vn_cells.specs.world.World.{is_alive}

pub record IsNew (v w : World) (q : Path) : Type 0 where
  pub before : is_alive v q ≡ false
  pub alive : (r : Path) → is_alive w r ≡ (path_eq r q || is_alive v r)

-- who lives after an event lived before, or is a jail that the event made
pub record Lived (v w : World) : Type 0 where
  pub of : (q : Path) → is_alive w q ≡ true → (is_alive v q ≡ true) ⊎ IsNew v w q

pub lived-fewer : {v w : World} → ((q : Path) → is_alive w q ≡ true → is_alive v q ≡ true) → Lived v w
lived-fewer e = record { of = λ q h. inl (e q h) }

pub lived-same : {v w : World} → ((q : Path) → is_alive w q ≡ is_alive v q) → Lived v w
lived-same e = lived-fewer (λ q h. sym (e q) ∙ h)

-- one path more lives
pub lived-born : {v w : World} (p : Path) → is_alive v p ≡ false → ((q : Path) → is_alive w q ≡ (path_eq q p || is_alive v q)) → Lived v w
lived-born {v} {w} p dead alive = record { of = λ q h. by q (path_eq q p) refl h }
  where
    by : (q : Path) (b : Bool) → path_eq q p ≡ b → is_alive w q ≡ true → (is_alive v q ≡ true) ⊎ IsNew v w q
    by q false e h = inl (sym (alive q ∙ ap (λ b. b || is_alive v q) e) ∙ h)
    by q true e h = inr (record {
      before = ap (is_alive v) ((path_eq-Decides q p).0 e) ∙ dead;
      alive = λ r. alive r ∙ ap (λ s. path_eq r s || is_alive v r) (sym ((path_eq-Decides q p).0 e));
    })

-- Another number of living descendants.
use Rattle.std.proofs.Common.{◌≡◌, ℕ, Bool, true, false, ◌==◌, Option, Some, None, refl, ap, ◌∙◌}
use Rattle.std.specs.Prelude.{if◌then◌else◌}
use Rattle.std.specs.Option.{is_none}
use Rattle.std.proofs.lemmas.Bool.Decides.{Decides-eqb}
use Rattle.vn_cells.specs.declared.world.Children.{Children}
use Rattle.vn_cells.specs.declared.world.Live.{Live}
use Rattle.vn_cells.specs.declared.world.Stack.{Stack}
use Rattle.vn_cells.specs.world.Names.{Path, is_host}
use Rattle.vn_cells.specs.world.World.{live_map}
use Rattle.vn_cells.specs.commands.Jails.{recount, counted_by}
use Rattle.vn_cells.specs.keeping.Sound.{counts_right, is_number}

-- what does not look at the number is as it was
pub recounted : {A : Type 0} (g : Option Live → A) → ((live : Live) (c : Option Children) → g (Some (record live { children = c })) ≡ g (Some live))
    → (b : Bool) (f : ℕ → ℕ) (s : Stack) → g (if b then live_map (recount f) s else s).live ≡ g s.live
recounted g blind b f s = by b s.live
  where
    by : (b : Bool) (o : Option Live) → g (if b then live_map (recount f) (record s { live = o }) else record s { live = o }).live ≡ g o
    by false o = refl
    by true None = refl
    by true (Some live) = blind live (counted_by f live.children)

-- the number is right where it changes as the living do; host has none
pub recounted_right : (b : Bool) (f : ℕ → ℕ) (m n : ℕ) (r : Path) (s : Stack)
    → (is_host r ≡ false → (if b then f m else m) ≡ n) → counts_right m r s.live ≡ true
    → counts_right n r (if b then live_map (recount f) s else s).live ≡ true
recounted_right b f m n r s right counted = by b s.live right counted
  where
    number : (children : Children) → (if is_host r then false else children.living == m) ≡ true → (is_host r ≡ false) × (children.living ≡ m)
    number children c = on (is_host r) c
      where
        on : (h : Bool) → (if h then false else children.living == m) ≡ true → (h ≡ false) × (children.living ≡ m)
        on false c = (refl, (Decides-eqb children.living m).0 c)
        on true c = cc

    again : (x : ℕ) → is_host r ≡ false → x ≡ n → (if is_host r then false else x == n) ≡ true
    again x top e = ap (λ h. if h then false else x == n) top ∙ (Decides-eqb x n).1 e

    children : (b : Bool) (c : Option Children) → (is_host r ≡ false → (if b then f m else m) ≡ n) → (if is_host r then is_none c else is_number m c) ≡ true
        → (if is_host r then is_none (if b then counted_by f c else c) else is_number n (if b then counted_by f c else c)) ≡ true
    children true None right c = c
    children false None right c = c
    children true (Some ch) right c = let k = number ch c in again (f ch.living) k.0 (ap f k.1 ∙ right k.0)
    children false (Some ch) right c = let k = number ch c in again ch.living k.0 (k.1 ∙ right k.0)

    by : (b : Bool) (o : Option Live) → (is_host r ≡ false → (if b then f m else m) ≡ n) → counts_right m r o ≡ true
        → counts_right n r (if b then live_map (recount f) (record s { live = o }) else record s { live = o }).live ≡ true
    by true None right c = refl
    by false None right c = refl
    by true (Some live) right c = children true live.children right c
    by false (Some live) right c = children false live.children right c

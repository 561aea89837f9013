-- A scene's tables, and what was dropped, under other names of halves.
use Rattle.std.proofs.Common.{◌≡◌, ℕ, Bool, true, false, cond, map, refl, ap, ◌∙◌}
use Rattle.vn_rules.specs.declared.parts.PartsOf.{PartsOf}
use Rattle.vn_rules.specs.Renamed.{renamed}
use Rattle.vn_rules.specs.Scenes.{SceneOf, as_link, renamed_scene}
use Rattle.vn_packets.specs.declared.tally.Tally.{Tally}
use Rattle.vn_packets.specs.Drops.{on_parts, counted, lost, lost_if}

-- of two the chosen one, where the test and both are the same under a function
pub choice : {A B : Type 0} (f : A → B) (u v : A) {b c : Bool} {x y : B} → b ≡ c → x ≡ f u → y ≡ f v → cond b x y ≡ f (cond c u v)
choice f u v {c = c} {x = x} {y = y} test left right = ap (λ (a : Bool). cond a x y) test ∙ by c
  where
    by : (a : Bool) → cond a x y ≡ f (cond a u v)
    by true = left
    by false = right

module _ {N M : Type 0} (r : N → M) where
  pub on_parts-renamed : (f : PartsOf N → PartsOf N) (g : PartsOf M → PartsOf M) (s : SceneOf N) → g (renamed r s.parts) ≡ renamed r (f s.parts) → on_parts g (renamed_scene r s) ≡ renamed_scene r (on_parts f s)
  unfolding renamed_scene
  on_parts-renamed f g s same i = record { parts = same i; links = map (as_link r) s.links }

  pub counted-renamed : (what : Tally) (n : ℕ) (p : PartsOf N) → counted what n (renamed r p) ≡ renamed r (counted what n p)
  unfolding counted renamed
  counted-renamed what n p = refl

  pub lost-renamed : (what : Tally) (n : ℕ) (s : SceneOf N) → lost what n (renamed_scene r s) ≡ renamed_scene r (lost what n s)
  lost-renamed what n s = on_parts-renamed (counted what n) (counted what n) s (counted-renamed what n s.parts)

  pub lost_if-renamed : {b c : Bool} → b ≡ c → (what : Tally) (s : SceneOf N) → lost_if b what (renamed_scene r s) ≡ renamed_scene r (lost_if c what s)
  lost_if-renamed test what s = choice (renamed_scene r) (lost what 1 s) s test (lost-renamed what 1 s) refl

-- A half that goes up or down: the scene stays sound, and the rules are the same under other names of halves.
use Rattle.std.proofs.Common.{◌≡◌, Bool, true, false, ◌&&◌, List, [], ◌∷◌, map, Option, Some, None, refl, ap, ap₂}
use Rattle.std.specs.Prelude.{if◌then◌else◌}
use Rattle.std.specs.List.{list_all}
use Rattle.std.specs.Option.{option_map}
use Rattle.std.proofs.lemmas.Bool.{and_parts, and_from}
use Rattle.vn_types.specs.declared.interface.IfOf.{IfOf}
use Rattle.vn_types.specs.declared.interface.IfOf.TheVariants.{Lo0, Half}
use Rattle.vn_types.specs.Interfaces.{as_if}
use Rattle.vn_rules.specs.LinkCommands.{set_up}
use Rattle.vn_rules.specs.Scenes.{LinkOf, SceneOf, own_link, on_link, is_queue, is_sound_scene, renamed_scene}
use Rattle.vn_rules.proofs.SceneLaws.{on_link-renamed}

module _ {N : Type 0} (same : N → N → Bool) where
  abbrev pub are_queues : List (LinkOf N) → Bool
  are_queues links = list_all (λ (l : LinkOf N). is_queue l.sent) links

  -- a link that is changed, but what it sent
  pub on_link-queues : (h : N) (f : LinkOf N → LinkOf N) → ((l : LinkOf N) → (f l).sent ≡ l.sent) → (links : List (LinkOf N))
      → are_queues (map (own_link same h f) links) ≡ are_queues links
  on_link-queues h f sent [] = refl
  on_link-queues h f sent (l ∷ links) = ap₂ ◌&&◌ (by (same l.half h)) (on_link-queues h f sent links)
    where
      by : (b : Bool) → is_queue (if b then f l else l).sent ≡ is_queue l.sent
      by true = ap is_queue (sent l)
      by false = refl

  pub set_up-parts : (up : Bool) (on : Option (IfOf N)) (s : SceneOf N) → (set_up same up on s).parts ≡ s.parts
  unfolding set_up on_link
  set_up-parts up None s = refl
  set_up-parts up (Some Lo0) s = refl
  set_up-parts up (Some (Half h)) s = refl

  pub set_up-queues : (up : Bool) (on : Option (IfOf N)) (s : SceneOf N) → are_queues (set_up same up on s).links ≡ are_queues s.links
  unfolding set_up on_link
  set_up-queues up None s = refl
  set_up-queues up (Some Lo0) s = refl
  set_up-queues up (Some (Half h)) s = on_link-queues h (λ l. record l { up = up }) (λ l. refl) s.links

  pub set_up-sound : (up : Bool) (on : Option (IfOf N)) (s : SceneOf N) → is_sound_scene same s ≡ true → is_sound_scene same (set_up same up on s) ≡ true
  unfolding is_sound_scene
  set_up-sound up on s e =
      let parts = and_parts _ (are_queues s.links) e in
      rw (set_up-parts up on s, set_up-queues up on s) (and_from _ _ parts.0 parts.1)

module _ {N M : Type 0} (r : N → M) (at_n : N → N → Bool) (at_m : M → M → Bool)
    (faithful : (a b : N) → at_m (r a) (r b) ≡ at_n a b) where
  pub set_up-renamed : (up : Bool) (on : Option (IfOf N)) (s : SceneOf N)
      → set_up at_m up (option_map (as_if r) on) (renamed_scene r s) ≡ renamed_scene r (set_up at_n up on s)
  unfolding set_up
  set_up-renamed up None s = refl
  set_up-renamed up (Some Lo0) s = refl
  set_up-renamed up (Some (Half h)) s =
      on_link-renamed r at_n at_m faithful h (λ l. record l { up = up }) (λ l. record l { up = up }) (λ l. refl) s

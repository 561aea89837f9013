-- What a rule of packets keeps of a scene.
use Rattle.std.specs.Prelude.{◌≡◌, Bool, true}
use Rattle.vn_rules.specs.Scenes.{SceneOf, is_sound_scene}

module _ {N : Type 0} (same : N → N → Bool) where
  -- the second scene is sound, and has the interfaces of the first
  pub record Keeps (s t : SceneOf N) : Type 0 where
    -- it is sound
    pub sound : is_sound_scene same t ≡ true
    -- the same interfaces stand there
    pub interfaces : t.parts.interfaces ≡ s.parts.interfaces

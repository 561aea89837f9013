-- What an event in one stack arms and counts, by any rule.
use Rattle.std.proofs.Common.{◌≡◌, Bool, true, false, Option, Some, None, refl, ap, ◌∙◌}
use Rattle.std.specs.Prelude.{if◌then◌else◌}
use Rattle.std.specs.Option.{option_map}
use Rattle.vn_types.specs.declared.half.Half.{Half}
use Rattle.vn_rules.specs.Scenes.{SceneOf}
use Rattle.vn_cells.specs.declared.event.Event.{Event}
use Rattle.vn_cells.specs.declared.world.Live.{Live}
use Rattle.vn_cells.specs.declared.world.Stack.{Stack}
use Rattle.vn_cells.specs.declared.world.World.{World}
use Rattle.vn_cells.specs.world.Names.{Path, path_eq}
use Rattle.vn_cells.specs.world.World.{common_of, stack_at, live_map}
use Rattle.vn_cells.specs.machine.Local.{LocalRule, scene_in, here_at, live_after, halves_at, placed, placed_if, act_by}
use Rattle.vn_laws.proofs.growth.Edits.{Counted, live_counted, counted-weaker, counted-shape}
use Rattle.vn_laws.proofs.growth.Numbers.{Numbers, numbers}
use Rattle.vn_laws.proofs.local.Acted.{shape-told}
use Rattle.vn_laws.proofs.local.Placed.{placed_stack}

-- whether the numbers of a scene pass the test, where there is one
abbrev pub scene_counted : (Numbers → Bool) → Option (SceneOf Half) → Bool
scene_counted test None = true
scene_counted test (Some s) = test (numbers s.parts)

-- where the numbers passed the one test, those that the rule leaves pass the other, which is weaker
module _ {before after : Numbers → Bool} (weaker : (x : Numbers) → before x ≡ true → after x ≡ true) (rule : LocalRule) {w : World} (c : Counted before w) (p : Path) (event : Event)
    (raised : scene_counted before (here_at w p).scene ≡ true → scene_counted after (rule (common_of w) p (here_at w p) event).scene ≡ true) where
  given : (o : Option Live) → live_counted before o ≡ true
      → scene_counted before (option_map (λ (live : Live). scene_in w live.parts) o) ≡ true
  unfolding scene_in
  given None e = refl
  given (Some live) e = e

  left : (s : SceneOf Half) → after (numbers s.parts) ≡ true → (o : Option Live) → live_counted after (option_map (live_after s) o) ≡ true
  left s e None = refl
  left s e (Some live) = e

  back-placed : (s : SceneOf Half) → after (numbers s.parts) ≡ true → Counted after (placed p (halves_at w p) s w)
  back-placed s e = record {
    of = λ q. ap (λ (t : Stack). live_counted after t.live) (placed_stack p (halves_at w p) s w q) ∙ by q (path_eq q p);
  }
    where
      by : (q : Path) (b : Bool) → live_counted after (if b then live_map (live_after s) (stack_at w q) else stack_at w q).live ≡ true
      by q true = left s e (stack_at w q).live
      by q false = (counted-weaker weaker c).of q

  back : (o : Option (SceneOf Half)) → scene_counted after o ≡ true → Counted after (placed_if p (halves_at w p) o w)
  unfolding placed_if
  back None e = counted-weaker weaker c
  back (Some s) e = back-placed s e

  pub counted-act_by : Counted after (act_by rule w p event)
  unfolding act_by
  counted-act_by =
      counted-shape
      (back (rule (common_of w) p (here_at w p) event).scene (raised (given (stack_at w p).live (c.of p))))
      (shape-told (common_of w) p _ _ _)

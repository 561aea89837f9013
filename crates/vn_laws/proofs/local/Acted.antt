-- An event in one stack, by any rule: it moves no half, and who belongs to a set still does.
use Rattle.std.proofs.Common.{◌≡◌, Bool, true, false, cond, List, [], ◌∷◌, map, Option, Some, None, refl, sym, ap, ◌∙◌, subst}
use Rattle.std.specs.Prelude.{if◌then◌else◌, unwrap_or}
use Rattle.std.specs.List.{find, list_all}
use Rattle.std.proofs.lemmas.Bool.{and_parts, and_from}
use Rattle.std.specs.Option.{option_map}
use Rattle.vn_types.specs.declared.half.Half.{Half}
use Rattle.vn_types.specs.PathOrder.{path_eq-Decides}
use Rattle.vn_rules.specs.Rules.{Common}
use Rattle.vn_rules.specs.Scenes.{LinkOf, SceneOf, no_link, link_of, is_queue, is_sound_scene}
use Rattle.vn_rules.specs.Soundness.{is_sound_parts}
use Rattle.vn_types.specs.declared.interface.Side.{Side}
use Rattle.vn_types.specs.declared.interface.Side.TheVariants.{A, B}
use Rattle.vn_cells.specs.declared.world.End.{End}
use Rattle.vn_cells.specs.declared.world.Pair.{Pair}
use Rattle.vn_cells.specs.declared.cell.Cells.{Cells}
use Rattle.vn_cells.specs.declared.event.Event.{Event}
use Rattle.vn_cells.specs.declared.transcript.What.{What}
use Rattle.vn_cells.specs.declared.world.Live.{Live}
use Rattle.vn_cells.specs.declared.world.Reader.{Reader}
use Rattle.vn_cells.specs.declared.world.Stack.{Stack}
use Rattle.vn_cells.specs.declared.world.World.{World}
use Rattle.vn_cells.specs.world.Names.{Path, Key, path_eq, half_eq, half_on, has_half, halves_of, key_of}
use Rattle.vn_cells.specs.world.World.{common_of, stack_at, pair_at, end_at, end_of, ifs_in, live_map}
use Rattle.vn_cells.specs.machine.Local.{Here, Heard, LocalRule, link_by, scene_in, here_at, live_after, with_link, end_after, pair_after, halves_at, placed, placed_if, told, act_by}
use Rattle.vn_cells.specs.keeping.Standing.{passes, has_queues}
use Rattle.vn_cells.specs.keeping.Sound.{IsSound}
use Rattle.vn_laws.specs.Relations.{Belongs}
use Rattle.vn_laws.proofs.edits.Cells.{clock-edit_stack}
use Rattle.vn_laws.proofs.edits.Shapes.{SameShape, shape-none, shape-edit_stack, shape_tree, shape_standing, sound-shape}
use Rattle.vn_laws.proofs.edits.Standing.{SameStanding, standing-same, named-same, belongs-same}
use Rattle.vn_laws.proofs.edits.Trees.{SameTree, tree-same, tree-trans}
use Rattle.vn_laws.proofs.local.Placed.{placed_stack, placed_pair, placed_clock, tree-placed, standing-placed}

-- ---- what is told

pub shape-told : (common : Common) (p : Path) (readers : List Reader) (whats : List What) (w : World)
    → SameShape w (told common p readers whats w)
unfolding told
shape-told common p readers [] w = shape-none w
shape-told common p readers (what ∷ more) w = shape-edit_stack p _ w (λ s. refl)

clock-told : (common : Common) (p : Path) (readers : List Reader) (whats : List What) (w : World)
    → (told common p readers whats w).clock ≡ w.clock
unfolding told
clock-told common p readers [] w = refl
clock-told common p readers (what ∷ more) w = clock-edit_stack p _ w

-- ---- what goes back

-- what is true of a world as it was, and of any scene that goes back
either_scene : (P : World → Type 0) (p : Path) (halves : List Half) (o : Option (SceneOf Half)) (w : World) → P w
    → ((s : SceneOf Half) → o ≡ Some s → P (placed p halves s w)) → P (placed_if p halves o w)
unfolding placed_if
either_scene P p halves None w none some = none
either_scene P p halves (Some s) w none some = some s refl

module _ (rule : LocalRule) (w : World) (p : Path) (event : Event) where
  abbrev heard : Heard
  heard = rule (common_of w) p (here_at w p) event

  abbrev back : World
  back = placed_if p (halves_at w p) heard.scene w

  standing-back : SameStanding w back
  standing-back = either_scene (λ v. SameStanding w v) p (halves_at w p) heard.scene w
      (shape_standing (shape-none w)) (λ s e. standing-placed p (halves_at w p) s w)

  tree-back : SameTree w back
  tree-back = either_scene (λ v. SameTree w v) p (halves_at w p) heard.scene w
      (shape_tree (shape-none w)) (λ s e. tree-placed p (halves_at w p) s w)

  pub tree-act_by : SameTree w (act_by rule w p event)
  unfolding act_by
  tree-act_by = tree-trans tree-back (shape_tree (shape-told (common_of w) p heard.readers heard.told back))

  pub standing-act_by : SameStanding w (act_by rule w p event)
  unfolding act_by
  standing-act_by =
      let b = standing-back in
      let t = shape_standing (shape-told (common_of w) p heard.readers heard.told back) in
      record {
        alive = λ q. t.alive q ∙ b.alive q;
        ifs = λ q. t.ifs q ∙ b.ifs q;
        pairs = record { of = λ k. t.pairs.of k ∙ b.pairs.of k };
        ordered = λ o. t.ordered (b.ordered o);
      }

  pub clock-act_by : (act_by rule w p event).clock ≡ w.clock
  unfolding act_by
  clock-act_by =
      clock-told (common_of w) p heard.readers heard.told back
      ∙ either_scene (λ v. v.clock ≡ w.clock) p (halves_at w p) heard.scene w refl (λ s e. placed_clock p (halves_at w p) s w)

  pub belongs-act_by : {set : Cells} → Belongs set w → Belongs set (act_by rule w p event)
  belongs-act_by b = belongs-same b standing-act_by

-- ---- a rule under which the tables stay sound

-- the tables that are left, with the interfaces that stood there, and the queues
abbrev pub sound_after : Option (SceneOf Half) → Option (SceneOf Half) → Bool
sound_after None after = true
sound_after (Some before) None = true
sound_after (Some before) (Some after) =
    is_sound_scene half_eq (record after { parts = record after.parts { interfaces = before.parts.interfaces } })

abbrev pub sound_scene : Option (SceneOf Half) → Bool
sound_scene None = true
sound_scene (Some s) = is_sound_scene half_eq s

-- the rule leaves the tables of what it is handed sound
abbrev pub KeepsTables : LocalRule → Common → Path → Here → Event → Type 0
KeepsTables rule common p here event =
    sound_scene here.scene ≡ true → sound_after here.scene (rule common p here event).scene ≡ true

abbrev queues_in : List (LinkOf Half) → Bool
queues_in links = list_all (λ (l : LinkOf Half). is_queue l.sent) links

-- a link that is there, or none, has a queue that is not too long
link_queue : (h : Half) (s : SceneOf Half) → queues_in s.links ≡ true → is_queue (link_of half_eq h s).sent ≡ true
unfolding link_of
link_queue h s all = found s.links all
  where
    found : (links : List (LinkOf Half)) → queues_in links ≡ true
        → is_queue (unwrap_or (find (λ l. half_eq l.half h) links) (no_link h)).sent ≡ true
    found [] all = refl
    found (l ∷ links) all = by (half_eq l.half h) (and_parts _ _ all).0 (found links (and_parts _ _ all).1)
      where
        by : (b : Bool) → is_queue l.sent ≡ true → is_queue (unwrap_or (find (λ l. half_eq l.half h) links) (no_link h)).sent ≡ true
            → is_queue (unwrap_or (cond b (Some l) (find (λ l. half_eq l.half h) links)) (no_link h)).sent ≡ true
        by true own ih = own
        by false own ih = ih

-- the scene of a sound world's stack is sound
module _ {w : World} (s : IsSound w) where
  end_queue : (side : Side) (o : Option Pair) → has_queues o ≡ true → (h : Half) → is_queue (link_by h (option_map (end_of side) o)).sent ≡ true
  end_queue side None e h = refl
  end_queue A (Some pair) e h = (and_parts _ _ e).0
  end_queue B (Some pair) e h = (and_parts _ _ e).1

  links_given : (hs : List Half) → queues_in (map (λ h. link_by h (end_at w h)) hs) ≡ true
  links_given [] = refl
  links_given (h ∷ hs) = and_from _ _ (end_queue h.side (pair_at w (key_of h)) (s.standing.queues (key_of h)) h) (links_given hs)

  given : (o : Option Live) → passes (is_sound_parts half_eq) o ≡ true
      → sound_scene (option_map (λ (live : Live). scene_in w live.parts) o) ≡ true
  unfolding scene_in is_sound_scene
  given None e = refl
  given (Some live) e = and_from _ _ e (links_given (halves_of live.parts.interfaces))

  pub scene-given : (p : Path) → sound_scene (here_at w p).scene ≡ true
  scene-given p = given (stack_at w p).live (s.standing.tables p)

module _ (rule : LocalRule) {w : World} (s : IsSound w) (p : Path) (event : Event) (keeps : KeepsTables rule (common_of w) p (here_at w p) event) where
  left : (t : SceneOf Half) (o : Option Live) → passes (is_sound_parts half_eq) o ≡ true
      → sound_after (option_map (λ (live : Live). scene_in w live.parts) o) (Some t) ≡ true
      → passes (is_sound_parts half_eq) (option_map (live_after t) o) ≡ true
  unfolding scene_in is_sound_scene
  left t None e f = refl
  left t (Some live) e f = (and_parts _ _ f).0

  -- what is left at the acting path
  kept : (t : SceneOf Half) → (rule (common_of w) p (here_at w p) event).scene ≡ Some t → sound_after (here_at w p).scene (Some t) ≡ true
  kept t e =
      subst (λ o. sound_after (here_at w p).scene o ≡ true) e
      (keeps (scene-given s p))

  tables-placed : (t : SceneOf Half) → (rule (common_of w) p (here_at w p) event).scene ≡ Some t
      → (q : Path) → passes (is_sound_parts half_eq) (stack_at (placed p (halves_at w p) t w) q).live ≡ true
  tables-placed t e q =
      ap (λ (u : Stack). passes (is_sound_parts half_eq) u.live) (placed_stack p (halves_at w p) t w q) ∙ by (path_eq q p) refl
    where
      by : (b : Bool) → path_eq q p ≡ b
          → passes (is_sound_parts half_eq) (if b then live_map (live_after t) (stack_at w q) else stack_at w q).live ≡ true
      by true f =
          subst (λ r. passes (is_sound_parts half_eq) (option_map (live_after t) (stack_at w r).live) ≡ true) (sym ((path_eq-Decides q p).0 f))
          (left t (stack_at w p).live (s.standing.tables p) (kept t e))
      by false f = s.standing.tables q

  -- the halves that stand there are those of what lives there
  queues_left : (t : SceneOf Half) (o : Option Live) → sound_after (option_map (λ (live : Live). scene_in w live.parts) o) (Some t) ≡ true
      → (h : Half) → has_half (halves_of (ifs_in o)) h ≡ true → is_queue (link_of half_eq h t).sent ≡ true
  unfolding scene_in is_sound_scene
  queues_left t None f h there = cc
  queues_left t (Some live) f h there = link_queue h t (and_parts _ _ f).1

  queues-placed : (t : SceneOf Half) → (rule (common_of w) p (here_at w p) event).scene ≡ Some t
      → (k : Key) → has_queues (pair_at (placed p (halves_at w p) t w) k) ≡ true
  queues-placed t same k = ap has_queues (placed_pair p (halves_at w p) t w k) ∙ by (pair_at w k) (s.standing.queues k)
    where
      end_left : (h : Half) (end : End) → is_queue end.sent ≡ true → is_queue (end_after (halves_at w p) t h end).sent ≡ true
      end_left h end e = pick (has_half (halves_at w p) h) refl
        where
          pick : (b : Bool) → has_half (halves_at w p) h ≡ b → is_queue (if b then with_link (link_of half_eq h t) end else end).sent ≡ true
          pick true f = queues_left t (stack_at w p).live (kept t same) h f
          pick false f = e

      by : (o : Option Pair) → has_queues o ≡ true → has_queues (option_map (pair_after (halves_at w p) t k) o) ≡ true
      by None f = refl
      by (Some pair) f = and_from _ _ (end_left (half_on A k) pair.a (and_parts _ _ f).0) (end_left (half_on B k) pair.b (and_parts _ _ f).1)

  pub sound-act_by : IsSound (act_by rule w p event)
  unfolding act_by
  sound-act_by =
      sound-shape
      (either_scene IsSound p (halves_at w p) _ w s (λ t e. record {
        standing = standing-same s.standing (standing-placed p (halves_at w p) t w) (tables-placed t e) (queues-placed t e);
        tree = tree-same s.tree (tree-placed p (halves_at w p) t w);
        names = named-same s.names (standing-placed p (halves_at w p) t w).pairs;
      }))
      (shape-told (common_of w) p _ _ _)

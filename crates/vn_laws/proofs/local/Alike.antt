-- An event in one stack of a set, by any rule, keeps two worlds alike.
use Rattle.std.proofs.Common.{◌≡◌, true, List, [], ◌∷◌, map, Option, Some, None, refl, ap, ap₂, ◌∙◌, subst}
use Rattle.std.specs.Option.{option_map}
use Rattle.std.specs.List.{list_all}
use Rattle.std.proofs.lemmas.Bool.{and_parts}
use Rattle.vn_types.specs.declared.half.Half.{Half}
use Rattle.vn_rules.specs.declared.parts.PartsOf.{PartsOf}
use Rattle.vn_rules.specs.Rules.{Common}
use Rattle.vn_rules.specs.Scenes.{SceneOf}
use Rattle.vn_cells.specs.declared.cell.Cells.{Cells}
use Rattle.vn_cells.specs.declared.event.Event.{Event}
use Rattle.vn_cells.specs.declared.transcript.What.{What}
use Rattle.vn_cells.specs.declared.world.Live.{Live}
use Rattle.vn_cells.specs.declared.world.Reader.{Reader}
use Rattle.vn_cells.specs.declared.world.Stack.{Stack}
use Rattle.vn_cells.specs.declared.world.World.{World}
use Rattle.vn_cells.specs.world.Names.{Path, key_of, halves_of}
use Rattle.vn_cells.specs.world.World.{common_of, stack_at, ifs_of, end_of, end_at}
use Rattle.vn_cells.specs.machine.Local.{Here, Heard, LocalRule, link_by, scene_in, here_at, halves_at, placed, placed_if, told, returned, act_by}
use Rattle.vn_cells.specs.sets.Sets.{in_stacks, in_pairs}
use Rattle.vn_laws.specs.Relations.{Alike, Belongs, owns_ifs}
use Rattle.vn_laws.proofs.edits.Alike.{alike-edit_stack, alike-edit_live, alike-each_pair}

module _ {set : Cells} {v w : World} (a : Alike set v w) where
  pub alike-placed : (p : Path) (halves : List Half) (s : SceneOf Half) → Alike set (placed p halves s v) (placed p halves s w)
  unfolding placed
  alike-placed p halves s = alike-each_pair (alike-edit_live a p _) _

  alike-placed_if : (p : Path) (halves : List Half) (o : Option (SceneOf Half))
      → Alike set (placed_if p halves o v) (placed_if p halves o w)
  unfolding placed_if
  alike-placed_if p halves None = a
  alike-placed_if p halves (Some s) = alike-placed p halves s

  alike-told : (common : Common) (p : Path) (readers : List Reader) (whats : List What)
      → Alike set (told common p readers whats v) (told common p readers whats w)
  unfolding told
  alike-told common p readers [] = a
  alike-told common p readers (what ∷ more) = alike-edit_stack a p _

  -- the halves of the set's pairs have the same links
  links_alike : (hs : List Half) → list_all (λ h. in_pairs set (key_of h)) hs ≡ true
      → map (λ h. link_by h (end_at v h)) hs ≡ map (λ h. link_by h (end_at w h)) hs
  links_alike [] all = refl
  links_alike (h ∷ hs) all =
      let parts = and_parts _ _ all in
      ap₂ (λ l ls. l ∷ ls) (ap (λ o. link_by h (option_map (end_of h.side) o)) (a.pairs (key_of h) parts.0)) (links_alike hs parts.1)

  scene_alike : (parts : PartsOf Half) → owns_ifs set parts.interfaces ≡ true → scene_in v parts ≡ scene_in w parts
  unfolding scene_in
  scene_alike parts all = ap (λ links. record { parts = parts; links = links }) (links_alike (halves_of parts.interfaces) all)

  -- what is handed at a path of the set is the same
  pub here_alike : (p : Path) → in_stacks set p ≡ true → owns_ifs set (ifs_of (stack_at v p)) ≡ true → here_at v p ≡ here_at w p
  here_alike p inside all =
      by (stack_at v p).live all ∙ ap (handed w) (a.stacks p inside)
    where
      handed : World → Stack → Here
      handed u s = record { scene = option_map (λ (live : Live). scene_in u live.parts) s.live; readers = s.readers }

      by : (o : Option Live) → owns_ifs set (ifs_of (record (stack_at v p) { live = o })) ≡ true
          → handed v (record (stack_at v p) { live = o }) ≡ handed w (record (stack_at v p) { live = o })
      by None all = refl
      by (Some live) all = ap (λ s. record { scene = Some s; readers = (stack_at v p).readers }) (scene_alike live.parts all)

module _ {set : Cells} {v w : World} (a : Alike set v w) where
  alike-returned : (common : Common) (p : Path) (halves : List Half) (heard : Heard)
      → Alike set (returned common p halves heard v) (returned common p halves heard w)
  alike-returned common p halves heard =
      alike-told (alike-placed_if a p halves heard.scene) common p heard.readers heard.told

  pub alike-act_by : (rule : LocalRule) (p : Path) (event : Event) → in_stacks set p ≡ true
      → owns_ifs set (ifs_of (stack_at v p)) ≡ true → Alike set (act_by rule v p event) (act_by rule w p event)
  unfolding act_by
  alike-act_by rule p event inside all =
      let here : here_at v p ≡ here_at w p = here_alike a p inside all in
      let halves : halves_at v p ≡ halves_at w p = ap (λ s. halves_of (ifs_of s)) (a.stacks p inside) in
      let common : common_of v ≡ common_of w = ap (λ c. record { clock = c }) a.clock in
      subst (λ (x : Common × (List Half × Here)). Alike set
      (returned (common_of v) p (halves_at v p) (rule (common_of v) p (here_at v p) event) v)
      (returned x.0 p x.1.0 (rule x.0 p x.1.1 event) w))
      (λ i. (common i, (halves i, here i)))
      (alike-returned (common_of v) p (halves_at v p) (rule (common_of v) p (here_at v p) event))

  -- the same, of a set whose stacks' halves are of its pairs
  pub alike-local : (rule : LocalRule) → Belongs set v → (p : Path) (event : Event) → in_stacks set p ≡ true
      → Alike set (act_by rule v p event) (act_by rule w p event)
  alike-local rule b p event inside = alike-act_by rule p event inside (b.halves p inside)

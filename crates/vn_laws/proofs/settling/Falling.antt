-- A scene that goes back changes a world's weight as it changed its own, and each delivery makes a world lighter.
use Rattle.std.proofs.Common.{◌≡◌, ℕ, ◌+◌, ◌≤◌, Bool, true, false, cond, not, List, map, sum, Option, Some, None, refl, sym, ap, ◌∙◌, arith, le_trans, le_of_eq}
use Rattle.std.specs.Option.{option_map}
use Rattle.std.proofs.lemmas.Simd.{map-map}
use Rattle.vn_types.specs.declared.half.Half.{Half}
use Rattle.vn_types.specs.declared.interface.Side.{Side}
use Rattle.vn_types.specs.declared.interface.Side.TheVariants.{A, B}
use Rattle.vn_rules.specs.Scenes.{LinkOf, SceneOf, link_of}
use Rattle.vn_cells.specs.declared.world.End.{End}
use Rattle.vn_cells.specs.declared.world.Live.{Live}
use Rattle.vn_cells.specs.declared.world.Pair.{Pair}
use Rattle.vn_cells.specs.declared.world.Stack.{Stack}
use Rattle.vn_cells.specs.declared.world.World.{World}
use Rattle.vn_cells.specs.world.Names.{Path, Key, half_eq, half_on, has_half, halves_of, key_of, path_eq, path_cmp, key_cmp}
use Rattle.vn_cells.specs.world.World.{pair_at, end_of, end_at, live_map, each_stack, each_pair}
use Rattle.vn_cells.specs.machine.Local.{link_by, scene_in, live_after, with_link, end_after, pair_after, placed}
use Rattle.vn_cells.specs.machine.Weight.{live_weight, pair_weight, weight}
use Rattle.vn_packets.specs.Weight.{frames_weight, parts_weight, scene_weight}
use Rattle.vn_packets.proofs.SceneWeight.{all_weigh}
use Rattle.std.specs.BTreeMap.{is_at}
use Rattle.std.specs.List.Sorted.{IsStrictlySortedBy}
use Rattle.std.specs.Map.{lookup, keys_of}
use Rattle.std.specs.Ordering.{is_eq}
use Rattle.std.specs.declared.cmp.Ordering.TheVariants.{Less}
use Rattle.std.proofs.lemmas.Bool.{both_ways, false_from_ne_true}
use Rattle.vn_types.specs.Entries as entries
use Rattle.vn_types.specs.Entries.{each}
use Rattle.vn_types.specs.PathOrder.{path_ties, key_ties}
use Rattle.vn_types.proofs.PathNames.{path_eq-Decides, key_eq-Decides}
use Rattle.vn_laws.proofs.edits.Names.{half_eq-Decides, same_path, same_key}
use Rattle.vn_laws.proofs.settling.Sums.{all-less, one-weighs, one-changed, found-weighs, looked-found, one-at}
use Rattle.vn_laws.proofs.settling.Ends.{Weights, in_pair, ends_weigh, of_halves, of_half, of_others, AreApart, ends-same, ends-each, ends-split, own-links}

-- what the frames weigh that an end sent
abbrev sent_weight : Weights
sent_weight h e = frames_weight e.sent

-- ---- the ends that stand in a scene

module _ (halves : List Half) (t : SceneOf Half) where
  -- afterwards
  abbrev after_weight : Weights
  after_weight h e = frames_weight (end_after halves t h e).sent

  -- by the scene's links
  abbrev link_weight : Weights
  link_weight h e = frames_weight (link_of half_eq h t).sent

  after-inside : (h : Half) (e : End) → of_halves halves after_weight h e ≡ of_halves halves link_weight h e
  after-inside h e = by (has_half halves h)
    where
      by : (b : Bool) → cond b (frames_weight (cond b (with_link (link_of half_eq h t) e) e).sent) 0 ≡ cond b (frames_weight (link_of half_eq h t).sent) 0
      by true = refl
      by false = refl

  after-outside : (h : Half) (e : End) → of_others halves after_weight h e ≡ of_others halves sent_weight h e
  after-outside h e = by (has_half halves h)
    where
      by : (b : Bool) → cond b 0 (frames_weight (cond b (with_link (link_of half_eq h t) e) e).sent) ≡ cond b 0 (frames_weight e.sent)
      by true = refl
      by false = refl

  -- the pairs of a world once the scene went back
  pairs-after : (es : List (Key × Pair)) → all_weigh (λ (e : Key × Pair). pair_weight e.1) (each (pair_after halves t) es) ≡ ends_weigh after_weight es
  unfolding each
  pairs-after es = ap sum (map-map (λ (e : Key × Pair). pair_weight e.1) (λ (e : Key × Pair). (e.0, pair_after halves t e.0 e.1)) es)

-- ---- the stacks

pub key-itself : (k : Key) → key_cmp k k ≡ Less → ⊥
key-itself k less = both_ways (is_eq (key_cmp k k)) (ap is_eq less) (sym (key_ties k k) ∙ (key_eq-Decides k k).1 refl)

pub path-itself : (p : Path) → path_cmp p p ≡ Less → ⊥
path-itself p less = both_ways (is_eq (path_cmp p p)) (ap is_eq less) (sym (path_ties p p) ∙ (path_eq-Decides p p).1 refl)

unfoldable pub stacks_weigh : List (Path × Stack) → ℕ
stacks_weigh es = all_weigh (λ (s : Path × Stack). live_weight s.1.live) es

module _ (p : Path) (t : SceneOf Half) (live : Live) where
  abbrev edited : Path × Stack → ℕ
  edited s = live_weight (cond (path_eq s.0 p) (live_map (live_after t) s.1) s.1).live

  ifs-weight : parts_weight (record t.parts { interfaces = live.parts.interfaces }) ≡ parts_weight t.parts
  unfolding parts_weight
  ifs-weight = refl

  stacks-edited : (es : List (Path × Stack)) (s : Stack) → IsStrictlySortedBy path_cmp (keys_of es) → lookup (is_at (path_cmp p)) es ≡ Some s → s.live ≡ Some live
      → all_weigh edited es + parts_weight live.parts ≡ stacks_weigh es + parts_weight t.parts
  unfolding stacks_weigh
  stacks-edited es s sorted found lives =
      let at = looked-found (is_at (path_cmp p)) es s found in
      let all = one-changed (λ (e : Path × Stack). is_at (path_cmp p) e.0) edited (λ (e : Path × Stack). live_weight e.1.live) other es (one-at path_cmp same_path path-itself p es sorted) (at.0, s) at.1 in
      let before : live_weight s.live ≡ parts_weight live.parts = ap live_weight lives in
      let after : edited (at.0, s) ≡ parts_weight t.parts =
      ap (λ b. live_weight (cond b (live_map (live_after t) s) s).live) ((path_eq-Decides at.0 p).1 (sym (same_path p at.0 at.2)))
      ∙ ap (λ o. live_weight (option_map (live_after t) o)) lives ∙ ifs-weight in
      omega (arith, all, before, after)
    where
      other : (e : Path × Stack) → is_at (path_cmp p) e.0 ≡ false → edited e ≡ live_weight e.1.live
      other e away = ap (λ b. live_weight (cond b (live_map (live_after t) e.1) e.1).live) (false_from_ne_true (path_eq e.0 p) (λ is. both_ways (is_eq (path_cmp p e.0)) away (sym (path_ties p e.0) ∙ (path_eq-Decides p e.0).1 (sym ((path_eq-Decides e.0 p).0 is)))))

-- ---- the pairs

pairs_sent : List (Key × Pair) → ℕ
pairs_sent es = ends_weigh sent_weight es

-- what an end weighs, where its pair is there
end-found : (h : Half) (es : List (Key × Pair)) → frames_weight (link_by h (option_map (end_of h.side) (lookup (is_at (key_cmp (key_of h))) es))).sent ≤ ends_weigh (of_half h sent_weight) es
end-found h es = by (lookup (is_at (key_cmp (key_of h))) es) refl
  where
    own : (side : Side) (k : Key) (pair : Pair) → h.side ≡ side → key_of h ≡ k → frames_weight (end_of side pair).sent ≤ in_pair (of_half h sent_weight) (k, pair)
    own A k pair is same =
        let named : half_eq (half_on A k) h ≡ true = (half_eq-Decides (half_on A k) h).1 (λ i. record { home = (sym same i).0; unit = (sym same i).1; side = sym is i }) in
        let here : cond (half_eq (half_on A k) h) (frames_weight pair.a.sent) 0 ≡ frames_weight pair.a.sent = ap (λ b. cond b (frames_weight pair.a.sent) 0) named in
        omega (arith, here)
    own B k pair is same =
        let named : half_eq (half_on B k) h ≡ true = (half_eq-Decides (half_on B k) h).1 (λ i. record { home = (sym same i).0; unit = (sym same i).1; side = sym is i }) in
        let here : cond (half_eq (half_on B k) h) (frames_weight pair.b.sent) 0 ≡ frames_weight pair.b.sent = ap (λ b. cond b (frames_weight pair.b.sent) 0) named in
        omega (arith, here)

    by : (o : Option Pair) → lookup (is_at (key_cmp (key_of h))) es ≡ o → frames_weight (link_by h (option_map (end_of h.side) o)).sent ≤ ends_weigh (of_half h sent_weight) es
    by None is = omega arith
    by (Some pair) is =
        let at = looked-found (is_at (key_cmp (key_of h))) es pair is in
        let less = found-weighs (λ (e : Key × Pair). is_at (key_cmp (key_of h)) e.0) (in_pair (of_half h sent_weight)) es (at.0, pair) at.1 in
        let mine = own h.side at.0 pair refl (same_key (key_of h) at.0 at.2) in
        omega (arith, less, mine)

-- what the links weigh of a scene that is taken from pairs
links-before : (halves : List Half) → AreApart halves → (es : List (Key × Pair))
    → all_weigh (λ h. frames_weight (link_by h (option_map (end_of h.side) (lookup (is_at (key_cmp (key_of h))) es))).sent) halves ≤ ends_weigh (of_halves halves sent_weight) es
links-before halves apart es =
    le_trans (all-less (λ h. frames_weight (link_by h (option_map (end_of h.side) (lookup (is_at (key_cmp (key_of h))) es))).sent) (λ h. ends_weigh (of_half h sent_weight) es) (λ h. end-found h es) halves)
    (le_of_eq (sym (ends-each halves apart sent_weight es)))

-- what the ends of some halves weigh that a scene gives back
links-after : (halves : List Half) → AreApart halves → (t : SceneOf Half) (es : List (Key × Pair)) → IsStrictlySortedBy key_cmp (keys_of es)
    → ends_weigh (of_halves halves (link_weight halves t)) es ≤ all_weigh (λ (l : LinkOf Half). frames_weight l.sent) t.links
unfolding link_of
links-after halves apart t es sorted =
    le_trans (le_of_eq (ends-each halves apart (link_weight halves t) es))
    (le_trans (all-less (λ h. ends_weigh (of_half h (link_weight halves t)) es) (λ h. frames_weight (link_of half_eq h t).sent) each-half halves) (own-links halves apart t.links))
  where
    each-half : (h : Half) → ends_weigh (of_half h (link_weight halves t)) es ≤ frames_weight (link_of half_eq h t).sent
    each-half h =
        one-weighs (λ (e : Key × Pair). is_at (key_cmp (key_of h)) e.0) (in_pair (of_half h (link_weight halves t))) (frames_weight (link_of half_eq h t).sent) most nothing es
        (one-at key_cmp same_key key-itself (key_of h) es sorted)
      where
        c : ℕ
        c = frames_weight (link_of half_eq h t).sent

        value : (g : Half) → ℕ
        value g = cond (half_eq g h) (frames_weight (link_of half_eq g t).sent) 0

        not-both : (k : Key) → half_eq (half_on A k) h ≡ true → half_eq (half_on B k) h ≡ true → ⊥
        not-both k a b = sides (ap (λ (g : Half). g.side) ((half_eq-Decides (half_on A k) h).0 a ∙ sym ((half_eq-Decides (half_on B k) h).0 b)))
          where
            sides : A ≡ B → ⊥
            sides e = cc

        two : (k : Key) (a b : Bool) → half_eq (half_on A k) h ≡ a → half_eq (half_on B k) h ≡ b
            → cond a (frames_weight (link_of half_eq (half_on A k) t).sent) 0 + cond b (frames_weight (link_of half_eq (half_on B k) t).sent) 0 ≤ frames_weight (link_of half_eq h t).sent
        two k true true at bt = absurd (not-both k at bt)
        two k true false at bt = let same = ap (λ (g : Half). frames_weight (link_of half_eq g t).sent) ((half_eq-Decides (half_on A k) h).0 at) in omega (arith, same)
        two k false true at bt = let same = ap (λ (g : Half). frames_weight (link_of half_eq g t).sent) ((half_eq-Decides (half_on B k) h).0 bt) in omega (arith, same)
        two k false false at bt = omega arith

        most : (e : Key × Pair) → is_at (key_cmp (key_of h)) e.0 ≡ true → in_pair (of_half h (link_weight halves t)) e ≤ frames_weight (link_of half_eq h t).sent
        most e is = two e.0 (half_eq (half_on A e.0) h) (half_eq (half_on B e.0) h) refl refl

        away : (side : Side) (k : Key) → is_at (key_cmp (key_of h)) k ≡ false → half_eq (half_on side k) h ≡ false
        away side k not = false_from_ne_true (half_eq (half_on side k) h) (λ is.
            both_ways (is_eq (key_cmp (key_of h) k)) not (sym (key_ties (key_of h) k) ∙ (key_eq-Decides (key_of h) k).1 (ap key_of (sym ((half_eq-Decides (half_on side k) h).0 is)))))

        nothing : (e : Key × Pair) → is_at (key_cmp (key_of h)) e.0 ≡ false → in_pair (of_half h (link_weight halves t)) e ≡ 0
        nothing e not =
            ap (λ b. cond b (frames_weight (link_of half_eq (half_on A e.0) t).sent) 0 + cond (half_eq (half_on B e.0) h) (frames_weight (link_of half_eq (half_on B e.0) t).sent) 0) (away A e.0 not)
            ∙ ap (λ b. 0 + cond b (frames_weight (link_of half_eq (half_on B e.0) t).sent) 0) (away B e.0 not)

-- ---- a scene goes back

module _ (w : World) (p : Path) (t : SceneOf Half) (s : Stack) (live : Live) (stacks : IsStrictlySortedBy path_cmp (keys_of w.stacks)) (pairs : IsStrictlySortedBy key_cmp (keys_of w.pairs))
    (found : lookup (is_at (path_cmp p)) w.stacks ≡ Some s) (lives : s.live ≡ Some live) (apart : AreApart (halves_of live.parts.interfaces)) where
  halves : List Half
  halves = halves_of live.parts.interfaces

  links-now : ℕ
  links-now = all_weigh (λ (l : LinkOf Half). frames_weight l.sent) (map (λ h. link_by h (end_at w h)) (halves_of live.parts.interfaces))

  links-given : links-now ≤ ends_weigh (of_halves (halves_of live.parts.interfaces) sent_weight) w.pairs
  unfolding links-now pair_at entries.find
  links-given =
      le_trans (le_of_eq (ap sum (map-map (λ (l : LinkOf Half). frames_weight l.sent) (λ h. link_by h (end_at w h)) (halves_of live.parts.interfaces))))
      (links-before (halves_of live.parts.interfaces) apart w.pairs)

  stacks-now : ℕ
  stacks-now = stacks_weigh (placed p (halves_of live.parts.interfaces) t w).stacks

  stacks-placed : stacks-now + parts_weight live.parts ≡ stacks_weigh w.stacks + parts_weight t.parts
  unfolding stacks-now stacks_weigh placed each_pair each_stack each
  stacks-placed =
      ap (λ n. n + parts_weight live.parts) (ap sum (map-map (λ (e : Path × Stack). live_weight e.1.live) (λ (e : Path × Stack). (e.0, cond (path_eq e.0 p) (live_map (live_after t) e.1) e.1)) w.stacks))
      ∙ stacks-edited p t live w.stacks s stacks found lives

  pairs-now : ℕ
  pairs-now = all_weigh (λ (e : Key × Pair). pair_weight e.1) (placed p (halves_of live.parts.interfaces) t w).pairs

  pairs-placed : pairs-now + links-now ≤ ends_weigh sent_weight w.pairs + all_weigh (λ (l : LinkOf Half). frames_weight l.sent) t.links
  unfolding pairs-now placed each_pair each_stack
  pairs-placed =
      let hs = halves_of live.parts.interfaces in
      let now = pairs-after hs t w.pairs in
      let split = ends-split hs (after_weight hs t) w.pairs in
      let inside = ends-same (of_halves hs (after_weight hs t)) (of_halves hs (link_weight hs t)) (after-inside hs t) w.pairs in
      let outside = ends-same (of_others hs (after_weight hs t)) (of_others hs sent_weight) (after-outside hs t) w.pairs in
      let before = ends-split hs sent_weight w.pairs in
      let less = links-after hs apart t w.pairs pairs in
      omega (arith, now, split, inside, outside, before, less, links-given)

  pub placed-weight : weight (placed p (halves_of live.parts.interfaces) t w) + scene_weight (scene_in w live.parts) ≤ weight w + scene_weight t
  unfolding weight scene_weight scene_in links-now stacks-now pairs-now stacks_weigh
  placed-weight = omega (arith, stacks-placed, pairs-placed)

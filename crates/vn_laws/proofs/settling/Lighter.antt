-- Each delivery that takes something makes a sound world lighter.
use Rattle.std.proofs.Common.{◌≡◌, ℕ, ◌+◌, ◌≤◌, Bool, true, false, cond, List, [], ◌∷◌, ◌++◌, map, drop, sum, count_by, Option, Some, None, unwrap_or, refl, sym, ap, subst, ◌∙◌, arith, le_trans, le_of_eq}
use Rattle.std.specs.BTreeMap.{is_at}
use Rattle.std.specs.List.Sorted.{IsStrictlySortedBy}
use Rattle.std.specs.Map.{lookup, keys_of, set_value}
use Rattle.std.specs.Option.{option_map}
use Rattle.std.specs.Ordering.{is_eq}
use Rattle.std.proofs.lemmas.Bool.{both_ways, false≢true, false_from_ne_true}
use Rattle.std.proofs.lemmas.Simd.{map-map}
use Rattle.vn_types.proofs.Options.{none_some, some_same}
use Rattle.vn_types.specs.declared.half.Half.{Half}
use Rattle.vn_types.specs.declared.interface.IfOf.TheVariants.{Lo0, Half as OfHalf}
use Rattle.vn_types.specs.declared.interface.Side.{Side}
use Rattle.vn_types.specs.declared.interface.Side.TheVariants.{A, B}
use Rattle.vn_types.specs.Entries as entries
use Rattle.vn_types.specs.Entries.{each, put}
use Rattle.vn_types.specs.PathOrder.{path_total, path_ties, key_ties}
use Rattle.vn_types.proofs.EntryLaws.{keys_of-each, set_value-insert_entry, find-each}
use Rattle.vn_types.proofs.PathNames.{path_eq-Decides, key_eq-Decides}
use Rattle.vn_rules.specs.declared.parts.PartsOf.{PartsOf}
use Rattle.vn_rules.specs.Scenes.{LinkOf, SceneOf}
use Rattle.vn_rules.specs.Soundness.{is_sound_parts}
use Rattle.vn_rules.proofs.ListTests.{count_map_same}
use Rattle.vn_cells.specs.declared.event.Event.TheVariants as event
use Rattle.vn_cells.specs.declared.transcript.What.{What}
use Rattle.vn_cells.specs.declared.world.End.{End}
use Rattle.vn_cells.specs.declared.world.Live.{Live}
use Rattle.vn_cells.specs.declared.world.Pair.{Pair}
use Rattle.vn_cells.specs.declared.world.Reader.{Reader}
use Rattle.vn_cells.specs.declared.world.Stack.{Stack}
use Rattle.vn_cells.specs.declared.world.World.{World}
use Rattle.vn_cells.specs.world.Names.{Path, Key, If, half_eq, halves_of, key_of, path_eq, path_cmp, key_cmp, key_eq, if_eq}
use Rattle.std.specs.BTreeMap.{insert_entry}
use Rattle.vn_cells.specs.world.World.{no_stack, entry_of, stack_at, common_of, end_at, ifs_in, ifs_of, live_map, edit_stack, each_stack, each_pair}
use Rattle.vn_cells.specs.keeping.Standing.{passes, IsStanding}
use Rattle.vn_cells.specs.machine.Local.{link_by, scene_in, live_after, placed, placed_if, told, returned, told_ping, act_by, local, hearing, act}
use Rattle.vn_cells.specs.machine.Queues.{has_any, frames_to, without_frame, taken}
use Rattle.vn_cells.specs.machine.Weight.{live_weight, pair_weight, weight}
use Rattle.vn_rules.specs.Rules.{Common}
use Rattle.vn_packets.specs.Reception.{frame_received, loop_received}
use Rattle.vn_packets.specs.Weight.{frame_weight, frames_weight, scene_weight}
use Rattle.vn_packets.specs.Weighing.{HasOneLink, HasOneEntry}
use Rattle.vn_packets.proofs.Apart.{one-entry}
use Rattle.vn_packets.proofs.Counting.{count-cons}
use Rattle.vn_packets.proofs.ReceptionWeight.{frame_received-lighter, loop_received-lighter}
use Rattle.vn_packets.proofs.SceneWeight.{all_weigh, weigh-cons}
use Rattle.vn_laws.proofs.edits.Names.{half_eq-Decides, half_eq-sym, same_key}
use Rattle.vn_laws.proofs.edits.NamesOnce.{listed_once}
use Rattle.vn_laws.proofs.settling.Sums.{one-changed, looked-found, one-at}
use Rattle.vn_laws.proofs.settling.Ends.{AreApart}
use Rattle.vn_laws.proofs.settling.Falling.{stacks_weigh, key-itself, placed-weight}

-- ---- a transcript weighs nothing

set-weighs : (q : Path → Bool) (es : List (Path × Stack)) (s u : Stack) → lookup q es ≡ Some s → u.live ≡ s.live → stacks_weigh (set_value q es u) ≡ stacks_weigh es
unfolding stacks_weigh
set-weighs q [] s u found same = absurd (none_some s found)
set-weighs q (e ∷ es) s u found same = by (q e.0) found (set-weighs q es s u)
  where
    by : (b : Bool) → cond b (Some e.1) (lookup q es) ≡ Some s → (lookup q es ≡ Some s → u.live ≡ s.live → stacks_weigh (set_value q es u) ≡ stacks_weigh es)
        → stacks_weigh (cond b ((e.0, u) ∷ es) (e ∷ set_value q es u)) ≡ stacks_weigh (e ∷ es)
    by true found more =
        let here : live_weight u.live ≡ live_weight e.1.live = ap live_weight (same ∙ ap (λ (t : Stack). t.live) (sym (some_same e.1 s found))) in
        omega (arith, here, weigh-cons (λ (x : Path × Stack). live_weight x.1.live) (e.0, u) es, weigh-cons (λ (x : Path × Stack). live_weight x.1.live) e es)
    by false found more =
        let rest = more found same in
        omega (arith, rest, weigh-cons (λ (x : Path × Stack). live_weight x.1.live) e (set_value q es u), weigh-cons (λ (x : Path × Stack). live_weight x.1.live) e es)

-- ---- the first frame is taken

pair-lighter : (side : Side) (pair : Pair) (frame : List ℕ) (more : List (List ℕ)) → frames_to side pair ≡ frame ∷ more → pair_weight (without_frame side pair) + frame_weight frame ≡ pair_weight pair
pair-lighter A pair frame more is =
    let before : frames_weight pair.b.sent ≡ frames_weight (frame ∷ more) = ap frames_weight is in
    let after : frames_weight (drop 1 pair.b.sent) ≡ frames_weight more = ap (λ fs. frames_weight (drop 1 fs)) is in
    omega (arith, before, after, weigh-cons frame_weight frame more)
pair-lighter B pair frame more is =
    let before : frames_weight pair.a.sent ≡ frames_weight (frame ∷ more) = ap frames_weight is in
    let after : frames_weight (drop 1 pair.a.sent) ≡ frames_weight more = ap (λ fs. frames_weight (drop 1 fs)) is in
    omega (arith, before, after, weigh-cons frame_weight frame more)

module _ (w : World) (h : Half) (pair : Pair) (frame : List ℕ) (more : List (List ℕ)) (pairs : IsStrictlySortedBy key_cmp (keys_of w.pairs))
    (found : lookup (is_at (key_cmp (key_of h))) w.pairs ≡ Some pair) (waits : frames_to h.side pair ≡ frame ∷ more) where
  abbrev lightened : Key × Pair → ℕ
  lightened e = pair_weight (cond (key_eq e.0 (key_of h)) (without_frame h.side e.1) e.1)

  pub taken-weight : weight (taken h w) + frame_weight frame ≡ weight w
  unfolding weight taken each_pair each
  taken-weight =
      let at = looked-found (is_at (key_cmp (key_of h))) w.pairs pair found in
      let all = one-changed (λ (e : Key × Pair). is_at (key_cmp (key_of h)) e.0) lightened (λ (e : Key × Pair). pair_weight e.1) other w.pairs (one-at key_cmp same_key key-itself (key_of h) w.pairs pairs) (at.0, pair) at.1 in
      let mapped = ap sum (map-map (λ (e : Key × Pair). pair_weight e.1) (λ (e : Key × Pair). (e.0, cond (key_eq e.0 (key_of h)) (without_frame h.side e.1) e.1)) w.pairs) in
      let after : lightened (at.0, pair) ≡ pair_weight (without_frame h.side pair) =
      ap (λ b. pair_weight (cond b (without_frame h.side pair) pair)) ((key_eq-Decides at.0 (key_of h)).1 (sym (same_key (key_of h) at.0 at.2))) in
      let less = pair-lighter h.side pair frame more waits in
      omega (arith, all, mapped, after, less)
    where
      other : (e : Key × Pair) → is_at (key_cmp (key_of h)) e.0 ≡ false → lightened e ≡ pair_weight e.1
      other e away = ap (λ b. pair_weight (cond b (without_frame h.side e.1) e.1)) (false_from_ne_true (key_eq e.0 (key_of h)) (λ is.
          both_ways (is_eq (key_cmp (key_of h) e.0)) away (sym (key_ties (key_of h) e.0) ∙ (key_eq-Decides (key_of h) e.0).1 (sym ((key_eq-Decides e.0 (key_of h)).0 is)))))

-- ---- the halves of a stack are named once, and each has one link

halves-count : (h : Half) (ifs : List If) → count_by (half_eq h) (halves_of ifs) ≡ count_by (if_eq (OfHalf h)) ifs
halves-count h [] = refl
halves-count h (Lo0 ∷ ifs) = omega (arith, halves-count h ifs, count-cons (if_eq (OfHalf h)) Lo0 ifs)
halves-count h (OfHalf g ∷ ifs) =
    omega (arith, halves-count h ifs, count-cons (if_eq (OfHalf h)) (OfHalf g) ifs, count-cons (half_eq h) g (halves_of ifs))

one-link-each : (w : World) (parts : PartsOf Half) → AreApart (halves_of parts.interfaces) → HasOneLink half_eq (scene_in w parts)
unfolding scene_in
one-link-each w parts apart h =
    le_trans (le_of_eq (count_map_same (λ g. link_by g (end_at w g)) (half_eq h) (λ (l : LinkOf Half). half_eq l.half h) each-link (halves_of parts.interfaces))) (apart h)
  where
    named : (g : Half) (o : Option End) → (link_by g o).half ≡ g
    named g None = refl
    named g (Some end) = refl

    each-link : (g : Half) → half_eq (link_by g (end_at w g)).half h ≡ half_eq h g
    each-link g = ap (λ (k : Half). half_eq k h) (named g (end_at w g)) ∙ half_eq-sym g h

-- ---- a transcript is told

lists : World → Path → Option Stack
lists w p = lookup (is_at (path_cmp p)) w.stacks

told-weight : (common : Common) (w : World) (p : Path) (readers : List Reader) (more : List What) (s : Stack) → IsStrictlySortedBy path_cmp (keys_of w.stacks) → lookup (is_at (path_cmp p)) w.stacks ≡ Some s
    → weight (told common p readers more w) ≡ weight w
unfolding told edit_stack stack_at entries.find put weight stacks_weigh
told-weight common w p readers [] s sorted found = refl
told-weight common w p readers (what ∷ more) s sorted found =
    let u : Stack = record (unwrap_or (lookup (is_at (path_cmp p)) w.stacks) no_stack) {
      entries = (unwrap_or (lookup (is_at (path_cmp p)) w.stacks) no_stack).entries ++ map (entry_of common.clock) (what ∷ more);
      readers = readers;
    } in
    let lives : u.live ≡ s.live = ap (λ o. (unwrap_or o no_stack).live) found in
    let put_so = set_value-insert_entry path_cmp path_total p w.stacks s u sorted found in
    let same = set-weighs (is_at (path_cmp p)) w.stacks s u found lives in
    let now : all_weigh (λ (x : Path × Stack). live_weight x.1.live) (insert_entry path_cmp w.stacks p u) ≡ all_weigh (λ (x : Path × Stack). live_weight x.1.live) w.stacks =
    ap (all_weigh (λ (x : Path × Stack). live_weight x.1.live)) (sym put_so) ∙ plain w.stacks u same in
    ap (λ n. n + all_weigh (λ (e : Key × Pair). pair_weight e.1) w.pairs) now
  where
    plain : (es : List (Path × Stack)) (u : Stack) → stacks_weigh (set_value (is_at (path_cmp p)) es u) ≡ stacks_weigh es
        → all_weigh (λ (x : Path × Stack). live_weight x.1.live) (set_value (is_at (path_cmp p)) es u) ≡ all_weigh (λ (x : Path × Stack). live_weight x.1.live) es
    plain es u same = same

-- ---- a scene goes back and the transcript is told

each-listed : (p : Path) (f : Path → Stack → Stack) (es : List (Path × Stack)) → lookup (is_at (path_cmp p)) (each f es) ≡ option_map (f p) (lookup (is_at (path_cmp p)) es)
unfolding entries.find
each-listed p f es = find-each path_cmp path_eq-Decides path_ties f es p

module _ (w : World) (p : Path) (s : Stack) (live : Live) (stacks : IsStrictlySortedBy path_cmp (keys_of w.stacks)) (pairs : IsStrictlySortedBy key_cmp (keys_of w.pairs))
    (found : lookup (is_at (path_cmp p)) w.stacks ≡ Some s) (lives : s.live ≡ Some live) (apart : AreApart (halves_of live.parts.interfaces)) where
  still-listed : (t : SceneOf Half) (hs : List Half) → lookup (is_at (path_cmp p)) (placed p hs t w).stacks ≡ Some (cond (path_eq p p) (live_map (live_after t) s) s)
  unfolding placed each_pair each_stack
  still-listed t hs =
      each-listed p (λ q (u : Stack). cond (path_eq q p) (live_map (live_after t) u) u) w.stacks
      ∙ ap (option_map (λ (u : Stack). cond (path_eq p p) (live_map (live_after t) u) u)) found

  still-sorted : (t : SceneOf Half) (hs : List Half) → IsStrictlySortedBy path_cmp (keys_of (placed p hs t w).stacks)
  unfolding placed each_pair each_stack
  still-sorted t hs = subst (IsStrictlySortedBy path_cmp) (sym (keys_of-each (λ q (u : Stack). cond (path_eq q p) (live_map (live_after t) u) u) w.stacks)) stacks

  pub returned-weight : (common : Common) (t : SceneOf Half) (readers : List Reader) (more : List What)
      → weight (told common p readers more (placed p (halves_of live.parts.interfaces) t w)) + scene_weight (scene_in w live.parts) ≤ weight w + scene_weight t
  returned-weight common t readers more =
      let hs = halves_of live.parts.interfaces in
      let same = told-weight common (placed p hs t w) p readers more _ (still-sorted t hs) (still-listed t hs) in
      let less = placed-weight w p t s live stacks pairs found lives apart in
      omega (arith, same, less)

-- ---- a sound world

module _ (w : World) (standing : IsStanding w) (stacks : IsStrictlySortedBy path_cmp (keys_of w.stacks)) where
  -- what lives at a path is listed there
  pub living-listed : (p : Path) (live : Live) → (stack_at w p).live ≡ Some live → (s : Stack) × (lookup (is_at (path_cmp p)) w.stacks ≡ Some s) × (s.live ≡ Some live)
  unfolding stack_at entries.find
  living-listed p live lives = by (lookup (is_at (path_cmp p)) w.stacks) refl lives
    where
      by : (o : Option Stack) → lookup (is_at (path_cmp p)) w.stacks ≡ o → (unwrap_or o no_stack).live ≡ Some live → (s : Stack) × (lookup (is_at (path_cmp p)) w.stacks ≡ Some s) × (s.live ≡ Some live)
      by None is none = absurd (none_some live none)
      by (Some s) is lives = (s, is, lives)

  -- no half is listed twice where it stands
  pub living-apart : (p : Path) (live : Live) → (stack_at w p).live ≡ Some live → AreApart (halves_of live.parts.interfaces)
  living-apart p live lives h =
      let count = halves-count h live.parts.interfaces in
      let same : count_by (if_eq (OfHalf h)) (ifs_of (stack_at w p)) ≡ count_by (if_eq (OfHalf h)) live.parts.interfaces = ap (λ o. count_by (if_eq (OfHalf h)) (ifs_in o)) lives in
      let most = listed_once w standing p (OfHalf h) in
      omega (arith, count, same, most)

  living-sound : (p : Path) (live : Live) → (stack_at w p).live ≡ Some live → is_sound_parts half_eq live.parts ≡ true
  living-sound p live lives = sym (ap (passes (is_sound_parts half_eq)) lives) ∙ standing.tables p

  living-entry : (p : Path) (live : Live) → (stack_at w p).live ≡ Some live → HasOneEntry half_eq (scene_in w live.parts).parts
  unfolding scene_in
  living-entry p live lives = one-entry half_eq half_eq-Decides live.parts (living-sound p live lives)

  scene-loopback : (parts : PartsOf Half) → (scene_in w parts).parts.loopback ≡ parts.loopback
  unfolding scene_in
  scene-loopback parts = refl

  -- a datagram through lo0
  pub looped-lighter : (p : Path) (live : Live) → (stack_at w p).live ≡ Some live → has_any live.parts.loopback ≡ true → weight (act w p (event.LoopDeliver p)) + 1 ≤ weight w
  unfolding act_by local placed_if
  looped-lighter p live lives waits = by live.parts.loopback refl waits
    where
      left : Option Live → World
      left o = returned (common_of w) p (halves_of (ifs_in o)) (local (common_of w) p (record { scene = option_map (λ (l : Live). scene_in w l.parts) o; readers = (stack_at w p).readers }) (event.LoopDeliver p)) w

      by : (datagrams : List (List ℕ)) → live.parts.loopback ≡ datagrams → has_any datagrams ≡ true → weight (act_by local w p (event.LoopDeliver p)) + 1 ≤ weight w
      by [] is any = absurd (false≢true any)
      by (datagram ∷ more) is any =
          let listed = living-listed p live lives in
          let apart = living-apart p live lives in
          let scene = scene_in w live.parts in
          let a = loop_received half_eq (common_of w) scene in
          let back = returned-weight w p listed.0 live stacks standing.pairs_ordered listed.1 listed.2 apart (common_of w) a.left (stack_at w p).readers (told_ping a.heard) in
          let less = loop_received-lighter half_eq (common_of w) scene datagram more (one-link-each w live.parts apart) (living-entry p live lives) (scene-loopback live.parts ∙ is) in
          let all : weight (told (common_of w) p (stack_at w p).readers (told_ping a.heard) (placed p (halves_of live.parts.interfaces) a.left w)) + 1 ≤ weight w = omega (arith, back, less) in
          subst (λ v. weight v + 1 ≤ weight w) (sym (ap left lives)) all

-- ---- a frame

module _ (w : World) (standing : IsStanding w) (stacks : IsStrictlySortedBy path_cmp (keys_of w.stacks)) (h : Half) (pair : Pair) (frame : List ℕ) (more : List (List ℕ))
    (found : lookup (is_at (key_cmp (key_of h))) w.pairs ≡ Some pair) (waits : frames_to h.side pair ≡ frame ∷ more) (p : Path) (live : Live) (lives : (stack_at w p).live ≡ Some live) where
  stacks-taken : (stack_at (taken h w) p).live ≡ Some live
  unfolding taken each_pair stack_at
  stacks-taken = lives

  listed-taken : (s : Stack) → lookup (is_at (path_cmp p)) w.stacks ≡ Some s → lookup (is_at (path_cmp p)) (taken h w).stacks ≡ Some s
  unfolding taken each_pair
  listed-taken s is = is

  stacks-sorted : IsStrictlySortedBy path_cmp (keys_of (taken h w).stacks)
  unfolding taken each_pair
  stacks-sorted = stacks

  pairs-sorted : IsStrictlySortedBy key_cmp (keys_of (taken h w).pairs)
  unfolding taken each_pair
  pairs-sorted = subst (IsStrictlySortedBy key_cmp) (sym (keys_of-each (λ q (x : Pair). cond (key_eq q (key_of h)) (without_frame h.side x) x) w.pairs)) standing.pairs_ordered

  scene-entry : HasOneEntry half_eq (scene_in (taken h w) live.parts).parts
  unfolding scene_in
  scene-entry = one-entry half_eq half_eq-Decides live.parts (living-sound w standing stacks p live lives)

  pub frame-lighter : weight (act_by (hearing h frame) (taken h w) p (event.Deliver h)) + 1 ≤ weight w
  unfolding act_by hearing placed_if
  frame-lighter =
      let v = taken h w in
      let listed = living-listed w standing stacks p live lives in
      let apart = living-apart w standing stacks p live lives in
      let scene = scene_in v live.parts in
      let a = frame_received half_eq (common_of v) h frame scene in
      let back = returned-weight v p listed.0 live stacks-sorted pairs-sorted (listed-taken listed.0 listed.1) listed.2 apart (common_of v) a.left (stack_at v p).readers (told_ping a.heard) in
      let less = frame_received-lighter half_eq (common_of v) h scene (one-link-each v live.parts apart) scene-entry frame in
      let out = taken-weight w h pair frame more standing.pairs_ordered found waits in
      let all : weight (told (common_of v) p (stack_at v p).readers (told_ping a.heard) (placed p (halves_of live.parts.interfaces) a.left v)) + 1 ≤ weight w = omega (arith, back, less, out) in
      subst (λ u. weight u + 1 ≤ weight w) (sym (ap left stacks-taken)) all
    where
      left : Option Live → World
      left o = returned (common_of (taken h w)) p (halves_of (ifs_in o))
          (hearing h frame (common_of (taken h w)) p (record { scene = option_map (λ (l : Live). scene_in (taken h w) l.parts) o; readers = (stack_at (taken h w) p).readers }) (event.Deliver h)) (taken h w)

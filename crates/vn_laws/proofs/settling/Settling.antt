-- Settling takes at most as many deliveries as the weight of the world in which it starts.
use Rattle.std.proofs.Common.{◌≡◌, ℕ, zero, suc, ◌+◌, ◌≤◌, Bool, true, false, cond, List, [], ◌∷◌, length, find, Option, Some, None, unwrap_or, is_some, refl, sym, ap, subst, ◌∙◌, arith}
use Rattle.std.specs.BTreeMap.{is_at}
use Rattle.std.specs.List.{AllByRecursion}
use Rattle.std.specs.List.Sorted.{IsStrictlySortedBy}
use Rattle.std.specs.Map.{lookup, keys_of}
use Rattle.std.specs.Option.{option_map}
use Rattle.std.specs.Ordering.{is_eq}
use Rattle.std.specs.declared.cmp.Ordering.{Ordering}
use Rattle.std.specs.declared.cmp.Ordering.TheVariants.{Less}
use Rattle.std.proofs.lemmas.Bool.{and_parts, false≢true, false_from_ne_true}
use Rattle.vn_types.proofs.Options.{none_some, some_same}
use Rattle.vn_types.specs.declared.half.Half.{Half}
use Rattle.vn_types.specs.declared.interface.Side.{Side}
use Rattle.vn_types.specs.declared.interface.Side.TheVariants.{A, B}
use Rattle.vn_types.specs.Entries as entries
use Rattle.vn_types.specs.PathOrder.{path_ties, key_ties}
use Rattle.vn_types.proofs.PathNames.{path_eq-Decides, key_eq-Decides}
use Rattle.vn_rules.proofs.ListTests.{find_passes}
use Rattle.vn_cells.specs.declared.event.Event.{Event}
use Rattle.vn_cells.specs.declared.event.Event.TheVariants as event
use Rattle.vn_cells.specs.declared.world.Live.{Live}
use Rattle.vn_cells.specs.declared.world.Pair.{Pair}
use Rattle.vn_cells.specs.declared.world.Stack.{Stack}
use Rattle.vn_cells.specs.declared.world.World.{World}
use Rattle.vn_cells.specs.keeping.Standing.{is_placed}
use Rattle.vn_cells.specs.keeping.Sound.{IsSound}
use Rattle.vn_cells.specs.machine.Deliveries.{first_looped, reached_in, first_reached, next_delivery, deliveries, settle_events}
use Rattle.vn_cells.specs.machine.Local.{act}
use Rattle.vn_cells.specs.machine.Queues.{has_any, frames_to, arrival_at, arrival, has_datagram}
use Rattle.vn_cells.specs.machine.Step.{where_true, acting, acted, received, delivered, step}
use Rattle.vn_cells.specs.machine.Weight.{weight}
use Rattle.vn_cells.specs.world.Names.{Path, Key, half_on, key_of, path_cmp, key_cmp}
use Rattle.vn_cells.specs.world.World.{no_stack, stack_at, pair_at, end_of}
use Rattle.vn_laws.proofs.edits.Names.{same_path, same_key}
use Rattle.vn_laws.proofs.settling.Falling.{key-itself, path-itself}
use Rattle.vn_laws.proofs.settling.Lighter.{looped-lighter, frame-lighter}

-- ---- what is found first stands at its key

module _ {K V : Type 0} (cmp : K → K → Ordering) (exact : (a b : K) → is_eq (cmp a b) ≡ true → a ≡ b) (itself : (a : K) → cmp a a ≡ Less → ⊥) (own : (a : K) → is_eq (cmp a a) ≡ true) where
  found-key : (P : K → Type 0) (t : K × V → Bool) (es : List (K × V)) → AllByRecursion P (keys_of es) → (k : K) (v : V) → find t es ≡ Some (k, v) → P k
  found-key P t [] all k v found = absurd (none_some (k, v) found)
  found-key P t (e ∷ es) all k v found = by (t e) found (found-key P t es all.1 k v)
    where
      by : (b : Bool) → cond b (Some e) (find t es) ≡ Some (k, v) → (find t es ≡ Some (k, v) → P k) → P k
      by true found more = subst P (ap (λ (x : K × V). x.0) (some_same e (k, v) found)) all.0
      by false found more = more found

  pub found-at : (t : K × V → Bool) (es : List (K × V)) → IsStrictlySortedBy cmp (keys_of es) → (k : K) (v : V) → find t es ≡ Some (k, v) → lookup (is_at (cmp k)) es ≡ Some v
  unfolding IsStrictlySortedBy
  found-at t [] sorted k v found = absurd (none_some (k, v) found)
  found-at t (e ∷ es) sorted k v found = by (t e) found (found-at t es sorted.1 k v)
    where
      by : (b : Bool) → cond b (Some e) (find t es) ≡ Some (k, v) → (find t es ≡ Some (k, v) → lookup (is_at (cmp k)) es ≡ Some v) → cond (is_at (cmp k) e.0) (Some e.1) (lookup (is_at (cmp k)) es) ≡ Some v
      by true found more =
          let same = some_same e (k, v) found in
          ap (λ b. cond b (Some e.1) (lookup (is_at (cmp k)) es)) (ap (is_at (cmp k)) (ap (λ (x : K × V). x.0) same) ∙ own k) ∙ ap (λ (x : K × V). Some x.1) same
      by false found more =
          let away : is_at (cmp k) e.0 ≡ false = false_from_ne_true (is_at (cmp k) e.0) (λ is. itself e.0 (subst (λ q. cmp e.0 q ≡ Less) (exact k e.0 is) (found-key (λ q. cmp e.0 q ≡ Less) t es sorted.0 k v found))) in
          ap (λ b. cond b (Some e.1) (lookup (is_at (cmp k)) es)) away ∙ more found

path-own : (p : Path) → is_eq (path_cmp p p) ≡ true
path-own p = sym (path_ties p p) ∙ (path_eq-Decides p p).1 refl

key-own : (k : Key) → is_eq (key_cmp k k) ≡ true
key-own k = sym (key_ties k k) ∙ (key_eq-Decides k k).1 refl

module _ (w : World) (sound : IsSound w) where
  -- ---- a datagram through lo0

  loop-lighter : (p : Path) → has_datagram (stack_at w p).live ≡ true → weight (act w p (event.LoopDeliver p)) + 1 ≤ weight w
  loop-lighter p any = by (stack_at w p).live refl any
    where
      by : (o : Option Live) → (stack_at w p).live ≡ o → has_datagram o ≡ true → weight (act w p (event.LoopDeliver p)) + 1 ≤ weight w
      by None is any = absurd (false≢true any)
      by (Some live) is any = looped-lighter w sound.standing sound.tree.stacks_ordered p live is any

  first-looped : (p : Path) → first_looped w ≡ Some p → has_datagram (stack_at w p).live ≡ true
  unfolding first_looped stack_at entries.find
  first-looped p is = by (find (λ (s : Path × Stack). has_datagram s.1.live) w.stacks) refl is
    where
      by : (o : Option (Path × Stack)) → find (λ (s : Path × Stack). has_datagram s.1.live) w.stacks ≡ o → option_map (λ (s : Path × Stack). s.0) o ≡ Some p
          → has_datagram (unwrap_or (lookup (is_at (path_cmp p)) w.stacks) no_stack).live ≡ true
      by None found is = absurd (none_some p is)
      by (Some (q, s)) found is =
          let at = found-at path_cmp same_path path-itself path-own (λ (s : Path × Stack). has_datagram s.1.live) w.stacks sound.tree.stacks_ordered q s found in
          ap (λ r. has_datagram (unwrap_or (lookup (is_at (path_cmp r)) w.stacks) no_stack).live) (sym (some_same q p is))
          ∙ ap (λ o. has_datagram (unwrap_or o no_stack).live) at ∙ find_passes (λ (s : Path × Stack). has_datagram s.1.live) w.stacks (q, s) found

  pub looped-step : (p : Path) → has_datagram (stack_at w p).live ≡ true → weight (step w (event.LoopDeliver p)) + 1 ≤ weight w
  unfolding step acting acted
  looped-step p any = subst (λ b. weight (acted (where_true b p) (event.LoopDeliver p) w) + 1 ≤ weight w) (sym any) (loop-lighter p any)

  -- ---- a frame

  reached-first : (h : Half) (es : List (Key × Pair)) → first_reached es ≡ Some h → (e : Key × Pair) × (find (λ x. is_some (reached_in x)) es ≡ Some e) × (reached_in e ≡ Some h)
  unfolding first_reached
  reached-first h [] is = absurd (none_some h is)
  reached-first h (e ∷ es) is = by (reached_in e) refl is (reached-first h es)
    where
      by : (o : Option Half) → reached_in e ≡ o → (elim o as (λ _. Option Half) [ Some g ↦ Some g | None ↦ first_reached es ]) ≡ Some h
          → (first_reached es ≡ Some h → (x : Key × Pair) × (find (λ x. is_some (reached_in x)) es ≡ Some x) × (reached_in x ≡ Some h))
          → (x : Key × Pair) × (find (λ x. is_some (reached_in x)) (e ∷ es) ≡ Some x) × (reached_in x ≡ Some h)
      by None here is more = let rest = more is in (rest.0, ap (λ o. cond (is_some o) (Some e) (find (λ x. is_some (reached_in x)) es)) here ∙ rest.1, rest.2)
      by (Some g) here is more = (e, ap (λ o. cond (is_some o) (Some e) (find (λ x. is_some (reached_in x)) es)) here, here ∙ is)

  -- by its pair
  reached-half : (h : Half) (k : Key) (pair : Pair) → reached_in (k, pair) ≡ Some h → (key_of h ≡ k) × (has_any (frames_to h.side pair) ≡ true)
  reached-half h k pair is = by (has_any (frames_to A pair)) (has_any (frames_to B pair)) refl refl is
    where
      on : (side : Side) → half_on side k ≡ h → has_any (frames_to side pair) ≡ true → (key_of h ≡ k) × (has_any (frames_to h.side pair) ≡ true)
      on side same any = (ap key_of (sym same), ap (λ (g : Half). has_any (frames_to g.side pair)) (sym same) ∙ any)

      by : (a b : Bool) → has_any (frames_to A pair) ≡ a → has_any (frames_to B pair) ≡ b → cond a (Some (half_on A k)) (cond b (Some (half_on B k)) None) ≡ Some h → (key_of h ≡ k) × (has_any (frames_to h.side pair) ≡ true)
      by true b at bt is = on A (some_same (half_on A k) h is) at
      by false true at bt is = on B (some_same (half_on B k) h is) bt
      by false false at bt is = absurd (none_some h is)

  -- where the half stands a stack lives
  frame-comes : (h : Half) (pair : Pair) → lookup (is_at (key_cmp (key_of h))) w.pairs ≡ Some pair → has_any (frames_to h.side pair) ≡ true → weight (step w (event.Deliver h)) + 1 ≤ weight w
  unfolding step delivered received pair_at entries.find
  frame-comes h pair found any =
      subst (λ o. weight (received (arrival h o) h w) + 1 ≤ weight w) (sym found) (by (frames_to h.side pair) refl any (stack_at w (end_of h.side pair).at).live refl lives)
    where
      lives : is_some (stack_at w (end_of h.side pair).at).live ≡ true
      lives = (and_parts (is_some (stack_at w (end_of h.side pair).at).live) _ (sym (ap (is_placed w (key_of h) h.side) found) ∙ sound.standing.places (key_of h) h.side)).0

      by : (frames : List (List ℕ)) → frames_to h.side pair ≡ frames → has_any frames ≡ true → (o : Option Live) → (stack_at w (end_of h.side pair).at).live ≡ o → is_some o ≡ true
          → weight (received (arrival_at (end_of h.side pair).at (frames_to h.side pair)) h w) + 1 ≤ weight w
      by [] waits any o here alive = absurd (false≢true any)
      by (frame ∷ more) waits any None here alive = absurd (false≢true alive)
      by (frame ∷ more) waits any (Some live) here alive =
          subst (λ fs. weight (received (arrival_at (end_of h.side pair).at fs) h w) + 1 ≤ weight w) (sym waits)
          (frame-lighter w sound.standing sound.tree.stacks_ordered h pair frame more found waits (end_of h.side pair).at live here)

  -- whichever half it comes to
  pub arrival-step : (h : Half) → is_some (arrival h (pair_at w (key_of h))) ≡ true → weight (step w (event.Deliver h)) + 1 ≤ weight w
  unfolding pair_at entries.find
  arrival-step h comes = by (lookup (is_at (key_cmp (key_of h))) w.pairs) refl comes
    where
      waits : (at : Path) (frames : List (List ℕ)) → is_some (arrival_at at frames) ≡ true → has_any frames ≡ true
      waits at [] comes = absurd (false≢true comes)
      waits at (frame ∷ more) comes = refl

      by : (o : Option Pair) → lookup (is_at (key_cmp (key_of h))) w.pairs ≡ o → is_some (arrival h o) ≡ true → weight (step w (event.Deliver h)) + 1 ≤ weight w
      by None found comes = absurd (false≢true comes)
      by (Some pair) found comes = frame-comes h pair found (waits (end_of h.side pair).at (frames_to h.side pair) comes)

  frame-step : (h : Half) → first_reached w.pairs ≡ Some h → weight (step w (event.Deliver h)) + 1 ≤ weight w
  frame-step h is =
      let first = reached-first h w.pairs is in
      let k = first.0.0 in
      let half = reached-half h first.0.0 first.0.1 first.2 in
      let at = found-at key_cmp same_key key-itself key-own (λ x. is_some (reached_in x)) w.pairs sound.standing.pairs_ordered first.0.0 first.0.1 first.1 in
      frame-comes h first.0.1 (ap (λ q. lookup (is_at (key_cmp q)) w.pairs) half.0 ∙ at) half.1

  -- the first delivery makes the world lighter
  pub next-lighter : (e : Event) → next_delivery w ≡ Some e → weight (step w e) + 1 ≤ weight w
  unfolding next_delivery
  next-lighter e is = by (first_looped w) refl is
    where
      frame : (o : Option Half) → first_reached w.pairs ≡ o → option_map event.Deliver o ≡ Some e → weight (step w e) + 1 ≤ weight w
      frame None reached is = absurd (none_some e is)
      frame (Some h) reached is = subst (λ d. weight (step w d) + 1 ≤ weight w) (some_same (event.Deliver h) e is) (frame-step h reached)

      by : (o : Option Path) → first_looped w ≡ o → (elim o as (λ _. Option Event) [ Some p ↦ Some (event.LoopDeliver p) | None ↦ option_map event.Deliver (first_reached w.pairs) ]) ≡ Some e → weight (step w e) + 1 ≤ weight w
      by None looped is = frame (first_reached w.pairs) refl is
      by (Some p) looped is = subst (λ d. weight (step w d) + 1 ≤ weight w) (some_same (event.LoopDeliver p) e is) (looped-step p (first-looped p looped))

-- ---- settling

module _ (keeps : (w : World) → IsSound w → (e : Event) → next_delivery w ≡ Some e → IsSound (step w e)) where
  pub deliveries-few : (most : ℕ) (w : World) → IsSound w → length (deliveries most w) ≤ weight w
  unfolding deliveries
  deliveries-few zero w sound = omega arith
  deliveries-few (suc most) w sound = by (next_delivery w) refl (λ e is. deliveries-few most (step w e) (keeps w sound e is))
    where
      by : (o : Option Event) → next_delivery w ≡ o → ((e : Event) → next_delivery w ≡ Some e → length (deliveries most (step w e)) ≤ weight (step w e))
          → length (elim o as (λ _. List Event) [ None ↦ [] | Some delivery ↦ delivery ∷ deliveries most (step w delivery) ]) ≤ weight w
      by None is more = omega arith
      by (Some e) is more = let less = next-lighter w sound e is in let rest = more e is in omega (arith, less, rest)

  pub settles-within : (w : World) → IsSound w → length (settle_events w) ≤ weight w
  settles-within w sound = deliveries-few _ w sound

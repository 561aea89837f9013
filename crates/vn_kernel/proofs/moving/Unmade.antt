-- A pair that is destroyed by its number is destroyed in the world, and all stands.
use Rattle.std.proofs.Common.{◌≡◌, ◌<◌, ◌^◌, ℕ, ◌==◌, Bool, true, false, not, cond, List, [], ◌∷◌, Option, Some, None, IfSome, unwrap_or, refl, sym, ap, ◌∙◌, subst}
use Rattle.std.specs.Prelude.{filter, if◌then◌else◌}
use Rattle.std.specs.BTreeMap.{is_at}
use Rattle.std.specs.List.{AllByRecursion}
use Rattle.std.specs.List.Sorted.{IsStrictlySortedBy}
use Rattle.std.specs.Map.{keys_of, remove_entry}
use Rattle.std.specs.Option.{option_map}
use Rattle.std.specs.Ordering.{is_eq, ordering_reverse}
use Rattle.std.specs.declared.cmp.Ordering.{Ordering}
use Rattle.std.specs.declared.cmp.Ordering.TheVariants.{Less, Equal, Greater}
use Rattle.std.proofs.lemmas.Bool.{false≢true, not-true}
use Rattle.std.proofs.lemmas.List.Kept.{IsStrictlySortedBy-filter}
use Rattle.vn_types.specs.declared.interface.HalfId.{HalfId}
use Rattle.vn_types.specs.declared.interface.Side.{Side}
use Rattle.vn_types.specs.declared.interface.Side.TheVariants.{A, B}
use Rattle.vn_types.specs.Entries.{find}
use Rattle.vn_types.specs.PathOrder.{key_ties}
use Rattle.vn_types.specs.Paths.{Path, Key, key_cmp, key_eq}
use Rattle.vn_types.proofs.EntryLaws.{find-each}
use Rattle.vn_types.proofs.PathNames.{key_cmp-exact, key_eq-Decides, key_total}
use Rattle.vn_rules.specs.Renamed.{renamed}
use Rattle.vn_epair.specs.Halves.{Pair as PairOfNumber}
use Rattle.vn_epair.specs.Pairs.{end_of, new_pair}
use Rattle.vn_jail.specs.Tree.{at, path_at}
use Rattle.vn_vmove.specs.declared.tables.Tables.{Tables}
use Rattle.vn_vmove.specs.Moves.{half_on as half_of, unmade}
use Rattle.vn_vmove.specs.Nets.{Becomes, Net, detach, detached, net_of}
use Rattle.vn_vmove.specs.Parts.{lives, pair_at, parts}
use Rattle.vn_vmove.specs.Sound.{IsSound, stands_at}
use Rattle.vn_cells.specs.world.Names.{half_on}
use Rattle.vn_cells.specs.world.World.{drop_pair, pair_at as pair_of_key}
use Rattle.vn_cells.specs.commands.Pairs.{destroyed_pair, detach as detach_half, detached as detached_half, unmade as unmade_pair}
use Rattle.vn_laws.proofs.edits.Lists.{find-without, keys_of-without}
use Rattle.vn_kernel.specs.Fields.{Fields}
use Rattle.vn_kernel.specs.Naming.{half_by, key_by, key_in, name_of}
use Rattle.vn_kernel.specs.Stands.{Stands}
use Rattle.vn_kernel.specs.Worlds.{pair_by, pair_of, world_of}
use Rattle.vn_kernel.proofs.NamedThere.{same-named}
use Rattle.vn_kernel.proofs.moving.Faithful.{key-found, key-is, key-number, name-is, name-kept}
use Rattle.vn_kernel.proofs.moving.Halves.{detached-renamed}
use Rattle.vn_kernel.proofs.moving.Nets.{pair-dropped, stack-edited, world-agree, world-becomes, world-net, world_in}

-- ---- keys

-- without a home and a unit
abbrev pub without_key : Key → List (Key × ℕ) → List (Key × ℕ)
without_key k units = filter (λ e. not (key_eq e.0 k)) units

-- in order, what is removed is the only entry of its key
module _ (k : Key) where
  turned : (j : Key) (r : Ordering) → key_cmp k j ≡ r → key_eq j k ≡ is_eq (ordering_reverse r)
  turned j r is = key_ties j k ∙ ap is_eq (key_total.antisymm j k ∙ ap ordering_reverse is)

  kept-above : (es : List (Key × ℕ)) → AllByRecursion (λ j. key_cmp k j ≡ Less) (keys_of es) → without_key k es ≡ es
  kept-above [] above = refl
  kept-above (e ∷ es) above =
      ap (λ b. cond (not b) (e ∷ without_key k es) (without_key k es)) (turned e.0 Less above.0) ∙ ap (λ rest. e ∷ rest) (kept-above es above.1)

  pub removed-key : (es : List (Key × ℕ)) → IsStrictlySortedBy key_cmp (keys_of es) → remove_entry (is_at (key_cmp k)) es ≡ without_key k es
  unfolding IsStrictlySortedBy
  removed-key [] sorted = refl
  removed-key (e ∷ es) sorted = by (key_cmp k e.0) refl (removed-key es sorted.1)
    where
      by : (r : Ordering) → key_cmp k e.0 ≡ r → remove_entry (is_at (key_cmp k)) es ≡ without_key k es
          → cond (is_eq r) es (e ∷ remove_entry (is_at (key_cmp k)) es) ≡ cond (not (key_eq e.0 k)) (e ∷ without_key k es) (without_key k es)
      by Less is more = ap (λ rest. e ∷ rest) more ∙ ap (λ b. cond (not b) (e ∷ without_key k es) (without_key k es)) (sym (turned e.0 Less is))
      by Greater is more = ap (λ rest. e ∷ rest) more ∙ ap (λ b. cond (not b) (e ∷ without_key k es) (without_key k es)) (sym (turned e.0 Greater is))
      by Equal is more =
          sym (kept-above es (subst (λ j. AllByRecursion (λ y. key_cmp j y ≡ Less) (keys_of es)) (sym (key_cmp-exact k e.0 is)) sorted.0))
          ∙ ap (λ b. cond (not b) (e ∷ without_key k es) (without_key k es)) (sym (turned e.0 Equal is))

-- what holds of each entry holds of those that are left, where it need hold of no other
left_over : (P Q : Key × ℕ → Type 0) (k : Key) → ((e : Key × ℕ) → not (key_eq e.0 k) ≡ true → P e → Q e) → (es : List (Key × ℕ)) → AllByRecursion P es → AllByRecursion Q (without_key k es)
left_over P Q k holds [] all = tt
left_over P Q k holds (e ∷ es) all = by (not (key_eq e.0 k)) refl (left_over P Q k holds es all.1)
  where
    by : (b : Bool) → not (key_eq e.0 k) ≡ b → AllByRecursion Q (without_key k es) → AllByRecursion Q (cond b (e ∷ without_key k es) (without_key k es))
    by true apart more = (holds e apart all.0, more)
    by false same more = more

-- ---- what is found of a pair in the world

pub pair-found : (f : Fields) (k : Key) → pair_of_key (world_of f) k ≡ option_map (pair_of f k) (find key_cmp k f.units)
unfolding pair_of_key world_of
pair-found f k = find-each key_cmp key_eq-Decides key_ties (pair_of f) f.units k

module _ (f : Fields) (s : Stands f) (n : ℕ) (pair : PairOfNumber) (is : pair_at f.tables n ≡ Some pair) where
  abbrev pub key : Key
  key = key_by f.jails pair

  pub pair-there : pair_of_key (world_of f) key ≡ Some (pair_by f.jails pair)
  unfolding pair_of
  pair-there =
      pair-found f key ∙ ap (option_map (pair_of f key)) (key-found s n key (key-is f n pair is))
      ∙ (λ i. Some (pair_by f.jails (unwrap_or (is i) (new_pair 0 0))))

  -- ---- in a net

  stood : (side : Side) → (at f.jails (end_of side pair).at).alive ≡ true
  stood side = sym (s.living (end_of side pair).at)
      ∙ subst (λ o. IfSome o (λ (pair : PairOfNumber). lives f.tables (end_of side pair).at ≡ true)) is (s.sound.places (half_of side n))

  abbrev net : Net
  net = net_of f.tables

  abbrev first : Net
  first = detach (half_of A n) pair.a.at net

  abbrev end_path : Side → Path
  end_path side = path_at f.jails (end_of side pair).at

  -- one half leaves
  gone : (side : Side) (m : Net) → world_in f (name_of f) (detach (half_of side n) (end_of side pair).at m) ≡ detach_half (half_on side key) (end_path side) (world_in f (name_of f) m)
  gone side m =
      stack-edited f s (name_of f) m (end_of side pair).at (stood side) (detached (half_of side n)) (detached_half (name_of f (half_of side n)))
      (λ p. detached-renamed (name_of f) (half_of side n) p (name-kept s))
      ∙ ap (λ h. detach_half h (end_path side) (world_in f (name_of f) m)) (name-is f n pair is side)

  unmade-net : world_in (record f { units = without_key key f.units }) (name_of f) (unmade n (Some pair) net) ≡ unmade_pair key (Some (pair_by f.jails pair)) (world_in f (name_of f) net)
  unfolding unmade unmade_pair
  unmade-net =
      pair-dropped f s (name_of f) (detach (half_of B n) pair.b.at first) n key (key-is f n pair is)
      ∙ ap (drop_pair key) (gone B first ∙ ap (detach_half (half_on B key) (end_path B)) (gone A net))

  -- ---- afterwards

  module _ (u : Tables) (b : Becomes (unmade n (pair_at f.tables n) (net_of f.tables)) f.tables u) (sound : IsSound u) where
    abbrev pub after : Fields
    after = record f { tables = u; units = without_key key f.units }

    becomes : Becomes (unmade n (Some pair) (net_of f.tables)) f.tables u
    becomes = subst (λ o. Becomes (unmade n o (net_of f.tables)) f.tables u) is b

    pub pairs_after : (m : ℕ) → pair_at u m ≡ (if m == n then None else pair_at f.tables m)
    unfolding unmade
    pairs_after m = becomes.pairs m

    other_pair : (m : ℕ) → (m == n) ≡ false → pair_at u m ≡ pair_at f.tables m
    other_pair m e = pairs_after m ∙ ap (λ c. if c then None else pair_at f.tables m) e

    none_left : (m : ℕ) → (m == n) ≡ true → pair_at u m ≡ None
    none_left m e = pairs_after m ∙ ap (λ c. if c then None else pair_at f.tables m) e

    -- halves of other pairs are called as before
    other_name : (h : HalfId) → not (h.pair == n) ≡ true → name_of after h ≡ name_of f h
    unfolding name_of
    other_name h e = ap (half_by f.jails h) (other_pair h.pair (not-true (h.pair == n) e))

    -- and no other halves stand anywhere
    other_stands : (q : ℕ) (h : HalfId) → stands_at q h.side (pair_at u h.pair) ≡ true → not (h.pair == n) ≡ true
    other_stands q h there = by (h.pair == n) refl
      where
        by : (c : Bool) → (h.pair == n) ≡ c → not c ≡ true
        by true e = absurd (false≢true (sym (ap (stands_at q h.side) (none_left h.pair e)) ∙ there))
        by false e = refl

    same_parts : (q : ℕ) → renamed (name_of after) (parts u q) ≡ renamed (name_of f) (parts u q)
    same_parts q = same-named sound q (name_of after) (name_of f) (λ h there. other_name h (other_stands q h there))

    pub unmade_world : world_of after ≡ destroyed_pair key (world_of f)
    unmade_world =
        world-net after ∙ world-agree after (name_of after) (name_of f) (net_of u) same_parts
        ∙ world-becomes after (name_of f) (unmade n (Some pair) net) f.tables u becomes ∙ unmade-net
        ∙ ap (unmade_pair key (Some (pair_by f.jails pair))) (sym (world-net f)) ∙ ap (λ o. unmade_pair key o (world_of f)) (sym pair-there)

    -- ---- all stands

    other_key : (m : ℕ) → (m == n) ≡ false → key_in after m ≡ key_in f m
    unfolding key_in
    other_key m e = ap (option_map (key_by f.jails)) (other_pair m e)

    no_key : (m : ℕ) → (m == n) ≡ true → key_in after m ≡ None
    unfolding key_in
    no_key m e = ap (option_map (key_by f.jails)) (none_left m e)

    keyed_after : (m : ℕ) → IfSome (key_in after m) (λ k. find key_cmp k (without_key key f.units) ≡ Some m)
    keyed_after m = by (m == n) refl
      where
        found : (o : Option Key) → (m == n) ≡ false → key_in f m ≡ o → IfSome o (λ k. find key_cmp k (without_key key f.units) ≡ Some m)
        found None e is_key = tt
        found (Some k) e is_key =
            find-without key_cmp key_eq-Decides key_ties key f.units k
            ∙ ap (λ c. if c then None else find key_cmp k f.units) (key-number s m n k key is_key (key-is f n pair is) ∙ e) ∙ key-found s m k is_key

        by : (c : Bool) → (m == n) ≡ c → IfSome (key_in after m) (λ k. find key_cmp k (without_key key f.units) ≡ Some m)
        by true e = subst (λ o. IfSome o (λ k. find key_cmp k (without_key key f.units) ≡ Some m)) (sym (no_key m e)) tt
        by false e = subst (λ o. IfSome o (λ k. find key_cmp k (without_key key f.units) ≡ Some m)) (sym (other_key m e)) (found (key_in f m) e refl)

    paired_after : AllByRecursion (λ (e : Key × ℕ). key_in after e.1 ≡ Some e.0) (without_key key f.units)
    paired_after = left_over (λ (e : Key × ℕ). key_in f e.1 ≡ Some e.0) (λ (e : Key × ℕ). key_in after e.1 ≡ Some e.0) key
        (λ e apart own. other_key e.1 (sym (key-number s e.1 n e.0 key own (key-is f n pair is)) ∙ not-true (key_eq e.0 key) apart) ∙ own) f.units s.paired

    small_after : (m : ℕ) → IfSome (pair_at u m) (λ (pair : PairOfNumber). pair.unit < 2 ^ 32)
    small_after m = by (m == n) refl
      where
        by : (c : Bool) → (m == n) ≡ c → IfSome (pair_at u m) (λ (pair : PairOfNumber). pair.unit < 2 ^ 32)
        by true e = subst (λ o. IfSome o (λ (pair : PairOfNumber). pair.unit < 2 ^ 32)) (sym (none_left m e)) tt
        by false e = subst (λ o. IfSome o (λ (pair : PairOfNumber). pair.unit < 2 ^ 32)) (sym (other_pair m e)) (s.small m)

    pub unmade_stands : Stands after
    unmade_stands = record {
      linked = s.linked;
      tree = s.tree;
      living = λ q. becomes.lives q ∙ s.living q;
      sound = sound;
      listed = s.listed;
      logs_rise = s.logs_rise;
      read = s.read;
      keyed = keyed_after;
      paired = paired_after;
      units_rise = subst (IsStrictlySortedBy key_cmp) (sym (keys_of-without key_eq key f.units)) (IsStrictlySortedBy-filter key_cmp (λ q. not (key_eq q key)) (keys_of f.units) s.units_rise);
      small = small_after;
    }

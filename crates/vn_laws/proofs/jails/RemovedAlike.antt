-- A removal keeps two worlds alike in a set with the jail.
use Rattle.std.proofs.Common.{◌≡◌, ℕ, Bool, true, false, ◌&&◌, not, List, [], ◌∷◌, None, refl, sym, ap, ◌∙◌, subst, arith}
use Rattle.std.specs.Prelude.{if◌then◌else◌, filter}
use Rattle.std.specs.Option.{is_some}
use Rattle.std.specs.List.{list_any, list_all}
use Rattle.std.specs.Map.{keys_of}
use Rattle.std.proofs.lemmas.Bool.{and_parts, true≢false}
use Rattle.vn_types.specs.declared.half.Half.{Half}
use Rattle.vn_types.specs.PathOrder.{path_eq-Decides, key_ties}
use Rattle.vn_types.proofs.PathNames.{key_eq-Decides, key_total}
use Rattle.vn_types.specs.declared.errno.Errno.TheVariants as errno
use Rattle.vn_rules.specs.Construction.{RowOf, DownOf, Clears, SendsHome, DestroysHomed}
use Rattle.vn_rules.specs.Rules.{Common}
use Rattle.vn_cells.specs.declared.cell.Cells.{Cells}
use Rattle.vn_cells.specs.declared.world.Stack.{Stack}
use Rattle.vn_cells.specs.declared.world.World.{World}
use Rattle.vn_cells.specs.world.Names.{Path, Key, key_cmp, path_eq, is_host, is_under, above, halves_of}
use Rattle.vn_cells.specs.world.World.{no_stack, pair_at, is_alive, ifs_of, live_map, on_parts}
use Rattle.vn_cells.specs.commands.Jails.{recount, one_less, rows}
use Rattle.vn_cells.specs.commands.Moves.{moved}
use Rattle.vn_cells.specs.commands.Pairs.{destroyed_pair}
use Rattle.vn_cells.specs.commands.Removal.{lent_here, homed_at, sent_home, without_pairs, run_down, torn_down, killed, destroyed, destroyed_all, living_under, removed, removal}
use Rattle.vn_cells.specs.keeping.Sound.{IsSound}
use Rattle.vn_cells.specs.sets.Sets.{in_stacks, in_pairs}
use Rattle.vn_laws.specs.Relations.{Alike, Belongs}
use Rattle.vn_laws.proofs.edits.Cells.{Ordered, OrderedPairs, none_lives, pair_listed}
use Rattle.vn_laws.proofs.edits.Counts.{same_paths}
use Rattle.vn_laws.proofs.edits.Lists.{same-filter}
use Rattle.vn_laws.proofs.edits.Owned.{own_pair, list_all_filter}
use Rattle.vn_laws.proofs.edits.Twins.{Twins, twins-sound, twins-edit_stack, twins-each_stack, twins-edit_live}
use Rattle.vn_laws.proofs.moves.Alike.{twins-moved}
use Rattle.vn_laws.proofs.pairs.Alike.{twins-destroyed_pair}
use Rattle.vn_laws.proofs.rule.Alike.{AlikeRules}

-- ---- the same lists in both worlds

-- the paths that a removal goes through, where the same live under the path
same_living_under : (v w : World) → Ordered v → Ordered w → (p : Path)
    → ((q : Path) → is_under q p ≡ true → is_alive w q ≡ is_alive v q) → living_under w p ≡ living_under v p
same_living_under v w s t p e = same_paths (λ q. is_under q p) v w s t (λ q. by q (is_under q p) refl)
  where
    by : (q : Path) (b : Bool) → is_under q p ≡ b → (is_alive w q && b) ≡ (is_alive v q && b)
    by q true h = ap (λ c. c && true) (e q h)
    by q false h = grind arith

-- the pairs that are homed at a path
same_homed : (v w : World) → OrderedPairs v → OrderedPairs w → (p : Path)
    → ((k : Key) → path_eq k.0 p ≡ true → is_some (pair_at w k) ≡ is_some (pair_at v k)) → homed_at w p ≡ homed_at v p
same_homed v w s t p e =
    same-filter key_cmp key_total key_eq-Decides key_ties (λ (k : Key). path_eq k.0 p) (keys_of w.pairs) (keys_of v.pairs) t s
    (λ k h. pair_listed w k ∙ e k h ∙ sym (pair_listed v k))

-- ---- what the destructors reach

twins-sent_home : {set : Cells} {v w : World} → Twins set v w → (p : Path) (hs : List Half)
    → Twins set (sent_home p hs v) (sent_home p hs w)
unfolding sent_home
twins-sent_home t p [] = t
twins-sent_home {set} {v} {w} t p (h ∷ hs) =
    twins-sent_home {v = moved h p h.home v} {w = moved h p h.home w} (twins-moved t h p h.home) p hs

twins-without_pairs : {set : Cells} {v w : World} → Twins set v w → (ks : List Key)
    → list_all (in_pairs set) ks ≡ true → Twins set (without_pairs ks v) (without_pairs ks w)
unfolding without_pairs
twins-without_pairs t [] own = t
twins-without_pairs {set} {v} {w} t (k ∷ ks) own =
    let parts = and_parts _ _ own in
    twins-without_pairs {v = destroyed_pair k v} {w = destroyed_pair k w} (twins-destroyed_pair t k parts.0) ks parts.1

module _ (set : Cells) (clock : ℕ) (p : Path) (inside : in_stacks set p ≡ true) where
  own_key : (k : Key) → path_eq k.0 p ≡ true → in_pairs set k ≡ true
  own_key k e = own_pair set k (ap (in_stacks set) ((path_eq-Decides k.0 p).0 e) ∙ inside)

  twins-run_down : {v w : World} → Twins set v w → (d : DownOf Half) → Twins set (run_down p d v) (run_down p d w)
  unfolding run_down
  twins-run_down t (Clears f) = twins-edit_live t p (on_parts f)
  twins-run_down {v} {w} t SendsHome =
      subst (λ hs. Twins set (sent_home p (lent_here v p) v) (sent_home p hs w))
      (ap (λ (s : Stack). filter (λ (h : Half). not (path_eq h.home p)) (halves_of (ifs_of s))) (t.alike.stacks p inside))
      (twins-sent_home t p (lent_here v p))
  twins-run_down {v} {w} t DestroysHomed =
      subst (λ ks. Twins set (without_pairs (homed_at v p) v) (without_pairs ks w))
      (sym (same_homed v w t.left t.right p (λ k e. ap is_some (sym (t.alike.pairs k (own_key k e))))))
      (twins-without_pairs t (homed_at v p) (list_all_filter (in_pairs set) (λ (k : Key). path_eq k.0 p) own_key (keys_of v.pairs)))

  twins-torn_down : {v w : World} → Twins set v w → (more : List (RowOf Half))
      → Twins set (torn_down clock p more v) (torn_down clock p more w)
  unfolding torn_down
  twins-torn_down t [] = t
  twins-torn_down t (row ∷ more) = twins-edit_stack (twins-run_down (twins-torn_down t more) row.down) p _

  twins-killed : {v w : World} → Twins set v w → Twins set (killed p v) (killed p w)
  unfolding killed
  twins-killed t = twins-each_stack t _ (λ q. none (path_eq q p) (list_any (path_eq q) (above p)))
    where
      none : (a b : Bool)
          → (if a then record no_stack { live = None } else if b then live_map (recount one_less) no_stack else no_stack) ≡ no_stack
      none true b = refl
      none false b = none_lives b (recount one_less)

  twins-destroyed : {v w : World} → Twins set v w → Twins set (destroyed clock p v) (destroyed clock p w)
  twins-destroyed t = twins-killed (twins-torn_down t rows)

twins-destroyed_all : {set : Cells} {v w : World} → Twins set v w → (clock : ℕ) (ps : List Path)
    → list_all (in_stacks set) ps ≡ true → Twins set (destroyed_all clock ps v) (destroyed_all clock ps w)
unfolding destroyed_all
twins-destroyed_all t clock [] inside = t
twins-destroyed_all {set} t clock (p ∷ ps) inside =
    let parts = and_parts _ _ inside in
    twins-destroyed set clock p parts.0 (twins-destroyed_all t clock ps parts.1)

-- ---- the subtree

-- the same live under a path of the set
same_under : {set : Cells} {v w : World} → Alike set v w → Belongs set v → Belongs set w → (p : Path)
    → in_stacks set p ≡ true → is_host p ≡ false → (q : Path) → is_under q p ≡ true → is_alive w q ≡ is_alive v q
same_under {set} {v} {w} a b c p inside top q under = by (in_stacks set q) refl
  where
    dead : (u : World) → Belongs set u → in_stacks set q ≡ false → (l : Bool) → is_alive u q ≡ l → l ≡ false
    dead u d out true e = absurd (true≢false (sym (d.descendants p q inside top under e) ∙ out))
    dead u d out false e = refl

    by : (b : Bool) → in_stacks set q ≡ b → is_alive w q ≡ is_alive v q
    by true e = ap (λ (s : Stack). is_some s.live) (sym (a.stacks q e))
    by false e = dead w c e (is_alive w q) refl ∙ sym (dead v b e (is_alive v q) refl)

twins-removed : {set : Cells} {v w : World} → Twins set v w → Belongs set v → Belongs set w → IsSound v → IsSound w
    → (clock : ℕ) (p : Path) → in_stacks set p ≡ true → is_host p ≡ false → Twins set (removed clock p v) (removed clock p w)
twins-removed {set} {v} {w} t b c sv sw clock p inside top =
    subst (λ ps. Twins set (removed clock p v) (destroyed_all clock ps w))
    (sym (same_living_under v w sv.tree.stacks_ordered sw.tree.stacks_ordered p (same_under t.alike b c p inside top)))
    (twins-destroyed_all t clock (living_under v p)
    (list_all_filter (in_stacks set) (λ (q : Path). is_alive v q && is_under q p)
    (λ q e. let parts = and_parts _ _ e in b.descendants p q inside top parts.1 parts.0) (keys_of v.stacks)))

pub removal_alike : {set : Cells} {v w : World} → Alike set v w → Belongs set v → Belongs set w → IsSound v → IsSound w
    → (common : Common) (p : Path) → in_stacks set p ≡ true → is_host p ≡ false
    → AlikeRules set (removal common p v) (removal common p w)
removal_alike a b c sv sw common p inside top = record {
  refusals = ap (λ (s : Stack). (not (is_some s.live), errno.NoEnt) ∷ []) (a.stacks p inside);
  outcome = refl;
  left = λ none. (twins-removed (twins-sound a sv sw) b c sv sw common.clock p inside top).alike;
}

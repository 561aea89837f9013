-- What belongs to a set still does where a jail is removed: halves go home, and nobody comes to life.
use Rattle.std.proofs.Common.{◌≡◌, ℕ, Bool, true, false, ◌&&◌, not, List, [], ◌∷◌, None, refl, sym, ap, ◌∙◌}
use Rattle.std.specs.Prelude.{if◌then◌else◌}
use Rattle.std.specs.Option.{is_some}
use Rattle.std.specs.List.{list_any}
use Rattle.std.proofs.lemmas.Bool.{and_parts, and_from, true≢false}
use Rattle.vn_types.specs.declared.half.Half.{Half}
use Rattle.vn_rules.specs.Construction.{RowOf, DownOf, Clears, SendsHome, DestroysHomed}
use Rattle.vn_cells.specs.declared.cell.Cells.{Cells}
use Rattle.vn_cells.specs.declared.world.Stack.{Stack}
use Rattle.vn_cells.specs.declared.world.World.{World}
use Rattle.vn_cells.specs.world.Names.{Path, Key, path_eq, above, key_of}
use Rattle.vn_cells.specs.world.World.{stack_at, pair_at, is_alive, ifs_in, ifs_of, on_parts}
use Rattle.vn_cells.specs.commands.Jails.{one_less, recount_above, rows}
use Rattle.vn_cells.specs.commands.Moves.{moved}
use Rattle.vn_cells.specs.commands.Pairs.{destroyed_pair}
use Rattle.vn_cells.specs.commands.Removal.{lent_here, homed_at, sent_home, without_pairs, run_down, torn_down, destroyed, destroyed_all, living_under, removed}
use Rattle.vn_cells.specs.sets.Sets.{in_stacks}
use Rattle.vn_laws.specs.Relations.{Belongs, owns_ifs}
use Rattle.vn_laws.proofs.edits.Cells.{path_eq-same}
use Rattle.vn_laws.proofs.edits.Owned.{Owned, own_pair, owned-edit_live, owned-shape}
use Rattle.vn_laws.proofs.edits.Shapes.{shape-edit_stack}
use Rattle.vn_laws.proofs.jails.Counted.{recounted}
use Rattle.vn_laws.proofs.jails.Killed.{killed_stack}
use Rattle.vn_laws.proofs.moves.Belongs.{owned-moved}
use Rattle.vn_laws.proofs.pairs.Belongs.{owned-unmade}

-- ---- in the stacks of a set but one that is destroyed

module _ (set : Cells) (p : Path) where
  abbrev but_p : Path → Bool
  but_p q = in_stacks set q && not (path_eq q p)

  module _ {v : World} where
    owned-sent_home : (hs : List Half) {w : World} → Owned set but_p v w → Owned set but_p v (sent_home p hs w)
    unfolding sent_home
    owned-sent_home [] o = o
    owned-sent_home (h ∷ hs) {w} o =
        owned-sent_home hs {w = moved h p h.home w} (owned-moved o h p h.home (λ here. own_pair set (key_of h) (and_parts _ _ here).0))

    owned-without_pairs : (ks : List Key) {w : World} → Owned set but_p v w → Owned set but_p v (without_pairs ks w)
    unfolding without_pairs
    owned-without_pairs [] o = o
    owned-without_pairs (k ∷ ks) {w} o = owned-without_pairs ks {w = destroyed_pair k w} (owned-unmade o k (pair_at w k))

    owned-run_down : (d : DownOf Half) {w : World} → Owned set but_p v w → Owned set but_p v (run_down p d w)
    unfolding run_down
    owned-run_down (Clears f) {w} o = owned-edit_live o p (on_parts f) (λ live here own. elsewhere here)
      where
        elsewhere : {T : Type 0} → but_p p ≡ true → T
        elsewhere here = absurd (true≢false (sym (and_parts (in_stacks set p) (not (path_eq p p)) here).1 ∙ ap not (path_eq-same p)))
    owned-run_down SendsHome {w} o = owned-sent_home (lent_here w p) o
    owned-run_down DestroysHomed {w} o = owned-without_pairs (homed_at w p) o

    owned-torn_down : (clock : ℕ) (more : List (RowOf Half)) {w : World} → Owned set but_p v w → Owned set but_p v (torn_down clock p more w)
    unfolding torn_down
    owned-torn_down clock [] o = o
    owned-torn_down clock (row ∷ more) {w} o =
        owned-shape (owned-run_down row.down (owned-torn_down clock more o)) (shape-edit_stack p _ _ (λ s. refl))

module _ {set : Cells} {v : World} (b : Belongs set v) (clock : ℕ) (p : Path) where
  abbrev torn : World
  torn = torn_down clock p rows v

  owned-torn : Owned set (but_p set p) v torn
  owned-torn = owned-torn_down set p clock rows (record { alive = λ q. refl; of = λ q here. b.halves q (and_parts _ _ here).0 })

  belongs-destroyed : Belongs set (destroyed clock p v)
  belongs-destroyed = record {
    halves = λ q h. ap (λ (s : Stack). owns_ifs set (ifs_of s)) (killed_stack p torn q) ∙ owns q h (path_eq q p) refl;
    descendants = λ r q h top under alive. b.descendants r q h top under
        (sym (owned-torn.alive q) ∙ lived q (path_eq q p) (sym (ap (λ (s : Stack). is_some s.live) (killed_stack p torn q)) ∙ alive));
  }
    where
      owns : (q : Path) → in_stacks set q ≡ true → (c : Bool) → path_eq q p ≡ c
          → owns_ifs set (ifs_of (if c then record (stack_at torn q) { live = None } else recount_above p one_less q (stack_at torn q))) ≡ true
      owns q h true e = refl
      owns q h false e =
          ap (owns_ifs set) (recounted ifs_in (λ live c. refl) (list_any (path_eq q) (above p)) one_less (stack_at torn q))
          ∙ owned-torn.of q (and_from _ _ h (ap not e))

      lived : (q : Path) (c : Bool)
          → is_some (if c then record (stack_at torn q) { live = None } else recount_above p one_less q (stack_at torn q)).live ≡ true
          → is_alive torn q ≡ true
      lived q true e = cc
      lived q false e = sym (recounted is_some (λ live c. refl) (list_any (path_eq q) (above p)) one_less (stack_at torn q)) ∙ e

-- ---- the subtree

belongs-destroyed_all : {set : Cells} {v : World} → Belongs set v → (clock : ℕ) (ps : List Path)
    → Belongs set (destroyed_all clock ps v)
unfolding destroyed_all
belongs-destroyed_all b clock [] = b
belongs-destroyed_all b clock (p ∷ ps) = belongs-destroyed (belongs-destroyed_all b clock ps) clock p

pub belongs-removed : {set : Cells} {v : World} → Belongs set v → (clock : ℕ) (p : Path) → Belongs set (removed clock p v)
belongs-removed {set} {v} b clock p = belongs-destroyed_all b clock (living_under v p)

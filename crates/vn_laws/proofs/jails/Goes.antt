-- The clock and the transcripts under commands on pairs, moves and jails.
use Rattle.std.proofs.Common.{◌≡◌, ℕ, Bool, true, false, List, [], ◌∷◌, length-append, Option, Some, None, refl, arith}
use Rattle.std.specs.Prelude.{if◌then◌else◌}
use Rattle.std.specs.List.{list_any}
use Rattle.vn_types.specs.declared.address.Mac.{Mac}
use Rattle.vn_types.specs.declared.half.Half.{Half}
use Rattle.vn_types.specs.declared.interface.IfOf.TheVariants.{Lo0, Half as OfHalf}
use Rattle.vn_rules.specs.Construction.{RowOf, DownOf, Clears, SendsHome, DestroysHomed}
use Rattle.vn_cells.specs.declared.transcript.What.{What}
use Rattle.vn_cells.specs.declared.transcript.What.TheVariants.{Uninit}
use Rattle.vn_cells.specs.declared.world.Pair.{Pair}
use Rattle.vn_cells.specs.declared.world.Stack.{Stack}
use Rattle.vn_cells.specs.declared.world.World.{World}
use Rattle.vn_cells.specs.world.Names.{Path, Key, If, key_of, path_eq, above}
use Rattle.vn_cells.specs.world.World.{pair_at, noting, noted, entry_of, live_map, on_parts}
use Rattle.vn_cells.specs.commands.Jails.{rows, recount, one_less}
use Rattle.vn_cells.specs.commands.Pairs.{new_pair, made_pair, unmade, destroyed_pair, destroyed_by, with_mac_on}
use Rattle.vn_cells.specs.commands.Moves.{moved, moved_on}
use Rattle.vn_cells.specs.commands.Removal.{lent_here, homed_at, sent_home, without_pairs, run_down, torn_down, killed, living_under, destroyed_all, removed}
use Rattle.vn_laws.proofs.edits.Goes.{TellsMore, Goes, goes-none, goes-then, goes-edit_stack, goes-each_stack, goes-edit_live, goes-add_pair, goes-drop_pair, goes-each_pair}
use Rattle.vn_laws.proofs.jails.Killed.{none-killed}

module _ (v : World) where
  pub goes-made_pair : (k : Key) → Goes v (made_pair k v)
  unfolding made_pair
  goes-made_pair k = goes-then (goes-add_pair v k (new_pair k)) (goes-then (goes-edit_live _ k.0 _) (goes-edit_live _ k.0 _))

  pub goes-unmade : (k : Key) (o : Option Pair) → Goes v (unmade k o v)
  unfolding unmade
  goes-unmade k None = goes-none v
  goes-unmade k (Some pair) = goes-then (goes-edit_live v pair.a.at _) (goes-then (goes-edit_live _ pair.b.at _) (goes-drop_pair _ k))

  pub goes-destroyed_pair : (k : Key) → Goes v (destroyed_pair k v)
  goes-destroyed_pair k = goes-unmade k (pair_at v k)

  pub goes-destroyed_by : (on : Option If) → Goes v (destroyed_by on v)
  unfolding destroyed_by
  goes-destroyed_by None = goes-none v
  goes-destroyed_by (Some Lo0) = goes-none v
  goes-destroyed_by (Some (OfHalf h)) = goes-destroyed_pair (key_of h)

  pub goes-with_mac_on : (on : Option If) (mac : Mac) → Goes v (with_mac_on on mac v)
  unfolding with_mac_on
  goes-with_mac_on None mac = goes-none v
  goes-with_mac_on (Some Lo0) mac = goes-none v
  goes-with_mac_on (Some (OfHalf h)) mac = goes-each_pair v _

  pub goes-moved : (h : Half) (from to : Path) → Goes v (moved h from to v)
  unfolding moved
  goes-moved h from to = goes-then (goes-each_pair v _) (goes-then (goes-edit_live _ from _) (goes-edit_live _ to _))

  pub goes-moved_on : (on : Option If) (from to : Path) → Goes v (moved_on on from to v)
  unfolding moved_on
  goes-moved_on None from to = goes-none v
  goes-moved_on (Some Lo0) from to = goes-none v
  goes-moved_on (Some (OfHalf h)) from to = goes-moved h from to

-- ---- a removal

goes-sent_home : (p : Path) (hs : List Half) (v : World) → Goes v (sent_home p hs v)
unfolding sent_home
goes-sent_home p [] v = goes-none v
goes-sent_home p (h ∷ hs) v = goes-then (goes-moved v h p h.home) (goes-sent_home p hs (moved h p h.home v))

goes-without_pairs : (ks : List Key) (v : World) → Goes v (without_pairs ks v)
unfolding without_pairs
goes-without_pairs [] v = goes-none v
goes-without_pairs (k ∷ ks) v = goes-then (goes-destroyed_pair v k) (goes-without_pairs ks (destroyed_pair k v))

goes-run_down : (p : Path) (d : DownOf Half) (v : World) → Goes v (run_down p d v)
unfolding run_down
goes-run_down p (Clears f) v = goes-edit_live v p (on_parts f)
goes-run_down p SendsHome v = goes-sent_home p (lent_here v p) v
goes-run_down p DestroysHomed v = goes-without_pairs (homed_at v p) v

goes-noted : (clock : ℕ) (p : Path) (what : What) (v : World) → Goes v (noted clock p what v)
goes-noted clock p what v =
    goes-edit_stack v p (noting (entry_of clock what)) (λ s. let n = length-append s.entries (entry_of clock what ∷ []) in omega arith) (λ s. refl)

goes-torn_down : (clock : ℕ) (p : Path) (more : List (RowOf Half)) (v : World) → Goes v (torn_down clock p more v)
unfolding torn_down
goes-torn_down clock p [] v = goes-none v
goes-torn_down clock p (row ∷ more) v =
    let w = torn_down clock p more v in
    goes-then (goes-torn_down clock p more v) (goes-then (goes-run_down p row.down w) (goes-noted clock p (Uninit row.name) (run_down p row.down w)))

goes-killed : (p : Path) (v : World) → Goes v (killed p v)
unfolding killed
goes-killed p v = goes-each_stack v _ (λ q. none-killed (path_eq q p) (list_any (path_eq q) (above p))) (λ q s. by (path_eq q p) (list_any (path_eq q) (above p)) s)
    (λ q s. kept (path_eq q p) (list_any (path_eq q) (above p)) s)
  where
    kept : (a b : Bool) (s : Stack) → (if a then record s { live = None } else (if b then live_map (recount one_less) s else s)).readers ≡ s.readers
    kept true b s = refl
    kept false true s = refl
    kept false false s = refl

    by : (a b : Bool) (s : Stack) → TellsMore s (if a then record s { live = None } else (if b then live_map (recount one_less) s else s))
    by true b s = omega arith
    by false true s = omega arith
    by false false s = omega arith

goes-destroyed_all : (clock : ℕ) (ps : List Path) (v : World) → Goes v (destroyed_all clock ps v)
unfolding destroyed_all
goes-destroyed_all clock [] v = goes-none v
goes-destroyed_all clock (p ∷ ps) v =
    let w = destroyed_all clock ps v in
    goes-then (goes-destroyed_all clock ps v) (goes-then (goes-torn_down clock p rows w) (goes-killed p (torn_down clock p rows w)))

pub goes-removed : (clock : ℕ) (p : Path) (v : World) → Goes v (removed clock p v)
goes-removed clock p v = goes-destroyed_all clock (living_under v p) v

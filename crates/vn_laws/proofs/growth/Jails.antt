-- A jail begins with its numbers at 0, and a removal changes those of no other stack.
use Rattle.std.proofs.Common.{◌≡◌, ℕ, Bool, true, false, List, [], ◌∷◌, None, refl, ap, ◌∙◌, arith}
use Rattle.std.specs.Prelude.{if◌then◌else◌}
use Rattle.std.specs.List.{list_any}
use Rattle.vn_types.specs.declared.half.Half.{Half}
use Rattle.vn_rules.specs.declared.parts.PartsOf.{PartsOf}
use Rattle.vn_rules.specs.Arp.{without_entries}
use Rattle.vn_rules.specs.Construction.{RowOf, DownOf, Clears, SendsHome, DestroysHomed, no_drops}
use Rattle.vn_rules.specs.Pings.{without_pings}
use Rattle.vn_cells.specs.declared.transcript.What.TheVariants.{Uninit}
use Rattle.vn_cells.specs.declared.world.Stack.{Stack}
use Rattle.vn_cells.specs.declared.world.World.{World}
use Rattle.vn_cells.specs.world.Names.{Path, Key, path_eq, above}
use Rattle.vn_cells.specs.world.World.{noting, entry_of, stack_at}
use Rattle.vn_cells.specs.commands.Jails.{rows, recount_above, one_less, created}
use Rattle.vn_cells.specs.commands.Removal.{lent_here, homed_at, sent_home, without_pairs, run_down, torn_down, killed, living_under, destroyed_all, removed}
use Rattle.vn_laws.proofs.edits.Shapes.{shape-edit_stack}
use Rattle.vn_laws.proofs.growth.Edits.{Counted, live_counted, counted-on_parts, counted-shape}
use Rattle.vn_laws.proofs.growth.Links.{counted-moved, counted-destroyed_pair}
use Rattle.vn_laws.proofs.growth.Numbers.{Numbers, numbers, Less, less-refl, Falls}
use Rattle.vn_laws.proofs.jails.Counted.{recounted}
use Rattle.vn_laws.proofs.jails.Created.{more, fresh, created_stack}
use Rattle.vn_laws.proofs.jails.Killed.{killed_stack}

-- a destructor that clears tables leaves no higher numbers
abbrev LeavesNumbers : DownOf Half → Type 0
LeavesNumbers (Clears f) = (p : PartsOf Half) → Less (numbers (f p)) (numbers p)
LeavesNumbers SendsHome = Unit {0}
LeavesNumbers DestroysHomed = Unit {0}

-- those of all rows do
abbrev AllLeave : List (RowOf Half) → Type 0
AllLeave [] = Unit {0}
AllLeave (row ∷ more) = LeavesNumbers row.down × AllLeave more

rows_leave : AllLeave rows
unfolding without_entries without_pings
rows_leave =
    (same, (same, (tt, (same, (λ p. record { timers = refl; drops = refl; held = omega arith }, (same, (same, (same, (same, (same, (tt, tt)))))))))))
  where
    same : (p : PartsOf Half) → Less (numbers p) (numbers p)
    same p = less-refl (numbers p)

module _ {test : Numbers → Bool} (falls : Falls test) where
  -- ---- a jail is made

  pub counted-created : test (0, (no_drops, 0)) ≡ true → {v : World} → Counted test v → (clock : ℕ) (p : Path) (limit : ℕ)
      → Counted test (created clock p limit v)
  counted-created none {v} c clock p limit = record {
    of = λ q. ap (λ (s : Stack). live_counted test s.live) (created_stack clock p limit v q) ∙ by q (path_eq q p);
  }
    where
      by : (q : Path) (b : Bool)
          → live_counted test (if b then fresh clock limit (recount_above p more q (stack_at v q)) else recount_above p more q (stack_at v q)).live ≡ true
      by q true = none
      by q false = recounted (live_counted test) (λ live n. refl) (list_any (path_eq q) (above p)) more (stack_at v q) ∙ c.of q

  -- ---- a jail is removed

  counted-sent_home : (p : Path) (hs : List Half) {v : World} → Counted test v → Counted test (sent_home p hs v)
  unfolding sent_home
  counted-sent_home p [] c = c
  counted-sent_home p (h ∷ hs) c = counted-sent_home p hs (counted-moved falls c h p h.home)

  counted-without_pairs : (ks : List Key) {v : World} → Counted test v → Counted test (without_pairs ks v)
  unfolding without_pairs
  counted-without_pairs [] c = c
  counted-without_pairs (k ∷ ks) c = counted-without_pairs ks (counted-destroyed_pair falls c k)

  counted-run_down : {v : World} → Counted test v → (p : Path) (d : DownOf Half) → LeavesNumbers d → Counted test (run_down p d v)
  unfolding run_down
  counted-run_down c p (Clears f) leaves = counted-on_parts falls c p f leaves
  counted-run_down {v} c p SendsHome leaves = counted-sent_home p (lent_here v p) c
  counted-run_down {v} c p DestroysHomed leaves = counted-without_pairs (homed_at v p) c

  counted-torn_down : {v : World} → Counted test v → (clock : ℕ) (p : Path) (more : List (RowOf Half)) → AllLeave more
      → Counted test (torn_down clock p more v)
  unfolding torn_down
  counted-torn_down c clock p [] leave = c
  counted-torn_down c clock p (row ∷ more) leave =
      counted-shape (counted-run_down (counted-torn_down c clock p more leave.1) p row.down leave.0)
      (shape-edit_stack p (noting (entry_of clock (Uninit row.name))) _ (λ s. refl))

  counted-killed : {v : World} → Counted test v → (p : Path) → Counted test (killed p v)
  counted-killed {v} c p = record {
    of = λ q. ap (λ (s : Stack). live_counted test s.live) (killed_stack p v q) ∙ by q (path_eq q p);
  }
    where
      by : (q : Path) (b : Bool)
          → live_counted test (if b then record (stack_at v q) { live = None } else recount_above p one_less q (stack_at v q)).live ≡ true
      by q true = refl
      by q false = recounted (live_counted test) (λ live n. refl) (list_any (path_eq q) (above p)) one_less (stack_at v q) ∙ c.of q

  counted-destroyed_all : {v : World} → Counted test v → (clock : ℕ) (ps : List Path) → Counted test (destroyed_all clock ps v)
  unfolding destroyed_all
  counted-destroyed_all c clock [] = c
  counted-destroyed_all c clock (p ∷ ps) = counted-killed (counted-torn_down (counted-destroyed_all c clock ps) clock p rows rows_leave) p

  pub counted-removed : {v : World} → Counted test v → (clock : ℕ) (p : Path) → Counted test (removed clock p v)
  counted-removed {v} c clock p = counted-destroyed_all c clock (living_under v p)

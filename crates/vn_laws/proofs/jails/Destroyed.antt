-- One stack is destroyed: the world stays sound, and nothing is left behind.
use Rattle.std.proofs.Common.{◌≡◌, ℕ, true, false, ◌&&◌, not, List, [], ◌∷◌, ◌++◌, codes, take, refl, sym, ap, ◌∙◌, subst}
use Rattle.std.specs.List.{list_any, list_all}
use Rattle.vn_types.specs.declared.half.Half.{Half}
use Rattle.vn_rules.specs.Construction.{RowOf, SendsHome}
use Rattle.vn_cells.specs.declared.transcript.What.TheVariants.{Uninit}
use Rattle.vn_cells.specs.declared.world.World.{World}
use Rattle.vn_cells.specs.world.Names.{Path, path_eq, is_host, is_below}
use Rattle.vn_cells.specs.world.World.{is_alive}
use Rattle.vn_cells.specs.commands.Jails.{rows}
use Rattle.vn_cells.specs.commands.Removal.{killed, torn_down, run_down, sent_home, lent_here, destroyed}
use Rattle.vn_cells.specs.keeping.Sound.{IsSound}
use Rattle.vn_laws.specs.Removals.{HomeAlone, is_cloner, past_cloner}
use Rattle.vn_laws.proofs.edits.Trees.{alive_tree}
use Rattle.vn_laws.proofs.edits.Fine.{Fine, fine-then}
use Rattle.vn_laws.proofs.jails.Own.{OwnOnly, is_own, TornDown, torn-down, alone-later}
use Rattle.vn_laws.proofs.jails.Buried.{home_alone, fine-buried, buried_alive}
use Rattle.vn_laws.proofs.jails.Home.{Stays, stays-then, stands, Returned, returned, note, own-note}

pub record Destroyed (p : Path) (v w : World) : Type 0 where
  pub fine : Fine v w
  pub alive : (r : Path) → is_alive w r ≡ (is_alive v r && not (path_eq r p))

-- the last row, by which halves are sent home
abbrev pub home_row : RowOf Half
home_row = record {
  subsystem = 9;
  order = 0;
  name = codes "vnet_if_return";
  up = λ p. p;
  down = SendsHome;
}

module _ (p : Path) (clock : ℕ) (v : World) (s : IsSound v) (alive : is_alive v p ≡ true) where
  -- the world when its destructor has run, with its entry
  abbrev pub homeward : World
  homeward = torn_down clock p (home_row ∷ []) v

  back_home : Returned p v (sent_home p (lent_here v p) v)
  back_home = returned p v s alive

  stays_home : Stays v homeward
  unfolding torn_down run_down
  stays_home = stays-then back_home.stays (note p clock (Uninit home_row.name) (sent_home p (lent_here v p) v) back_home.stays.fine.sound)

  own_home : (h : Half) → stands homeward p h ≡ true → path_eq h.home p ≡ true
  unfolding torn_down run_down
  own_home = own-note p clock (Uninit home_row.name) (sent_home p (lent_here v p) v) back_home.own

  module _ (lowest : (r : Path) → is_alive v r ≡ true → is_below r p ≡ false) where
    lowest_home : (r : Path) → is_alive homeward r ≡ true → is_below r p ≡ false
    lowest_home r e = lowest r (sym (alive_tree stays_home.tree r) ∙ e)

    -- the pairs that are homed there stand there
    alone_home : HomeAlone p homeward
    alone_home = home_alone stays_home.fine.sound p lowest_home

    -- what follows changes the stack alone, and the pairs that are homed there
    pub own_rows : OwnOnly p homeward (torn_down clock p rows v)
    own_rows = own (take 10 rows) refl refl
      where
        own : (before : List (RowOf Half)) → rows ≡ before ++ home_row ∷ []
            → list_all (λ (row : RowOf Half). is_own p row.down) before ≡ true → OwnOnly p homeward (torn_down clock p rows v)
        own before table all =
            subst (λ table. OwnOnly p homeward (torn_down clock p table v)) (sym table)
            (torn-down p clock before (home_row ∷ []) v all alone_home).own

    -- a stack below which nothing lives: first the halves that are lent to it go home, and what follows is its own
    first_rows : (before : List (RowOf Half)) → rows ≡ before ++ home_row ∷ []
        → list_all (λ (row : RowOf Half). is_own p row.down) before ≡ true → list_any (λ (row : RowOf Half). is_cloner row.down) before ≡ true
        → is_host p ≡ false → Destroyed p v (destroyed clock p v)
    first_rows before table all cloner top =
        let t = stays_home in
        let same : (r : Path) → is_alive homeward r ≡ is_alive v r = alive_tree t.tree in
        let d : TornDown p before homeward (torn_down clock p (before ++ home_row ∷ []) v) =
        torn-down p clock before (home_row ∷ []) v all alone_home in
        subst (λ table. Destroyed p v (killed p (torn_down clock p table v))) (sym table)
        (record {
          fine = fine-then t.fine (fine-buried t.fine.sound p (same p ∙ alive) top lowest_home own_home d.own (d.none cloner));
          alive = λ r. buried_alive t.fine.sound p (same p ∙ alive) top lowest_home own_home d.own (d.none cloner) r
              ∙ ap (λ b. b && not (path_eq r p)) (same r);
        })

    -- so they do when the cloner's destructor runs, whatever the rows between clear
    pub alone_at_cloner : HomeAlone p (torn_down clock p (past_cloner rows) v)
    alone_at_cloner = later (take 7 (past_cloner rows)) refl refl
      where
        later : (between : List (RowOf Half)) → past_cloner rows ≡ between ++ home_row ∷ []
            → list_all (λ (row : RowOf Half). is_own p row.down) between ≡ true → HomeAlone p (torn_down clock p (past_cloner rows) v)
        later between table all =
            subst (λ table. HomeAlone p (torn_down clock p table v)) (sym table)
            (alone-later p homeward (torn_down clock p (between ++ home_row ∷ []) v)
            (torn-down p clock between (home_row ∷ []) v all alone_home).own alone_home)

-- the rows before the last, which change the stack alone and the pairs that are homed there
pub is_destroyed : (clock : ℕ) (p : Path) (v : World) → IsSound v → is_alive v p ≡ true → is_host p ≡ false
    → ((r : Path) → is_alive v r ≡ true → is_below r p ≡ false) → Destroyed p v (destroyed clock p v)
is_destroyed clock p v s alive top lowest = first_rows p clock v s alive lowest (take 10 rows) refl refl refl top

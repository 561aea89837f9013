-- Two worlds that are alike in a set of cells, what a set's own cells tell along a closed history,
-- and what an edit leaves of a half that is gone from where it stood.
use Rattle.std.specs.Prelude.{◌≡◌, ◌⊎◌, Bool, true, false, ◌||◌, List}
use Rattle.std.specs.List.{list_all}
use Rattle.vn_types.specs.declared.half.Half.{Half}
use Rattle.vn_cells.specs.declared.cell.Cells.{Cells}
use Rattle.vn_cells.specs.declared.world.World.{World}
use Rattle.vn_cells.specs.world.Names.{Path, Key, If, is_host, is_under, key_of, halves_of}
use Rattle.vn_cells.specs.world.World.{stack_at, pair_at, is_alive, ifs_of, place}
use Rattle.vn_cells.specs.sets.Sets.{in_stacks, in_pairs}
use Rattle.vn_cells.specs.keeping.Standing.{passes}
use Rattle.vn_cells.specs.keeping.Moved.{is_emptied, forgets}

-- the same clock, and the same cells of the set
pub record Alike (set : Cells) (v w : World) : Type 0 where
  -- what all cells share
  pub clock : v.clock ≡ w.clock
  -- its stacks
  pub stacks : (p : Path) → in_stacks set p ≡ true → stack_at v p ≡ stack_at w p
  -- its pairs
  pub pairs : (k : Key) → in_pairs set k ≡ true → pair_at v k ≡ pair_at w k

-- whether the pairs of these interfaces are in the set
abbrev pub owns_ifs : Cells → List If → Bool
owns_ifs set ifs = list_all (λ h. in_pairs set (key_of h)) (halves_of ifs)

-- whether a path is of the set, or host
abbrev pub is_inside : Cells → Path → Bool
is_inside set p = in_stacks set p || is_host p

-- what both runs of a closed history keep of a set
pub record Belongs (set : Cells) (w : World) : Type 0 where
  -- a half that stands in a stack of the set is of a pair of the set
  pub halves : (p : Path) → in_stacks set p ≡ true → owns_ifs set (ifs_of (stack_at w p)) ≡ true
  -- each living descendant of a stack of the set other than host is in the set
  pub descendants : (p q : Path) → in_stacks set p ≡ true → is_host p ≡ false → is_under q p ≡ true
      → is_alive w q ≡ true → in_stacks set q ≡ true

-- a half of which nothing is left where it stood
pub record IsGone (h : Half) (w : World) : Type 0 where
  -- both queues of its pair are empty, and it is down
  pub emptied : is_emptied h (pair_at w (key_of h)) ≡ true
  -- no table names it
  pub forgotten : (p : Path) → passes (forgets h) (stack_at w p).live ≡ true

-- edits that leave nothing behind; they follow one another
pub record Leaves (v w : World) : Type 0 where
  -- a half stands where it stood, or is gone
  pub moved : (h : Half)
      → (place h (pair_at w (key_of h)) ≡ place h (pair_at v (key_of h))) ⊎ IsGone h w
  -- what was gone stays so
  pub kept : (h : Half) → IsGone h v → IsGone h w

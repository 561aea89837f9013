-- Destructors enter themselves in a transcript, one after another.
use Rattle.std.proofs.Common.{◌≡◌, ℕ, ◌+◌, ◌<◌, ◌≤◌, List, [], ◌∷◌, drop, reverse, length, get_or, drop-cons, add-one, refl, sym, ap, ◌∙◌}
use Rattle.std.proofs.lemmas.List.{drop_all}
use Rattle.vn_types.specs.Paths.{Path}
use Rattle.vn_cells.specs.declared.world.World.{World}
use Rattle.vn_cells.specs.world.World.{edit_stack, noting}
use Rattle.vn_kernel.specs.Constructors.{constructors}
use Rattle.vn_kernel.specs.Destruction.{uninit_entry, with_destructors}
use Rattle.vn_kernel.specs.declared.constructors.Constructor.{Constructor}
use Rattle.vn_kernel.specs.declared.constructors.Constructor.TheVariants.{VnetData}
use Rattle.vn_kernel.specs.Fields.{Fields}
use Rattle.vn_kernel.specs.Stands.{Stands}
use Rattle.vn_kernel.specs.Worlds.{with_entry, world_of}
use Rattle.vn_kernel.proofs.Views.{stands-entry, world-entry}

-- the entries from a place on are the one there and those behind it
from-place : (p : Path) (clock i : ℕ) → i < length constructors → (f : Fields)
    → with_destructors p clock (drop i (reverse constructors)) f ≡ with_destructors p clock (drop (i + 1) (reverse constructors)) (with_entry p (uninit_entry clock (get_or (reverse constructors) i VnetData)) f)
unfolding with_destructors
from-place p clock i within f =
    ap (λ (cs : List Constructor). with_destructors p clock cs f)
    (drop-cons (reverse constructors) i VnetData within ∙ ap (λ n. get_or (reverse constructors) i VnetData ∷ drop n (reverse constructors)) (sym (add-one i)))

pub noted-next : (p : Path) (clock i : ℕ) → i < length constructors → (f g old : Fields) → f.clock ≡ clock
    → g ≡ with_entry p (uninit_entry f.clock (get_or (reverse constructors) i VnetData)) f
    → with_destructors p clock (drop i (reverse constructors)) f ≡ with_destructors p clock (drop 1 (reverse constructors)) old
    → with_destructors p clock (drop (i + 1) (reverse constructors)) g ≡ with_destructors p clock (drop 1 (reverse constructors)) old
noted-next p clock i within f g old now is before =
    ap (with_destructors p clock (drop (i + 1) (reverse constructors))) (is ∙ ap (λ n. with_entry p (uninit_entry n (get_or (reverse constructors) i VnetData)) f) now)
    ∙ sym (from-place p clock i within f) ∙ before

pub noted-all : (p : Path) (clock i : ℕ) → length constructors ≤ i → (f old : Fields)
    → with_destructors p clock (drop i (reverse constructors)) f ≡ with_destructors p clock (drop 1 (reverse constructors)) old
    → f ≡ with_destructors p clock (drop 1 (reverse constructors)) old
unfolding with_destructors
noted-all p clock i end f old is = sym (ap (λ (cs : List Constructor). with_destructors p clock cs f) (drop_all i (reverse constructors) end) ∙ none) ∙ is
  where
    none : with_destructors p clock [] f ≡ f
    none = refl

-- ---- in the world

-- no more than the transcripts is another
pub only-logs : (p : Path) (clock : ℕ) (cs : List Constructor) (f : Fields) → with_destructors p clock cs f ≡ record f { logs = (with_destructors p clock cs f).logs }
unfolding with_destructors
only-logs p clock [] f = refl
only-logs p clock (c ∷ more) f = only-logs p clock more (with_entry p (uninit_entry clock c) f)

-- these entries in the transcript of a path
unfoldable pub noted_each : Path → ℕ → List Constructor → World → World
noted_each p clock [] w = w
noted_each p clock (c ∷ more) w = noted_each p clock more (edit_stack p (noting (uninit_entry clock c)) w)

pub stands-noted : (p : Path) (clock : ℕ) (cs : List Constructor) (f : Fields) → Stands f → Stands (with_destructors p clock cs f)
unfolding with_destructors
stands-noted p clock [] f s = s
stands-noted p clock (c ∷ more) f s = stands-noted p clock more (with_entry p (uninit_entry clock c) f) (stands-entry f s p (uninit_entry clock c))

pub world-noted : (p : Path) (clock : ℕ) (cs : List Constructor) (f : Fields) → Stands f → world_of (with_destructors p clock cs f) ≡ noted_each p clock cs (world_of f)
unfolding with_destructors noted_each
world-noted p clock [] f s = refl
world-noted p clock (c ∷ more) f s =
    world-noted p clock more (with_entry p (uninit_entry clock c) f) (stands-entry f s p (uninit_entry clock c))
    ∙ ap (noted_each p clock more) (world-entry f s p (uninit_entry clock c))

pub same-jails : (p : Path) (clock : ℕ) (cs : List Constructor) (f g : Fields) → g ≡ with_destructors p clock cs f → g.jails ≡ f.jails
same-jails p clock cs f g is = ap (λ (x : Fields). x.jails) (is ∙ only-logs p clock cs f)

pub same-tables : (p : Path) (clock : ℕ) (cs : List Constructor) (f g : Fields) → g ≡ with_destructors p clock cs f → g.tables ≡ f.tables
same-tables p clock cs f g is = ap (λ (x : Fields). x.tables) (is ∙ only-logs p clock cs f)

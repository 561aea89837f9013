-- What is left of a stack is buried: the destructors' entries, its tables and its jail.
use Rattle.std.proofs.Common.{◌≡◌, ℕ, true, List, length, drop, reverse, sym, ap, ◌∙◌, subst}
use Rattle.vn_types.specs.Paths.{Path}
use Rattle.vn_jail.specs.declared.jail.Jail.{Jail}
use Rattle.vn_jail.specs.Kept.{IsLinked, IsTree}
use Rattle.vn_jail.specs.Tree.{at, path_at, removed}
use Rattle.vn_vmove.specs.declared.tables.Tables.{Tables}
use Rattle.vn_cells.specs.commands.Removal.{killed, torn_down}
use Rattle.vn_kernel.specs.Constructors.{constructors}
use Rattle.vn_kernel.specs.declared.constructors.Constructor.{Constructor}
use Rattle.vn_kernel.specs.Destruction.{Destructs, with_destructors}
use Rattle.vn_kernel.specs.Fields.{Fields}
use Rattle.vn_kernel.specs.Removal.{Buries, GivesNoNumber, IsAlone, rows_before_return}
use Rattle.vn_kernel.specs.Stands.{Stands, reading}
use Rattle.vn_kernel.specs.Worlds.{world_of}
use Rattle.vn_kernel.proofs.Destroyed.{noted_each, only-logs, stands-noted, world-noted}
use Rattle.vn_kernel.proofs.removing.Ending.{homeless-none}
use Rattle.vn_kernel.proofs.removing.Rest.{as-many-left, leaves-same}
use Rattle.vn_kernel.proofs.removing.Killed.{stands-killed, world-killed}
use Rattle.vn_kernel.proofs.removing.Vanished.{torn-noted}

abbrev order : List Constructor
order = drop 1 (reverse constructors)

module _ (f : Fields) (s : Stands f) (q : ℕ) (alive : (at f.jails q).alive ≡ true) (alone : IsAlone q f.tables) where
  abbrev p : Path
  p = path_at f.jails q

  -- the entries are written, and nothing else is another
  abbrev noted : Fields
  noted = with_destructors p f.clock order f

  jails-same : noted.jails ≡ f.jails
  jails-same = ap (λ (x : Fields). x.jails) (only-logs p f.clock order f)

  world-entries : world_of noted ≡ noted_each p f.clock order (world_of f)
  world-entries = world-noted p f.clock order f s

  alive-noted : (at noted.jails q).alive ≡ true
  alive-noted = ap (λ (jails : List Jail). (at jails q).alive) jails-same ∙ alive

  module _ (linked : IsLinked (removed (path_at noted.jails q) noted.jails)) (tree : IsTree (removed (path_at noted.jails q) noted.jails)) (u : Tables) (d : Destructs q noted.tables u) where
    abbrev gone : Fields
    gone = record noted { jails = removed (path_at noted.jails q) noted.jails; tables = u }

    stood : Stands noted
    stood = stands-noted p f.clock order f s

    world : world_of gone ≡ killed p (torn_down f.clock p rows_before_return (world_of f))
    world =
        world-killed noted stood q alive-noted linked tree u d
        ∙ (λ i. killed (path_at (jails-same i) q) (world-entries i))
        ∙ sym (torn-noted f.clock p (world_of f) (homeless-none q f s alive alone.homeless))

    same-numbers : GivesNoNumber f gone
    same-numbers = ap length d.pairs ∙ ap (λ (x : Fields). length x.tables.pairs) (only-logs p f.clock order f)

    buried : Buries q f gone
    buried = record {
      leaves = leaves-same world (stands-killed noted stood q alive-noted linked tree u d)
          (as-many-left p f.jails (ap (λ jails. removed (path_at jails q) jails) jails-same)) same-numbers (ap reading (only-logs p f.clock order f));
      ended = record {
        jails = ap (λ jails. removed (path_at jails q) jails) jails-same;
        numbers = same-numbers;
        clock = ap (λ (x : Fields). x.clock) (only-logs p f.clock order f);
      };
    }

  pub buries : (g : Fields) → g ≡ noted → (js : List Jail) → js ≡ removed (path_at g.jails q) g.jails → IsLinked js → IsTree js → (u : Tables) → Destructs q g.tables u
      → Buries q f (record g { jails = js; tables = u })
  buries g is =
      subst (λ (x : Fields). (js : List Jail) → js ≡ removed (path_at x.jails q) x.jails → IsLinked js → IsTree js → (u : Tables) → Destructs q x.tables u → Buries q f (record x { jails = js; tables = u })) (sym is)
      (λ js ended linked tree u d. subst (λ js. Buries q f (record noted { jails = js; tables = u })) (sym ended) (buried (subst IsLinked ended linked) (subst IsTree ended tree) u d))

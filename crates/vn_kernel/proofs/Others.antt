-- Another stack as one is made or destroyed: its tables stay, and its jail counts the living descendants anew.
use Rattle.std.proofs.Common.{◌≡◌, ◌≢◌, ℕ, ◌<◌, Bool, true, false, List, [], length, map, Option, Some, None, refl, sym, ap, ap₂, ◌∙◌}
use Rattle.std.specs.Prelude.{unwrap_or, if◌then◌else◌}
use Rattle.std.specs.List.{list_any}
use Rattle.vn_types.specs.Entries.{find}
use Rattle.vn_types.specs.Paths.{Path, above, path_cmp, path_eq}
use Rattle.vn_types.specs.PerStack.{ChangesOnly}
use Rattle.vn_types.specs.declared.half.Half.{Half}
use Rattle.vn_types.specs.declared.interface.HalfId.{HalfId}
use Rattle.vn_rules.specs.Renamed.{renamed}
use Rattle.vn_epair.specs.Pairs.{of}
use Rattle.vn_jail.specs.declared.jail.Jail.{Jail}
use Rattle.vn_jail.specs.Tree.{is_alive, number_of, path_at}
use Rattle.vn_vmove.specs.declared.tables.Tables.{Tables}
use Rattle.vn_vmove.specs.Parts.{pair_at, parts}
use Rattle.vn_cells.specs.declared.transcript.Entry.{Entry}
use Rattle.vn_cells.specs.declared.world.Children.{Children}
use Rattle.vn_cells.specs.declared.world.Live.{Live}
use Rattle.vn_cells.specs.declared.world.Reader.{Reader}
use Rattle.vn_cells.specs.declared.world.Stack.{Stack}
use Rattle.vn_cells.specs.commands.Jails.{counted_by, recount, recount_above}
use Rattle.vn_cells.specs.world.World.{live_map}
use Rattle.vn_kernel.specs.Fields.{Fields}
use Rattle.vn_kernel.specs.Naming.{name_of}
use Rattle.vn_kernel.specs.Readers.{reader_by}
use Rattle.vn_kernel.specs.Stands.{Stands}
use Rattle.vn_kernel.specs.Worlds.{children_at, live_of, readers_of, stack_of}
use Rattle.vn_kernel.proofs.Jails.{alive-numbered}
use Rattle.vn_kernel.proofs.Names.{names-same}
use Rattle.vn_kernel.proofs.Views.{stack-dead, stack-live}

-- the pairs, where they are kept
pub pairs-kept : (t u : Tables) → u.pairs ≡ t.pairs → (n : ℕ) → pair_at u n ≡ pair_at t n
pairs-kept t u same n = ap (λ rows. of rows n) same

-- ---- what is told of the one

-- nothing, where nothing lives
told-none : (edit : ℕ → ℕ) (told : Bool) (es : List Entry) (rs : List Reader) → ◌≡◌ {A = Stack} (record { entries = es; readers = rs; live = None }) (if told then live_map (recount edit) (record { entries = es; readers = rs; live = None }) else record { entries = es; readers = rs; live = None })
told-none edit true es rs = refl
told-none edit false es rs = refl

-- else another number
told-one : (edit : ℕ → ℕ) (told : Bool) (es : List Entry) (rs : List Reader) (l : Live) (children : Option Children) → children ≡ (if told then counted_by edit l.children else l.children)
    → ◌≡◌ {A = Stack} (record { entries = es; readers = rs; live = Some (record { children = children; parts = l.parts }) }) (if told then live_map (recount edit) (record { entries = es; readers = rs; live = Some l }) else record { entries = es; readers = rs; live = Some l })
told-one edit true es rs l children is i = record { entries = es; readers = rs; live = Some (record { children = is i; parts = l.parts }) }
told-one edit false es rs l children is i = record { entries = es; readers = rs; live = Some (record { children = is i; parts = l.parts }) }

-- ---- the other

-- what is kept as the stack of a number is made or destroyed at a path, above which each jail counts another number
pub record EditsStack (number : ℕ) (p : Path) (edit : ℕ → ℕ) (f g : Fields) : Type 0 where
  pub paths : (n : ℕ) → n < length f.jails → path_at g.jails n ≡ path_at f.jails n
  pub children : (n : ℕ) → n < length f.jails → n ≢ number
      → children_at g.jails n ≡ (if list_any (path_eq (path_at f.jails n)) (above p) then counted_by edit (children_at f.jails n) else children_at f.jails n)
  pub pairs : g.tables.pairs ≡ f.tables.pairs
  pub others : ChangesOnly number (parts f.tables) (parts g.tables)
  pub readers : g.readers ≡ f.readers

module _ {f g : Fields} {number : ℕ} {p : Path} {edit : ℕ → ℕ} (s : Stands f) (edits : EditsStack number p edit f g) (q : Path) (es : List Entry)
    (same-alive : is_alive q g.jails ≡ is_alive q f.jails) where
  same-readers : readers_of g q ≡ readers_of f q
  same-readers = ap (λ readers. map reader_by (unwrap_or (find path_cmp q readers) [])) edits.readers

  module _ (alive : is_alive q f.jails ≡ true) (same-number : number_of q g.jails ≡ number_of q f.jails) (apart : number_of q f.jails ≢ number) where
    known : (number_of q f.jails < length f.jails) × (path_at f.jails (number_of q f.jails) ≡ q)
    known = alive-numbered f.jails q alive

    told : children_at g.jails (number_of q g.jails)
        ≡ (if list_any (path_eq q) (above p) then counted_by edit (children_at f.jails (number_of q f.jails)) else children_at f.jails (number_of q f.jails))
    told =
        ap (children_at g.jails) same-number
        ∙ edits.children (number_of q f.jails) known.0 apart
        ∙ ap (λ r. if list_any (path_eq r) (above p) then counted_by edit (children_at f.jails (number_of q f.jails)) else children_at f.jails (number_of q f.jails)) known.1

    same-parts : renamed (name_of g) (parts g.tables (number_of q g.jails)) ≡ renamed (name_of f) (parts f.tables (number_of q f.jails))
    same-parts =
        ap₂ (λ (r : HalfId → Half) n. renamed r (parts g.tables n)) (names-same f g s edits.paths (pairs-kept f.tables g.tables edits.pairs)) same-number
        ∙ ap (renamed (name_of f)) (edits.others.others (number_of q f.jails) apart)

    other-living : stack_of g q es ≡ recount_above p edit q (stack_of f q es)
    other-living =
        stack-live g q es (same-alive ∙ alive)
        ∙ (λ i. record { entries = es; readers = same-readers i; live = Some (record { children = children_at g.jails (number_of q g.jails); parts = same-parts i }) })
        ∙ told-one edit (list_any (path_eq q) (above p)) es (readers_of f q) (live_of f (number_of q f.jails)) (children_at g.jails (number_of q g.jails)) told
        ∙ sym (ap (recount_above p edit q) (stack-live f q es alive))

  -- it has its tables still, and counts as it was told
  pub other-stack : (is_alive q f.jails ≡ true → (number_of q g.jails ≡ number_of q f.jails) × (number_of q f.jails ≢ number))
      → stack_of g q es ≡ recount_above p edit q (stack_of f q es)
  other-stack numbered = by (is_alive q f.jails) refl
    where
      by : (b : Bool) → is_alive q f.jails ≡ b → stack_of g q es ≡ recount_above p edit q (stack_of f q es)
      by true alive = other-living alive (numbered alive).0 (numbered alive).1
      by false dead = stack-dead g q es (same-alive ∙ dead) ∙ (λ i. record { entries = es; readers = same-readers i; live = None }) ∙ told-none edit (list_any (path_eq q) (above p)) es (readers_of f q) ∙ sym (ap (recount_above p edit q) (stack-dead f q es dead))

-- A reader's event, as the machine does it.
use Rattle.std.proofs.Common.{◌≡◌, ◌≢◌, ℕ, Bool, true, false, List, [], ◌∷◌, ◌++◌, length, map, Option, Some, None, refl, sym, ap, ◌∙◌, subst}
use Rattle.std.specs.Prelude.{unwrap_or}
use Rattle.std.specs.Option.{option_map}
use Rattle.vn_types.specs.Entries.{each, find, put}
use Rattle.vn_types.specs.Paths.{Path, path_cmp}
use Rattle.vn_types.specs.PathOrder.{path_cmp-exact, path_total}
use Rattle.vn_types.proofs.EntryLaws.{each-put}
use Rattle.vn_rules.specs.declared.outcome.Outcome.{Outcome}
use Rattle.vn_rules.specs.Rules.{Answer, answer}
use Rattle.vn_cells.specs.declared.event.Event.{Event}
use Rattle.vn_cells.specs.declared.event.Event.TheVariants as event
use Rattle.vn_cells.specs.declared.listing.Table.{Table}
use Rattle.vn_cells.specs.declared.transcript.Entry.{Entry}
use Rattle.vn_cells.specs.declared.transcript.What.{What}
use Rattle.vn_cells.specs.declared.transcript.What.TheVariants as what
use Rattle.vn_cells.specs.declared.world.Reader.{Reader}
use Rattle.vn_cells.specs.declared.world.Stack.{Stack}
use Rattle.vn_cells.specs.declared.world.World.{World}
use Rattle.vn_cells.specs.machine.Local.{act_by, lines_at, lines_left, local, placed_if, told}
use Rattle.vn_cells.specs.machine.Readers.{close_rule, next_rule, open_rule, reader_of}
use Rattle.vn_cells.specs.machine.Step.{acted, acting, step}
use Rattle.vn_cells.specs.world.World.{edit_stack, entry_of, stack_at}
use Rattle.vn_kernel.specs.Fields.{Fields}
use Rattle.vn_kernel.specs.Machines.{kept}
use Rattle.vn_kernel.specs.Naming.{name_of}
use Rattle.vn_kernel.specs.Readers.{OpenReader, of_lane, reader_by}
use Rattle.vn_kernel.specs.Reading.{Reads, ReadsBy, Turns}
use Rattle.vn_kernel.specs.Stands.{AreRead, Stands}
use Rattle.vn_kernel.specs.Worlds.{live_at, logged, pair_of, readers_of, stack_of, with_entry, world_of}
use Rattle.vn_kernel.proofs.Names.{stands-same}
use Rattle.vn_kernel.proofs.ReaderRules.{reader-is}
use Rattle.vn_kernel.proofs.Views.{stack-here, stands-entry}

-- a line in the transcript of a path, and the readers that are left
abbrev pub answered_at : Path → Entry → List Reader → World → World
answered_at p entry readers w = edit_stack p (λ s. record s { entries = s.entries ++ entry ∷ []; readers = readers }) w

module _ (f : Fields) (s : Stands f) (p : Path) (rs : List (Path × List OpenReader)) (read : AreRead f.logs rs)
    (elsewhere : (q : Path) → q ≢ p → find path_cmp q rs ≡ find path_cmp q f.readers) where
  abbrev other : Fields
  other = record f { readers = rs }

  same-live : (q : Path) → live_at (record f { readers = rs }) q ≡ live_at f q
  unfolding name_of
  same-live q = refl

  same-stack : (q : Path) → q ≢ p → (es : List Entry) → stack_of (record f { readers = rs }) q es ≡ stack_of f q es
  unfolding stack_of
  same-stack q ne es i = record { entries = es; readers = map reader_by (unwrap_or (elsewhere q ne i) []); live = same-live q i }

  same-pairs : pair_of (record f { readers = rs }) ≡ pair_of f
  unfolding pair_of
  same-pairs = refl

  pub stands-other : Stands (record f { readers = rs })
  stands-other =
      stands-same f (record f { readers = rs }) s (λ n lt. refl) (λ n. refl) refl s.linked s.tree s.living s.sound s.listed s.logs_rise read

  live-of : (q : Path) → (stack_at (world_of f) q).live ≡ live_at f q
  unfolding stack_of
  live-of q = ap (λ (x : Stack). x.live) (stack-here f s q)

  entries-of : (q : Path) → (stack_at (world_of f) q).entries ≡ unwrap_or (find path_cmp q f.logs) []
  unfolding stack_of
  entries-of q = ap (λ (x : Stack). x.entries) (stack-here f s q)

  module _ (entry : Entry) where
    own-stack : stack_of (record f { readers = rs }) p (unwrap_or (find path_cmp p f.logs) [] ++ entry ∷ [])
        ≡ record (stack_at (world_of f) p) { entries = (stack_at (world_of f) p).entries ++ entry ∷ []; readers = readers_of (record f { readers = rs }) p }
    unfolding stack_of
    own-stack = λ i. record {
      entries = sym (entries-of p) i ++ entry ∷ [];
      readers = readers_of (record f { readers = rs }) p;
      live = (same-live p ∙ sym (live-of p)) i;
    }

    pub world-answered : world_of (with_entry p entry (record f { readers = rs })) ≡ answered_at p entry (readers_of (record f { readers = rs }) p) (world_of f)
    unfolding world_of edit_stack logged stack_of pair_of name_of
    world-answered i = record {
      clock = f.clock;
      stacks = (each-put path_cmp path_total path_cmp-exact (stack_of f) (stack_of (record f { readers = rs })) p (λ q ne es. same-stack q ne es) (unwrap_or (find path_cmp p f.logs) [] ++ entry ∷ []) f.logs s.logs_rise
          ∙ ap (λ (x : Stack). put path_cmp p x (each (stack_of f) f.logs)) own-stack) i;
      pairs = each (same-pairs i) f.units;
    }

-- what is answered, with its line
pub reads-world : (f g : Fields) (s : Stands f) (p : Path) (a : Answer (List Reader)) (given : Outcome) → Reads p a given f g → (line : Outcome → What)
    → world_of (with_entry p (entry_of f.clock (line given)) g) ≡ answered_at p (entry_of f.clock (line a.outcome)) a.left (world_of f)
reads-world f g s p a given reads line =
    ap (λ x. world_of (with_entry p (entry_of f.clock (line given)) x)) reads.others
    ∙ world-answered f s p g.readers reads.read reads.elsewhere (entry_of f.clock (line given))
    ∙ (λ i. answered_at p (entry_of f.clock (line (reads.outcome i))) ((sym (ap (λ x. readers_of x p) reads.others) ∙ reads.own) i) (world_of f))

readers-here : (f : Fields) → Stands f → (p : Path) → (stack_at (world_of f) p).readers ≡ readers_of f p
unfolding stack_of
readers-here f s p = ap (λ (x : Stack). x.readers) (stack-here f s p)

-- ---- the machine's steps

pub open-step : (w : World) (lane : ℕ) (p : Path) (table : Table) → let a = answer (stack_at w p).readers (open_rule lane (lines_at w p table) (stack_at w p).readers) in
    step w (event.Open lane p table) ≡ answered_at p (entry_of w.clock (what.Open lane table a.outcome)) a.left w
unfolding step acting acted act_by local placed_if told
open-step w lane p table = refl

pub next-step : (w : World) (lane : ℕ) (p : Path) → let a = answer (stack_at w p).readers (next_rule lane (stack_at w p).readers) in
    step w (event.Next lane p) ≡ answered_at p (entry_of w.clock (what.Next lane a.outcome)) a.left w
unfolding step acting acted act_by local placed_if told
next-step w lane p = refl

pub close-step : (w : World) (lane : ℕ) (p : Path) → let a = answer (stack_at w p).readers (close_rule lane (stack_at w p).readers) in
    step w (event.Close lane p) ≡ answered_at p (entry_of w.clock (what.Close lane a.outcome)) a.left w
unfolding step acting acted act_by local placed_if told
close-step w lane p = refl

-- ---- with its entry

turned : (f g after : Fields) → Stands f → (p : Path) (e : Event) (a : Answer (List Reader)) (given : Outcome) → Reads p a given f g → (line : Outcome → What) (clock : ℕ) → clock ≡ f.clock
    → step (world_of f) e ≡ answered_at p (entry_of f.clock (line a.outcome)) a.left (world_of f) → after ≡ with_entry p (entry_of clock (line given)) g → Turns e f after
turned f g after s p e a given reads line clock now steps is =
    subst (Turns e f) (sym (is ∙ ap (λ n. with_entry p (entry_of n (line given)) g) now)) (record {
      world = reads-world f g s p a given reads line ∙ sym steps;
      stands = stands-entry g stood p (entry_of f.clock (line given));
      since = reads.since;
      others = λ i. record (reads.others i) { logs = (with_entry p (entry_of f.clock (line given)) g).logs };
    })
  where
    stood : Stands g
    stood = subst Stands (sym reads.others) (stands-other f s p g.readers reads.read reads.elsewhere)

pub next-turned : (f g after : Fields) → Stands f → (lane : ℕ) (p : Path) (given : Outcome) → ReadsBy (next_rule lane) p given f g → (clock : ℕ) → clock ≡ f.clock
    → after ≡ with_entry p (entry_of clock (what.Next lane given)) g → Turns (event.Next lane p) f after
unfolding world_of
next-turned f g after s lane p given reads clock now is =
    turned f g after s p (event.Next lane p) (answer (readers_of f p) (next_rule lane (readers_of f p))) given reads (what.Next lane) clock now
    (next-step (world_of f) lane p
    ∙ ap (λ rs. answered_at p (entry_of f.clock (what.Next lane (answer rs (next_rule lane rs)).outcome)) (answer rs (next_rule lane rs)).left (world_of f)) (readers-here f s p)) is

pub close-turned : (f g after : Fields) → Stands f → (lane : ℕ) (p : Path) (given : Outcome) → ReadsBy (close_rule lane) p given f g → (clock : ℕ) → clock ≡ f.clock
    → after ≡ with_entry p (entry_of clock (what.Close lane given)) g → Turns (event.Close lane p) f after
unfolding world_of
close-turned f g after s lane p given reads clock now is =
    turned f g after s p (event.Close lane p) (answer (readers_of f p) (close_rule lane (readers_of f p))) given reads (what.Close lane) clock now
    (close-step (world_of f) lane p
    ∙ ap (λ rs. answered_at p (entry_of f.clock (what.Close lane (answer rs (close_rule lane rs)).outcome)) (answer rs (close_rule lane rs)).left (world_of f)) (readers-here f s p)) is

pub open-turned : (f g after : Fields) → Stands f → (lane : ℕ) (p : Path) (table : Table) (given : Outcome) → ReadsBy (open_rule lane (lines_at (world_of f) p table)) p given f g → (clock : ℕ) → clock ≡ f.clock
    → after ≡ with_entry p (entry_of clock (what.Open lane table given)) g → Turns (event.Open lane p table) f after
unfolding world_of
open-turned f g after s lane p table given reads clock now is =
    turned f g after s p (event.Open lane p table) (answer (readers_of f p) (open_rule lane (lines_at (world_of f) p table) (readers_of f p))) given reads (what.Open lane table) clock now
    (open-step (world_of f) lane p table
    ∙ ap (λ rs. let a = answer rs (open_rule lane (lines_at (world_of f) p table) rs) in answered_at p (entry_of f.clock (what.Open lane table a.outcome)) a.left (world_of f)) (readers-here f s p)) is

-- ---- how many lines are left

pub left-is : (f : Fields) → Stands f → (lane : ℕ) (p : Path) (o : Option (List OpenReader)) → find path_cmp p f.readers ≡ o
    → lines_left (world_of f) lane p ≡ option_map (λ (r : OpenReader). length r.lines) (of_lane lane (unwrap_or o []))
left-is f s lane p o is =
    ap (λ rs. option_map (λ (r : Reader). length r.lines) (reader_of lane rs)) (readers-here f s p)
    ∙ ap (λ o. option_map (λ (r : Reader). length r.lines) (reader_of lane (map reader_by (unwrap_or o [])))) is
    ∙ ap (option_map (λ (r : Reader). length r.lines)) (reader-is lane (unwrap_or o []))
    ∙ by (of_lane lane (unwrap_or o []))
  where
    by : (r : Option OpenReader) → option_map (λ (r : Reader). length r.lines) (option_map reader_by r) ≡ option_map (λ (r : OpenReader). length r.lines) r
    by None = refl
    by (Some r) = refl

pub left-none : (f : Fields) → Stands f → (lane : ℕ) (p : Path) → find path_cmp p f.readers ≡ None → lines_left (world_of f) lane p ≡ None
unfolding of_lane
left-none f s lane p none = left-is f s lane p None none

-- while the kernel is not spent
pub left-kept : (spent : Bool) (f : Fields) (lane : ℕ) (p : Path) (left : Option ℕ) → spent ≡ false → left ≡ lines_left (world_of f) lane p
    → (w : World) → kept spent (world_of f) ≡ Some w → left ≡ lines_left w lane p
left-kept false f lane p left is same w stands = same ∙ ap (λ o. lines_left (unwrap_or o w) lane p) stands
left-kept true f lane p left is same w stands = cc

pub left-spent : (spent : Bool) (f : Fields) (lane : ℕ) (p : Path) → spent ≡ true → (w : World) → kept spent (world_of f) ≡ Some w → ◌≡◌ {A = Option ℕ} None (lines_left w lane p)
left-spent true f lane p is w stands = cc
left-spent false f lane p is w stands = cc

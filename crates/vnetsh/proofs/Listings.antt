-- What a listing makes happen, by the lines that are left to the lane's reader before its Open and after it.
use Rattle.std.proofs.Common.{◌≡◌, ℕ, List, [], ◌∷◌, ◌++◌, length, Option, None, Some, refl, sym, ap, ap₂, ◌∙◌}
use Rattle.std.specs.Prelude.{replicate}
use Rattle.std.specs.Option.{option_map}
use Rattle.vn_rules.specs.Rules.{answer, answer_by}
use Rattle.vn_cells.specs.declared.event.Event.{Event}
use Rattle.vn_cells.specs.declared.event.Event.TheVariants as event
use Rattle.vn_cells.specs.declared.listing.Table.{Table}
use Rattle.vn_cells.specs.declared.world.Reader.{Reader}
use Rattle.vn_cells.specs.declared.world.Stack.{Stack}
use Rattle.vn_cells.specs.declared.world.World.{World}
use Rattle.vn_cells.specs.machine.Local.{lines_at, lines_left, placed_if, told, local, act_by}
use Rattle.vn_cells.specs.machine.Readers.{open_rule, reader_of}
use Rattle.vn_cells.specs.machine.Step.{acted, acting, run, run_from, step}
use Rattle.vn_cells.specs.texts.Schedule.{listing_events}
use Rattle.vn_cells.specs.world.Names.{Path}
use Rattle.vn_cells.specs.world.World.{stack_at}
use Rattle.vn_laws.proofs.edits.Cells.{own_edit}
use Rattle.vn_laws.proofs.versions.Lines.{open-made}
use Rattle.vnetsh.proofs.Runs.{run_more}

-- the lines of a reader that is to give so many, and its end
abbrev pub reads : ℕ → Path → ℕ → List Event
reads lane path lines = replicate lines (event.Next lane path) ++ event.Close lane path ∷ []

-- a reader that was not there before is read to its end
abbrev pub reads_opened : ℕ → Path → Option ℕ → Option ℕ → List Event
reads_opened lane path None (Some lines) = reads lane path lines
reads_opened lane path before after = []

module _ (w : World) (lane : ℕ) (path : Path) (table : Table) where
  readers : List Reader
  readers = (stack_at w path).readers

  -- the readers after an Open
  opened_readers : (stack_at (step w (event.Open lane path table)) path).readers ≡ (answer readers (open_rule lane (lines_at w path table) readers)).left
  unfolding step acting acted act_by local placed_if told readers
  opened_readers = ap (λ (s : Stack). s.readers) (own_edit path _ w)

  opened_lines : lines_left (step w (event.Open lane path table)) lane path
      ≡ option_map (λ (r : Reader). length r.lines) (reader_of lane (answer readers (open_rule lane (lines_at w path table) readers)).left)
  opened_lines = ap (λ rs. option_map (λ (r : Reader). length r.lines) (reader_of lane rs)) opened_readers

  -- a listing reads on exactly where its Open made the lane a reader
  pub listing_is : listing_events w lane path table
      ≡ event.Open lane path table ∷ reads_opened lane path (lines_left w lane path) (lines_left (step w (event.Open lane path table)) lane path)
  unfolding listing_events open_rule answer_by readers
  listing_is = by (lines_at w path table) (reader_of lane readers) refl refl
    where
      by : (o : Option (List (List ℕ))) (r : Option Reader) → lines_at w path table ≡ o → reader_of lane readers ≡ r
          → listing_events w lane path table
          ≡ event.Open lane path table ∷ reads_opened lane path (lines_left w lane path) (lines_left (step w (event.Open lane path table)) lane path)
      by None None e f = rw (opened_lines, e, f) refl
      by None (Some r) e f = rw (opened_lines, e, f) refl
      by (Some lines) None e f =
          rw (opened_lines, open-made lane (lines_at w path table) lines readers e (rw (e, f) refl), e, f) refl
      by (Some lines) (Some r) e f = rw (opened_lines, e, f) refl

-- an Open that happened begins a listing, and what is left to the reader says how it goes on
pub listing_goes_on : (old mid : List Event) (lane : ℕ) (path own : Path) (table : Table) (before after : Option ℕ) → own ≡ path
    → mid ≡ old ++ event.Open lane own table ∷ [] → before ≡ lines_left (run old) lane path → after ≡ lines_left (run mid) lane path
    → listing_events (run old) lane path table ≡ event.Open lane own table ∷ [] ++ reads_opened lane path before after
unfolding run_from
listing_goes_on old mid lane path own table before after same opened was is =
    listing_is (run old) lane path table
    ∙ ap₂ (λ p es. event.Open lane p table ∷ es) (sym same)
    (ap₂ (reads_opened lane path) (sym was) (sym (is ∙ ap (λ es. lines_left (run es) lane path) opened ∙ ap (λ w. lines_left w lane path) (run_more old (event.Open lane own table ∷ []) ∙ ap (λ p. step (run old) (event.Open lane p table)) same))))

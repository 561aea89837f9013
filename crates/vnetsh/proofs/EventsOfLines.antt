-- The events of valid lines can happen, and those of built lines are built.
use Rattle.std.proofs.Common.{◌≡◌, ℕ, zero, suc, true, ◌&&◌, List, [], ◌∷◌, Option, None, Some, refl, sym, ap, subst, ◌∙◌}
use Rattle.std.specs.Prelude.{replicate}
use Rattle.std.specs.List.{list_all}
use Rattle.std.proofs.lemmas.Bool.{and_parts, and_from}
use Rattle.std.proofs.lemmas.List.Folds.{list_all-append}
use Rattle.vn_cells.specs.declared.command.Command.{Command}
use Rattle.vn_cells.specs.declared.event.Event.{Event}
use Rattle.vn_cells.specs.declared.event.Event.TheVariants as event
use Rattle.vn_cells.specs.declared.listing.Table.{Table}
use Rattle.vn_cells.specs.declared.listing.Table.TheVariants.{If, Route, Arp}
use Rattle.vn_cells.specs.declared.script.LaneLine.{LaneLine}
use Rattle.vn_cells.specs.declared.script.Line.{Line}
use Rattle.vn_cells.specs.declared.script.Line.TheVariants as line
use Rattle.vn_cells.specs.declared.world.World.{World}
use Rattle.vn_cells.specs.machine.Events.{IsValid, is_at_path, is_built, is_built_line, is_valid_asked, is_valid_event, is_valid_line}
use Rattle.vn_cells.specs.machine.Local.{lines_left}
use Rattle.vn_cells.specs.machine.Step.{run_from, step}
use Rattle.vn_cells.specs.texts.Schedule.{line_events, lines_events, listing_events}
use Rattle.vn_cells.specs.world.Names.{Path}
use Rattle.vnetsh.proofs.Listings.{listing_is, reads, reads_opened}

-- ---- valid

-- one event many times
many_valid : (n : ℕ) (e : Event) → is_valid_event e ≡ true → IsValid (replicate n e)
many_valid zero e valid = refl
many_valid (suc n) e valid = and_from _ _ valid (many_valid n e valid)

module _ (lane : ℕ) (path : Path) (at : is_at_path lane path ≡ true) where
  reads_valid : (lines : ℕ) → IsValid (reads lane path lines)
  unfolding is_valid_event
  reads_valid lines =
      list_all-append is_valid_event (replicate lines (event.Next lane path)) (event.Close lane path ∷ [])
      ∙ and_from _ _ (many_valid lines (event.Next lane path) at) (and_from _ _ at refl)

  reads_opened_valid : (before after : Option ℕ) → IsValid (reads_opened lane path before after)
  reads_opened_valid None (Some lines) = reads_valid lines
  reads_opened_valid None None = refl
  reads_opened_valid (Some n) after = refl

  listing_valid : (w : World) (table : Table) → IsValid (listing_events w lane path table)
  unfolding is_valid_event
  listing_valid w table =
      subst IsValid (sym (listing_is w lane path table))
      (and_from _ _ at (reads_opened_valid (lines_left w lane path) (lines_left (step w (event.Open lane path table)) lane path)))

line_valid : (w : World) (asked : LaneLine) → is_valid_line asked ≡ true → IsValid (line_events w asked)
unfolding line_events is_valid_line is_valid_event is_valid_asked
line_valid w asked valid = by asked.line valid
  where
    by : (l : Line) → (is_at_path asked.lane asked.path && is_valid_asked asked.path l) ≡ true
        → IsValid (line_events w (record { lane = asked.lane; path = asked.path; line = l }))
    by (line.Cmd command) valid = and_from _ _ valid refl
    by (line.List table) valid = listing_valid asked.lane asked.path (and_parts (is_at_path asked.lane asked.path) true valid).0 w table
    by (line.Open table) valid = valid
    by line.Next valid = valid
    by line.Close valid = valid
    by line.Watch valid = refl

-- lines whose events can happen
pub lines_valid : (w : World) (lines : List LaneLine) → list_all is_valid_line lines ≡ true → IsValid (lines_events w lines)
unfolding lines_events
lines_valid w [] valid = refl
lines_valid w (asked ∷ lines) valid =
    let all = and_parts (is_valid_line asked) (list_all is_valid_line lines) valid in
    list_all-append is_valid_event (line_events w asked) (lines_events (run_from w (line_events w asked)) lines)
    ∙ and_from _ _ (line_valid w asked all.0) (lines_valid (run_from w (line_events w asked)) lines all.1)

-- the path of a valid line
pub line_at_path : (asked : LaneLine) → is_valid_line asked ≡ true → is_at_path asked.lane asked.path ≡ true
unfolding is_valid_line
line_at_path asked valid = (and_parts (is_at_path asked.lane asked.path) (is_valid_asked asked.path asked.line) valid).0

-- a command of a valid line
pub command_valid : (asked : LaneLine) (command : Command) → asked.line ≡ line.Cmd command → is_valid_line asked ≡ true → is_valid_event (event.Cmd asked.lane asked.path command) ≡ true
unfolding is_valid_line is_valid_asked is_valid_event
command_valid asked command is valid = sym (ap (λ l. is_at_path asked.lane asked.path && is_valid_asked asked.path l) is) ∙ valid

-- ---- built

module _ (lane : ℕ) (path : Path) (table : Table) where
  pub open_built : (l : Line) → l ≡ line.Open table → is_built_line l ≡ true → is_built (event.Open lane path table) ≡ true
  unfolding is_built_line is_built
  open_built l is built = by table (ap is_built_line (sym is) ∙ built)
    where
      by : (table : Table) → is_built_line (line.Open table) ≡ true → is_built (event.Open lane path table) ≡ true
      by If built = built
      by Route built = built
      by Arp built = built

  -- a listing that is built reads
  pub reader_built : is_built_line (line.List table) ≡ true
      → (is_built (event.Open lane path table) ≡ true) × (is_built (event.Next lane path) ≡ true) × (is_built (event.Close lane path) ≡ true)
  unfolding is_built_line is_built
  reader_built built = by table built
    where
      by : (table : Table) → is_built_line (line.List table) ≡ true
          → (is_built (event.Open lane path table) ≡ true) × (is_built (event.Next lane path) ≡ true) × (is_built (event.Close lane path) ≡ true)
      by If built = (built, built, built)
      by Route built = (cc, cc, cc)
      by Arp built = (cc, cc, cc)

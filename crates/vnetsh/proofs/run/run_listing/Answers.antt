use Rattle.std.proofs.Common.{◌≡◌, ◌≤◌, ◌∷◌, ◌++◌, [], List, length, length-append, ap, sym, subst, ◌∙◌, arith}
use Rattle.std.proofs.lemmas.Result.{err_from_is_err_and}
use Rattle.vn_cells.specs.declared.event.Event.{Event}
use Rattle.vn_cells.specs.declared.event.Event.TheVariants as event
use Rattle.vn_cells.specs.declared.event.TheConstants.{EVENTS_MAX}
use Rattle.vn_cells.specs.machine.Step.{run}
use Rattle.vn_cells.specs.texts.Schedule.{listing_events}
use Rattle.vnetsh.specs.Runs.{Happen}
use Rattle.vnetsh.proofs.EventsOfLines.{reader_built}
use Rattle.vnetsh.proofs.Listings.{listing_goes_on, listing_is, reads}
use Rattle.vnetsh.proofs.Runs.{happen_then, longer}
use Rattle.vnetsh.proofs.run.run_listing.Goals as goal

-- a listing of an Open alone has happened
alone : (old mid opened listing : List Event) → listing ≡ opened → mid ≡ old ++ opened → length (old ++ opened) ≤ EVENTS_MAX
    → (mid ≡ old ++ listing) × (length (old ++ listing) ≤ EVENTS_MAX)
alone old mid opened listing is done few =
    (done ∙ ap (λ es. old ++ es) (sym is), subst (λ es. length (old ++ es) ≤ EVENTS_MAX) (sym is) few)

pub run_event-requires-clause-built : goal.run_event-requires-clause-built
run_event-requires-clause-built c = (reader_built c.args.lane c.in_ok-copy.copy c.args.table c.requires.built).0

pub read_lines-requires-clause-next : goal.read_lines-requires-clause-next
read_lines-requires-clause-next c = (reader_built c.args.lane c.args.path c.args.table c.requires.built).1

pub read_lines-requires-clause-close : goal.read_lines-requires-clause-close
read_lines-requires-clause-close c = (reader_built c.args.lane c.args.path c.args.table c.requires.built).2

pub returns-in_err-run_event-clause-happened : goal.returns-in_err-run_event-clause-happened
returns-in_err-run_event-clause-happened c =
    let p = err_from_is_err_and c.from_residual-in_err-run_event.result c.from_residual-in_err-run_event.ensures.1 in
    let old = c.args.kernel.now.events in
    let opened = event.Open c.args.lane c.in_ok-copy.copy c.args.table ∷ [] in
    let listing = listing_events (run old) c.args.lane c.args.path c.args.table in
    rw (p.1, p.2) (
      tt,
      longer c.in_err-run_event.field-0.0 (old ++ opened) (old ++ listing)
          (omega (arith, length-append old opened, length-append old listing, ap length (listing_is (run old) c.args.lane c.args.path c.args.table)))
          c.in_err-run_event.ensures.happened.1,
    )

pub returns-in-None-Some-clause-happened : goal.returns-in-None-Some-clause-happened
returns-in-None-Some-clause-happened c =
    let old = c.args.kernel.now.events in
    let opened = event.Open c.args.lane c.in_ok-copy.copy c.args.table ∷ [] in
    let listing =
    listing_goes_on old c.run_event.new.kernel.events c.args.lane c.args.path c.in_ok-copy.copy c.args.table _ _ c.in_ok-copy.ensures
    c.in_ok-run_event.ensures.happened.0
    (sym c.in-None-Some.is-0 ∙ c.remaining-before.ensures (run old) c.requires.standing)
    (sym c.in-None-Some.is-1 ∙ c.remaining-after.ensures (run c.run_event.new.kernel.events) c.in_ok-run_event.ensures.standing) in
    subst (λ es. Happen es c.read_lines.result old c.read_lines.new.kernel.events) (sym listing)
    (happen_then c.read_lines.result old c.run_event.new.kernel.events c.read_lines.new.kernel.events opened (reads c.args.lane c.args.path c.in-None-Some.lines) c.in_ok-run_event.ensures.happened.0 c.read_lines.ensures.happened)

pub returns-in-None-None-clause-happened : goal.returns-in-None-None-clause-happened
returns-in-None-None-clause-happened c =
    let old = c.args.kernel.now.events in
    let listing =
    listing_goes_on old c.run_event.new.kernel.events c.args.lane c.args.path c.in_ok-copy.copy c.args.table _ _ c.in_ok-copy.ensures
    c.in_ok-run_event.ensures.happened.0
    (sym c.in-None-None.is-0 ∙ c.remaining-before.ensures (run old) c.requires.standing)
    (sym c.in-None-None.is-1 ∙ c.remaining-after.ensures (run c.run_event.new.kernel.events) c.in_ok-run_event.ensures.standing) in
    alone old c.run_event.new.kernel.events _ _ listing c.in_ok-run_event.ensures.happened.0 c.in_ok-run_event.ensures.happened.1

pub returns-in-Some-default-clause-happened : goal.returns-in-Some-default-clause-happened
returns-in-Some-default-clause-happened c =
    let old = c.args.kernel.now.events in
    let listing =
    listing_goes_on old c.run_event.new.kernel.events c.args.lane c.args.path c.in_ok-copy.copy c.args.table _ _ c.in_ok-copy.ensures
    c.in_ok-run_event.ensures.happened.0
    (sym c.in-Some-default.is-0 ∙ c.remaining-before.ensures (run old) c.requires.standing)
    (c.remaining-after.ensures (run c.run_event.new.kernel.events) c.in_ok-run_event.ensures.standing) in
    alone old c.run_event.new.kernel.events _ _ listing c.in_ok-run_event.ensures.happened.0 c.in_ok-run_event.ensures.happened.1

-- Each Next gives the line of the listing that stood before the reader's Open.
use Rattle.std.proofs.Common.{◌≡◌, ℕ, zero, suc, ◌+◌, Bool, true, false, ◌&&◌, ◌||◌, List, [], ◌∷◌, ◌++◌, drop, cond, Some, None, refl, sym, ap, ◌∙◌, subst, arith}
use Rattle.std.specs.Prelude.{count_by, ◌==◌, if◌then◌else◌}
use Rattle.std.specs.List.{list_any}
use Rattle.std.proofs.lemmas.List.Sums.{sum_by-cons}
use Rattle.vn_types.specs.PathOrder.{path_eq-Decides}
use Rattle.vn_rules.specs.Rules.{answer}
use Rattle.vn_cells.specs.declared.event.Event.{Event}
use Rattle.vn_cells.specs.declared.event.Event.TheVariants as event
use Rattle.vn_cells.specs.declared.listing.Table.{Table}
use Rattle.vn_cells.specs.declared.transcript.What.TheVariants as what
use Rattle.vn_cells.specs.declared.world.Reader.{Reader}
use Rattle.vn_cells.specs.declared.world.Stack.{Stack}
use Rattle.vn_cells.specs.declared.world.World.{World}
use Rattle.vn_cells.specs.world.Names.{Path, path_eq}
use Rattle.vn_cells.specs.world.World.{stack_at, entry_of, later, edit_stack}
use Rattle.vn_cells.specs.machine.Local.{lines_at, open_refusal, placed_if, told, local, act, act_by}
use Rattle.vn_cells.specs.machine.Readers.{reader_of, line_or_end, open_rule, next_rule, close_rule}
use Rattle.vn_cells.specs.machine.Snapshots.{is_next, is_close, GivesLine, IsSnapshot}
use Rattle.vn_cells.specs.machine.Step.{acting, acted, opening, step, run, run_from}
use Rattle.vn_laws.proofs.edits.Cells.{own_edit, stack_at-edit_stack}
use Rattle.vn_laws.proofs.local.Events.{either_acted}
use Rattle.vn_laws.proofs.versions.Lines.{reader, lines_after, open-keeps, open-made, next-keeps, close-keeps, next-outcome}
use Rattle.vn_laws.proofs.edits.Goes.{SameReaders, readers-none}
use Rattle.vn_laws.proofs.versions.SameReaders.{readers-commanded, readers-delivered, readers-looped, readers-fired}

-- the lane's reader at a path has these lines
abbrev IsAt : World → ℕ → Path → List (List ℕ) → Type 0
IsAt w lane p lines = reader_of lane (stack_at w p).readers ≡ Some (reader lane lines)

or_none : (a b : Bool) → (a || b) ≡ false → (a ≡ false) × (b ≡ false)
or_none true b e = cc
or_none false b e = (refl, e)

later-readers : (n : ℕ) (w : World) → SameReaders w (later n w)
unfolding later stack_at
later-readers n w = record { of = λ q. refl }

module _ (lane : ℕ) (p : Path) where
  at-same : {v w : World} → SameReaders v w → (lines : List (List ℕ)) → IsAt v lane p lines → IsAt w lane p lines
  at-same same lines at = ap (reader_of lane) (same.of p) ∙ at

  -- where the readers of a path are told
  at-told : (q : Path) (f : Stack → Stack) (left : List Reader) (w : World) (lines : Bool → List (List ℕ)) → ((s : Stack) → (f s).readers ≡ left)
      → (path_eq p q ≡ true → reader_of lane left ≡ Some (reader lane (lines true))) → IsAt w lane p (lines false)
      → IsAt (edit_stack q f w) lane p (lines (path_eq p q))
  at-told q f left w lines told own other =
      ap (λ (s : Stack). reader_of lane s.readers) (stack_at-edit_stack q f w p) ∙ by (path_eq p q) refl
    where
      by : (b : Bool) → path_eq p q ≡ b → reader_of lane (if b then f (stack_at w p) else stack_at w p).readers ≡ Some (reader lane (lines b))
      by true e = ap (reader_of lane) (told (stack_at w p)) ∙ own e
      by false e = other

  -- the readers at a path that is the same
  at-path : (q : Path) (w : World) (lines : List (List ℕ)) → IsAt w lane p lines → path_eq p q ≡ true
      → reader_of lane (stack_at w q).readers ≡ Some (reader lane lines)
  at-path q w lines at e = ap (λ r. reader_of lane (stack_at w r).readers) (sym ((path_eq-Decides p q).0 e)) ∙ at

  -- ---- one event

  at-open : (own : ℕ) (q : Path) (table : Table) (w : World) (lines : List (List ℕ)) → IsAt w lane p lines
      → IsAt (act w q (event.Open own q table)) lane p lines
  unfolding act_by local placed_if told
  at-open own q table w lines at =
      at-told q _ (answer (stack_at w q).readers (open_rule own (lines_at w q table) (stack_at w q).readers)).left w (λ b. lines) (λ s. refl)
      (λ e. open-keeps lane own (lines_at w q table) (stack_at w q).readers (reader lane lines) (at-path q w lines at e)) at

  -- the lines that are left after a Next of some lane at that path, or another
  abbrev after_next : ℕ → List (List ℕ) → Bool → List (List ℕ)
  after_next own lines b = if (own == lane) && b then drop 1 lines else lines

  here_next : (own : ℕ) (lines : List (List ℕ)) → after_next own lines true ≡ lines_after lane own lines
  here_next own lines = by (own == lane)
    where
      by : (b : Bool) → (if b && true then drop 1 lines else lines) ≡ (if b then drop 1 lines else lines)
      by true = refl
      by false = refl

  other_next : (own : ℕ) (lines : List (List ℕ)) → after_next own lines false ≡ lines
  other_next own lines = by (own == lane)
    where
      by : (b : Bool) → (if b && false then drop 1 lines else lines) ≡ lines
      by true = refl
      by false = refl

  at-next : (own : ℕ) (q : Path) (w : World) (lines : List (List ℕ)) → IsAt w lane p lines
      → IsAt (act w q (event.Next own q)) lane p (after_next own lines (path_eq p q))
  unfolding act_by local placed_if told
  at-next own q w lines at =
      at-told q _ (answer (stack_at w q).readers (next_rule own (stack_at w q).readers)).left w (after_next own lines) (λ s. refl)
      (λ e. next-keeps lane own (stack_at w q).readers lines (at-path q w lines at e) ∙ ap (λ ls. Some (reader lane ls)) (sym (here_next own lines)))
      (at ∙ ap (λ ls. Some (reader lane ls)) (sym (other_next own lines)))

  at-close : (own : ℕ) (q : Path) (w : World) (lines : List (List ℕ)) → IsAt w lane p lines → ((own == lane) && path_eq p q) ≡ false
      → IsAt (act w q (event.Close own q)) lane p lines
  unfolding act_by local placed_if told
  at-close own q w lines at none =
      at-told q _ (answer (stack_at w q).readers (close_rule own (stack_at w q).readers)).left w (λ b. lines) (λ s. refl)
      (λ e. close-keeps lane own (stack_at w q).readers (reader lane lines) (apart e) (at-path q w lines at e)) at
    where
      apart : path_eq p q ≡ true → (own == lane) ≡ false
      apart e = by (own == lane) refl
        where
          by : (b : Bool) → (own == lane) ≡ b → b ≡ false
          by true f = sym (λ i. f i && e i) ∙ none
          by false f = refl

  at-step : (w : World) (e : Event) (lines : List (List ℕ)) → IsAt w lane p lines → is_close lane p e ≡ false
      → IsAt (step w e) lane p (if is_next lane p e then drop 1 lines else lines)
  unfolding step acting acted is_next is_close
  at-step w (event.Tick n) lines at none = at-same (later-readers n w) lines at
  at-step w (event.Cmd own q command) lines at none = at-same (readers-commanded own q command w) lines at
  at-step w (event.Deliver h) lines at none = at-same (readers-delivered h w) lines at
  at-step w (event.LoopDeliver q) lines at none =
      at-same (either_acted (SameReaders w) (acting w (event.LoopDeliver q)) (event.LoopDeliver q) w (readers-none w) (λ r. readers-looped r q w)) lines at
  at-step w (event.Fire q) lines at none =
      at-same (either_acted (SameReaders w) (acting w (event.Fire q)) (event.Fire q) w (readers-none w) (λ r. readers-fired r q w)) lines at
  at-step w (event.Open own q table) lines at none = at-open own q table w lines at
  at-step w (event.Next own q) lines at none = at-next own q w lines at
  at-step w (event.Close own q) lines at none = at-close own q w lines at none

  -- ---- all events in between

  drop_none : (n : ℕ) → drop {A = List ℕ} n [] ≡ []
  drop_none zero = refl
  drop_none (suc n) = refl

  drop_more : (n : ℕ) (lines : List (List ℕ)) (b : Bool) → drop n (if b then drop 1 lines else lines) ≡ drop (cond b 1 0 + n) lines
  drop_more n lines false = ap (λ k. drop k lines) (omega arith)
  drop_more n [] true = drop_none n ∙ sym (drop_none (cond true 1 0 + n))
  drop_more n (line ∷ lines) true = ap (λ k. drop k (line ∷ lines)) (one_more n)
    where
      one_more : (n : ℕ) → suc n ≡ 1 + n
      one_more n = omega arith

  at-run : (w : World) (events : List Event) (lines : List (List ℕ)) → IsAt w lane p lines → list_any (is_close lane p) events ≡ false
      → IsAt (run_from w events) lane p (drop (count_by (is_next lane p) events) lines)
  unfolding run_from
  at-run w [] lines at none = at
  at-run w (e ∷ events) lines at none =
      let parts = or_none (is_close lane p e) (list_any (is_close lane p) events) none in
      at-run (step w e) events (if is_next lane p e then drop 1 lines else lines) (at-step w e lines at parts.0) parts.1
      ∙ ap (λ ls. Some (reader lane ls)) (drop_more (count_by (is_next lane p) events) lines (is_next lane p e))
      ∙ ap (λ n. Some (reader lane (drop n lines))) (sym (sum_by-cons (λ x. cond (is_next lane p x) 1 0) e events))

  -- ---- opened, and read

  at-opened : (table : Table) (w : World) (lines : List (List ℕ)) → open_refusal w lane p table ≡ None → lines_at w p table ≡ Some lines
      → IsAt (step w (event.Open lane p table)) lane p lines
  unfolding step acting acted act_by local placed_if told
  at-opened table w lines none is =
      ap (λ (s : Stack). reader_of lane s.readers) (own_edit p _ w)
      ∙ open-made lane (lines_at w p table) lines (stack_at w p).readers is none

  gives-line : (w : World) (lines : List (List ℕ)) → IsAt w lane p lines → GivesLine w lane p (line_or_end lines)
  unfolding step acting acted act_by local placed_if told
  gives-line w lines at =
      ap (λ (s : Stack). s.entries) (own_edit p _ w)
      ∙ ap (λ o. (stack_at w p).entries ++ entry_of w.clock (what.Next lane o) ∷ []) (next-outcome lane (stack_at w p).readers lines at)

pub run-append : (w : World) (before after : List Event) → run_from w (before ++ after) ≡ run_from (run_from w before) after
unfolding run_from
run-append w [] after = refl
run-append w (e ∷ before) after = run-append (step w e) before after

pub snapshot : (events : List Event) → IsSnapshot events
unfolding run_from
snapshot events before between after lane p table lines whole ok is none =
    subst (λ w. GivesLine w lane p (line_or_end (drop (count_by (is_next lane p) between) lines)))
    (sym (run-append opening before (event.Open lane p table ∷ between)))
    (gives-line lane p (run_from (step (run before) (event.Open lane p table)) between) (drop (count_by (is_next lane p) between) lines)
    (at-run lane p (step (run before) (event.Open lane p table)) between lines (at-opened lane p table (run before) lines ok is) none))

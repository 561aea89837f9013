-- Events put one by one, and the history that they make.
use Rattle.std.proofs.Common.{◌≡◌, ℕ, ◌+◌, true, false, cond, List, [], ◌∷◌, ◌++◌, Option, Some, None, Result, Ok, Err, refl, sym, ap, subst, ◌∙◌, append_assoc, append-nil}
use Rattle.vn_cells.specs.declared.event.Event.{Event}
use Rattle.vn_shell.specs.declared.history.HistoryFault.{HistoryFault}
use Rattle.vn_shell.specs.declared.history.HistoryFault.TheVariants as fault
use Rattle.vn_shell.specs.declared.history.HistoryLine.{HistoryLine}
use Rattle.vn_shell.specs.declared.history.HistoryLine.TheVariants.{Happened, Last}
use Rattle.vn_shell.specs.Histories.{RefusesHistory, events_from, history_in, history_line_of, history_of, is_first_line, nothing_behind, with_event, with_line}
use Rattle.vn_shell.specs.Words.{lines_of}

abbrev Reading : Type 0
Reading = Result (List Event) ℕ

-- the events, where others follow those that were read
abbrev pub events_with : List Event → Reading → Reading
events_with old (Ok more) = Ok (old ++ more)
events_with old (Err number) = Err number

pub no_event : (r : Reading) → r ≡ events_with [] r
no_event (Ok events) = refl
no_event (Err number) = refl

pub events-cons : (n : ℕ) (line : List ℕ) (lines : List (List ℕ)) → events_from n (line ∷ lines) ≡ with_line n (history_line_of line) lines (events_from (n + 1) lines)
unfolding events_from
events-cons n line lines = refl

events-none : (n : ℕ) → events_from n [] ≡ Err n
unfolding events_from
events-none n = refl

-- what is left of the lines, by the next of them
next_read : (whole : Reading) (n : ℕ) (rest line more : List ℕ) (old : List Event) (what : Option HistoryLine) → whole ≡ events_with old (events_from (n + 1) (lines_of rest)) → lines_of rest ≡ line ∷ lines_of more
    → what ≡ history_line_of line → whole ≡ events_with old (with_line (n + 1) what (lines_of more) (events_from (n + 1 + 1) (lines_of more)))
next_read whole n rest line more old what so_far first is =
    so_far ∙ ap (λ ls. events_with old (events_from (n + 1) ls)) first ∙ ap (events_with old) (events-cons (n + 1) line (lines_of more))
    ∙ ap (λ w. events_with old (with_line (n + 1) w (lines_of more) (events_from (n + 1 + 1) (lines_of more)))) (sym is)

put_event : (old : List Event) (e : Event) (r : Reading) → events_with old (with_event e r) ≡ events_with (old ++ e ∷ []) r
put_event old e (Ok more) = let at : List Event → Reading = λ es. Ok es in ap at (sym (append_assoc old (e ∷ []) more))
put_event old e (Err number) = refl

-- one event further
pub event_read : (whole : Reading) (n : ℕ) (rest line more : List ℕ) (old new : List Event) (e : Event) → whole ≡ events_with old (events_from (n + 1) (lines_of rest)) → lines_of rest ≡ line ∷ lines_of more
    → Some (Happened e) ≡ history_line_of line → new ≡ old ++ e ∷ [] → whole ≡ events_with new (events_from (n + 1 + 1) (lines_of more))
event_read whole n rest line more old new e so_far first is put =
    next_read whole n rest line more old (Some (Happened e)) so_far first is ∙ put_event old e (events_from (n + 1 + 1) (lines_of more))
    ∙ ap (λ es. events_with es (events_from (n + 1 + 1) (lines_of more))) (sym put)

-- the last line, behind which no other stands
pub last_read : (whole : Reading) (n : ℕ) (rest line more : List ℕ) (old new : List Event) → whole ≡ events_with old (events_from (n + 1) (lines_of rest)) → lines_of rest ≡ line ∷ lines_of more
    → Some Last ≡ history_line_of line → new ≡ old → lines_of more ≡ [] → whole ≡ Ok new
last_read whole n rest line more old new so_far first is same none =
    next_read whole n rest line more old (Some Last) so_far first is ∙ ap (λ ls. events_with old (nothing_behind (n + 1 + 1) ls)) none
    ∙ (let at : List Event → Reading = λ es. Ok es in ap at (append-nil old ∙ sym same))

-- or another does
pub behind_last : (whole : Reading) (n : ℕ) (rest line more : List ℕ) (old : List Event) (e : HistoryFault) → whole ≡ events_with old (events_from (n + 1) (lines_of rest)) → lines_of rest ≡ line ∷ lines_of more
    → Some Last ≡ history_line_of line → RefusesHistory (nothing_behind (n + 1 + 1) (lines_of more)) e → RefusesHistory whole e
behind_last whole n rest line more old fault.NoMemory so_far first is why = tt
behind_last whole n rest line more old (fault.BadHistory number) so_far first is why =
    next_read whole n rest line more old (Some Last) so_far first is ∙ ap (events_with old) why

-- a line that is none
pub none_read : (whole : Reading) (n : ℕ) (rest line more : List ℕ) (old : List Event) → whole ≡ events_with old (events_from (n + 1) (lines_of rest)) → lines_of rest ≡ line ∷ lines_of more
    → None ≡ history_line_of line → whole ≡ Err (n + 1)
none_read whole n rest line more old so_far first is = next_read whole n rest line more old None so_far first is

-- the last line is missing
pub never_ends : (whole : Reading) (n : ℕ) (rest : List ℕ) (old : List Event) → whole ≡ events_with old (events_from (n + 1) (lines_of rest)) → lines_of rest ≡ [] → whole ≡ Err (n + 1)
never_ends whole n rest old so_far none =
    so_far ∙ ap (λ ls. events_with old (events_from (n + 1) ls)) none ∙ ap (events_with old) (events-none (n + 1))

-- ---- the first line

pub no_line : (text : List ℕ) → lines_of text ≡ [] → history_of text ≡ Err 1
unfolding history_of history_in
no_line text none = ap history_in none

pub begun : (text line more : List ℕ) → lines_of text ≡ line ∷ lines_of more → is_first_line line ≡ true → history_of text ≡ events_from 2 (lines_of more)
unfolding history_of history_in
begun text line more first is = ap history_in first ∙ ap (λ b. cond b (events_from 2 (lines_of more)) (Err 1)) is

pub not_begun : (text line more : List ℕ) → lines_of text ≡ line ∷ lines_of more → is_first_line line ≡ false → history_of text ≡ Err 1
unfolding history_of history_in
not_begun text line more first other = ap history_in first ∙ ap (λ b. cond b (events_from 2 (lines_of more)) (Err 1)) other

pub refused_behind : (text line more : List ℕ) (e : HistoryFault) → lines_of text ≡ line ∷ lines_of more → is_first_line line ≡ true → RefusesHistory (events_from 2 (lines_of more)) e → RefusesHistory (history_of text) e
refused_behind text line more e first is why = subst (λ meaning. RefusesHistory meaning e) (sym (begun text line more first is)) why

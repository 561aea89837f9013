-- Texts are put at the end of an output one after another.
use Rattle.std.proofs.Common.{◌≡◌, ℕ, List, [], ◌∷◌, ◌++◌, length, Option, None, refl, sym, ap, append_assoc, ◌∙◌, true, false, true≢false}
use Rattle.std.specs.Prelude.{codes, decimal, ◌==◌}
use Rattle.std.proofs.lemmas.List.{append-nil}
use Rattle.std.specs.Io.{StartsWith}
use Rattle.std.specs.List.{flat_map}
use Rattle.std.proofs.Math.Dec.{eqb, eqb-suc-zero}
use Rattle.std.proofs.lemmas.Bool.{cond-false, ne_eqb}
use Rattle.vn_types.specs.Paths.{path_text}
use Rattle.vn_cells.specs.declared.event.Event.{Event}
use Rattle.vn_cells.specs.declared.report.Report.{Report}
use Rattle.vn_cells.specs.declared.transcript.Entry.{Entry}
use Rattle.vn_cells.specs.world.Names.{Path}
use Rattle.vn_cells.specs.texts.Text.{entry_line, event_text, history_text, limit_text, line, section_text}
use Rattle.vn_cells.specs.declared.cell.Cells.{Cells}
use Rattle.vn_cells.specs.declared.report.Watch.{Watch}
use Rattle.vn_text.specs.Watches.{watch_text, watches_text}
use Rattle.vn_text.specs.Whole.{chosen_text, pool_text, report_text, transcripts_text}

-- a text stands at the end of an output, behind what stood there
pub record IsPut (old new text : List ℕ) : Type 0 where
  pub so_far : new ≡ old ++ text
  pub front : StartsWith new old

two_put : (old p q a b : List ℕ) → a ≡ old ++ p → b ≡ a ++ q → b ≡ old ++ (p ++ q)
two_put old p q a b first second = second ∙ ap (λ t. t ++ q) first ∙ append_assoc old p q

pub three_put : (old p q r a b c : List ℕ) → a ≡ old ++ p → b ≡ a ++ q → c ≡ b ++ r → c ≡ old ++ (p ++ q ++ r)
three_put old p q r a b c first second third =
    let in_a_row : c ≡ ((old ++ p) ++ q) ++ r = cc in
    in_a_row ∙ simp append_assoc

-- two texts, and four more that were put as one
pub six_put : (old p q r s t u a b c : List ℕ) → a ≡ old ++ p → b ≡ a ++ q → c ≡ b ++ (r ++ s ++ t ++ u) → c ≡ old ++ (p ++ q ++ r ++ s ++ t ++ u)
six_put old p q r s t u a b c first second third =
    let in_a_row : c ≡ ((old ++ p) ++ q) ++ (r ++ s ++ t ++ u) = cc in
    in_a_row ∙ simp append_assoc

pub four_put : (old p q r s a b c d : List ℕ) → a ≡ old ++ p → b ≡ a ++ q → c ≡ b ++ r → d ≡ c ++ s → d ≡ old ++ (p ++ q ++ r ++ s)
four_put old p q r s a b c d first second third fourth =
    let in_a_row : d ≡ (((old ++ p) ++ q) ++ r) ++ s = cc in
    in_a_row ∙ simp append_assoc

five_put : (old p q r s t a b c d e : List ℕ) → a ≡ old ++ p → b ≡ a ++ q → c ≡ b ++ r → d ≡ c ++ s → e ≡ d ++ t → e ≡ old ++ ((p ++ q ++ r ++ s) ++ t)
five_put old p q r s t a b c d e first second third fourth fifth =
    let in_a_row : e ≡ ((((old ++ p) ++ q) ++ r) ++ s) ++ t = cc in
    in_a_row ∙ simp append_assoc

pub limit_put : (old a b : List ℕ) (limit number : ℕ) → (limit ≡ 0 → ⊥) → number ≡ limit → a ≡ old ++ codes " children.max=" → b ≡ a ++ decimal number → b ≡ old ++ limit_text limit
limit_put old a b limit number other same first second =
    second ∙ ap (λ t. t ++ decimal number) first ∙ append_assoc old (codes " children.max=") (decimal number) ∙ ap (λ n. old ++ (codes " children.max=" ++ decimal n)) same
    ∙ ap (λ t. old ++ t) (sym (cond-false (eqb limit 0) [] (codes " children.max=" ++ decimal limit) (ne_eqb limit 0 other)))

pub pool_put : (old a b c d e : List ℕ) (opened kept : ℕ) → a ≡ old ++ codes "== pool open " → b ≡ a ++ decimal opened → c ≡ b ++ codes " kept " → d ≡ c ++ decimal kept → e ≡ d ++ 10 ∷ []
    → e ≡ old ++ pool_text opened kept
pool_put old a b c d e opened kept = five_put old (codes "== pool open ") (decimal opened) (codes " kept ") (decimal kept) (10 ∷ []) a b c d e

-- where there are no items there is no text of them
pub nothing_put : {X : Type 0} (text : List X → List ℕ) (old : List ℕ) (xs : List X) → text [] ≡ [] → (length xs == 0) ≡ true → old ≡ old ++ text xs
nothing_put text old [] empty none = sym (ap (λ t. old ++ t) empty ∙ append-nil old)
nothing_put text old (x ∷ xs) empty none = absurd (cc (eqb-suc-zero (length xs)))

pub no_entry : (p : Path) → section_text p [] ≡ []
unfolding section_text
no_entry p = refl

pub no_watch : watches_text [] ≡ []
unfolding watches_text
no_watch = refl

pub watches_put : (old a b : List ℕ) (ws : List Watch) → (length ws == 0) ≡ false → a ≡ old ++ line (codes "== watches") → b ≡ a ++ flat_map watch_text ws → b ≡ old ++ watches_text ws
unfolding watches_text
watches_put old a b [] some first second = absurd (true≢false some)
watches_put old a b (w ∷ ws) some first second = two_put old (line (codes "== watches")) (flat_map watch_text (w ∷ ws)) a b first second

pub section_put : (old a b : List ℕ) (p : Path) (es : List Entry) → (length es ≡ 0 → ⊥) → a ≡ old ++ line (codes "== " ++ path_text p) → b ≡ a ++ flat_map entry_line es → b ≡ old ++ section_text p es
unfolding section_text
section_put old a b p [] some first second = absurd (some refl)
section_put old a b p (e ∷ es) some first second = two_put old (line (codes "== " ++ path_text p)) (flat_map entry_line (e ∷ es)) a b first second

pub history_put : (old a b c : List ℕ) (events : List Event) → a ≡ old ++ line (codes "== history 1") → b ≡ a ++ flat_map (λ e. line (event_text e)) events → c ≡ b ++ line (codes "== end") → c ≡ old ++ history_text events
unfolding history_text
history_put old a b c events first second third =
    two_put old (line (codes "== history 1") ++ flat_map (λ e. line (event_text e)) events) (line (codes "== end")) b c (two_put old (line (codes "== history 1")) (flat_map (λ e. line (event_text e)) events) a b first second) third

pub transcripts_put : (old a b : List ℕ) (only : Option Cells) (r : Report) → a ≡ old ++ flat_map (chosen_text only) r.sections → b ≡ a ++ pool_text r.opened r.kept → b ≡ old ++ transcripts_text only r
unfolding transcripts_text
transcripts_put old a b only r first second = two_put old (flat_map (chosen_text only) r.sections) (pool_text r.opened r.kept) a b first second

pub report_put : (old a b : List ℕ) (r : Report) → a ≡ old ++ transcripts_text None r → b ≡ a ++ history_text r.history → b ≡ old ++ report_text r
unfolding report_text
report_put old a b r first second = two_put old (transcripts_text None r) (history_text r.history) a b first second

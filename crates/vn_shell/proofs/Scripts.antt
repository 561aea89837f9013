-- Lines put one by one, and the script that they make.
use Rattle.std.proofs.Common.{◌≡◌, ℕ, ◌+◌, ◌==◌, true, false, List, [], ◌∷◌, ◌++◌, length, Option, Some, None, Result, Ok, Err, refl, sym, ap, ◌∙◌, append_assoc, append-nil, arith}
use Rattle.std.proofs.lemmas.Bool.Decides.{nat_tests}
use Rattle.vn_cells.specs.declared.script.LaneLine.{LaneLine}
use Rattle.vn_cells.specs.declared.script.Part.{Part}
use Rattle.vn_cells.specs.declared.script.Part.TheVariants as part
use Rattle.vn_cells.specs.declared.script.Script.{Script}
use Rattle.vn_shell.specs.declared.forms.Forms.{Forms}
use Rattle.vn_shell.specs.declared.item.Item.{Item}
use Rattle.vn_shell.specs.declared.item.Item.TheVariants as item
use Rattle.vn_shell.specs.declared.parts.Parts.{Parts}
use Rattle.vn_shell.specs.declared.script.Reason.{Reason}
use Rattle.vn_shell.specs.declared.script.ScriptFault.{ScriptFault}
use Rattle.vn_shell.specs.declared.script.ScriptFault.TheVariants as fault
use Rattle.vn_shell.specs.Words.{lines_of}
use Rattle.vn_shell.specs.Grammar.{put_before, with_line, items_from, line_of, phases, parts_after, in_script, script_by, script_of}
use Rattle.vn_shell.specs.Readings.{Refuses, RefusesAt, IsPut, ended, with_item, parts_in, no_parts}

phases_none : (ls : List LaneLine) → (length ls == 0) ≡ true → [] ≡ phases ls
unfolding phases
phases_none [] h = refl
phases_none (l ∷ ls) h = absurd (grind (arith, nat_tests))

phases_some : (ls : List LaneLine) → (length ls == 0) ≡ false → part.Phase ls ∷ [] ≡ phases ls
unfolding phases
phases_some [] h = cc
phases_some (l ∷ ls) h = refl

-- no line, no phase
pub none_ended : (old : List Part) (ls : List LaneLine) → (length ls == 0) ≡ true → old ≡ old ++ phases ls
none_ended old ls h = sym (append-nil old) ∙ ap (λ ps. old ++ ps) (phases_none ls h)

pub some_ended : (old new : List Part) (ls : List LaneLine) → (length ls == 0) ≡ false → new ≡ old ++ part.Phase ls ∷ [] → new ≡ old ++ phases ls
some_ended old new ls h e = e ∙ ap (λ ps. old ++ ps) (phases_some ls h)

abbrev Reading : Type 0
Reading = Result (List Part) (ℕ × Reason)

-- the parts, where items follow those that were read
abbrev pub parts_with : Parts → Result (List Item) (ℕ × Reason) → Reading
parts_with read (Ok items) = Ok (read.parts ++ parts_after read.lines items)
parts_with read (Err e) = Err e

abbrev at_parts : List Part → Reading
at_parts parts = Ok parts

pub nothing_read : (r : Result (List Item) (ℕ × Reason)) → parts_in r ≡ parts_with (record { parts = []; lines = [] }) r
nothing_read (Ok items) = refl
nothing_read (Err e) = refl

-- a part between phases
between_parts : (old phase : List Part) (one : Part) (more : List Part) → old ++ (phase ++ one ∷ more) ≡ ((old ++ phase) ++ one ∷ []) ++ more
between_parts old phase one more = sym (append_assoc (old ++ phase) (one ∷ []) more ∙ append_assoc old phase (one ∷ more))

put_item : (read : Parts) (i : Item) (r : Result (List Item) (ℕ × Reason)) → parts_with read (put_before i r) ≡ parts_with (with_item read i) r
unfolding with_item parts_after
put_item read (item.Lane line) (Ok items) = refl
put_item read item.Phase (Ok items) = ap at_parts (sym (append_assoc read.parts (phases read.lines) (parts_after [] items)))
put_item read item.Settle (Ok items) = ap at_parts (between_parts read.parts (phases read.lines) part.Settle (parts_after [] items))
put_item read (item.Sleep n) (Ok items) = ap at_parts (between_parts read.parts (phases read.lines) (part.Sleep n) (parts_after [] items))
put_item read i (Err e) = refl

put_with : (n : ℕ) (m : Result (Option Item) Reason) (old new : Parts) (after : Result (List Item) (ℕ × Reason)) → IsPut m old new → parts_with old (with_line n m after) ≡ parts_with new after
unfolding with_line
put_with n (Ok None) old new after h = ap (λ read. parts_with read after) (sym h)
put_with n (Ok (Some i)) old new after h = put_item old i after ∙ ap (λ read. parts_with read after) (sym h)
put_with n (Err r) old new after h = absurd h

items-cons : (forms : Forms) (n : ℕ) (line : List ℕ) (lines : List (List ℕ)) → items_from forms n (line ∷ lines) ≡ with_line n (line_of forms line) (items_from forms (n + 1) lines)
unfolding items_from
items-cons forms n line lines = refl

items-none : (forms : Forms) (n : ℕ) → items_from forms n [] ≡ Ok []
unfolding items_from
items-none forms n = refl

-- one line further
pub next_put : (forms : Forms) (whole : Reading) (n : ℕ) (rest line more : List ℕ) (old new : Parts) → whole ≡ parts_with old (items_from forms (n + 1) (lines_of rest)) → lines_of rest ≡ line ∷ lines_of more
    → IsPut (line_of forms line) old new → whole ≡ parts_with new (items_from forms (n + 1 + 1) (lines_of more))
next_put forms whole n rest line more old new so_far first put =
    so_far ∙ ap (λ ls. parts_with old (items_from forms (n + 1) ls)) first ∙ ap (parts_with old) (items-cons forms (n + 1) line (lines_of more))
    ∙ put_with (n + 1) (line_of forms line) old new (items_from forms (n + 1 + 1) (lines_of more)) put

refused_with : (n : ℕ) (m : Result (Option Item) Reason) (old : Parts) (after : Result (List Item) (ℕ × Reason)) (r : Reason) → m ≡ Err r → parts_with old (with_line n m after) ≡ Err (n, r)
unfolding with_line
refused_with n (Ok None) old after r h = cc
refused_with n (Ok (Some i)) old after r h = cc
refused_with n (Err q) old after r h = let s : q ≡ r = cc in let at : Reason → Reading = λ x. Err (n, x) in ap at s

-- the first line that is refused
pub next_refused : (forms : Forms) (whole : Reading) (n : ℕ) (rest line more : List ℕ) (old : Parts) (e : ScriptFault) → whole ≡ parts_with old (items_from forms (n + 1) (lines_of rest)) → lines_of rest ≡ line ∷ lines_of more
    → RefusesAt (n + 1) (line_of forms line) e → Refuses whole e
next_refused forms whole n rest line more old fault.NoMemory so_far first why = tt
next_refused forms whole n rest line more old (fault.Script number reason) so_far first why =
    so_far ∙ ap (λ ls. parts_with old (items_from forms (n + 1) ls)) first ∙ ap (parts_with old) (items-cons forms (n + 1) line (lines_of more))
    ∙ refused_with (n + 1) (line_of forms line) old (items_from forms (n + 1 + 1) (lines_of more)) reason why.1
    ∙ (let at : ℕ → Reading = λ k. Err (k, reason) in ap at (sym why.0))

pub all_put : (forms : Forms) (whole : Reading) (n : ℕ) (rest : List ℕ) (read : Parts) (ps : List Part) → whole ≡ parts_with read (items_from forms (n + 1) (lines_of rest)) → lines_of rest ≡ [] → ps ≡ ended read → whole ≡ Ok ps
unfolding parts_after
all_put forms whole n rest read ps so_far none done =
    so_far ∙ ap (λ lines. parts_with read (items_from forms (n + 1) lines)) none ∙ ap (parts_with read) (items-none forms (n + 1)) ∙ ap at_parts (sym done)

-- ---- the script of the parts

script_in : (r : Result (List Item) (ℕ × Reason)) (ps : List Part) → parts_in r ≡ Ok ps → in_script r ≡ Ok (record { parts = ps })
script_in (Ok items) ps h =
    let s : parts_after [] items ≡ ps = cc in
    let at : List Part → Result Script (ℕ × Reason) = λ parts. Ok (record { parts = parts }) in ap at s
script_in (Err e) ps h = cc

pub script_is : (forms : Forms) (t : List ℕ) (ps : List Part) → parts_in (items_from forms 1 (lines_of t)) ≡ Ok ps → script_by forms t ≡ Ok (record { parts = ps })
unfolding script_by
script_is forms t ps h = script_in (items_from forms 1 (lines_of t)) ps h

refused_in : (r : Result (List Item) (ℕ × Reason)) (e : ScriptFault) → Refuses (parts_in r) e → Refuses (in_script r) e
refused_in r fault.NoMemory h = tt
refused_in (Ok items) (fault.Script number reason) h = cc
refused_in (Err f) (fault.Script number reason) h =
    let s : f ≡ (number, reason) = cc in
    let at : ℕ × Reason → Result Script (ℕ × Reason) = λ x. Err x in ap at s

pub script_refused : (forms : Forms) (t : List ℕ) (e : ScriptFault) → Refuses (parts_in (items_from forms 1 (lines_of t))) e → Refuses (script_by forms t) e
unfolding script_by
script_refused forms t e h = refused_in (items_from forms 1 (lines_of t)) e h

pub empty_script : script_of [] ≡ Ok no_parts
unfolding script_by items_from lines_of parts_after phases
empty_script = refl

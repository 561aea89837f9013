-- The parts of lines that can happen can happen, and the program runs them where it runs the lines.
use Rattle.std.proofs.Common.{◌≡◌, ℕ, Bool, true, List, [], ◌∷◌, ◌++◌, Result, Ok, Err, refl, sym, ap, subst, true≢false}
use Rattle.std.specs.Prelude.{IfOk}
use Rattle.std.specs.List.{list_all}
use Rattle.std.proofs.lemmas.Bool.{and_parts, and_from}
use Rattle.vn_cells.specs.declared.script.LaneLine.{LaneLine}
use Rattle.vn_cells.specs.declared.script.Part.{Part}
use Rattle.vn_cells.specs.declared.script.Part.TheVariants as part
use Rattle.vn_cells.specs.declared.script.Script.{Script}
use Rattle.vn_cells.specs.machine.Bounds.{is_wait}
use Rattle.vn_cells.specs.machine.Events.{is_valid_line, is_valid_part, is_valid_script}
use Rattle.vn_shell.specs.declared.forms.Forms.{Forms}
use Rattle.vn_shell.specs.declared.forms.Forms.TheVariants.{Built}
use Rattle.vn_shell.specs.declared.item.Item.{Item}
use Rattle.vn_shell.specs.declared.item.Item.TheVariants as item
use Rattle.vn_shell.specs.declared.script.Reason.{Reason}
use Rattle.vn_shell.specs.Words.{lines_of}
use Rattle.vn_shell.specs.Grammar.{items_from, phases, parts_after, in_script, script_by, script_of}
use Rattle.vn_shell.specs.Readings.{is_built_lane, is_built_part, is_built_script, parts_in}
use Rattle.vn_shell.proofs.Lists.{all_both}
use Rattle.vn_shell.proofs.Meanings.{AllHappen, is_valid_item, is_built_item, items_in}

all_more : {X : Type 0} (p : X → Bool) (xs : List X) (x : X) → list_all p xs ≡ true → p x ≡ true → list_all p (xs ++ x ∷ []) ≡ true
all_more p xs x h e = all_both p xs (x ∷ []) h (and_from _ _ e refl)

-- ---- within their bounds

valid_phases : (lines : List LaneLine) → list_all is_valid_line lines ≡ true → list_all is_valid_part (phases lines) ≡ true
unfolding phases is_valid_part
valid_phases [] h = refl
valid_phases (line ∷ lines) h = and_from _ _ h refl

valid_after : (lines : List LaneLine) (items : List Item) → list_all is_valid_line lines ≡ true → list_all is_valid_item items ≡ true → list_all is_valid_part (parts_after lines items) ≡ true
unfolding parts_after is_valid_part
valid_after lines [] h g = valid_phases lines h
valid_after lines (item.Lane line ∷ items) h g =
    let at = and_parts (is_valid_line line) (list_all is_valid_item items) g in
    valid_after (lines ++ line ∷ []) items (all_more is_valid_line lines line h at.0) at.1
valid_after lines (item.Phase ∷ items) h g =
    all_both is_valid_part (phases lines) (parts_after [] items) (valid_phases lines h) (valid_after [] items refl g)
valid_after lines (item.Settle ∷ items) h g =
    all_both is_valid_part (phases lines) (part.Settle ∷ parts_after [] items) (valid_phases lines h) (valid_after [] items refl g)
valid_after lines (item.Sleep n ∷ items) h g =
    let at = and_parts (is_wait n) (list_all is_valid_item items) g in
    all_both is_valid_part (phases lines) (part.Sleep n ∷ parts_after [] items) (valid_phases lines h) (and_from _ _ at.0 (valid_after [] items refl at.1))

-- ---- run by the program

built_phases : (lines : List LaneLine) → list_all is_built_lane lines ≡ true → list_all is_built_part (phases lines) ≡ true
unfolding phases
built_phases [] h = refl
built_phases (line ∷ lines) h = and_from _ _ h refl

built_after : (lines : List LaneLine) (items : List Item) → list_all is_built_lane lines ≡ true → list_all is_built_item items ≡ true → list_all is_built_part (parts_after lines items) ≡ true
unfolding parts_after
built_after lines [] h g = built_phases lines h
built_after lines (item.Lane line ∷ items) h g =
    let at = and_parts (is_built_lane line) (list_all is_built_item items) g in
    built_after (lines ++ line ∷ []) items (all_more is_built_lane lines line h at.0) at.1
built_after lines (item.Phase ∷ items) h g = absurd (true≢false (sym g))
built_after lines (item.Settle ∷ items) h g = absurd (true≢false (sym g))
built_after lines (item.Sleep n ∷ items) h g = absurd (true≢false (sym g))

-- ---- of a text that was read

-- the items that parts are made of
record Of (forms : Forms) (ps : List Part) : Type 0 where
  items : List Item
  same : parts_after [] items ≡ ps
  happen : AllHappen forms items

of_items : (forms : Forms) (r : Result (List Item) (ℕ × Reason)) (ps : List Part) → IfOk r (AllHappen forms) → parts_in r ≡ Ok ps → Of forms ps
of_items forms (Ok items) ps h e = record { items = items; same = cc; happen = h }
of_items forms (Err d) ps h e = cc

abbrev Read : Forms → List ℕ → List Part → Type 0
Read forms text ps = parts_in (items_from forms 1 (lines_of text)) ≡ Ok ps

of_text : (forms : Forms) (text : List ℕ) (ps : List Part) → Read forms text ps → Of forms ps
of_text forms text ps e = of_items forms (items_from forms 1 (lines_of text)) ps (items_in forms 1 (lines_of text)) e

pub parts_valid : (forms : Forms) (text : List ℕ) (ps : List Part) → Read forms text ps → is_valid_script (record { parts = ps }) ≡ true
parts_valid forms text ps e =
    let o = of_text forms text ps e in subst (λ qs. list_all is_valid_part qs ≡ true) o.same (valid_after [] o.items refl o.happen.valid)

pub parts_built : (text : List ℕ) (ps : List Part) → Read Built text ps → is_built_script (record { parts = ps }) ≡ true
parts_built text ps e =
    let o = of_text Built text ps e in subst (λ qs. list_all is_built_part qs ≡ true) o.same (built_after [] o.items refl o.happen.runs)

-- ---- of the script that a text spells

read_of : (r : Result (List Item) (ℕ × Reason)) (script : Script) → in_script r ≡ Ok script → parts_in r ≡ Ok script.parts
read_of (Ok items) script e =
    let at : Script → Result (List Part) (ℕ × Reason) = λ s. Ok s.parts in
    let s : record { parts = parts_after [] items } ≡ script = cc in ap at s
read_of (Err d) script e = cc

pub script_valid : (text : List ℕ) (script : Script) → script_of text ≡ Ok script → is_valid_script script ≡ true
unfolding script_by
script_valid text script e = parts_valid Built text script.parts (read_of (items_from Built 1 (lines_of text)) script e)

pub script_built : (text : List ℕ) (script : Script) → script_of text ≡ Ok script → is_built_script script ≡ true
unfolding script_by
script_built text script e = parts_built text script.parts (read_of (items_from Built 1 (lines_of text)) script e)

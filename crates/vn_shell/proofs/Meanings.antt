-- What a line means can happen, and the program runs it where only such forms are taken.
use Rattle.std.proofs.Common.{◌≡◌, ℕ, ◌+◌, Bool, true, false, cond, not, List, [], ◌∷◌, length, Option, Some, None, Result, Ok, Err, refl, sym, true≢false}
use Rattle.std.specs.Prelude.{codes, nat_le, IfSome, IfOk}
use Rattle.std.specs.List.{list_all}
use Rattle.std.specs.Option.{option_map, ok_or}
use Rattle.std.specs.Str.{bytes_eq}
use Rattle.std.proofs.lemmas.Bool.{and_from}
use Rattle.vn_types.specs.Paths.{Path, is_path}
use Rattle.vn_types.specs.PathWords.{path_of}
use Rattle.vn_cells.specs.declared.script.Line.{Line}
use Rattle.vn_cells.specs.machine.Bounds.{is_wait}
use Rattle.vn_cells.specs.machine.Events.{is_built_line, is_lane, is_valid_asked, is_valid_line}
use Rattle.vn_shell.specs.declared.forms.Forms.{Forms}
use Rattle.vn_shell.specs.declared.forms.Forms.TheVariants.{All, Built}
use Rattle.vn_shell.specs.declared.item.Item.{Item}
use Rattle.vn_shell.specs.declared.item.Item.TheVariants as item
use Rattle.vn_shell.specs.declared.lines.TheConstants.{MOST_LABELS, MOST_OCTETS}
use Rattle.vn_shell.specs.declared.script.Reason.{Reason}
use Rattle.vn_shell.specs.declared.script.Reason.TheVariants as reason
use Rattle.vn_shell.specs.Words.{words_of, is_form, lane_of, wait_of}
use Rattle.vn_shell.specs.Requests.{request_of, depth_in}
use Rattle.vn_shell.specs.Grammar.{◌>>=◌, takes_line, takes_breaks, break_of, between, issuer_of, taken, asked_at, lane_line_of, line_of_words, is_text, is_comment, line_of, with_line, items_from}
use Rattle.vn_shell.proofs.Bounds.{path_in, such_number}
use Rattle.vn_shell.proofs.Found.{some_map, some_if}
use Rattle.vn_shell.proofs.Requests.{Asks, request_in}

-- ---- steps that may be refused

ok_then : {A B : Type 0} (P : A → Type 0) (Q : B → Type 0) (r : Result A Reason) (f : A → Result B Reason) → IfOk r P → ((x : A) → P x → IfOk (f x) Q) → IfOk (r >>= f) Q
ok_then P Q (Ok x) f h g = g x h
ok_then P Q (Err e) f h g = tt

ok_where : {A : Type 0} (P : A → Type 0) (b : Bool) (x : A) (why : Reason) → (b ≡ true → P x) → IfOk (cond b (Ok x) (Err why)) P
ok_where P true x why h = h refl
ok_where P false x why h = tt

ok_some : {A : Type 0} (P : A → Type 0) (o : Option A) (why : Reason) → IfSome o P → IfOk (ok_or o why) P
ok_some P None why h = tt
ok_some P (Some x) why h = h

ok_if : {A : Type 0} (Q : A → Type 0) (b : Bool) (x y : Result A Reason) → IfOk x Q → IfOk y Q → IfOk (cond b x y) Q
ok_if Q true x y h g = h
ok_if Q false x y h g = g

-- ---- what holds where only the forms are taken that the program runs

abbrev pub Runs : Forms → Type 0 → Type 0
Runs All P = Unit {0}
Runs Built P = P

runs_two : (forms : Forms) (P Q R : Type 0) → (P → Q → R) → Runs forms P → Runs forms Q → Runs forms R
runs_two All P Q R f h g = tt
runs_two Built P Q R f h g = f h g

abbrev RunsLine : Forms → Line → Type 0
RunsLine forms asked = Runs forms (is_built_line asked ≡ true)

runs_taken : (forms : Forms) (asked : Line) → takes_line forms asked ≡ true → RunsLine forms asked
runs_taken All asked h = tt
runs_taken Built asked h = h

runs_breaks : (forms : Forms) (P : Type 0) → takes_breaks forms ≡ true → Runs forms P
runs_breaks All P h = tt
runs_breaks Built P h = absurd (true≢false (sym h))

-- ---- lines

abbrev Taken : Forms → Line → Type 0
Taken forms asked = Asks asked × RunsLine forms asked

taken_in : (forms : Forms) (words : List (List ℕ)) → IfOk (taken forms words) (Taken forms)
unfolding taken
taken_in forms words =
    ok_then Asks (Taken forms) (ok_or (request_of words) reason.Command) _ (ok_some Asks (request_of words) reason.Command (request_in words))
    (λ asked h. ok_where (Taken forms) (takes_line forms asked) asked reason.Command (λ e. (h, runs_taken forms asked e)))

abbrev CanAsk : Forms → Path → Line → Type 0
CanAsk forms path asked = (is_valid_asked path asked ≡ true) × RunsLine forms asked

asked_in : (forms : Forms) (path : Path) (words : List (List ℕ)) → IfOk (asked_at forms path words) (CanAsk forms path)
unfolding asked_at
asked_in forms path words =
    ok_then (Taken forms) (CanAsk forms path) (taken forms words) _ (taken_in forms words)
    (λ asked h. ok_where (CanAsk forms path) (nat_le (length path + depth_in asked) MOST_LABELS) asked reason.Depth
    (λ few. (h.0 path few, h.1)))

abbrev IsIssuer : Path × List (List ℕ) → Type 0
IsIssuer issuer = is_path issuer.0 ≡ true

issuer_in : (words : List (List ℕ)) → IfOk (issuer_of words) IsIssuer
unfolding issuer_of
issuer_in [] = tt
issuer_in (word ∷ words) =
    ok_then (λ path. is_path path ≡ true) IsIssuer (ok_or (path_of word) reason.Path) _ (ok_some _ (path_of word) reason.Path (path_in word)) (λ path h. h)

-- whether what a line means is within its bounds
abbrev pub is_valid_item : Item → Bool
is_valid_item (item.Lane line) = is_valid_line line
is_valid_item (item.Sleep n) = is_wait n
is_valid_item _ = true

-- whether the program runs it
abbrev pub is_built_item : Item → Bool
is_built_item (item.Lane line) = is_built_line line.line
is_built_item _ = false

record CanHappen (forms : Forms) (i : Item) : Type 0 where
  valid : is_valid_item i ≡ true
  runs : Runs forms (is_built_item i ≡ true)

abbrev IsValidItem : Item → Type 0
IsValidItem i = is_valid_item i ≡ true

break_in : (words : List (List ℕ)) → IfSome (break_of words) IsValidItem
unfolding break_of wait_of
break_in [] = tt
break_in (word ∷ []) =
    some_if IsValidItem (bytes_eq word (codes "phase")) (Some item.Phase) _ refl
    (some_if IsValidItem (bytes_eq word (codes "settle")) (Some item.Settle) None refl tt)
break_in (word ∷ wait ∷ []) =
    some_if IsValidItem (bytes_eq word (codes "sleep")) _ None (some_map (λ n. is_wait n ≡ true) IsValidItem (wait_of wait) item.Sleep (such_number is_wait wait) (λ n h. h)) tt
break_in (word ∷ wait ∷ other ∷ words) = tt

-- what holds of the meaning, if a line has one
abbrev IfItem : Result (Option Item) Reason → (Item → Type 0) → Type 0
IfItem r P = IfOk r (λ o. IfSome o P)

between_in : (forms : Forms) (words : List (List ℕ)) → IfItem (between forms words) (CanHappen forms)
unfolding between
between_in forms words = by (takes_breaks forms) refl
  where
    found : (o : Option Item) → IfSome o IsValidItem → takes_breaks forms ≡ true → IfItem (ok_or (option_map Some o) reason.Command) (CanHappen forms)
    found None h e = tt
    found (Some i) h e = record { valid = h; runs = runs_breaks forms (is_built_item i ≡ true) e }

    by : (b : Bool) → takes_breaks forms ≡ b → IfItem (cond b (ok_or (option_map Some (break_of words)) reason.Command) (Err reason.Command)) (CanHappen forms)
    by true e = found (break_of words) (break_in words) e
    by false e = tt

abbrev Found : Forms → Option Item → Type 0
Found forms o = IfSome o (CanHappen forms)

lane_line_in : (forms : Forms) (word : List ℕ) (words : List (List ℕ)) → IfItem (lane_line_of forms word words) (CanHappen forms)
unfolding is_valid_line lane_of
lane_line_in forms word words =
    ok_then (λ lane. is_lane lane ≡ true) (Found forms) (ok_or (lane_of word) reason.Lane) _ (ok_some (λ lane. is_lane lane ≡ true) (lane_of word) reason.Lane (such_number is_lane word))
    (λ lane is_one. ok_then IsIssuer (Found forms) (issuer_of words) _ (issuer_in words)
    (λ issuer issues. ok_then (CanAsk forms issuer.0) (Found forms) (asked_at forms issuer.0 issuer.1) _ (asked_in forms issuer.0 issuer.1)
    (λ asked can. record { valid = and_from _ _ (and_from _ _ is_one issues) can.0; runs = can.1 })))

words_in : (forms : Forms) (words : List (List ℕ)) → IfItem (line_of_words forms words) (CanHappen forms)
unfolding line_of_words
words_in forms [] = tt
words_in forms (word ∷ words) =
    ok_if (Found forms) (is_form word) (between forms (word ∷ words)) _ (between_in forms (word ∷ words)) (lane_line_in forms word words)

line_in : (forms : Forms) (line : List ℕ) → IfItem (line_of forms line) (CanHappen forms)
unfolding line_of
line_in forms line =
    ok_if (Found forms) (not (is_text MOST_OCTETS line)) (Err reason.Text) _ tt
    (ok_if (Found forms) (is_comment line) (Ok None) _ tt (words_in forms (words_of line)))

-- ---- all lines

pub record AllHappen (forms : Forms) (items : List Item) : Type 0 where
  pub valid : list_all is_valid_item items ≡ true
  pub runs : Runs forms (list_all is_built_item items ≡ true)

with_in : (forms : Forms) (n : ℕ) (m : Result (Option Item) Reason) (after : Result (List Item) (ℕ × Reason)) → IfItem m (CanHappen forms) → IfOk after (AllHappen forms) → IfOk (with_line n m after) (AllHappen forms)
unfolding with_line
with_in forms n (Err e) after h g = tt
with_in forms n (Ok None) after h g = g
with_in forms n (Ok (Some i)) (Ok items) h g = record {
  valid = and_from _ _ h.valid g.valid;
  runs = runs_two forms (is_built_item i ≡ true) (list_all is_built_item items ≡ true) (list_all is_built_item (i ∷ items) ≡ true) (and_from _ _) h.runs g.runs;
}
with_in forms n (Ok (Some i)) (Err e) h g = tt

pub items_in : (forms : Forms) (n : ℕ) (lines : List (List ℕ)) → IfOk (items_from forms n lines) (AllHappen forms)
unfolding items_from
items_in All n [] = record { valid = refl; runs = tt }
items_in Built n [] = record { valid = refl; runs = refl }
items_in forms n (line ∷ lines) = with_in forms n (line_of forms line) (items_from forms (n + 1) lines) (line_in forms line) (items_in forms (n + 1) lines)

-- A command and its words.
use Rattle.std.proofs.Common.{◌≡◌, ℕ, ◌+◌, Bool, true, ◌&&◌, not, List, [], ◌∷◌, length, Option, Some, None, refl, ap, ap₂, ◌∙◌}
use Rattle.std.specs.Prelude.{nat_le}
use Rattle.std.specs.List.{list_all}
use Rattle.std.proofs.lemmas.Bool.{and_parts, and_from}
use Rattle.vn_types.specs.Paths.{Path, is_host, is_path}
use Rattle.vn_types.specs.Steps.{◌>>=◌}
use Rattle.vn_cells.specs.declared.command.Command.{Command}
use Rattle.vn_cells.specs.machine.Events.{is_named_path}
use Rattle.vn_cells.specs.texts.Programs.{command_text}
use Rattle.vn_shell.specs.Words.{words_of, of_two}
use Rattle.vn_shell.specs.Commands.{command_of}
use Rattle.vn_shell.proofs.Bounds.{is_named}
use Rattle.vn_shell.proofs.SpacedWords.{IsSpaced, is_between, spaced, words_spaced}

-- what is written reads as the command, by its words
pub record ReadsBack (c : Command) : Type 0 where
  pub text : IsSpaced (command_text c)
  pub meant : command_of (text.word ∷ text.words) ≡ Some c

pub by_words : (c : Command) (word : List ℕ) (words : List (List ℕ)) → command_text c ≡ spaced (word ∷ words) → list_all is_between (word ∷ words) ≡ true → command_of (word ∷ words) ≡ Some c → ReadsBack c
by_words c word words text between read = record { text = record { word = word; words = words; spelt = text; between = between }; meant = read }

pub words_back : (c : Command) → ReadsBack c → command_of (words_of (command_text c)) ≡ Some c
words_back c b = ap command_of (words_spaced (command_text c) b.text) ∙ b.meant

pub both : (a b : Bool) → a ≡ true → b ≡ true → (a && (b && true)) ≡ true
both a b h g = and_from a (b && true) h (and_from b true g refl)

pub alone : (a : Bool) → a ≡ true → (a && true) ≡ true
alone a h = and_from a true h refl

pub two : {A B C : Type 0} (first : List ℕ → Option A) (second : List ℕ → Option B) (make : A → B → C) (one other : List ℕ) (x : A) (y : B) → first one ≡ Some x → second other ≡ Some y → of_two first second make (one ∷ other ∷ []) ≡ Some (make x y)
two first second make one other x y e f = ap₂ (λ o p. o >>= λ x. p >>= λ y. Some (make x y)) e f

-- a path that a command names
pub named : (issuer path : Path) → is_named_path issuer path ≡ true → is_named path ≡ true
unfolding is_named_path
named issuer path h = (and_parts (is_named path) (nat_le (length issuer + length path) 8) h).0

pub is_path_named : (path : Path) → is_named path ≡ true → is_path path ≡ true
is_path_named path h = (and_parts (is_path path) (not (is_host path)) h).0

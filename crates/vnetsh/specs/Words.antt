-- The words of the command line.
use Rattle.std.specs.Prelude.{◌≡◌, ◌≢◌, Bool, false, true, codes, List, [], ◌∷◌, Ok, Err, Result, String, Vec, string_bytes}
use Rattle.std.specs.IoError.{error_kind}
use Rattle.std.specs.Str.{bytes_eq}
use Rattle.std.specs.declared.io.Error.{Error}
use Rattle.std.specs.declared.io.ErrorKind.TheVariants as kind

-- the one form that is built: `run` alone
abbrev pub is_run : {A : Type 0} → List (String A) → Bool
is_run [] = false
is_run (word ∷ []) = bytes_eq (string_bytes word) (codes "run")
is_run (word ∷ another ∷ words) = false

-- the same, behind the program's name
abbrev pub is_call : {A : Type 0} → List (String A) → Bool
is_call [] = false
is_call (name ∷ words) = is_run words

-- the words are outside the forms, or no text; where there was no memory for them nothing is said
abbrev pub IsOutside : {A B : Type 0} → Result (Vec (String A) B) Error → Type 0
IsOutside (Ok words) = is_call words.items ≡ false
IsOutside (Err error) = error_kind error ≢ kind.OutOfMemory

-- the words are in the forms
abbrev pub IsInside : {A B : Type 0} → Result (Vec (String A) B) Error → Type 0
IsInside (Ok words) = is_call words.items ≡ true
IsInside (Err error) = ⊥

-- The words of a script that begin with a letter, each as a test of its octets.
use Rattle.std.specs.Prelude.{ℕ, Bool, false, ◌&&◌, ◌||◌, ◌==◌, not, nat_le, List, [], ◌∷◌, length, codes}
use Rattle.std.specs.Char.{is_ascii_digit, is_ascii_lowercase}
use Rattle.std.specs.List.{list_all}
use Rattle.std.specs.Str.{bytes_eq}
use Rattle.vn_types.specs.declared.words.Word.{Word}
use Rattle.vn_types.specs.declared.words.Word.TheVariants.{Label, Name, SockName}
use Rattle.vn_types.specs.Octets.{dash, dot, underscore}

-- a letter or a digit
abbrev pub is_letter_or_digit : ℕ → Bool
is_letter_or_digit c = is_ascii_lowercase c || is_ascii_digit c

-- a letter, a digit, `_` or `-`
abbrev pub is_label_octet : ℕ → Bool
is_label_octet c = is_letter_or_digit c || (c == underscore) || (c == dash)

-- a letter, a digit, `_` or `.`
abbrev pub is_name_octet : ℕ → Bool
is_name_octet c = is_letter_or_digit c || (c == underscore) || (c == dot)

-- an octet behind the first letter of a word
abbrev pub is_further : Word → ℕ → Bool
is_further Label c = is_label_octet c
is_further Name c = is_name_octet c
is_further SockName c = is_letter_or_digit c

-- the most octets behind the first letter
abbrev pub most_further : Word → ℕ
most_further Label = 15
most_further Name = 63
most_further SockName = 15

-- a first octet that is a lower case letter, and at most so many further octets of the word's kind
abbrev pub is_word : Word → List ℕ → Bool
is_word word [] = false
is_word word (c ∷ cs) =
    is_ascii_lowercase c && list_all (is_further word) cs && nat_le (length cs) (most_further word)

-- `[a-z][a-z0-9_-]{0,15}`, and not `host`
unfoldable pub is_label : List ℕ → Bool
is_label text = is_word Label text && not (bytes_eq text (codes "host"))

-- `[a-z][a-z0-9_.]{0,63}`
unfoldable pub is_name : List ℕ → Bool
is_name text = is_word Name text

-- `[a-z][a-z0-9]{0,15}`
unfoldable pub is_sock_name : List ℕ → Bool
is_sock_name text = is_word SockName text

-- The words behind `jail`: what they mean is within its bounds.
use Rattle.std.proofs.Common.{◌≡◌, ℕ, ◌==◌, Bool, true, ◌&&◌, List, [], ◌∷◌, Option, Some, None, refl}
use Rattle.std.specs.Prelude.{codes, IfSome, filter_map}
use Rattle.std.specs.List.{list_all, cons_option}
use Rattle.std.specs.Str.{bytes_eq}
use Rattle.std.proofs.lemmas.Bool.{and_parts, and_from}
use Rattle.vn_types.specs.Paths.{Path}
use Rattle.vn_types.specs.Steps.{◌>>=◌}
use Rattle.vn_cells.specs.declared.command.Command.TheVariants as command
use Rattle.vn_cells.specs.machine.Events.{is_valid_command}
use Rattle.vn_shell.specs.Words.{named_of, behind}
use Rattle.vn_shell.specs.Commands.Jail.{is_limit, name_of, limit_of, times, is_setting, only, at_most_one, creation, settings_of, jail_of}
use Rattle.vn_shell.proofs.Bounds.{is_named, named_in, behind_in}
use Rattle.vn_shell.proofs.Commands.{Bounded, named_at_host}
use Rattle.vn_shell.proofs.Found.{some_then, some_if, some_one}

abbrev IsNamed : Path → Type 0
IsNamed path = is_named path ≡ true

abbrev IsLimit : ℕ → Type 0
IsLimit limit = is_limit limit ≡ true

-- ---- one setting

name_in : (word : List ℕ) → IfSome (name_of word) IsNamed
unfolding name_of
name_in word = by (behind (codes "name=") word)
  where
    by : (o : Option (List ℕ)) → IfSome (o >>= named_of) IsNamed
    by None = tt
    by (Some text) = named_in text

limit_in : (word : List ℕ) → IfSome (limit_of word) IsLimit
unfolding limit_of
limit_in word = behind_in (codes "children.max=") is_limit word

-- ---- all of them

one_more : {A : Type 0} (test : A → Bool) (o : Option A) (xs : List A) → IfSome o (λ x. test x ≡ true) → list_all test xs ≡ true → list_all test (cons_option o xs) ≡ true
one_more test None xs h all = all
one_more test (Some x) xs h all = and_from _ _ h all

-- what is read of each word passes a test
all_read : {A : Type 0} (test : A → Bool) (read : List ℕ → Option A) → ((word : List ℕ) → IfSome (read word) (λ x. test x ≡ true)) → (words : List (List ℕ)) → list_all test (filter_map read words) ≡ true
all_read test read h [] = refl
all_read test read h (word ∷ words) = one_more test (read word) (filter_map read words) (h word) (all_read test read h words)

only_in : (names : List Path) → list_all is_named names ≡ true → IfSome (only names) IsNamed
only_in [] named = tt
only_in (path ∷ []) named = (and_parts (is_named path) true named).0
only_in (path ∷ other ∷ names) named = tt

at_most_one_in : (limits : List ℕ) → list_all is_limit limits ≡ true → IfSome (at_most_one limits) IsLimit
at_most_one_in [] small = refl
at_most_one_in (limit ∷ []) small = (and_parts (is_limit limit) true small).0
at_most_one_in (limit ∷ other ∷ limits) small = tt

settings_in : (words : List (List ℕ)) → IfSome (settings_of words) Bounded
unfolding settings_of is_valid_command
settings_in words =
    some_if Bounded (times (codes "vnet") words == 1 && times (codes "persist") words == 1 && list_all is_setting words) (creation (only names) (at_most_one limits)) None made tt
  where
    names : List Path
    names = filter_map name_of words

    limits : List ℕ
    limits = filter_map limit_of words

    made : IfSome (creation (only names) (at_most_one limits)) Bounded
    made =
        some_then IsNamed Bounded (only names) _ (only_in names (all_read is_named name_of name_in words))
        (λ path h. some_then IsLimit Bounded (at_most_one limits) _ (at_most_one_in limits (all_read is_limit limit_of limit_in words))
        (λ limit i. and_from _ _ (named_at_host path h) i))

-- ---- the command

pub jail_in : (words : List (List ℕ)) → IfSome (jail_of words) Bounded
unfolding jail_of is_valid_command
jail_in [] = tt
jail_in (option ∷ words) =
    some_if Bounded (bytes_eq option (codes "-c")) _ _ (settings_in words)
    (some_if Bounded (bytes_eq option (codes "-r")) _ None
    (some_one IsNamed Bounded named_of command.JailRemove named_in named_at_host words) tt)

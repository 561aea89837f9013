-- The settings of `jail -c` read word by word are those of the definition.
use Rattle.std.proofs.Common.{◌≡◌, ℕ, ◌+◌, ◌==◌, Bool, true, false, cond, ◌&&◌, ◌||◌, List, [], ◌∷◌, ◌++◌, length, get_or, take, drop, Option, Some, None, refl, sym, ap, ◌∙◌, arith, zero-add}
use Rattle.std.specs.Prelude.{codes, is_some, filter_map}
use Rattle.std.specs.List.{list_all, cons_option}
use Rattle.std.specs.Option.{option_to_list}
use Rattle.std.specs.Str.{bytes_eq}
use Rattle.std.proofs.lemmas.Bool.{and_right}
use Rattle.std.proofs.lemmas.Bool.Decides.{nat_tests}
use Rattle.std.proofs.lemmas.List.Sums.{sum_by-cons}
use Rattle.std.proofs.lemmas.Slice.Eq.{bytes_eq-Decides}
use Rattle.vn_types.specs.NumberWords.{number_of}
use Rattle.vn_types.specs.Paths.{Path}
use Rattle.vn_types.specs.Steps.{◌>>=◌}
use Rattle.vn_types.proofs.Options.{none_some}
use Rattle.vn_cells.specs.declared.command.Command.{Command}
use Rattle.vn_shell.specs.declared.command.jail.Settings.{Settings}
use Rattle.vn_shell.specs.Words.{such_that, named_of}
use Rattle.vn_shell.specs.Commands.Jail.{is_limit, name_of, limit_of, is_setting, times, only, at_most_one, creation, settings_of, no_settings, with_value, with_word, command_in}

-- the command, where words follow those that were read
abbrev pub command_after : Settings → List (List ℕ) → Option Command
command_after settings [] = command_in settings
command_after settings (word ∷ words) = with_word settings word >>= λ more. command_after more words

-- ---- no word is two settings

-- a word that is neither `name=P` nor `children.max=N`
abbrev HasNoValue : List ℕ → Type 0
HasNoValue word = (name_of word ≡ None) × (limit_of word ≡ None)

valueless_vnet : HasNoValue (codes "vnet")
unfolding name_of limit_of
valueless_vnet = (refl, refl)

valueless_persist : HasNoValue (codes "persist")
unfolding name_of limit_of
valueless_persist = (refl, refl)

-- no word begins in both ways
apart : (word : List ℕ) → take 5 word ≡ codes "name=" → take 13 word ≡ codes "children.max=" → ⊥
apart [] e f = omega (arith, ap length e)
apart (c ∷ word) e f =
    let n : c ≡ 110 = ap (λ t. get_or t 0 0) e in
    let m : c ≡ 99 = ap (λ t. get_or t 0 0) f in
    omega (arith, n, m)

unlimited_name : (word : List ℕ) (path : Path) → name_of word ≡ Some path → limit_of word ≡ None
unfolding name_of limit_of
unlimited_name word path = by (bytes_eq (take 5 word) (codes "name=")) (bytes_eq (take 13 word) (codes "children.max=")) refl refl
  where
    by : (a b : Bool) → bytes_eq (take 5 word) (codes "name=") ≡ a → bytes_eq (take 13 word) (codes "children.max=") ≡ b
        → (cond a (Some (drop 5 word)) None >>= named_of) ≡ Some path
        → (cond b (Some (drop 13 word)) None >>= number_of >>= such_that is_limit) ≡ None
    by a false e f h = refl
    by true true e f h = absurd (apart word ((bytes_eq-Decides (take 5 word) (codes "name=")).0 e) ((bytes_eq-Decides (take 13 word) (codes "children.max=")).0 f))
    by false true e f h = absurd (none_some path h)

-- what the tests of a word may answer
record Alone (vnet persist : Bool) (name : Option Path) (limit : Option ℕ) : Type 0 where
  vnet_alone : vnet ≡ true → (persist ≡ false) × (name ≡ None) × (limit ≡ None)
  persist_alone : persist ≡ true → (name ≡ None) × (limit ≡ None)
  name_alone : (path : Path) → name ≡ Some path → limit ≡ None

alone : (word : List ℕ) → Alone (bytes_eq word (codes "vnet")) (bytes_eq word (codes "persist")) (name_of word) (limit_of word)
alone word = record {
  vnet_alone = λ e. (ap (λ w. bytes_eq w (codes "persist")) (same (codes "vnet") e), ap name_of (same (codes "vnet") e) ∙ valueless_vnet.0, ap limit_of (same (codes "vnet") e) ∙ valueless_vnet.1);
  persist_alone = λ e. (ap name_of (same (codes "persist") e) ∙ valueless_persist.0, ap limit_of (same (codes "persist") e) ∙ valueless_persist.1);
  name_alone = unlimited_name word;
}
  where
    same : (text : List ℕ) → bytes_eq word text ≡ true → word ≡ text
    same text e = (bytes_eq-Decides word text).0 e

-- ---- counts

abbrev once : Bool → ℕ
once b = cond b 1 0

-- the command, where words were counted
abbrev counted : ℕ → ℕ → Bool → List Path → List ℕ → Option Command
counted vnet persist known names limits =
    cond (vnet == 1 && persist == 1 && known) (creation (only names) (at_most_one limits)) None

twice_no : (n : ℕ) → (1 + (1 + n) == 1) ≡ false
twice_no n = grind (arith, nat_tests)

vnet_twice : (n m : ℕ) (known : Bool) (names : List Path) (limits : List ℕ) → None ≡ counted (1 + (1 + n)) m known names limits
vnet_twice n m known names limits = rw (twice_no n) refl

persist_twice : (n m : ℕ) (known : Bool) (names : List Path) (limits : List ℕ) → None ≡ counted n (1 + (1 + m)) known names limits
persist_twice n m known names limits = by (n == 1)
  where
    by : (b : Bool) → None ≡ cond (b && (1 + (1 + m) == 1) && known) (creation (only names) (at_most_one limits)) None
    by true = rw (twice_no m) refl
    by false = refl

unknown : (n m : ℕ) (known : Bool) (names : List Path) (limits : List ℕ) → known ≡ false → None ≡ counted n m known names limits
unknown n m known names limits e = rw (and_right (n == 1 && m == 1) known e) refl

-- without a command, whatever was counted
nothing : (b : Bool) (o : Option Command) → o ≡ None → None ≡ cond b o None
nothing true o e = sym e
nothing false o e = refl

named_twice : (n m : ℕ) (known : Bool) (path other : Path) (names : List Path) (limits : List ℕ) → None ≡ counted n m known (path ∷ other ∷ names) limits
named_twice n m known path other names limits = nothing (n == 1 && m == 1 && known) _ refl

limited_twice : (n m : ℕ) (known : Bool) (names : List Path) (limit other : ℕ) (limits : List ℕ) → None ≡ counted n m known names (limit ∷ other ∷ limits)
limited_twice n m known names limit other limits = nothing (n == 1 && m == 1 && known) _ (by (only names))
  where
    by : (o : Option Path) → creation o None ≡ None
    by None = refl
    by (Some path) = refl

-- ---- word by word

-- what was read, by its parts
abbrev with_all : Bool → Bool → Option Path → Option ℕ → Settings
with_all vnet persist name limit = record { vnet = vnet; persist = persist; name = name; limit = limit }

-- what is known of the words behind: they are counted
abbrev Counts : (Settings → Option Command) → ℕ → ℕ → Bool → List Path → List ℕ → Type 0
Counts behind n m known names limits = (s : Settings)
    → behind s ≡ counted (once s.vnet + n) (once s.persist + m) known (option_to_list s.name ++ names) (option_to_list s.limit ++ limits)

-- a word more in front, by what its tests answer
counts-word : (behind : Settings → Option Command) (n m : ℕ) (known : Bool) (names : List Path) (limits : List ℕ) → Counts behind n m known names limits
    → (is_vnet is_persist : Bool) (o : Option Path) (l : Option ℕ) → Alone is_vnet is_persist o l → (v p : Bool) (name : Option Path) (limit : Option ℕ)
    → (cond is_vnet (cond v None (Some (with_all true p name limit))) (cond is_persist (cond p None (Some (with_all v true name limit))) (with_value (with_all v p name limit) o l)) >>= behind)
    ≡ counted (once v + (once is_vnet + n)) (once p + (once is_persist + m)) ((is_vnet || is_persist || is_some o || is_some l) && known) (option_to_list name ++ cons_option o names) (option_to_list limit ++ cons_option l limits)
counts-word behind n m known names limits h true is_persist o l a true p name limit =
    vnet_twice n _ _ (option_to_list name ++ cons_option o names) (option_to_list limit ++ cons_option l limits)
counts-word behind n m known names limits h true is_persist o l a false p name limit =
    h (with_all true p name limit) ∙ rw (zero-add (1 + n), (a.vnet_alone refl).0, (a.vnet_alone refl).1, (a.vnet_alone refl).2, zero-add m) refl
counts-word behind n m known names limits h false true o l a v true name limit =
    persist_twice _ m _ (option_to_list name ++ cons_option o names) (option_to_list limit ++ cons_option l limits)
counts-word behind n m known names limits h false true o l a v false name limit =
    h (with_all v true name limit) ∙ rw (zero-add (1 + m), (a.persist_alone refl).0, (a.persist_alone refl).1, zero-add n) refl
counts-word behind n m known names limits h false false None None a v p name limit =
    unknown (once v + (0 + n)) (once p + (0 + m)) false (option_to_list name ++ names) (option_to_list limit ++ limits) refl
counts-word behind n m known names limits h false false None (Some k) a v p name None =
    h (with_all v p name (Some k)) ∙ rw (zero-add n, zero-add m) refl
counts-word behind n m known names limits h false false None (Some k) a v p name (Some j) =
    limited_twice (once v + (0 + n)) (once p + (0 + m)) known (option_to_list name ++ names) j k limits
counts-word behind n m known names limits h false false (Some path) l a v p None limit =
    h (with_all v p (Some path) limit) ∙ rw (zero-add n, zero-add m, a.name_alone path refl) refl
counts-word behind n m known names limits h false false (Some path) l a v p (Some other) limit =
    named_twice (once v + (0 + n)) (once p + (0 + m)) known other path names (option_to_list limit ++ cons_option l limits)

no_words : (v p : Bool) (name : Option Path) (limit : Option ℕ)
    → command_in (with_all v p name limit) ≡ counted (once v + 0) (once p + 0) true (option_to_list name ++ []) (option_to_list limit ++ [])
no_words true true None limit = refl
no_words true true (Some path) None = refl
no_words true true (Some path) (Some n) = refl
no_words true false name limit = refl
no_words false p name limit = refl

times-word : (text word : List ℕ) (words : List (List ℕ)) → times text (word ∷ words) ≡ once (bytes_eq word text) + times text words
times-word text word words = sum_by-cons (λ other. once (bytes_eq other text)) word words

command_after-is : (words : List (List ℕ)) (s : Settings)
    → command_after s words ≡ counted (once s.vnet + times (codes "vnet") words) (once s.persist + times (codes "persist") words) (list_all is_setting words) (option_to_list s.name ++ filter_map name_of words) (option_to_list s.limit ++ filter_map limit_of words)
unfolding with_word
command_after-is [] s = no_words s.vnet s.persist s.name s.limit
command_after-is (word ∷ words) s =
    rw (times-word (codes "vnet") word words, times-word (codes "persist") word words)
    (counts-word (λ more. command_after more words) (times (codes "vnet") words) (times (codes "persist") words) (list_all is_setting words) (filter_map name_of words) (filter_map limit_of words)
    (command_after-is words) (bytes_eq word (codes "vnet")) (bytes_eq word (codes "persist")) (name_of word) (limit_of word) (alone word) s.vnet s.persist s.name s.limit)

pub whole_settings : (words : List (List ℕ)) → command_after no_settings words ≡ settings_of words
unfolding settings_of
whole_settings words = command_after-is words no_settings ∙ rw (zero-add (times (codes "vnet") words), zero-add (times (codes "persist") words)) refl
